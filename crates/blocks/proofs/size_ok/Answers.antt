-- A signature that the table does not have takes any size.
use native.Mathlib.Omega.{arith}
use Rattle.blocks.proofs.StepLaws.{size_free}
use Rattle.blocks.proofs.size_ok.Goals as goal

pub returns-in_default : goal.returns-in_default
returns-in_default c = size_free _ _ (omega arith)
