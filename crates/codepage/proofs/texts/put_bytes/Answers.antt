use mathlib.Core.Path.{refl, ◌∙◌}
use native.Mathlib.Omega.{arith}
use Rattle.codepage.specs.Steps.Candidates.{by_remainder}
use Rattle.codepage.proofs.CandidateLaws.{candidate_known}
use Rattle.codepage.proofs.TextLaws.{known_at}
use Rattle.codepage.proofs.PutLaws.{no_bytes, more_bytes, all_bytes}
use Rattle.codepage.proofs.texts.put_bytes.Goals as goal

pub loop-k-init : goal.loop-k-init
loop-k-init c = no_bytes _ c.args.at c.args.x.now

pub candidate-requires : goal.candidate-requires
unfolding by_remainder
candidate-requires c = refl

pub loop-k-preserved : goal.loop-k-preserved
loop-k-preserved c =
    let known = known_at _ c.requires.known _ (omega arith) c.u16_at.ensures in
    more_bytes _ _ _ _ c.loop-k.invariant c.loop-k.auto.out (omega arith) c.requires.room c.u16_at.ensures (c.candidate.ensures ∙ candidate_known _ known)

pub returns : goal.returns
returns c = record { written = all_bytes _ _ _ _ c.loop-k.invariant (omega arith) c.requires.room }
