-- A shortcut read, then written again over its own bytes.
use Rattle.std.specs.Prelude.{ℕ, List, length}
use Rattle.format.specs.declared.Profile.{Profile}
use Rattle.format.specs.Tests.{Outcome, and_then}
use Rattle.format.specs.Shortcut.{shortcut, record_of, verdict_of}
use Rattle.format.specs.Writing.{writing, output_of}
use Rattle.format.specs.Verdicts.{Verdict}

-- a refusal stays; what was accepted is written
unfoldable pub rewriting : Profile → List ℕ → ℕ → Outcome (List ℕ)
unfolding shortcut
rewriting profile s room = and_then (shortcut profile s) (λ c n. writing profile (record_of c) s room)

-- the answer, and the output buffer afterwards; the room is the buffer's length
unfoldable pub rewrite_answer : Profile → List ℕ → List ℕ → Verdict
unfolding rewriting
rewrite_answer profile s out = verdict_of (rewriting profile s (length out))

unfoldable pub rewrite_output : Profile → List ℕ → List ℕ → List ℕ
unfolding rewriting output_of
rewrite_output profile s out = output_of (rewriting profile s (length out)) out
