use Rattle.std.proofs.Common.{◌≡◌, ℕ, ◌<◌, length, get_or}
use Rattle.format.specs.Tests.{no_place}
use Rattle.fields.specs.Fields.{slot_at}
use Rattle.fields.proofs.places_from.Given as goal

-- The slots before k have their places.
abbrev pub invariant-loop-k : goal.invariant-loop-k
invariant-loop-k l = (length l.place-items ≡ 17) × ((j : ℕ) → j < l.k → get_or l.place-items j no_place ≡ slot_at l.f j)
