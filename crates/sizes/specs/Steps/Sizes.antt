-- The sizes as they are handed on, each length counted up to the most that a shortcut has.
use Rattle.std.specs.Prelude.{ℕ, ◌+◌, List, [], ◌∷◌, Bool, cond, leb}
use Rattle.format.specs.declared.Place.{Place}
use Rattle.format.specs.declared.Record.{Record}
use Rattle.format.specs.Tests.{no_place}
use Rattle.format.specs.Shortcut.{most, sum}
use Rattle.format.specs.Bodies.{BodyRow, table_of, along}
use Rattle.format.specs.Steps.Lengths.{beside, written_heads}

-- every greater length counts as one more than the most
unfoldable pub capped : ℕ → ℕ
capped n = cond (leb n most) n (most + 1)

-- with the bytes beside it
abbrev pub capped_body : BodyRow → Place → ℕ
capped_body b p = cond b.there (capped p.len + beside b.kind) 0

-- the bytes beside each body, by the label's kind
abbrev pub besides_of : Bool → List ℕ
besides_of unicode = 4 ∷ cond unicode 2 1 ∷ 1 ∷ 1 ∷ 1 ∷ 2 ∷ 2 ∷ 1 ∷ 2 ∷ 2 ∷ 2 ∷ 2 ∷ 2 ∷ 2 ∷ 2 ∷ 4 ∷ 0 ∷ []

unfoldable pub sizes_of : Record → List ℕ
sizes_of q = along no_place capped_body 0 (table_of q) q.places

unfoldable pub clipped_length : Record → ℕ
unfolding sizes_of
clipped_length q = 76 + written_heads q + sum (sizes_of q)
