-- Entries that stand one after another in a file, each after a gap: none on a shelf and among bodies end to end, the length in the old form.
use Rattle.std.specs.Prelude.{ℕ, ◌+◌, ◌*◌, ◌≤◌, List, [], ◌∷◌, map, length, take, drop, get_or}
use Rattle.octets.specs.Numbers.{u32_at}
use Rattle.format.specs.declared.Place.{Place}
use Rattle.format.specs.Tests.{place}
use Rattle.format.specs.Shortcut.{most, sum}
use Rattle.shelves.specs.Table.{most_entries, bodies_start, shelf_rows}
use Rattle.shelves.specs.OldFile.{old_entries}

-- by their lengths
abbrev pub apart : ℕ → List ℕ → List ℕ → List (List ℕ)
apart gap [] d = []
apart gap (n ∷ ns) d = take n (drop gap d) ∷ apart gap ns (drop (gap + n) d)

-- with their gaps
abbrev pub span : ℕ → List ℕ → ℕ
span gap [] = 0
span gap (n ∷ ns) = gap + n + span gap ns

-- the row of a number in the table of a shelf
abbrev pub row : List ℕ → ℕ → Place
row s k = place (u32_at s (4 + 8 * k)) (u32_at s (4 + 8 * k + 4))

-- the lengths in the table of a shelf
unfoldable pub table_lengths : List ℕ → List ℕ
table_lengths s = map (λ (b : Place). b.len) (shelf_rows s)

-- and those in a file of the old form
unfoldable pub old_lengths : List ℕ → List ℕ
old_lengths s = map length (old_entries most_entries s)

-- ---- what is asked

-- no more lengths than a shelf has rows, each of a shortcut
pub record Small (ns : List ℕ) : Type 0 where
  pub few : length ns ≤ most_entries
  pub each : (k : ℕ) → get_or ns k 0 ≤ most

-- entries that d has by these lengths, and whose shelf has room in out
pub record ShelfRoom (d : List ℕ) (gap : ℕ) (ns out : List ℕ) : Type 0 where
  pub small : Small ns
  pub inside : span gap ns ≤ length d
  pub room : bodies_start (length ns) + sum ns ≤ length out

-- entries that stand end to end in d from the base on, and whose old form has room in out
pub record OldRoom (d : List ℕ) (base : ℕ) (ns out : List ℕ) : Type 0 where
  pub small : Small ns
  pub inside : base + span 0 ns ≤ length d
  pub room : span 4 ns ≤ length out
