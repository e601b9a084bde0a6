-- FORMAT: Listing lines, Sections by name. The listing's sections, and a section asked for by name.
use Rattle.std.specs.Prelude.{ℕ, zero, suc, ◌+◌, ◌≡◌, List, [], ◌∷◌, ◌++◌, cond, eqb}
use Rattle.format.specs.declared.Profile.{Profile}
use Rattle.format.specs.Tests.{Outcome, got, refused, place, no_place}
use Rattle.format.specs.declared.Place.{Place}
use Rattle.format.specs.Shortcut.{Section, Sections, shortcut}
use Rattle.format.specs.Contents.{bytes_at}

-- name, start, length
pub record Row : Type 0 where
  pub name : ℕ
  pub start : ℕ
  pub len : ℕ

-- the ten names have numbers, 0 header to 9 end, in the order of the sections
abbrev pub row : {A : Type 0} → ℕ → Section A → List Row
row k c = cond c.there (record { name = k; start = c.start; len = c.len } ∷ []) []

-- the blocks one after another, then the terminal block, of four bytes
abbrev pub block_rows : ℕ → List ℕ → List Row
block_rows p [] = record { name = 9; start = p; len = 4 } ∷ []
block_rows p (n ∷ ns) = record { name = 8; start = p; len = n } ∷ block_rows (p + n) ns

-- a line per section
abbrev pub rows_of : Sections → List Row
rows_of c =
    let (header, (items, (info, (name, (relative, (workdir, (arguments, (icon, blocks)))))))) = c in
    row 0 header
    ++ (row 1 items
    ++ (row 2 info
    ++ (row 3 name
    ++ (row 4 relative
    ++ (row 5 workdir
    ++ (row 6 arguments
    ++ (row 7 icon ++ block_rows blocks.start blocks.read)))))))

abbrev pub rows_by : Outcome Sections → List Row
rows_by (got c n) = rows_of c
rows_by (refused f p) = []

unfoldable pub listing : Profile → List ℕ → List Row
unfolding shortcut
listing profile s = rows_by (shortcut profile s)

-- from p to q each section starts where the one before it ended
abbrev pub EndToEnd : ℕ → List Row → ℕ → Type 0
EndToEnd p [] q = p ≡ q
EndToEnd p (x ∷ xs) q = (x.start ≡ p) × EndToEnd (p + x.len) xs q

-- the bytes of a row
abbrev pub row_bytes : List ℕ → Row → List ℕ
row_bytes s x = bytes_at s (place x.start x.len)

-- ---- a section by the number of its name, a block by a second number too

abbrev pub named : ℕ → List Row → List Row
named k [] = []
named k (x ∷ xs) = cond (eqb x.name k) (x ∷ named k xs) (named k xs)

abbrev pub nth : ℕ → List Row → Place
nth j [] = no_place
nth zero (x ∷ xs) = place x.start x.len
nth (suc j) (x ∷ xs) = nth j xs

-- where it stands, all of it, as listed; the empty place if there is no such row, as in every refused shortcut
unfoldable pub section_place : Profile → List ℕ → ℕ → ℕ → Place
unfolding listing
section_place profile s name block = nth (cond (eqb name 8) block 0) (named name (listing profile s))

-- the caller's own bytes there
unfoldable pub section_bytes : Profile → List ℕ → ℕ → ℕ → List ℕ
unfolding section_place
section_bytes profile s name block = bytes_at s (section_place profile s name block)
