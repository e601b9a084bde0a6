-- What salvage makes is accepted, and has the sections and blocks before the damage.
use mathlib.Core.Path.{◌≡◌, refl, sym, ap, ◌∙◌}
use mathlib.Core.List.{List, [], ◌∷◌, ◌++◌, append_assoc}
use mathlib.Core.Bool.{Bool, true, false, cond}
use Prim.Native.Nat.{ℕ, zero, suc, ◌+◌, ◌-◌, ◌≤◌, ◌<◌}
use native.Mathlib.Omega.{arith}
use lib.ListN.{length, take, drop}
use lib.Seq.{take-take}
use lib.Dec.{eqb}
use borrow.Author.Tests.{le-leb, eq-eqb, ne_eqb}
use Rattle.octets.proofs.NumberLaws.{part_inside}
use Rattle.format.specs.declared.Profile.TheVariants.{Strict}
use Rattle.format.specs.declared.Place.{Place}
use Rattle.format.specs.declared.Record.{Record}
use Rattle.format.specs.Tests.{got}
use Rattle.format.specs.Shortcut.{most, Sections, blocks_of, sections, shortcut, sum, record_of, reading}
use Rattle.format.specs.Contents.{bytes_at}
use Rattle.format.specs.Listing.{Row, row, block_rows, rows_of, listing, EndToEnd, named, nth, section_place, section_bytes}
use Rattle.format.specs.Demands.{Accepts}
use Rattle.format.specs.Salvage.{Saved}
use Rattle.format.proofs.FoundLaws.{read_EndToEnd}
use Rattle.format.proofs.AcceptedLaws.{accepted_Read, shortcut-Whole}
use Rattle.format.proofs.Demands.{ahead}
use Rattle.format.proofs.SharedLaws.{Shared, sections-Shared}

-- ---- from sections to what is accepted

-- a file that its sections fill
pub whole_accepted : (w : List ℕ) (c : Sections) → sections Strict 0 w ≡ got c (length w) → length w ≤ most → shortcut Strict w ≡ got c (length w)
unfolding shortcut
whole_accepted w c e h = rw (le-leb (length w) most h, e, eq-eqb (length w) (length w) refl)

accepts : (w : List ℕ) (c : Sections) → shortcut Strict w ≡ got c (length w) → Accepts Strict w (record_of c)
unfolding Accepts reading
accepts w c e = rw e

-- ---- rows

-- the blocks' rows but the terminal's
abbrev pub body_rows : ℕ → List ℕ → List Row
body_rows p [] = []
body_rows p (n ∷ ns) = record { name = 8; start = p; len = n } ∷ body_rows (p + n) ns

abbrev terminal_row : ℕ → Row
terminal_row p = record { name = 9; start = p; len = 4 }

abbrev pub front_rows : Sections → List Row
front_rows c =
    let (header, (items, (info, (name, (relative, (workdir, (arguments, (icon, blocks)))))))) = c in
    row 0 header ++ (row 1 items ++ (row 2 info ++ (row 3 name ++ (row 4 relative ++ (row 5 workdir ++ (row 6 arguments ++ row 7 icon))))))

pub rows_split : (c : Sections) (p : ℕ) (ls : List ℕ) → (blocks_of c).start ≡ p → (blocks_of c).read ≡ ls → rows_of c ≡ front_rows c ++ block_rows p ls
rows_split c p ls e f = rw (← e, ← f) (sym (simp append_assoc))

body_split : (p : ℕ) (ls : List ℕ) → block_rows p ls ≡ body_rows p ls ++ terminal_row (p + sum ls) ∷ []
body_split p [] = let z : p + 0 ≡ p = omega arith in rw z
body_split p (n ∷ ns) = let z : p + (n + sum ns) ≡ p + n + sum ns = omega arith in ap (λ (l : List Row). record { name = 8; start = p; len = n } ∷ l) (body_split (p + n) ns ∙ rw z)

-- more blocks after the same ones
pub body_longer : (p : ℕ) (ls rest : List ℕ) → block_rows p (ls ++ rest) ≡ body_rows p ls ++ block_rows (p + sum ls) rest
body_longer p [] rest = let z : p + 0 ≡ p = omega arith in rw z
body_longer p (n ∷ ns) rest =
    let z : p + (n + sum ns) ≡ p + n + sum ns = omega arith in
    ap (λ (l : List Row). record { name = 8; start = p; len = n } ∷ l) (body_longer (p + n) ns rest ∙ rw z)

init_ends : (p q : ℕ) (xs : List Row) (x : Row) → EndToEnd p (xs ++ x ∷ []) q → EndToEnd p xs x.start × (x.start + x.len ≡ q)
init_ends p q [] x e = (sym e.0, ap (λ (a : ℕ). a + x.len) e.0 ∙ e.1)
init_ends p q (y ∷ ys) x e = let i = init_ends (p + y.len) q ys x e.1 in ((e.0, i.0), i.1)

abbrev filling : Sections → List Row
filling c = front_rows c ++ body_rows (blocks_of c).start (blocks_of c).read

rows_end : (c : Sections) → rows_of c ≡ filling c ++ terminal_row ((blocks_of c).start + sum (blocks_of c).read) ∷ []
rows_end c =
    let p : ℕ = (blocks_of c).start in
    let ls : List ℕ = (blocks_of c).read in
    rows_split c p ls refl refl ∙ ap (λ (l : List Row). front_rows c ++ l) (body_split p ls) ∙ sym (append_assoc (front_rows c) (body_rows p ls) (terminal_row (p + sum ls) ∷ []))

-- the terminal is the last of what was read
pub sections_end : (w : List ℕ) (c : Sections) (n : ℕ) → sections Strict 0 w ≡ got c n → EndToEnd 0 (filling c) ((blocks_of c).start + sum (blocks_of c).read) × ((blocks_of c).start + sum (blocks_of c).read + 4 ≡ n)
sections_end w c n e = init_ends 0 n (filling c) (terminal_row ((blocks_of c).start + sum (blocks_of c).read)) (rw (rows_end c) at (read_EndToEnd Strict w c n e))

-- rows of a name other than the terminal's
named_init : (k : ℕ) (xs : List Row) (x : Row) → eqb x.name k ≡ false → named k (xs ++ x ∷ []) ≡ named k xs
named_init k [] x e = rw e
named_init k (y ∷ ys) x e = go (eqb y.name k) (named_init k ys x e)
  where
    go : (b : Bool) → named k (ys ++ x ∷ []) ≡ named k ys → cond b (y ∷ named k (ys ++ x ∷ [])) (named k (ys ++ x ∷ [])) ≡ cond b (y ∷ named k ys) (named k ys)
    go true i = ap (λ (l : List Row). y ∷ l) i
    go false i = i

nth_inside : (p q k j : ℕ) (xs : List Row) → EndToEnd p xs q → (nth j (named k xs)).at + (nth j (named k xs)).len ≤ q
nth_inside p q k j [] e = omega arith
nth_inside p q k j (x ∷ xs) e = go j (eqb x.name k) (λ i. nth_inside (p + x.len) q k i xs e.1)
  where
    go : (j : ℕ) (b : Bool) → ((i : ℕ) → (nth i (named k xs)).at + (nth i (named k xs)).len ≤ q) → (nth j (cond b (x ∷ named k xs) (named k xs))).at + (nth j (cond b (x ∷ named k xs) (named k xs))).len ≤ q
    go zero true h = omega (arith, e.0, ahead (p + x.len) q xs e.1)
    go (suc j) true h = h j
    go j false h = h j

-- what stands inside the bytes that two files share
pub shared_bytes : (k : ℕ) (u t : List ℕ) (b : Place) → take k u ≡ take k t → b.at + b.len ≤ k → bytes_at u b ≡ bytes_at t b
shared_bytes k u t b e h = sym (part_inside b.at b.len k u h) ∙ ap (λ (l : List ℕ). take b.len (drop b.at l)) e ∙ part_inside b.at b.len k t h

-- ---- a file that is filled, and begins as s does

module _ (s : List ℕ) (k : ℕ) (w : List ℕ) (c : Sections) (read : sections Strict 0 w ≡ got c (length w)) (limit : length w ≤ most)
    (within : k ≤ length s) (begins : take k w ≡ take k s) (reach : length w ≤ k + 4) where
  abbrev b : ℕ
  b = (blocks_of c).start

  abbrev ls : List ℕ
  ls = (blocks_of c).read

  abbrev rows : List Row
  rows = filling c

  abbrev end : ℕ
  end = b + sum ls

  is : shortcut Strict w ≡ got c (length w)
  is = whole_accepted w c read limit

  ends : EndToEnd 0 rows end × (end + 4 ≡ length w)
  ends = sections_end w c (length w) read

  listed : listing Strict w ≡ rows ++ terminal_row end ∷ []
  unfolding listing
  listed = rw is (rows_end c)

  same : (name block : ℕ) → name < 9 → section_bytes Strict w name block ≡ bytes_at s (section_place Strict w name block)
  unfolding section_bytes section_place
  same name block h =
      let j : ℕ = cond (eqb name 8) block 0 in
      let n : eqb 9 name ≡ false = ne_eqb 9 name (λ e. omega arith) in
      let i : nth j (named name (listing Strict w)) ≡ nth j (named name rows) = ap (λ (l : List Row). nth j (named name l)) listed ∙ ap (nth j) (named_init name rows (terminal_row end) n) in
      let g = nth_inside 0 end name j rows ends.0 in
      rw i (shared_bytes k w s (nth j (named name rows)) begins (omega (arith, ends.1)))

  pub Shared-with : (u : List ℕ) (d : Sections) (m : ℕ) → sections Strict 0 u ≡ got d m → take k u ≡ take k s → Shared c d
  Shared-with u d m i e =
      let h : length w - 4 ≤ k = omega arith in
      let q : take (length w - 4) u ≡ take (length w - 4) w = sym (take-take (length w - 4) k u h) ∙ ap (take (length w - 4)) (e ∙ sym begins) ∙ take-take (length w - 4) k w h in
      sections-Shared Strict w c (length w) read u d m i q

  first : (u : List ℕ) (r : Record) → Accepts Strict u r → take k u ≡ take k s → (more : List Row) × (listing Strict u ≡ rows ++ more)
  unfolding Accepts listing
  first u r a e =
      let x = accepted_Read Strict u r (length u) a in
      let y = shortcut-Whole Strict u x.sections (length u) x.is in
      let d : Sections = x.sections in
      let (header, (items, (info, (name, (relative, (workdir, (arguments, (icon, ((there, start), longer))))))))) = Shared-with u d (length u) y.read e in
      let f : front_rows d ≡ front_rows c = rw (← header, ← items, ← info, ← name, ← relative, ← workdir, ← arguments, ← icon) in
      let more : List Row = block_rows end longer.rest in (
        more,
        rw x.is (
            rows_split d b (ls ++ longer.rest) (sym start) longer.is
            ∙ ap (λ (l : List Row). l ++ block_rows b (ls ++ longer.rest)) f
            ∙ ap (λ (l : List Row). front_rows c ++ l) (body_longer b ls longer.rest)
            ∙ sym (append_assoc (front_rows c) (body_rows b ls) more)
            ),
      )

  pub saved : Saved s k w
  saved = record {
    held = record_of c;
    accepted = accepts w c is;
    within = within;
    begins = begins;
    reach = reach;
    rows = rows;
    end = end;
    listed = listed;
    full = ends.0;
    same = same;
    first = first;
  }
