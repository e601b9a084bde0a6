-- A section asked for by name: where the outline says that it stands.
use mathlib.Core.Path.{◌≡◌, refl, sym, ap, subst₂, ◌∙◌}
use mathlib.Core.List.{List, [], ◌∷◌, ◌++◌, append-nil}
use mathlib.Core.Bool.{Bool, true, false, cond}
use Prim.Native.Nat.{ℕ, zero, suc, ◌+◌, ◌-◌, ◌≤◌, ◌<◌}
use native.Mathlib.Omega.{arith}
use lib.ListN.{length, drop}
use lib.Dec.{eqb}
use borrow.Author.Tests.{ne_eqb}
use Rattle.std.specs.Prelude.{Option, Err}
use Rattle.std.specs.Option.{unwrap_or}
use Rattle.octets.specs.Steps.Puts.{part}
use Rattle.octets.proofs.PartLaws.{part_in}
use Rattle.format.specs.declared.Profile.{Profile}
use Rattle.format.specs.declared.Fault.{Fault}
use Rattle.format.specs.declared.Refusal.{Refusal}
use Rattle.format.specs.declared.Place.{Place}
use Rattle.format.specs.declared.Record.{Record}
use Rattle.format.specs.declared.Spot.{Spot}
use Rattle.format.specs.Tests.{Outcome, got, refused, place, no_place, Reader}
use Rattle.format.specs.Presence.{items_there, info_there, name_bit, relative_bit, workdir_bit, arguments_bit, icon_bit, string_there}
use Rattle.format.specs.Blocks.{blocks}
use Rattle.format.specs.Shortcut.{Section, Sections, blocks_of, shortcut, reading, sum}
use Rattle.format.specs.Listing.{Row, EndToEnd, row, block_rows, rows_of, rows_by, listing, named, nth, section_place, section_bytes}
use Rattle.blocks.specs.Steps.Walk.{nth_place, nth_block}
use Rattle.blocks.proofs.NthLaws.{nth_of}
use Rattle.format.proofs.BlockLaws.{blocks_Walked}
use Rattle.format.proofs.AcceptedLaws.{shortcut-Whole}
use Rattle.format.proofs.FoundLaws.{read_EndToEnd}
use Rattle.format.proofs.Demands.{ahead}
use Rattle.reader.specs.declared.SectionEnds.{SectionEnds}
use Rattle.reader.specs.Steps.Finish.{ends_in, outline, Whole}
use Rattle.shown.specs.Steps.Asked.{between}
use Rattle.reader.proofs.Found.{section_of, FoundAt}
use Rattle.reader.proofs.OutlineLaws.{Reads, whole_held, sectioned, outline_refused}

-- ---- rows by name

named-append : (k : ℕ) (xs ys : List Row) → named k (xs ++ ys) ≡ named k xs ++ named k ys
named-append k [] ys = refl
named-append k (x ∷ xs) ys = go (eqb x.name k) (named-append k xs ys)
  where
    go : (b : Bool) → named k (xs ++ ys) ≡ named k xs ++ named k ys → cond b (x ∷ named k (xs ++ ys)) (named k (xs ++ ys)) ≡ cond b (x ∷ named k xs) (named k xs) ++ named k ys
    go true e = ap (λ (l : List Row). x ∷ l) e
    go false e = e

pick_row : (x : Row) (t b : Bool) → cond b (cond t (x ∷ []) []) [] ≡ cond t (cond b (x ∷ []) []) []
pick_row x true true = refl
pick_row x true false = refl
pick_row x false true = refl
pick_row x false false = refl

named-row : {A : Type 0} (k j : ℕ) (c : Section A) → named k (row j c) ≡ cond (eqb j k) (row j c) []
named-row k j c = go c.there ∙ sym (pick_row (record { name = j; start = c.start; len = c.len }) c.there (eqb j k))
  where
    go : (t : Bool) → named k (cond t (record { name = j; start = c.start; len = c.len } ∷ []) []) ≡ cond t (cond (eqb j k) (record { name = j; start = c.start; len = c.len } ∷ []) []) []
    go true = refl
    go false = refl

-- blocks have names 8 and 9 only
no_blocks : (k p : ℕ) (ns : List ℕ) → (8 ≡ k → ⊥) → (9 ≡ k → ⊥) → named k (block_rows p ns) ≡ []
no_blocks k p [] a b = rw (ne_eqb 9 k b)
no_blocks k p (n ∷ ns) a b = rw (ne_eqb 8 k a) (no_blocks k (p + n) ns a b)

nth_block_lem : (j p : ℕ) (ns : List ℕ) → nth j (named 8 (block_rows p ns)) ≡ unwrap_or (nth_place p ns j) no_place
nth_block_lem j p [] = refl
nth_block_lem zero p (n ∷ ns) = refl
nth_block_lem (suc j) p (n ∷ ns) = nth_block_lem j (p + n) ns

the_terminal : (p : ℕ) (ns : List ℕ) → named 9 (block_rows p ns) ≡ record { name = 9; start = p + sum ns; len = 4 } ∷ []
the_terminal p [] = let z : p ≡ p + 0 = omega arith in rw (← z)
the_terminal p (n ∷ ns) = let z : p + n + sum ns ≡ p + (n + sum ns) = omega arith in the_terminal (p + n) ns ∙ rw z

-- ---- what the outline says of the listing

refused-listing : (profile : Profile) (s : List ℕ) {f : Fault} {q : Spot} → shortcut profile s ≡ refused f q → listing profile s ≡ []
unfolding listing
refused-listing profile s e = rw e

-- the rows after the header of an accepted shortcut with these flags
abbrev rows_after : ℕ → SectionEnds → List ℕ → List Row
rows_after f e ns =
    row 1 (section_of (items_there f) 76 e.items (tt {0}))
    ++ (row 2 (section_of (info_there f) e.items e.info (tt {0}))
    ++ (row 3 (section_of (string_there name_bit f) e.info e.name (tt {0}))
    ++ (row 4 (section_of (string_there relative_bit f) e.name e.relative (tt {0}))
    ++ (row 5 (section_of (string_there workdir_bit f) e.relative e.workdir (tt {0}))
    ++ (row 6 (section_of (string_there arguments_bit f) e.workdir e.arguments (tt {0}))
    ++ (row 7 (section_of (string_there icon_bit f) e.arguments e.icon (tt {0})) ++ block_rows e.icon ns))))))

abbrev rows_from : ℕ → SectionEnds → List ℕ → List Row
rows_from f e ns = record { name = 0; start = 0; len = 76 } ∷ rows_after f e ns

pub record AllRows (profile : Profile) (s : List ℕ) (f : ℕ) (e : SectionEnds) : Type 0 where
  pub lengths : List ℕ
  pub count : ℕ
  pub is : blocks e.icon (drop e.icon s) ≡ got lengths count
  pub last : e.icon + count ≡ length s
  pub rows : listing profile s ≡ rows_from f e lengths

accepted_listing : (profile : Profile) (s : List ℕ) {c : Sections} {n : ℕ} → shortcut profile s ≡ got c n → listing profile s ≡ rows_of c
unfolding listing
accepted_listing profile s e = rw e

-- each section's row by where it was found
found_rows : (profile : Profile) (s : List ℕ) (c : Sections) {q : ℕ} → Reads profile s c q → rows_of c ≡ rows_from c.0.read.flags (ends_in c) (blocks_of c).read
found_rows profile s c R =
    let f = c.0.read.flags in
    let e = ends_in c in
    let T = R.tail in
    same (ap (row 0) R.first)
    (by_place 1 T.items ∙ ap (λ (p : ℕ). row 1 (section_of (items_there f) p e.items (tt {0}))) R.head)
    (by_place 2 T.info) (by_place 3 T.name) (by_place 4 T.relative) (by_place 5 T.workdir) (by_place 6 T.arguments) (by_place 7 T.icon)
    (ap (λ (p : ℕ). block_rows p (blocks_of c).read) T.blocks.start)
  where
    -- whatever it holds
    by_place : {A : Type 0} (k : ℕ) {P : Reader A} {b : Bool} {d : A} {p : ℕ} {v : Section A} → FoundAt s P b d p v → row k v ≡ row k (section_of {A = Unit {0}} b p (p + v.len) tt)
    by_place k {b = b} {p = p} {v = v} F = ap (row k) F.is ∙ go b
      where
        go : (b : Bool) → row k (section_of b p (p + v.len) v.read) ≡ row k (section_of {A = Unit {0}} b p (p + v.len) tt)
        go true = refl
        go false = refl

    same : {a₀ a₁ a₂ a₃ a₄ a₅ a₆ a₇ a₈ b₀ b₁ b₂ b₃ b₄ b₅ b₆ b₇ b₈ : List Row} → a₀ ≡ b₀ → a₁ ≡ b₁ → a₂ ≡ b₂ → a₃ ≡ b₃ → a₄ ≡ b₄ → a₅ ≡ b₅ → a₆ ≡ b₆ → a₇ ≡ b₇ → a₈ ≡ b₈
        → a₀ ++ (a₁ ++ (a₂ ++ (a₃ ++ (a₄ ++ (a₅ ++ (a₆ ++ (a₇ ++ a₈))))))) ≡ b₀ ++ (b₁ ++ (b₂ ++ (b₃ ++ (b₄ ++ (b₅ ++ (b₆ ++ (b₇ ++ b₈)))))))
    same p₀ p₁ p₂ p₃ p₄ p₅ p₆ p₇ p₈ = rw (p₀, p₁, p₂, p₃, p₄, p₅, p₆, p₇, p₈)

pub all_rows : {profile : Profile} {s : List ℕ} {e : SectionEnds} {texts : List ℕ} → Whole profile s e texts → {f : ℕ} → f ≡ (reading profile s).held.header.flags → AllRows profile s f e
all_rows {profile} {s} {e} w {f} i =
    let S = sectioned w in
    let c = S.sections in
    let B = S.whole.reads.tail.blocks in
    let flags : f ≡ c.0.read.flags = i ∙ ap (λ (r : Record). r.header.flags) (whole_held S.whole) in
    subst₂ (λ (x : ℕ) (y : SectionEnds). AllRows profile s x y) (sym flags) (sym S.ends)
    (record {
      lengths = (blocks_of c).read;
      count = (blocks_of c).len;
      is = B.is;
      last = B.last;
      rows = accepted_listing profile s S.whole.is ∙ found_rows profile s c S.whole.reads;
    })

-- a refused shortcut has no rows
pub no_rows : (profile : Profile) (s : List ℕ) {r : Refusal} → Err r ≡ outline profile s → listing profile s ≡ []
no_rows profile s e = refused-listing profile s (outline_refused profile s (sym e))

-- ---- the place of each name

-- none of the nine beside the blocks
abbrev Other : ℕ → Type 0
Other n = ((((((((Unit {0} × (n ≡ 0 → ⊥)) × (n ≡ 1 → ⊥)) × (n ≡ 2 → ⊥)) × (n ≡ 3 → ⊥)) × (n ≡ 4 → ⊥)) × (n ≡ 5 → ⊥)) × (n ≡ 6 → ⊥)) × (n ≡ 7 → ⊥)) × (n ≡ 9 → ⊥)

nth_section : {A : Type 0} (j : ℕ) (b : Bool) (p e : ℕ) (a : A) → nth 0 (row j (section_of b p e a)) ≡ between b p e
nth_section j true p e a = refl
nth_section j false p e a = refl

module _ (profile : Profile) (s : List ℕ) (block : ℕ) where
  pub none_place : (name : ℕ) → listing profile s ≡ [] → no_place ≡ section_place profile s name block
  unfolding section_place
  none_place name e = rw e

  module _ {f : ℕ} {e : SectionEnds} (R : AllRows profile s f e) where
    low : (k : ℕ) → k < 8 → named k (block_rows e.icon R.lengths) ≡ []
    low k h = no_blocks k e.icon R.lengths (λ i. omega arith) (λ i. omega arith)

    pub place-0 : place 0 76 ≡ section_place profile s 0 block
    unfolding section_place
    place-0 = rw R.rows

    pub place_1 : between (items_there f) 76 e.items ≡ section_place profile s 1 block
    unfolding section_place
    place_1 = rw R.rows (simp (named-append, named-row, low 1 (omega arith), append-nil) (sym (nth_section 1 (items_there f) 76 e.items (tt {0}))))

    pub place_2 : between (info_there f) e.items e.info ≡ section_place profile s 2 block
    unfolding section_place
    place_2 =
        rw R.rows
        (simp (named-append, named-row, low 2 (omega arith), append-nil) (sym (nth_section 2 (info_there f) e.items e.info (tt {0}))))

    pub place_3 : between (string_there name_bit f) e.info e.name ≡ section_place profile s 3 block
    unfolding section_place
    place_3 =
        rw R.rows
        (simp (named-append, named-row, low 3 (omega arith), append-nil) (sym (nth_section 3 (string_there name_bit f) e.info e.name (tt {0}))))

    pub place_4 : between (string_there relative_bit f) e.name e.relative ≡ section_place profile s 4 block
    unfolding section_place
    place_4 =
        rw R.rows
        (simp (named-append, named-row, low 4 (omega arith), append-nil) (sym (nth_section 4 (string_there relative_bit f) e.name e.relative (tt {0}))))

    pub place_5 : between (string_there workdir_bit f) e.relative e.workdir ≡ section_place profile s 5 block
    unfolding section_place
    place_5 =
        rw R.rows
        (simp (named-append, named-row, low 5 (omega arith), append-nil) (sym (nth_section 5 (string_there workdir_bit f) e.relative e.workdir (tt {0}))))

    pub place_6 : between (string_there arguments_bit f) e.workdir e.arguments ≡ section_place profile s 6 block
    unfolding section_place
    place_6 =
        rw R.rows
        (simp (named-append, named-row, low 6 (omega arith), append-nil) (sym (nth_section 6 (string_there arguments_bit f) e.workdir e.arguments (tt {0}))))

    pub place_7 : between (string_there icon_bit f) e.arguments e.icon ≡ section_place profile s 7 block
    unfolding section_place
    place_7 =
        rw R.rows
        (simp (named-append, named-row, low 7 (omega arith), append-nil) (sym (nth_section 7 (string_there icon_bit f) e.arguments e.icon (tt {0}))))

    pub place_8 : {o : Option Place} → o ≡ nth_block s e.icon block → unwrap_or o no_place ≡ section_place profile s 8 block
    unfolding section_place
    place_8 i =
        rw R.rows (ap (λ (o : Option Place). unwrap_or o no_place) ((nth_of i).is [] R.lengths R.count R.is) ∙ simp (named-append, named-row) (sym (nth_block_lem block e.icon R.lengths)))

    pub place-9 : place (length s - 4) 4 ≡ section_place profile s 9 block
    unfolding section_place
    place-9 =
        let w = blocks_Walked [] e.icon (drop e.icon s) R.lengths R.count R.is in
        let z : length s - 4 ≡ e.icon + sum R.lengths = omega (arith, w.adds, R.last) in
        rw (R.rows, z) (simp (named-append, named-row, the_terminal))

    pub place_more : (name : ℕ) → (name ≡ 8 → ⊥) → Other name → no_place ≡ section_place profile s name block
    unfolding section_place
    place_more name eight n =
        let after : named name (rows_after f e R.lengths) ≡ []
        = simp (
          named-append,
          named-row,
          no_blocks name e.icon R.lengths (λ i. eight (sym i)) (λ i. n.1 (sym i)),
          ne_eqb 1 name (λ i. n.0.0.0.0.0.0.0.1 (sym i)),
          ne_eqb 2 name (λ i. n.0.0.0.0.0.0.1 (sym i)),
          ne_eqb 3 name (λ i. n.0.0.0.0.0.1 (sym i)),
          ne_eqb 4 name (λ i. n.0.0.0.0.1 (sym i)),
          ne_eqb 5 name (λ i. n.0.0.0.1 (sym i)),
          ne_eqb 6 name (λ i. n.0.0.1 (sym i)),
          ne_eqb 7 name (λ i. n.0.1 (sym i)),
        ) in
        let none : named name (rows_from f e R.lengths) ≡ [] = rw (ne_eqb 0 name (λ i. n.0.0.0.0.0.0.0.0.1 (sym i))) after in
        rw (R.rows, none)

-- ---- the section lies inside

abbrev Ends≤ : ℕ → Place → Type 0
Ends≤ q b = b.at + b.len ≤ q

nth_inside : (j k p q : ℕ) (rows : List Row) → EndToEnd p rows q → Ends≤ q (nth j (named k rows))
nth_inside j k p q [] e = omega arith
nth_inside j k p q (x ∷ xs) e = go (λ i. nth_inside i k (p + x.len) q xs e.1) (eqb x.name k) j
  where
    go : ((i : ℕ) → Ends≤ q (nth i (named k xs))) → (b : Bool) (j : ℕ) → Ends≤ q (nth j (cond b (x ∷ named k xs) (named k xs)))
    go rest true zero = omega (arith, e.0, ahead (p + x.len) q xs e.1)
    go rest true (suc i) = rest i
    go rest false i = rest i

section_inside : (profile : Profile) (s : List ℕ) (name block : ℕ) → Ends≤ (length s) (section_place profile s name block)
unfolding section_place listing
section_inside profile s name block = go (shortcut profile s) refl
  where
    go : (o : Outcome Sections) → shortcut profile s ≡ o → Ends≤ (length s) (nth (cond (eqb name 8) block 0) (named name (rows_by (shortcut profile s))))
    go (got c n) i =
        let w = shortcut-Whole profile s c n i in
        rw i (nth_inside (cond (eqb name 8) block 0) name 0 (length s) (rows_of c) (rw w.all at (read_EndToEnd profile s c n w.read)))
    go (refused f p) i = rw i (omega arith)

pub section_shown : (profile : Profile) (s : List ℕ) (name block : ℕ) {b : Place} {r : List ℕ} → b ≡ section_place profile s name block → r ≡ part s b.at b.len → r ≡ section_bytes profile s name block
unfolding section_bytes
section_shown profile s name block {b} e p = p ∙ sym (part_in s b.at b.len (rw e (section_inside profile s name block))) ∙ rw e

-- for a caller that puts place and length in one number
pub section_small : (profile : Profile) (s : List ℕ) (name block : ℕ) {b : Place} → b ≡ section_place profile s name block → b.at + b.len ≤ 65536
section_small profile s name block {b} e = go (shortcut profile s) refl
  where
    go : (o : Outcome Sections) → shortcut profile s ≡ o → b.at + b.len ≤ 65536
    go (got c n) i = let h = section_inside profile s name block in let l = (shortcut-Whole profile s c n i).limit in rw e (omega (arith, h, l))
    go (refused f p) i = rw (e, ← (none_place profile s block name (refused-listing profile s i))) (omega arith)
