-- In an accepted shortcut no two blocks have one known signature, so each of them is the first of its signature, and the only one.
use mathlib.Core.Path.{◌≡◌, refl, sym, ap, ◌∙◌}
use mathlib.Core.List.{List, [], ◌∷◌, ◌++◌, Memᴰ}
use mathlib.Core.Logic.{⊎_elim}
use mathlib.Core.Bool.{Bool, true, false, not, ◌&&◌, ◌||◌, cond}
use Prim.Native.Nat.{ℕ, zero, suc, ◌+◌, ◌≤◌}
use native.Mathlib.Omega.{arith}
use lib.ListN.{length, drop, length-drop}
use lib.Seq.{drop-drop}
use lib.Dec.{eqb}
use borrow.Author.Tests.{leb-true, eq-eqb, eqb-true}
use Rattle.octets.specs.Numbers.{u32_at}
use Rattle.octets.proofs.NumberLaws.{number_drop}
use Rattle.format.specs.declared.Profile.{Profile}
use Rattle.format.specs.declared.Place.{Place}
use Rattle.format.specs.declared.Record.{Record}
use Rattle.format.specs.Tests.{got, place}
use Rattle.format.specs.Blocks.{slot_of, slot_at, block_size, known, is_among, once, blocks_after, first_place}
use Rattle.format.specs.Shortcut.{Section, Sections, blocks_of, shortcut}
use Rattle.format.specs.Listing.{Row, row, block_rows, rows_of, listing}
use Rattle.format.specs.Demands.{Accepts}
use Rattle.format.specs.Probes.{row_at}
use Rattle.format.specs.Key.{Key, environment, key_of, key_by, key_in}
use Rattle.format.proofs.Bools.{clash}
use Rattle.format.proofs.Chains.{no_value}
use Rattle.format.proofs.BlockLaws.{none_left, step_elim}
use Rattle.format.proofs.FoundLaws.{read_Walk}
use Rattle.format.proofs.AcceptedLaws.{accepted_Read, shortcut-Whole}

abbrev signature : List ℕ → Row → ℕ
signature s x = u32_at s (x.start + 4)

-- of blocks of these lengths from p on, after blocks of these slots, x is the first of its signature
record FirstOne (s before : List ℕ) (p : ℕ) (lengths : List ℕ) (x : Row) : Type 0 where
  fresh : is_among (slot_of (signature s x)) before ≡ false
  is : place x.start x.len ≡ first_place s (signature s x) p lengths

-- known, and no second one
pub none_before : (k a : Bool) → k ≡ true → not (k && a) ≡ true → a ≡ false
none_before true true e o = sym o
none_before true false e o = refl
none_before false a e o = clash e refl

pub neither : (a b : Bool) → (a || b) ≡ false → (a ≡ false) × (b ≡ false)
neither true b e = clash refl e
neither false b e = (refl, e)

-- k bounds what is left
first_one : (k : ℕ) (s before : List ℕ) (p : ℕ) (lengths : List ℕ) (n : ℕ) → length (drop p s) ≤ k → blocks_after before p (drop p s) ≡ got lengths n
    → (x : Row) → Memᴰ x (block_rows p lengths) → x.name ≡ 8 → known (slot_of (signature s x)) ≡ true → FirstOne s before p lengths x
first_one zero s before p lengths n l e x = no_value (sym (none_left before p (drop p s) (omega arith)) ∙ e)
first_one (suc k) s before p lengths n l e x =
    step_elim before p (drop p s) (λ lengths n. Memᴰ x (block_rows p lengths) → x.name ≡ 8 → known (slot_of (signature s x)) ≡ true → FirstOne s before p lengths x)
    (λ h t m eight kn. let z = ap (λ (y : Row). y.name) (mathlib.Core.List.Memᴰ.eq_of_singleton m) in absurd (omega arith))
    (λ c o ls m i there eight kn.
    let size : ℕ = block_size (drop p s) in
    let b : 8 ≤ size = leb-true 8 size c.0 in
    let w : size ≤ length (drop p s) = leb-true size (length (drop p s)) c.1.0 in
    let slot : slot_at (drop p s) ≡ slot_of (u32_at s (p + 4)) = ap slot_of (number_drop 4 p s 4) in
    let j : blocks_after (slot_at (drop p s) ∷ before) (p + size) (drop (p + size) s) ≡ got ls m = rw (drop-drop size p s) at i in
    ⊎_elim
    (λ q. here size ls (rw slot at o) q kn)
    (λ q. there_later size ls (rw slot at (first_one k s (slot_at (drop p s) ∷ before) (p + size) ls m (omega (arith, length-drop p s, length-drop (p + size) s)) j x q eight kn)))
    (mathlib.Core.List.Memᴰ.cases_cons there))
    lengths n e
  where
    here : (size : ℕ) (ls : List ℕ) → once before (slot_of (u32_at s (p + 4))) ≡ true → x ≡ record { name = 8; start = p; len = size } → known (slot_of (signature s x)) ≡ true
        → FirstOne s before p (size ∷ ls) x
    here size ls o q kn =
        let kn : known (slot_of (u32_at s (p + 4))) ≡ true = rw q at kn in
        rw q (record {
          fresh = none_before (known (slot_of (u32_at s (p + 4)))) (is_among (slot_of (u32_at s (p + 4))) before) kn o;
          is = rw (eq-eqb (u32_at s (p + 4)) (u32_at s (p + 4)) refl);
        })

    there_later : (size : ℕ) (ls : List ℕ) → FirstOne s (slot_of (u32_at s (p + 4)) ∷ before) (p + size) ls x → FirstOne s before p (size ∷ ls) x
    there_later size ls h =
        let z = neither (eqb (slot_of (signature s x)) (slot_of (u32_at s (p + 4)))) (is_among (slot_of (signature s x)) before) h.fresh in
        record { fresh = z.1; is = go (eqb (u32_at s (p + 4)) (signature s x)) refl z.0 }
      where
        go : (b : Bool) → eqb (u32_at s (p + 4)) (signature s x) ≡ b → eqb (slot_of (signature s x)) (slot_of (u32_at s (p + 4))) ≡ false
            → place x.start x.len ≡ cond b (place p size) (first_place s (signature s x) (p + size) ls)
        go true e f = clash (eq-eqb _ _ (ap slot_of (sym (eqb-true (u32_at s (p + 4)) (signature s x) e)))) f
        go false e f = h.is

-- ---- in the listing of a shortcut

-- blocks have the name 8, and no other section
past : {A : Type 0} (k : ℕ) (c : Section A) (x : Row) (rest : List Row) → (k ≡ 8 → ⊥) → x.name ≡ 8 → Memᴰ x (row k c ++ rest) → Memᴰ x rest
past k c x rest other eight m = ⊎_elim (λ q. go c.there q) (λ q. q) (mathlib.Core.List.Memᴰ.append_cases (row k c) m)
  where
    go : (b : Bool) → Memᴰ x (cond b (record { name = k; start = c.start; len = c.len } ∷ []) []) → Memᴰ x rest
    go true q = absurd (other (sym (ap (λ (y : Row). y.name) (mathlib.Core.List.Memᴰ.eq_of_singleton q)) ∙ eight))
    go false q = absurd (mathlib.Core.List.Memᴰ.not-nil q)

-- a block of the listing
pub record BlockRow (profile : Profile) (s : List ℕ) (x : Row) : Type 0 where
  pub listed : Memᴰ x (listing profile s)
  pub block : x.name ≡ 8

pub record FirstListed (profile : Profile) (s : List ℕ) (x : Row) : Type 0 where
  pub sections : Sections
  pub read : shortcut profile s ≡ got sections (length s)
  pub is : place x.start x.len ≡ first_place s (signature s x) (blocks_of sections).start (blocks_of sections).read

first_listed : (profile : Profile) (s : List ℕ) (r : Record) → Accepts profile s r → (x : Row) → BlockRow profile s x → known (slot_of (signature s x)) ≡ true → FirstListed profile s x
unfolding Accepts listing
first_listed profile s r e x b kn =
    let a = accepted_Read profile s r (length s) e in
    let (header, (items, (info, (name, (relative, (workdir, (arguments, (icon, walked)))))))) = a.sections in
    let m₀ : Memᴰ x (rows_of a.sections) = rw a.is at b.listed in
    let m₂ = past 1 items x _ (λ z. omega arith) b.block (past 0 header x _ (λ z. omega arith) b.block m₀) in
    let m₄ = past 3 name x _ (λ z. omega arith) b.block (past 2 info x _ (λ z. omega arith) b.block m₂) in
    let m₆ = past 5 workdir x _ (λ z. omega arith) b.block (past 4 relative x _ (λ z. omega arith) b.block m₄) in
    let m₈ = past 7 icon x _ (λ z. omega arith) b.block (past 6 arguments x _ (λ z. omega arith) b.block m₆) in
    let start : ℕ = walked.start in
    let walk = read_Walk profile s a.sections (length s) (shortcut-Whole profile s a.sections (length s) a.is).read in
    record {
      sections = a.sections;
      read = a.is;
      is = (first_one (length (drop start s)) s [] start walked.read walked.len (omega arith) walk x m₈ b.block kn).is;
    }

-- two blocks of one known signature are one
pub one_of_each : (profile : Profile) (s : List ℕ) (r : Record) → Accepts profile s r → (x y : Row) → BlockRow profile s x → BlockRow profile s y → known (slot_of (signature s x)) ≡ true → signature s x ≡ signature s y → x ≡ y
one_of_each profile s r e x y b d kn q =
    let f = first_listed profile s r e x b kn in
    let g = first_listed profile s r e y d (rw q at kn) in
    let o : f.sections ≡ g.sections = cc (f.read, g.read) in
    let z : place x.start x.len ≡ place y.start y.len = f.is ∙ rw (o, q) (sym g.is) in
    same_row (b.block ∙ sym d.block) (ap (λ (p : Place). p.at) z) (ap (λ (p : Place). p.len) z)
  where
    same_row : {k j a c n m : ℕ} → k ≡ j → a ≡ c → n ≡ m → row_at k a n ≡ row_at j c m
    same_row f g h = rw (f, g, h)

environment_known : known (slot_of 0xA0000001) ≡ true
unfolding slot_of
environment_known = refl

-- a block of the signature A0000001 is the one whose text the key has
pub only_environment : (profile : Profile) (s : List ℕ) (r : Record) → Accepts profile s r → (x : Row) → BlockRow profile s x → signature s x ≡ 0xA0000001 → (key_in profile s).environment ≡ environment s (place x.start x.len)
unfolding key_in key_of
only_environment profile s r e x b q =
    let f = first_listed profile s r e x b (rw q environment_known) in
    ap (λ (k : Key). k.environment) (ap (key_by s) f.read) ∙ ap (environment s) (sym (rw q at f.is))
