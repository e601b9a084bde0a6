-- Sections that say their own size in their first bytes.
use mathlib.Core.Path.{◌≡◌, sym, ap, ◌∙◌}
use mathlib.Core.List.{List, ◌∷◌, ◌++◌}
use Prim.Native.Nat.{ℕ, ◌≤◌, ◌<◌}
use native.Mathlib.Omega.{arith}
use lib.ListN.{length, take, length-append}
use lib.Seq.{length-take-le, take-take, take-append_seam}
use lib.Dec.{leb}
use borrow.Author.Tests.{leb-true, le-leb, lt-leb}
use Rattle.octets.specs.Numbers.{Bytes}
use Rattle.octets.proofs.NumberLaws.{Bytes-take}
use Rattle.format.specs.declared.Fault.TheVariants.{Cut as CUT}
use Rattle.format.specs.Tests.{section, spot_at, Outcome, got, refused, Test, ◌else◌at◌, tests, Reader}
use Rattle.format.specs.Shortcut.{most}
use Rattle.format.proofs.Bools.{by_order}
use Rattle.format.proofs.Chains.{Pass, pass, Pass-split, Pass-join, tests-append, tests_elim, Fits, Law}

-- one whole section l, with nothing after it, reads as a
pub record SizedBack {A : Type 0} (size : List ℕ → ℕ) (sizes : ℕ → List Test) (rules : List ℕ → List Test) (value : List ℕ → A) (l : List ℕ) (a : A) : Type 0 where
  pub sized : (r : List ℕ) → size (l ++ r) ≡ length l
  pub sizable : Pass (sizes (length l))
  pub judged : Pass (rules l)
  pub same : value l ≡ a

-- k₀ is the section's number; the first h bytes say the size; `sizes` are the tests of the size, `rules` those of the section's own bytes
module _ {A : Type 0} (k₀ h : ℕ) (size : List ℕ → ℕ) (sizes : ℕ → List Test) (rules : List ℕ → List Test) (value : List ℕ → A) where
  abbrev pub sized_tests : List ℕ → List Test
  sized_tests s = leb h (length s) else CUT at 0 ∷ (sizes (size s) ++ leb (size s) (length s) else CUT at 0 ∷ rules (take (size s) s))

  abbrev pub sized_r : Reader A
  sized_r p s = tests (section k₀ p) (sized_tests s) (got (value (take (size s) s)) (size s))

  -- what is asked of a sized section: its size is said by the first h bytes, and is h or more; the rest is of one whole section
  pub record Sized (enc : A → List ℕ) (Valid : A → Type 0) : Type 0 where
    pub first : (s t : List ℕ) → take h s ≡ take h t → size s ≡ size t
    pub low : (s : List ℕ) → Pass (sizes (size s)) → h ≤ size s
    pub bytes : (a : A) → Valid a → Bytes (enc a)
    pub back : (a : A) → Valid a → length (enc a) ≤ most → SizedBack size sizes rules value (enc a) a
    pub fits : (l : List ℕ) → Bytes l → size l ≡ length l → Pass (sizes (length l)) → Pass (rules l) → Fits enc Valid (value l) (length l)

  -- the tests of a section by name
  pub record SizedHolds (s : List ℕ) : Type 0 where
    pub field : h ≤ length s
    pub sizable : Pass (sizes (size s))
    pub within : size s ≤ length s
    pub judged : Pass (rules (take (size s) s))

  pub sized_holds : (s : List ℕ) → Pass (sized_tests s) → SizedHolds s
  sized_holds s (a, b) =
      let (i, (j, k)) = Pass-split (sizes (size s)) (leb (size s) (length s) else CUT at 0 ∷ rules (take (size s) s)) b in
      record { field = leb-true h (length s) a; sizable = i; within = leb-true (size s) (length s) j; judged = k }

  sized_passes : (s : List ℕ) → SizedHolds s → Pass (sized_tests s)
  sized_passes s x = (le-leb h (length s) x.field, Pass-join (sizes (size s)) _ x.sizable (le-leb (size s) (length s) x.within, x.judged))

  module _ {enc : A → List ℕ} {Valid : A → Type 0} (F : Sized enc Valid) where
    pub sized_read : (l : List ℕ) (a : A) → SizedBack size sizes rules value l a → (p : ℕ) (r : List ℕ) → sized_r p (l ++ r) ≡ got a (length l)
    sized_read l a b p r =
        let s : List ℕ = l ++ r in
        let k = length-append l r in
        let e : size s ≡ length l = b.sized r in
        let o : h ≤ length l = rw e at (F.low s (rw e b.sizable)) in
        let c : Pass (sized_tests s)
        = sized_passes s (record { field = omega arith; sizable = rw e b.sizable; within = omega arith; judged = rw (e, take-append_seam l r) b.judged }) in
        pass (section k₀ p) (sized_tests s) (got (value (take (size s) s)) (size s)) c ∙ rw (e, take-append_seam l r, b.same)

    sized_inside : (p : ℕ) (s : List ℕ) (a : A) (n : ℕ) → sized_r p s ≡ got a n → n ≤ length s
    sized_inside p s a n =
        tests_elim (λ a n. n ≤ length s) (section k₀ p) (sized_tests s) (value (take (size s) s)) (size s) (λ c. (sized_holds s c).within) a n

    sized_Fits : (p : ℕ) (s : List ℕ) (a : A) (n : ℕ) → sized_r p s ≡ got a n → Bytes s → Fits enc Valid a n
    sized_Fits p s a n e bs =
        tests_elim (λ a n. Fits enc Valid a n) (section k₀ p) (sized_tests s) (value (take (size s) s)) (size s)
        (λ c.
        let g = sized_holds s c in
        let l : List ℕ = take (size s) s in
        let k : length l ≡ size s = length-take-le (size s) s g.within in
        let o : h ≤ size s = F.low s g.sizable in
        let z : size l ≡ size s = F.first l s (take-take h (size s) s o) in
        rw k at (F.fits l (Bytes-take (size s) s bs) (z ∙ sym k) (rw k g.sizable) g.judged))
        a n e

    sized_alike : (p : ℕ) (s : List ℕ) (a : A) (n : ℕ) → sized_r p s ≡ got a n → (q : ℕ) (t : List ℕ) → take n t ≡ take n s → n ≤ length t → sized_r q t ≡ got a n
    sized_alike p s a n e q t =
        tests_elim (λ a n. take n t ≡ take n s → n ≤ length t → sized_r q t ≡ got a n) (section k₀ p) (sized_tests s) (value (take (size s) s)) (size s)
        (λ c u k.
        let g = sized_holds s c in
        let o : h ≤ size s = F.low s g.sizable in
        let z : size t ≡ size s = F.first t s (sym (take-take h (size s) t o) ∙ ap (take h) u ∙ take-take h (size s) s o) in
        let d : Pass (sized_tests t)
        = sized_passes t (record { field = omega arith; sizable = rw z g.sizable; within = omega arith; judged = rw (z, u) g.judged }) in
        pass (section k₀ q) (sized_tests t) (got (value (take (size t) t)) (size t)) d ∙ rw (z, u))
        a n e

    sized_short : (p : ℕ) (s : List ℕ) (a : A) (n : ℕ) → sized_r p s ≡ got a n → (k : ℕ) → k < n → sized_r p (take k s) ≡ refused CUT (spot_at (section k₀ p) 0)
    sized_short p s a n e k =
        tests_elim (λ a n. k < n → sized_r p (take k s) ≡ refused CUT (spot_at (section k₀ p) 0)) (section k₀ p) (sized_tests s) (value (take (size s) s)) (size s)
        (λ c u.
        let g = sized_holds s c in
        let o : h ≤ size s = F.low s g.sizable in
        let i : size s ≤ length s = g.within in
        let m : length (take k s) ≡ k = length-take-le k s (omega arith) in
        by_order h k
        (λ j.
        let z : size (take k s) ≡ size s = F.first (take k s) s (take-take h k s j) in
        let t : List ℕ = take k s in
        let rest : List Test = leb (size t) (length t) else CUT at 0 ∷ rules (take (size t) t) in
        let v : Outcome A = got (value (take (size t) t)) (size t) in
        rw (le-leb h (length t) (omega arith))
        (tests-append (section k₀ p) (sizes (size t)) rest v ∙ pass (section k₀ p) (sizes (size t)) (tests (section k₀ p) rest v) (rw z g.sizable) ∙ rw (m, z, lt-leb (size s) k u)))
        (λ j. rw (m, lt-leb h k j)))
        a n e

    pub sized_Law : Law sized_r enc Valid
    sized_Law = record {
      bytes = F.bytes;
      back = λ a v m p r. sized_read (enc a) a (F.back a v m) p r;
      inside = sized_inside;
      fits = sized_Fits;
      alike = sized_alike;
      cut = λ p s a n i k u. record { spot = spot_at (section k₀ p) 0; early = omega arith; is = sized_short p s a n i k u };
    }
