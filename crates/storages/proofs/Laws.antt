-- Parts by their sizes: what a size says of the first wrong field, for storages and for values alike; and the format identifier.
use mathlib.Core.Path.{◌≡◌, refl, sym, ap, ◌∙◌}
use mathlib.Core.List.{List, [], ◌∷◌, ◌++◌}
use mathlib.Core.Bool.{Bool, true, false, not, cond, ◌&&◌}
use Prim.Native.Nat.{ℕ, ◌+◌, ◌*◌, ◌≤◌, ◌<◌, ◌^◌}
use native.Mathlib.Omega.{arith}
use native.Mathlib.Nat.{zero-lt-suc}
use lib.ListN.{length, take, drop}
use lib.Seq.{take-take}
use lib.Dec.{leb, eqb}
use borrow.Author.Tests.{le-leb, lt-leb, eqb-true, eq-eqb, ne_eqb}
use Rattle.std.specs.Prelude.{Option, Some, None}
use Rattle.std.specs.Bool.{then_some}
use Rattle.octets.specs.Numbers.{number, number_at, u32_at, u64_at}
use Rattle.octets.proofs.NumberLaws.{number_split, digits}
use Rattle.format.specs.declared.Fault.TheVariants.{Store as STORE}
use Rattle.format.specs.Tests.{Test, ◌else◌at◌}
use Rattle.format.specs.Store.{part_tests, is_named}
use Rattle.format.specs.Steps.Wrong.{wrong, first}
use Rattle.format.proofs.Bools.{and-true, same_truth}
use Rattle.format.proofs.WrongLaws.{wrong-append}
use Rattle.format.proofs.StoreLaws.{parts_here, parts_none}

-- ---- the walk

module _ (least : ℕ) (own : ℕ → List ℕ → List Test) where
  abbrev pub wrong_in : ℕ → List ℕ → Option ℕ
  wrong_in i s = wrong (part_tests least own i 0 s)

  pub no_size : (i : ℕ) (s : List ℕ) → length s < 4 → Some i ≡ wrong_in i s
  no_size i [] h = rw (parts_none least own i) refl
  no_size i (a ∷ l) h = rw (parts_here least own i (a ∷ l) (omega arith), lt-leb 4 (length (a ∷ l)) h) refl

  -- what a size says of the parts that begin with it
  module _ (i : ℕ) (s : List ℕ) {n : ℕ} (four : 4 ≤ length s) (e : n ≡ u32_at s 0) where
    here : wrong_in i s
        ≡ wrong (cond (eqb n 0) (eqb (length s) 4 else STORE at i ∷ []) (leb least n else STORE at i ∷ leb n (length s) else STORE at i ∷ own i (take n s) ++ part_tests least own (i + n) 0 (drop n s)))
    here = rw (parts_here least own i s (omega arith), le-leb 4 (length s) four, ← e)

    pub size_ends : n ≡ 0 → then_some (not (eqb (length s) 4)) i ≡ wrong_in i s
    size_ends z = sym (rw (eq-eqb n 0 z) at here ∙ last (eqb (length s) 4))
      where
        last : (b : Bool) → cond b None (Some i) ≡ then_some (not b) i
        last true = refl
        last false = refl

    module _ (some : n ≡ 0 → ⊥) where
      pub size_small : n < least → Some i ≡ wrong_in i s
      size_small h = sym (rw (ne_eqb n 0 some, lt-leb least n h) at here)

      pub size_passes : least ≤ n → length s < n → Some i ≡ wrong_in i s
      size_passes low h = sym (rw (ne_eqb n 0 some, le-leb least n low, lt-leb n (length s) h) at here)

      module _ (low : least ≤ n) (fits : n ≤ length s) where
        parts : first (wrong (own i (take n s))) (wrong_in (i + n) (drop n s)) ≡ wrong_in i s
        parts = sym (rw (ne_eqb n 0 some, le-leb least n low, le-leb n (length s) fits) at here ∙ wrong-append (own i (take n s)) (part_tests least own (i + n) 0 (drop n s)))

        -- a part that is wrong is the answer; else what follows it is
        pub part_bad : {w : ℕ} → Some w ≡ wrong (own i (take n s)) → Some w ≡ wrong_in i s
        part_bad z = rw (← z) at parts

        pub part_good : None ≡ wrong (own i (take n s)) → wrong_in (i + n) (drop n s) ≡ wrong_in i s
        part_good z = rw (← z) at parts

-- ---- a value and a format identifier

pub named_is : (s : List ℕ) (i : ℕ) {a b : ℕ} → i + 16 ≤ length s → a ≡ u64_at s i → b ≡ u64_at s (i + 8) → a < 2 ^ 64
    → (eqb a 0x101B2E9CD5CDD505 && eqb b 0xAEF92C2B00089793) ≡ is_named (take 16 (drop i s))
unfolding is_named number_at number
named_is s i {a} {b} h p q small =
    let n : number_at 16 (take 16 (drop i s)) 0 ≡ a + 18446744073709551616 * b = ap number (take-take 16 16 (drop i s) (omega arith)) ∙ number_split 8 8 s i (omega arith) ∙ rw (← p, ← q) in
    rw n
    (same_truth _ _
    (λ e.
    let (x, y) = and-true (eqb a 0x101B2E9CD5CDD505) (eqb b 0xAEF92C2B00089793) e in
    let u : a ≡ 0x101B2E9CD5CDD505 = eqb-true _ _ x in
    let v : b ≡ 0xAEF92C2B00089793 = eqb-true _ _ y in
    rw (u, v))
    (λ e.
    let z = digits 18446744073709551616 a b _ small (zero-lt-suc 18446744073709551615) (eqb-true _ _ e) in
    rw (z.0, z.1)))
