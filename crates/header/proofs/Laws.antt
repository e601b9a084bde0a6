-- The header's rules in the numbers that the code compares.
use mathlib.Core.Path.{◌≡◌, ap, ◌∙◌}
use mathlib.Core.List.{List}
use mathlib.Core.Bool.{◌&&◌}
use Prim.Native.Nat.{ℕ, ◌+◌, ◌*◌, ◌≤◌, ◌<◌}
use native.Mathlib.Omega.{arith}
use native.Mathlib.Nat.{zero-lt-suc}
use lib.ListN.{length}
use lib.Dec.{eqb}
use borrow.Author.Tests.{eqb-true, eq-eqb}
use Rattle.octets.specs.Numbers.{number, number_at, u16_at, u32_at, u64_at}
use Rattle.octets.proofs.NumberLaws.{number_split, digits}
use Rattle.format.specs.Header.{class_identifier, identifier_ok, zeros_from_66}
use Rattle.format.proofs.Bools.{and-true, and_both, same_truth}

-- sixteen bytes are four numbers
sixteen : (l : List ℕ) → 20 ≤ length l → number_at 16 l 4 ≡ u32_at l 4 + 4294967296 * (u32_at l 8 + 4294967296 * (u32_at l 12 + 4294967296 * u32_at l 16))
sixteen l h =
    let a = number_split 4 12 l 4 (omega arith) in
    let b = number_split 4 8 l 8 (omega arith) in
    let c = number_split 4 4 l 12 (omega arith) in
    a ∙ ap (λ (n : ℕ). u32_at l 4 + 4294967296 * n) (b ∙ ap (λ (n : ℕ). u32_at l 8 + 4294967296 * n) c)

identifier_is : (a b c d : ℕ) → a < 4294967296 → b < 4294967296 → c < 4294967296 → d < 4294967296
    → (eqb a 0x00021401 && eqb b 0 && eqb c 0xC0 && eqb d 0x46000000) ≡ eqb (a + 4294967296 * (b + 4294967296 * (c + 4294967296 * d))) (number class_identifier)
unfolding number
identifier_is a b c d ha hb hc hd =
    same_truth _ _
    (λ e.
    let i = and-true (eqb a 0x00021401 && eqb b 0 && eqb c 0xC0) (eqb d 0x46000000) e in
    let j = and-true (eqb a 0x00021401 && eqb b 0) (eqb c 0xC0) i.0 in
    let k = and-true (eqb a 0x00021401) (eqb b 0) j.0 in
    let p : a ≡ 0x00021401 = eqb-true _ _ k.0 in
    let q : b ≡ 0 = eqb-true _ _ k.1 in
    let r : c ≡ 0xC0 = eqb-true _ _ j.1 in
    let s : d ≡ 0x46000000 = eqb-true _ _ i.1 in
    rw (p, q, r, s))
    (λ e.
    let n = digits 4294967296 a (b + 4294967296 * (c + 4294967296 * d)) _ ha (zero-lt-suc 4294967295) (eqb-true _ _ e) in
    let m = digits 4294967296 b (c + 4294967296 * d) _ hb (zero-lt-suc 4294967295) n.1 in
    let k = digits 4294967296 c d _ hc (zero-lt-suc 4294967295) m.1 in
    rw (n.0, m.0, k.0, k.1))

pub identifier_are : (l : List ℕ) {a b c d : ℕ} → 76 ≤ length l → a ≡ u32_at l 4 → b ≡ u32_at l 8 → c ≡ u32_at l 12 → d ≡ u32_at l 16
    → a < 4294967296 → b < 4294967296 → c < 4294967296 → d < 4294967296
    → (eqb a 0x00021401 && eqb b 0 && eqb c 0xC0 && eqb d 0x46000000) ≡ identifier_ok l
unfolding identifier_ok
identifier_are l {a} {b} {c} {d} h pa pb pc pd ha hb hc hd =
    let n : number_at 16 l 4 ≡ a + 4294967296 * (b + 4294967296 * (c + 4294967296 * d)) = sixteen l (omega arith) ∙ rw (← pa, ← pb, ← pc, ← pd) in
    rw (identifier_is a b c d ha hb hc hd, n)

pub zeros_are : (l : List ℕ) {a b : ℕ} → 76 ≤ length l → a ≡ u16_at l 66 → b ≡ u64_at l 68 → (eqb a 0 && eqb b 0) ≡ zeros_from_66 l
zeros_are l {a} {b} h pa pb =
    let n : number_at 10 l 66 ≡ a + 65536 * b = number_split 2 8 l 66 (omega arith) ∙ rw (← pa, ← pb) in
    same_truth _ _
    (λ e.
    let i = and-true (eqb a 0) (eqb b 0) e in
    let p : a ≡ 0 = eqb-true _ _ i.0 in
    let q : b ≡ 0 = eqb-true _ _ i.1 in
    eq-eqb (number_at 10 l 66) 0 (omega arith))
    (λ e.
    let z : number_at 10 l 66 ≡ 0 = eqb-true _ _ e in
    and_both (eqb a 0) (eqb b 0) (eq-eqb a 0 (omega arith)) (eq-eqb b 0 (omega arith)))
