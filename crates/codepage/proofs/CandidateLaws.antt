-- The way back without a search is the way back: each assigned byte is the candidate of its unit, by one computation over the table.
use mathlib.Core.Path.{◌≡◌, refl, sym, ap, ◌∙◌}
use mathlib.Core.Bool.{Bool, true, false, not, ◌||◌}
use Rattle.std.specs.Prelude.{Some, None}
use Rattle.std.proofs.lemmas.List.{get_or_default}
use Prim.Native.Nat.{ℕ, ◌<◌}
use native.Mathlib.Omega.{arith}
use native.Mathlib.Nat.{zero-add}
use lib.ListN.{get_or}
use lib.Dec.{eqb, ltb}
use borrow.Author.Tests.{ltb-false, lt-ltb, eqb-true, ne_eqb, not-true}
use Rattle.format.specs.Codepage.{unassigned, no_byte, windows1252, unit_of, assigned, byte_of, in_table}
use Rattle.format.proofs.Bools.{or-true, clash}
use Rattle.format.proofs.CodepageLaws.{at_all, one_of_all, table_long, assigned_back, known_small, known_back, byte_most}
use Rattle.codepage.specs.Steps.Candidates.{candidate_of, byte_if}

pub table_read : (b : ℕ) → b < 256 → get_or windows1252 b 0 ≡ unit_of b
unfolding unit_of
table_read b h = get_or_default windows1252 b 0 unassigned (omega (arith, table_long))

abbrev leads : ℕ → ℕ → Bool
leads b u = eqb u unassigned || eqb (candidate_of u) b

leads_all : at_all leads 0 windows1252 ≡ true
unfolding windows1252 candidate_of
leads_all = refl

-- a byte of the table is the candidate of its unit
candidate_back : (b : ℕ) → b < 256 → assigned b ≡ true → candidate_of (unit_of b) ≡ b
unfolding unit_of
candidate_back b h e =
    or-true (eqb (unit_of b) unassigned) (eqb (candidate_of (unit_of b)) b) (rw zero-add at (one_of_all leads 0 windows1252 leads_all b unassigned (omega (arith, table_long))))
    (λ m. clash e (ap not m))
    (λ k. eqb-true (candidate_of (unit_of b)) b k)

-- no byte is the candidate of the mark
no_mark : unit_of (candidate_of unassigned) < unassigned
unfolding windows1252 unit_of candidate_of
no_mark = omega arith

-- a unit of the table has its byte as candidate
pub candidate_known : (u : ℕ) → in_table u ≡ true → candidate_of u ≡ byte_of u
candidate_known u e = let (k, a) = known_back u e in sym (ap candidate_of k) ∙ candidate_back (byte_of u) (known_small u e) a

abbrev own_below : ℕ → ℕ → Bool
own_below b u = not (ltb b 128) || eqb u b

own_below_all : at_all own_below 0 windows1252 ≡ true
unfolding windows1252
own_below_all = refl

-- a unit below 128 is its own byte
pub low_byte : (u : ℕ) → u < 128 → u ≡ byte_of u
unfolding unit_of
low_byte u h =
    or-true (not (ltb u 128)) (eqb (unit_of u) u) (rw zero-add at (one_of_all own_below 0 windows1252 own_below_all u unassigned (omega (arith, table_long))))
    (λ m. clash (lt-ltb u 128 h) (not-true (ltb u 128) m))
    (λ k.
    let e : unit_of u ≡ u = eqb-true (unit_of u) u k in
    let a : assigned u ≡ true = ap not (ne_eqb (unit_of u) unassigned (λ z. omega arith)) in
    sym (sym (ap byte_of e) ∙ assigned_back u (omega arith) a))

module _ (u : ℕ) {b : ℕ} (c : b ≡ candidate_of u) where
  pub candidate_found : b < 256 → unit_of b ≡ u → b ≡ byte_of u
  candidate_found h e = sym (assigned_back b h (go (eqb (unit_of b) unassigned) refl)) ∙ ap byte_of e
    where
      go : (t : Bool) → eqb (unit_of b) unassigned ≡ t → not t ≡ true
      go true m =
          let z : u ≡ unassigned = sym e ∙ eqb-true (unit_of b) unassigned m in
          let k : unit_of (candidate_of unassigned) ≡ unassigned = sym (ap (λ (n : ℕ). unit_of (candidate_of n)) z) ∙ sym (ap unit_of c) ∙ e ∙ z in
          absurd (omega (arith, no_mark))
      go false m = refl

  pub candidate_missing : (unit_of b ≡ u → ⊥) → no_byte ≡ byte_of u
  candidate_missing n = go (in_table u) refl
    where
      go : (t : Bool) → in_table u ≡ t → no_byte ≡ byte_of u
      go true e = absurd (n (ap unit_of (c ∙ candidate_known u e) ∙ (known_back u e).0))
      go false e = omega (arith, byte_most u, ltb-false (byte_of u) no_byte e)

-- the same of what has a byte, and of what has none
byte_some : (u b : ℕ) → b < 256 → b ≡ byte_of u → Some b ≡ byte_if u
byte_some u b h e = rw (← e, lt-ltb b no_byte h)

pub byte_low : (u : ℕ) → u < 128 → Some u ≡ byte_if u
byte_low u h = byte_some u u (omega arith) (low_byte u h)

module _ (u : ℕ) {b : ℕ} (c : b ≡ candidate_of u) where
  pub byte_found : b < 256 → unit_of b ≡ u → Some b ≡ byte_if u
  byte_found h e = byte_some u b h (candidate_found u c h e)

  pub byte_missing : (unit_of b ≡ u → ⊥) → None ≡ byte_if u
  byte_missing n = rw (← candidate_missing u c n)
