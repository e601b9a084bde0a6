-- A text that ends, by its characters: none is zero before the first that is.
use mathlib.Core.Path.{◌≡◌, refl, sym, ap, ◌∙◌}
use mathlib.Core.List.{List, [], ◌∷◌, ◌++◌, append_assoc}
use mathlib.Core.Bool.{Bool, true, false}
use Prim.Native.Nat.{ℕ, zero, suc, ◌+◌, ◌*◌, ◌≤◌, ◌<◌}
use native.Mathlib.Omega.{arith}
use lib.ListN.{length, take, drop, replicate, take-append-drop, length-append, length-drop, length-replicate}
use lib.Seq.{length-take-le, drop_at}
use borrow.Author.Tests.{ltb-true, lt-ltb}
use Rattle.octets.specs.Characters.{units, before_zero}
use Rattle.format.specs.Pieces.{text_ends, text_length}
use Rattle.grammar.specs.Grammar.{width, NoZero, StandsAt, Text}

-- s begins with a text of n bytes that ends
pub record Begins (u : Bool) (s : List ℕ) (n : ℕ) : Type 0 where
  pub body : List ℕ
  pub after : List ℕ
  pub no_zero : NoZero u body
  pub long : length body ≡ n
  pub is : s ≡ body ++ (replicate (width u) 0 ++ after)

ends_byte : (s : List ℕ) → before_zero s < length s → Begins false s (before_zero s)
unfolding before_zero NoZero
ends_byte [] h = absurd (omega arith)
ends_byte (zero ∷ s) h = record { body = []; after = s; no_zero = tt; long = refl; is = refl }
ends_byte (suc a ∷ s) h =
    let x = ends_byte s (omega arith) in
    record { body = suc a ∷ x.body; after = x.after; no_zero = (omega arith, x.no_zero); long = ap suc x.long; is = ap (λ (l : List ℕ). suc a ∷ l) x.is }

ends_unit : (s : List ℕ) → before_zero (units s) < length (units s) → Begins true s (2 * before_zero (units s))
unfolding before_zero units NoZero
ends_unit [] h = absurd (omega arith)
ends_unit (a ∷ []) h = absurd (omega arith)
ends_unit (a ∷ b ∷ s) h = go (a + 256 * b) refl h (ends_unit s)
  where
    go : (c : ℕ) → c ≡ a + 256 * b → before_zero (c ∷ units s) < suc (length (units s))
        → (before_zero (units s) < length (units s) → Begins true s (2 * before_zero (units s))) → Begins true (a ∷ b ∷ s) (2 * before_zero (c ∷ units s))
    go zero e h f =
        let x : a ≡ 0 = omega arith in
        let y : b ≡ 0 = omega arith in
        record { body = []; after = s; no_zero = tt; long = refl; is = rw (x, y) }
    go (suc c) e h f =
        let x = f (omega arith) in
        record {
          body = a ∷ b ∷ x.body;
          after = x.after;
          no_zero = (omega arith, x.no_zero);
          long = omega (arith, x.long);
          is = ap (λ (l : List ℕ). a ∷ b ∷ l) x.is;
        }

pub text_Begins : (u : Bool) (s : List ℕ) → text_ends u s ≡ true → Begins u s (text_length u s)
text_Begins false s e = ends_byte s (ltb-true _ _ e)
text_Begins true s e = ends_unit s (ltb-true _ _ e)

-- ---- and back

pub record Ended (u : Bool) (s : List ℕ) (n : ℕ) : Type 0 where
  pub ends : text_ends u s ≡ true
  pub long : text_length u s ≡ n

byte_ended : (x r : List ℕ) → NoZero false x → (before_zero (x ++ 0 ∷ r) ≡ length x)
unfolding before_zero NoZero
byte_ended [] r z = refl
byte_ended (zero ∷ x) r z = absurd (omega (arith, z.0))
byte_ended (suc a ∷ x) r z = ap suc (byte_ended x r z.1)

record UnitsEnded (x r : List ℕ) : Type 0 where
  before : 2 * before_zero (units (x ++ 0 ∷ 0 ∷ r)) ≡ length x
  inside : before_zero (units (x ++ 0 ∷ 0 ∷ r)) < length (units (x ++ 0 ∷ 0 ∷ r))

units_ended : (x r : List ℕ) → NoZero true x → UnitsEnded x r
unfolding before_zero units NoZero
units_ended [] r z = record { before = refl; inside = omega arith }
units_ended (a ∷ []) r z = absurd z
units_ended (a ∷ b ∷ x) r z = go (a + 256 * b) refl (units_ended x r z.1)
  where
    go : (c : ℕ) → c ≡ a + 256 * b → UnitsEnded x r → UnitsEnded (a ∷ b ∷ x) r
    go zero e y = absurd (omega (arith, z.0))
    go (suc c) e y =
        let f : before_zero (units (a ∷ b ∷ (x ++ 0 ∷ 0 ∷ r))) ≡ suc (before_zero (units (x ++ 0 ∷ 0 ∷ r))) = rw (← e) in
        record { before = rw f (omega (arith, y.before)); inside = rw f (omega (arith, y.inside)) }

pub text_Ended : (u : Bool) (x r : List ℕ) → NoZero u x → Ended u (x ++ (replicate (width u) 0 ++ r)) (length x)
text_Ended false x r z =
    let e = byte_ended x r z in
    record { ends = lt-ltb (before_zero (x ++ 0 ∷ r)) (length (x ++ 0 ∷ r)) (rw (e, length-append x (0 ∷ r)) (omega arith)); long = e }
text_Ended true x r z = let y = units_ended x r z in record { ends = lt-ltb (before_zero (units (x ++ 0 ∷ 0 ∷ r))) (length (units (x ++ 0 ∷ 0 ∷ r))) y.inside; long = y.before }

-- ---- at an offset

-- where a text ends there is one, so the offset lies inside
pub text_inside : (u : Bool) (l : List ℕ) (o n : ℕ) → Begins u (drop o l) n → (o < length l) × (o + n < length l)
text_inside u l o n x = go u x
  where
    go : (u : Bool) → Begins u (drop o l) n → (o < length l) × (o + n < length l)
    go true x =
        let e : length (drop o l) ≡ length x.body + suc (suc (length x.after)) = ap length x.is ∙ length-append x.body (0 ∷ 0 ∷ x.after) in
        let d = length-drop o l in
        let k = x.long in
        (omega arith, omega arith)
    go false x =
        let e : length (drop o l) ≡ length x.body + suc (length x.after) = ap length x.is ∙ length-append x.body (0 ∷ x.after) in
        let d = length-drop o l in
        let k = x.long in
        (omega arith, omega arith)

pub Text-at : (u : Bool) (l : List ℕ) (o : ℕ) → text_ends u (drop o l) ≡ true → Text u l o (text_length u (drop o l))
Text-at u l o e =
    let x = text_Begins u (drop o l) e in
    let i = text_inside u l o (text_length u (drop o l)) x in
    record {
      body = x.body;
      no_zero = x.no_zero;
      long = x.long;
      stands = record {
        before = take o l;
        after = x.after;
        is = sym (take-append-drop o l) ∙ ap (λ (k : List ℕ). take o l ++ k) (x.is ∙ sym (append_assoc x.body (replicate (width u) 0) x.after));
        start = length-take-le o l (omega (arith, i.0));
      };
    }

-- what stands at o is what comes after o bytes
pub stands_drop : {x l : List ℕ} {o : ℕ} (s : StandsAt x l o) → drop o l ≡ x ++ s.after
stands_drop {x} {l} {o} s = ap (drop o) s.is ∙ drop_at s.before (x ++ s.after) o s.start

pub Text-there : (u : Bool) (l : List ℕ) (o n : ℕ) → Text u l o n → Ended u (drop o l) n
Text-there u l o n t =
    let e : drop o l ≡ t.body ++ (replicate (width u) 0 ++ t.stands.after)
    = stands_drop t.stands ∙ append_assoc t.body (replicate (width u) 0) t.stands.after in
    rw (e, ← t.long) (text_Ended u t.body t.stands.after t.no_zero)

-- with its zero character it lies inside
pub Text-fits : (u : Bool) (l : List ℕ) (o n : ℕ) → Text u l o n → o + n + width u ≤ length l
Text-fits u l o n t =
    let x : List ℕ = t.body ++ replicate (width u) 0 in
    let a : length l ≡ length t.stands.before + (length x + length t.stands.after)
    = ap length t.stands.is ∙ length-append t.stands.before (x ++ t.stands.after) ∙ ap (λ (k : ℕ). length t.stands.before + k) (length-append x t.stands.after) in
    let b : length x ≡ length t.body + width u = length-append t.body (replicate (width u) 0) ∙ ap (λ (k : ℕ). length t.body + k) (length-replicate (width u) 0) in
    omega (arith, t.long, t.stands.start)
