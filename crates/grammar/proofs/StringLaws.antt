-- The strings.
use mathlib.Core.Path.{◌≡◌, refl, sym, ap, ◌∙◌}
use mathlib.Core.List.{List, [], ◌∷◌, ◌++◌, append_assoc}
use mathlib.Core.Bool.{Bool, true, false}
use Prim.Native.Nat.{ℕ, ◌+◌, ◌*◌, ◌≤◌}
use native.Mathlib.Omega.{arith}
use lib.ListN.{length, take, drop, length-append, length-drop}
use lib.Seq.{length-take-le, take-take}
use lib.Dec.{leb}
use borrow.Author.Tests.{leb-true, le-leb}
use Rattle.octets.specs.Numbers.{Bytes, u16_at, little}
use Rattle.octets.specs.Characters.{bytes_of}
use Rattle.octets.proofs.NumberLaws.{Bytes-take, length-little, number_back, number_below, number_same}
use Rattle.format.specs.declared.Place.{Place}
use Rattle.format.specs.declared.Fault.TheVariants.{Cut as CUT}
use Rattle.format.specs.Tests.{◌else◌at◌, got, section, place}
use Rattle.format.specs.Strings.{string, string_length}
use Rattle.format.proofs.Chains.{tests_elim}
use Rattle.grammar.specs.Grammar.{width, from, StringIs}
use Rattle.grammar.proofs.Agree.{Agrees}
use Rattle.grammar.proofs.FieldLaws.{first_field}

-- so many characters are so many bytes
pub bytes_of_lem : (u : Bool) (n : ℕ) → bytes_of u n ≡ width u * n
bytes_of_lem true n = refl
bytes_of_lem false n = omega arith

string_told : (u : Bool) (body : Place) (p : ℕ) (s : List ℕ) → Bytes s → 2 ≤ length s → string_length u s ≤ length s → place (p + 2) (bytes_of u (u16_at s 0)) ≡ body
    → StringIs u body p (take (string_length u s) s)
string_told u body p s bs two fits held =
    let n : ℕ = string_length u s in
    let t : List ℕ = take n s in
    let l : length t ≡ n = length-take-le n s fits in
    let e : u16_at t 0 ≡ u16_at s 0 = number_same 2 2 t s 0 (take-take 2 n s (omega arith)) (omega arith) in
    let d : length (drop 2 t) ≡ bytes_of u (u16_at s 0) = length-drop 2 t ∙ (omega arith) in
    record {
      count = u16_at s 0;
      characters = drop 2 t;
      is = rw e at (first_field 2 t (Bytes-take n s bs) (omega arith));
      fits = number_below 2 s 0 bs;
      many = d ∙ bytes_of_lem u (u16_at s 0);
      place = sym held ∙ ap (from (p + 2)) (sym d);
    }

string_read : (k : ℕ) (u : Bool) (body : Place) (p : ℕ) (x r : List ℕ) → StringIs u body p x → string k u p (x ++ r) ≡ got body (length x)
string_read k u body p x r g =
    let s : List ℕ = x ++ r in
    let e : s ≡ little 2 g.count ++ (g.characters ++ r) = ap (λ (l : List ℕ). l ++ r) g.is ∙ append_assoc (little 2 g.count) g.characters r in
    let c : u16_at s 0 ≡ g.count = ap (λ (l : List ℕ). u16_at l 0) e ∙ number_back 2 g.count (g.characters ++ r) g.fits in
    let m : bytes_of u (u16_at s 0) ≡ length g.characters = ap (bytes_of u) c ∙ bytes_of_lem u g.count ∙ sym g.many in
    let l : length x ≡ 2 + length g.characters = ap length g.is ∙ length-append (little 2 g.count) g.characters ∙ ap (λ (n : ℕ). n + length g.characters) (length-little 2 g.count) in
    let n : length s ≡ length x + length r = length-append x r in
    let v : place (p + 2) (bytes_of u (u16_at s 0)) ≡ body = ap (from (p + 2)) m ∙ sym g.place in
    let w : string_length u s ≡ length x = ap (λ (n : ℕ). 2 + n) m ∙ sym l in
    rw (le-leb 2 (length s) (omega arith), w, le-leb (length x) (length s) (omega arith), v)

pub string-Agrees : (k : ℕ) (u : Bool) (body : Place) → Agrees (string k u) (λ p b. b ≡ body) (StringIs u body)
string-Agrees k u body = record {
  told = λ p s a n bs e.
      tests_elim (λ a n. a ≡ body → (n ≤ length s) × StringIs u body p (take n s)) (section k p) (leb 2 (length s) else CUT at 0 ∷ leb (string_length u s) (length s) else CUT at 0 ∷ [])
      (place (p + 2) (bytes_of u (u16_at s 0))) (string_length u s)
      (λ c v.
      let i = leb-true 2 (length s) c.0 in
      let j = leb-true (string_length u s) (length s) c.1.0 in
      (j, string_told u body p s bs i j v))
      a n e;
  read = λ p x r bs g. record { value = body; is = string_read k u body p x r g; held = refl };
}
