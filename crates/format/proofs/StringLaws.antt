-- The laws of a string: five sections, one law.
use mathlib.Core.Path.{◌≡◌, refl, sym, ap, ◌∙◌}
use mathlib.Core.List.{List, [], ◌++◌}
use mathlib.Core.Bool.{Bool}
use Prim.Native.Nat.{ℕ, ◌+◌, ◌<◌}
use native.Mathlib.Omega.{arith}
use lib.ListN.{length, drop, length-append, length-drop}
use lib.Dec.{ltb, eqb}
use borrow.Author.Tests.{eqb-true, eq-eqb, ltb-true, lt-ltb}
use Rattle.octets.specs.Numbers.{Bytes, number_at, u16_at, little}
use Rattle.octets.specs.Characters.{bytes_of, characters}
use Rattle.octets.proofs.NumberLaws.{Bytes-append, Bytes-drop, Bytes-little, length-little, number_back, number_below, number_same}
use Rattle.octets.proofs.CharacterLaws.{characters_whole}
use Rattle.format.specs.Strings.{string_length}
use Rattle.format.specs.Writing.{bytes_of_string, writable_string}
use Rattle.format.proofs.Bools.{and-true, and_both}
use Rattle.format.proofs.Chains.{Ok, Fits, Law}
use Rattle.format.proofs.Sized.{SizedBack, Sized, sized_r, sized_Law}

abbrev pub StringV : Bool → List ℕ → Type 0
StringV u = Ok Bytes (writable_string u)

length_string : (u : Bool) (x : List ℕ) → length (bytes_of_string u x) ≡ 2 + length x
unfolding bytes_of_string
length_string u x = rw (length-append, length-little)

string_drop : (u : Bool) (x : List ℕ) → drop 2 (bytes_of_string u x) ≡ x
unfolding bytes_of_string little
string_drop u x = refl

string_at0 : (u : Bool) (x r : List ℕ) → length (characters u x) < 65536 → u16_at (bytes_of_string u x ++ r) 0 ≡ length (characters u x)
unfolding bytes_of_string little number_at
string_at0 u x r h = number_back 2 (length (characters u x)) [] h

string_back : (u : Bool) (x : List ℕ) → StringV u x → SizedBack (string_length u) (λ n. []) (λ l. []) (λ l. drop 2 l) (bytes_of_string u x) x
string_back u x v =
    let i = and-true (eqb (bytes_of u (length (characters u x))) (length x)) (ltb (length (characters u x)) 65536) v.can in
    record {
      sized = λ r.
          ap (λ (c : ℕ). 2 + bytes_of u c) (string_at0 u x r (ltb-true _ _ i.1)) ∙ ap (λ (c : ℕ). 2 + c) (eqb-true _ _ i.0) ∙ sym (length_string u x);
      sizable = tt;
      judged = tt;
      same = string_drop u x;
    }

string_Fits : (u : Bool) (l : List ℕ) → Bytes l → string_length u l ≡ length l → Fits (bytes_of_string u) (StringV u) (drop 2 l) (length l)
string_Fits u l bs k =
    let x : List ℕ = drop 2 l in
    let m : length x ≡ bytes_of u (u16_at l 0) = length-drop 2 l ∙ (omega arith) in
    let d : length (characters u x) ≡ u16_at l 0 = characters_whole u x (u16_at l 0) m in
    record {
      valid = record {
        typed = Bytes-drop 2 l bs;
        can = and_both (eqb (bytes_of u (length (characters u x))) (length x)) _ (eq-eqb _ _ (ap (bytes_of u) d ∙ sym m)) (rw d (lt-ltb _ _ (number_below 2 l 0 bs)));
      };
      short = rw (length_string u x) (omega arith);
    }

string_Bytes : (u : Bool) (x : List ℕ) → Bytes x → Bytes (bytes_of_string u x)
unfolding bytes_of_string
string_Bytes u x b = Bytes-append (little 2 (length (characters u x))) x (Bytes-little 2 _) b

string_Sized : (k : ℕ) (u : Bool) → Sized k 2 (string_length u) (λ n. []) (λ l. []) (λ l. drop 2 l) (bytes_of_string u) (StringV u)
string_Sized k u = record {
  first = λ s t e. ap (λ (c : ℕ). 2 + bytes_of u c) (number_same 2 2 s t 0 e (omega arith));
  low = λ s e. omega arith;
  bytes = λ x v. string_Bytes u x v.typed;
  back = λ x v m. string_back u x v;
  fits = λ l bs e g c. string_Fits u l bs e;
}

pub string_Law : (k : ℕ) (u : Bool) → Law (sized_r k 2 (string_length u) (λ n. []) (λ l. []) (λ l. drop 2 l)) (bytes_of_string u) (StringV u)
string_Law k u = sized_Law k 2 (string_length u) (λ n. []) (λ l. []) (λ l. drop 2 l) (string_Sized k u)
