-- Putting piece after piece: what is put and what is left are the whole.
use mathlib.Core.Path.{◌≡◌, refl, sym, ap, ◌∙◌}
use mathlib.Core.List.{List, [], ◌∷◌, ◌++◌, append_assoc, append-nil}
use Prim.Native.Nat.{ℕ, ◌+◌, ◌≤◌, ◌<◌}
use native.Mathlib.Omega.{arith}
use native.Mathlib.Numerals.{add-one}
use lib.ListN.{length, take, drop, set, get_or, length-append}
use lib.Seq.{take_at, take_all, take-suc, length-take-le}
use Rattle.octets.specs.Parts.{put}
use Rattle.octets.proofs.PartLaws.{put-put, put_one, length-put}
use Rattle.copies.specs.declared.output.Output.{Output}
use Rattle.copies.specs.Steps.Writes.{HasRoom, Writes}
use Rattle.copies.proofs.OutputLaws.{Writes-none, join, reword}

pub record Putting (o : Output) (whole left : List ℕ) (x : Output) : Type 0 where
  pub done : List ℕ
  pub rest : done ++ left ≡ whole
  pub wrote : Writes o x done (length done)

pub Putting-none : (o : Output) (w : List ℕ) → o.at ≤ length o.out.now → Putting o w w o
Putting-none o w h = record { done = []; rest = refl; wrote = Writes-none o h }

module _ {o x : Output} {whole left : List ℕ} (p : Putting o whole left x) where
  pub Putting-more : {a more : List ℕ} {n : ℕ} {y : Output} → left ≡ a ++ more → Writes x y a n → Putting o whole more y
  Putting-more {a} {more} e w = record {
    done = p.done ++ a;
    rest = append_assoc p.done a more ∙ ap (λ (l : List ℕ). p.done ++ l) (sym e) ∙ p.rest;
    wrote = reword (join p.wrote w) refl (omega (arith, length-append p.done a, w.long));
  }

  pub putting_all : left ≡ [] → Writes o x whole (length whole)
  putting_all e =
      let d : p.done ≡ whole = sym (append-nil p.done) ∙ ap (λ (l : List ℕ). p.done ++ l) (sym e) ∙ p.rest in
      reword p.wrote d (ap length d)

  pub putting_few : length left ≤ length whole
  putting_few = omega (arith, length-append p.done left, ap length p.rest)

  -- what is left has room where the whole has
  pub putting_room : o.at + length whole ≤ length o.out.now → HasRoom x (length left)
  putting_room h = record { room = omega (arith, p.wrote.kept, p.wrote.next, length-append p.done left, ap length p.rest) }

-- ---- numbers put in front of a list, one by one

pub front_next : (l w : List ℕ) (k : ℕ) {n : ℕ} → n ≡ get_or w k 0 → k < length w → length w ≤ length l → set (put l 0 (take k w)) k n ≡ put l 0 (take (k + 1) w)
front_next l w k {n} e h i =
    let t : length (take k w) ≡ k = length-take-le k w (omega arith) in
    let p : length (put l 0 (take k w)) ≡ length l = length-put l 0 (take k w) (omega arith) in
    rw (add-one, e, take-suc w k 0 h) (put_one (put l 0 (take k w)) k (get_or w k 0) (omega arith) ∙ put-put l 0 (take k w) (get_or w k 0 ∷ []) (omega arith) (omega arith))

pub front_all : (l w : List ℕ) (k : ℕ) → length w ≤ k → put l 0 (take k w) ≡ put l 0 w
front_all l w k h = ap (put l 0) (take_all k w h)

-- what was put in front stands in front
pub front_put : (l w : List ℕ) {x : List ℕ} {n : ℕ} → x ≡ put l 0 w → n ≡ length w → take n x ≡ w
unfolding put
front_put l w e f = rw (e, f) (take_at w (drop (0 + length w) l) (length w) refl)
