-- Slots put one after another: what was put from slot `from` on up to slot k, and the next one.
use mathlib.Core.Path.{◌≡◌, refl, sym, ap, ◌∙◌}
use mathlib.Core.List.{List, [], ◌∷◌, ◌++◌, append-nil, append_assoc}
use Prim.Native.Nat.{ℕ, ◌+◌, ◌-◌, ◌≤◌, ◌<◌}
use native.Mathlib.Omega.{arith}
use lib.ListN.{length, get_or}
use Rattle.copies.specs.declared.output.Output.{Output}
use Rattle.copies.specs.Steps.Writes.{HasRoom, Writes}
use Rattle.copies.proofs.OutputLaws.{Writes-none, join, reword}
use Rattle.format.specs.declared.Place.{Place}
use Rattle.format.specs.Tests.{no_place}
use Rattle.format.specs.Shortcut.{sum}
use Rattle.format.specs.Bodies.{BodyRow, along}
use Rattle.format.specs.Writing.{end_to_end}
use Rattle.format.specs.Steps.Shape.{rows_from}
use Rattle.format.proofs.RowLaws.{along_split}

sum-append : (xs ys : List ℕ) → sum (xs ++ ys) ≡ sum xs + sum ys
sum-append [] ys = omega arith
sum-append (x ∷ xs) ys = omega (arith, sum-append xs ys)

end_append : (xs ys : List (List ℕ)) → end_to_end (xs ++ ys) ≡ end_to_end xs ++ end_to_end ys
end_append [] ys = refl
end_append (x ∷ xs) ys = ap (λ (l : List ℕ). x ++ l) (end_append xs ys) ∙ sym (append_assoc x (end_to_end xs) (end_to_end ys))

-- F is what is put of a slot's body, and G how much that is
module _ (F : BodyRow → Place → List ℕ) (G : BodyRow → Place → ℕ) (ps : List Place) (row : ℕ → BodyRow) (from : ℕ) where
  abbrev place : ℕ → Place
  place k = get_or ps k no_place

  abbrev pub bytes_to : ℕ → List ℕ
  bytes_to k = end_to_end (along no_place F from (rows_from row from (k - from)) ps)

  abbrev pub size_to : ℕ → ℕ
  size_to k = sum (along no_place G from (rows_from row from (k - from)) ps)

  -- one slot more
  bytes_more : (k : ℕ) → from ≤ k → bytes_to k ++ F (row k) (place k) ≡ bytes_to (k + 1)
  bytes_more k h =
      let e : k + 1 - from ≡ k - from + 1 = omega arith in
      let f : from + (k - from) ≡ k = omega arith in
      rw (e, along_split no_place F row ps from (k - from) 1, end_append, f, append-nil)

  size_split : (k b : ℕ) → from ≤ k → size_to (k + b) ≡ size_to k + sum (along no_place G k (rows_from row k b) ps)
  size_split k b h =
      let e : k + b - from ≡ k - from + b = omega arith in
      let f : from + (k - from) ≡ k = omega arith in
      rw (e, along_split no_place G row ps from (k - from) b, sum-append, f)

  size_one : (k : ℕ) → sum (along no_place G k (rows_from row k 1) ps) ≡ G (row k) (place k)
  size_one k = omega arith

  pub none_put : (o : Output) → o.at ≤ length o.out.now → Writes o o (bytes_to from) (size_to from)
  none_put o h = let e : from - from ≡ 0 = omega arith in rw e (Writes-none o h)

  module _ {o x : Output} (k : ℕ) (h : from ≤ k) (w : Writes o x (bytes_to k) (size_to k)) where
    pub more_put : {y : Output} → Writes x y (F (row k) (place k)) (G (row k) (place k)) → Writes o y (bytes_to (k + 1)) (size_to (k + 1))
    more_put v = reword (join w v) (bytes_more k h) (sym (size_split k 1 h ∙ ap (λ (n : ℕ). size_to k + n) (size_one k)))

    -- the next has room where all have, and is no longer than all
    pub next_size : (to : ℕ) → k < to → size_to k + G (row k) (place k) ≤ size_to to
    next_size to l =
        let e : to ≡ k + 1 + (to - (k + 1)) = omega arith in
        let s : size_to to ≡ size_to (k + 1) + sum (along no_place G (k + 1) (rows_from row (k + 1) (to - (k + 1))) ps) = ap size_to e ∙ size_split (k + 1) (to - (k + 1)) (omega arith) in
        let t : size_to (k + 1) ≡ size_to k + G (row k) (place k) = size_split k 1 h ∙ ap (λ (n : ℕ). size_to k + n) (size_one k) in
        omega arith

    pub Room-next : (to : ℕ) → k < to → HasRoom o (size_to to) → HasRoom x (G (row k) (place k))
    Room-next to l m = record { room = omega (arith, next_size to l, w.kept, w.next, m.room) }
