-- Parts that are shown one after another are shown as one text.
use mathlib.Core.Path.{◌≡◌, refl, sym, ap, ◌∙◌}
use mathlib.Core.List.{List, [], ◌++◌, append-nil}
use Prim.Native.Nat.{ℕ, ◌+◌, ◌-◌, ◌≤◌}
use native.Mathlib.Omega.{arith}
use Rattle.std.proofs.Common.{MutBor}
use lib.ListN.{length, take, drop, length-append, length-take, drop_of_length-le}
use lib.Seq.{take-nil, drop-nil, take_all, take-append-le, take-append-add, drop-append-le, drop-append-add}
use Rattle.octets.specs.Parts.{put}
use Rattle.copies.proofs.OutputLaws.{Writes-none, join, reword}
use Rattle.format.proofs.Bools.{by_order}
use Rattle.lines.specs.declared.window.Window.{Window}
use Rattle.lines.specs.Text.{piece}
use Rattle.lines.specs.Steps.Windows.{shown, output, Showed}

-- ---- a window on two lists

drop_both : (k : ℕ) (a b : List ℕ) → drop k (a ++ b) ≡ drop k a ++ drop (k - length a) b
drop_both k a b =
    by_order k (length a)
    (λ h. let e : k - length a ≡ 0 = omega arith in drop-append-le k a b h ∙ rw e)
    (λ h.
    let e : length a + (k - length a) ≡ k = omega arith in
    let n : drop k a ≡ [] = drop_of_length-le a {i = k} (omega arith) in
    ap (λ (m : ℕ). drop m (a ++ b)) (sym e) ∙ drop-append-add a b (k - length a) ∙ rw n)

take_both : (k : ℕ) (a b : List ℕ) → take k (a ++ b) ≡ take k a ++ take (k - length (take k a)) b
take_both k a b =
    by_order k (length a)
    (λ h.
    let e : k - length (take k a) ≡ 0 = omega (arith, length-take k a) in
    take-append-le k a b h ∙ rw (e, append-nil (take k a)))
    (λ h.
    let e : length a + (k - length a) ≡ k = omega arith in
    let n : take k a ≡ a = take_all k a (omega arith) in
    ap (λ (m : ℕ). take m (a ++ b)) (sym e) ∙ take-append-add a b (k - length a) ∙ rw n)

-- ---- one part

pub Showed-none : (w : Window) → Showed w [] w
Showed-none w =
    let e : [] ≡ shown w [] = sym (ap (take (length w.out.now - w.at)) (drop-nil w.skip) ∙ take-nil (length w.out.now - w.at)) in
    record { wrote = reword (Writes-none (output w) w.within) e (ap length e); skip = omega arith }

-- a part that is passed over whole
pub Showed-past : (w : Window) (t : List ℕ) {i : w.at ≤ length w.out.now} → length t ≤ w.skip → Showed w t (record { out = w.out; at = w.at; skip = w.skip - length t; within = i })
Showed-past w t h =
    let n : drop w.skip t ≡ [] = drop_of_length-le t {i = w.skip} h in
    let e : [] ≡ shown w t = sym (ap (take (length w.out.now - w.at)) n ∙ take-nil (length w.out.now - w.at)) in
    record { wrote = reword (Writes-none (output w) w.within) e (ap length e); skip = refl }

module _ {w r : Window} {t : List ℕ} (p : Showed w t r) where
  -- what the second part shows, it shows behind the first
  pub Showed-join : {u : List ℕ} {q : Window} → Showed r u q → Showed w (t ++ u) q
  Showed-join {u} {q} o =
      let m = length w.out.now - w.at in
      let b = p.skip in
      let i : length r.out.now - r.at ≡ m - length (shown w t) = omega (arith, p.wrote.next, p.wrote.kept) in
      let j : shown r u ≡ take (m - length (shown w t)) (drop (w.skip - length t) u) = rw (i, b) in
      let e : shown w t ++ shown r u ≡ shown w (t ++ u)
      = sym (ap (take m) (drop_both w.skip t u) ∙ take_both m (drop w.skip t) (drop (w.skip - length t) u) ∙ rw j) in
      record {
        wrote = reword (join p.wrote o.wrote) e (sym (length-append (shown w t) (shown r u)) ∙ ap length e);
        skip = o.skip ∙ rw b (omega (arith, length-append t u));
      }

  -- the same text, said in other words
  pub Showed-as : {u : List ℕ} → t ≡ u → Showed w u r
  Showed-as e = rw (← e) p

-- ---- the whole, through a window on the empty buffer

-- a window on the buffer that has shown all of t has put the piece of it
pub record Piece (out : MutBor (List ℕ)) (t : List ℕ) (from : ℕ) (r : Window) : Type 0 where
  pub same : r.out.ghost_name ≡ out.ghost_name
  pub at : r.at ≡ length (piece t from (length out.now))
  pub content : r.out.now ≡ put out.now 0 (piece t from (length out.now))

pub piece_shown : {w r : Window} {t : List ℕ} → Showed w t r → {out : MutBor (List ℕ)} {from : ℕ} → w.out ≡ out → w.at ≡ 0 → w.skip ≡ from → Piece out t from r
unfolding piece
piece_shown {w} {r} {t} p {out} {from} i j k =
    let n : length w.out.now - w.at ≡ length out.now = rw (i, j) (omega arith) in
    let e : shown w t ≡ take (length out.now) (drop from t) = rw (n, k) in
    record {
      same = rw (← i) p.wrote.same;
      at = omega (arith, p.wrote.next, ap length e);
      content = p.wrote.content ∙ ap (put w.out.now w.at) e ∙ rw (i, j);
    }
