-- What was written end to end is written as one.
use mathlib.Core.Path.{◌≡◌, refl, sym, ◌∙◌}
use mathlib.Core.List.{List, [], ◌∷◌, ◌++◌, append-nil}
use Prim.Native.Nat.{ℕ, ◌+◌, ◌≤◌}
use native.Mathlib.Omega.{arith}
use lib.ListN.{length, set, length-append, take-append-drop}
use Rattle.octets.specs.Numbers.{little}
use Rattle.octets.specs.Parts.{put}
use Rattle.octets.specs.Steps.Puts.{Wrote}
use Rattle.octets.proofs.NumberLaws.{length-little}
use Rattle.octets.proofs.PartLaws.{put-put, length-put, put_one}

pub put-nil : (d : List ℕ) (at : ℕ) → d ≡ put d at []
unfolding put
put-nil d at = let e : at + 0 ≡ at = omega arith in rw e (sym (take-append-drop at d))

pub Wrote-none : (d : List ℕ) (at : ℕ) → at ≤ length d → Wrote d at [] 0 d at
Wrote-none d at h = record { content = put-nil d at; long = refl; next = omega arith; fits = h }

module _ {d x : List ℕ} {at k n : ℕ} {a : List ℕ} (p : Wrote d at a n x k) where
  pub kept : length x ≡ length d
  kept = let l = p.long in let f = p.fits in let q = p.next in rw p.content (length-put d at a (omega arith))

  pub join : {y b : List ℕ} {m r : ℕ} → Wrote x k b m y r → Wrote d at (a ++ b) (n + m) y r
  join {y} {b} {m} {r} q =
      let l = p.long in
      let o = q.long in
      let e = p.next in
      let f = q.next in
      let g = q.fits in
      let s = kept in
      record {
        content = q.content ∙ rw p.content (put-put d at a b (omega arith) (omega arith));
        long = length-append a b ∙ omega arith;
        next = omega arith;
        fits = omega arith;
      }

  pub last : Wrote d at (a ++ []) n x k
  last = rw append-nil p

  -- the same bytes and the same length, said in other words
  pub reword : {b : List ℕ} {m : ℕ} → a ≡ b → n ≡ m → Wrote d at b m x k
  reword e f = rw (← e, ← f) p

-- a number's w bytes
pub Wrote-number : (w : ℕ) (d : List ℕ) (at n : ℕ) {x : List ℕ} → x ≡ put d at (little w n) → at + w ≤ length d → Wrote d at (little w n) w x (at + w)
Wrote-number w d at n e h = record { content = e; long = length-little w n; next = refl; fits = h }

-- one element
pub Wrote-one : (d : List ℕ) (at n : ℕ) → at + 1 ≤ length d → Wrote d at (n ∷ []) 1 (set d at n) (at + 1)
Wrote-one d at n h = record { content = put_one d at n (omega arith); long = refl; next = refl; fits = h }
