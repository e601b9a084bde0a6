-- Parts of a list, and puts into a buffer: puts end to end are one put.
use mathlib.Core.Path.{◌≡◌, sym, ◌∙◌}
use mathlib.Core.List.{List, [], ◌∷◌, ◌++◌, append_assoc}
use Prim.Native.Nat.{ℕ, suc, ◌+◌, ◌-◌, ◌≤◌, ◌<◌}
use native.Mathlib.Omega.{arith}
use native.Mathlib.Nat.{mod-eq_of_lt}
use native.Mathlib.Numerals.{add-one}
use lib.ListN.{length, take, drop, get_or, set, length-append, length-drop}
use lib.Seq.{paste, paste-zero, paste-suc, take-length, length-take-le, take_at, drop-append-add, drop-drop, set_split}
use borrow.Author.Tests.{le-leb, lt-leb}
use borrow.Rule.Slice.PartMut.{put_mid, Post-is}
use Rattle.octets.specs.Numbers.{little}
use Rattle.octets.specs.Parts.{put}
use Rattle.octets.specs.Steps.Puts.{part}

-- ---- parts

pub part_out : (s : List ℕ) (i n : ℕ) → length s < i + n → [] ≡ part s i n
unfolding part
part_out s i n h = rw (lt-leb (i + n) (length s) h)

pub part_in : (s : List ℕ) (i n : ℕ) → i + n ≤ length s → take n (drop i s) ≡ part s i n
unfolding part
part_in s i n h = rw (le-leb (i + n) (length s) h)

-- ---- a put by steps

-- the buffer d once j bytes of s are put; kept closed, so that a citation need not name d, i and s
unfoldable pub putting : List ℕ → ℕ → List ℕ → ℕ → List ℕ
putting d i s j = paste d i s j

pub put_none : (d : List ℕ) (i : ℕ) (s : List ℕ) → d ≡ putting d i s 0
unfolding putting
put_none d i s = paste-zero d i s

module _ (d : List ℕ) (i : ℕ) (s : List ℕ) (j : ℕ) {x : List ℕ} (e : x ≡ putting d i s j) where
  pub put_more : i + j < length d → j < length s → set x (i + j) (get_or s j 0) ≡ putting d i s (j + 1)
  unfolding putting
  put_more hd hs =
      let q : j + 1 ≡ suc j = omega arith in
      rw (q, e) (paste-suc d i s j 0 hd hs)

  pub put_whole : j ≡ length s → x ≡ put d i s
  unfolding putting put
  put_whole q = e ∙ rw (q, take-length s) (append_assoc (take i d) s (drop (i + length s) d))

-- ---- puts

pub length-put : (d : List ℕ) (i : ℕ) (w : List ℕ) → i + length w ≤ length d → length (put d i w) ≡ length d
unfolding put
length-put d i w h = simp (length-append, length-drop) (omega (arith, length-take-le i d (omega arith)))

pub put-put : (d : List ℕ) (i : ℕ) (a b : List ℕ) {k : ℕ} → k ≡ i + length a → k + length b ≤ length d → put (put d i a) k b ≡ put d i (a ++ b)
unfolding put
put-put d i a b {k} e h =
    let p : List ℕ = take i d ++ a in
    let r : List ℕ = drop (i + length a) d in
    let l : length p ≡ k = length-append (take i d) a ∙ rw (length-take-le i d (omega arith)) (sym e) in
    let s : take i d ++ (a ++ r) ≡ p ++ r = sym (append_assoc (take i d) a r) in
    let f : take k (p ++ r) ≡ p = take_at p r k l in
    let q : i + length a + length b ≡ i + length (a ++ b) = simp length-append (omega arith) in
    let g : drop (k + length b) (p ++ r) ≡ drop (i + length (a ++ b)) d = rw (← l, drop-append-add p r (length b), drop-drop (length b) (i + length a) d, q) in
    rw (s, f, g, append_assoc (take i d) a (b ++ drop (i + length (a ++ b)) d), append_assoc a b (drop (i + length (a ++ b)) d))

-- ---- one byte is put, and many at once

pub put_one : (d : List ℕ) (i x : ℕ) → i < length d → set d i x ≡ put d i (x ∷ [])
unfolding put
put_one d i x h = rw (add-one i) (set_split d i x h)

pub put_byte : (d : List ℕ) (i x : ℕ) → i < length d → x < 256 → set d i x ≡ put d i (little 1 x)
unfolding little
put_byte d i x h k = rw (mod-eq_of_lt k) (put_one d i x h)

-- the w elements of the buffer from k on are written over
pub put_over_part : (d : List ℕ) (k w : ℕ) {x y : List ℕ} → length y ≡ w → x ≡ y → put_mid k (k + w - k) d x ≡ put d k y
unfolding put
put_over_part d k w l e = rw (Post-is k (k + w) d (omega arith), e, ← l)
