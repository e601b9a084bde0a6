-- A copy by steps: a step may stand back over bytes that were put before.
use mathlib.Core.Path.{◌≡◌, sym, ap, ◌∙◌}
use mathlib.Core.List.{List, ◌++◌, append_assoc}
use Prim.Native.Nat.{ℕ, ◌+◌, ◌-◌, ◌≤◌}
use native.Mathlib.Omega.{arith}
use lib.ListN.{length, take, drop, length-append, length-drop}
use lib.Seq.{take-length, length-take-le, drop-drop, take-add, take_at, drop-append-add}
use Rattle.octets.specs.Parts.{put}
use Rattle.octets.specs.Steps.Puts.{part}
use borrow.Rule.Slice.PartMut.{put_mid}
use Rattle.octets.proofs.PartLaws.{part_in, put-put, length-put, put_over_part}
use Rattle.octets.proofs.WroteLaws.{put-nil}

-- ---- a part of the buffer that is written over

pub length-part : (s : List ℕ) (i n : ℕ) → i + n ≤ length s → length (part s i n) ≡ n
length-part s i n h = ap length (sym (part_in s i n h)) ∙ length-take-le n (drop i s) (omega (arith, length-drop i s))

pub put_span_lem : (d : List ℕ) (k w : ℕ) (s : List ℕ) (i : ℕ) {x : List ℕ} → i + w ≤ length s → x ≡ take w (drop i s) → put_mid k (k + w - k) d x ≡ put d k (part s i w)
put_span_lem d k w s i h e = put_over_part d k w (length-part s i w h) (e ∙ part_in s i w h)

-- ---- bytes that are put over others

put_again : (d : List ℕ) (k : ℕ) (r p : List ℕ) → length r ≤ length p → k + length p ≤ length d → put (put d k r) k p ≡ put d k p
unfolding put
put_again d k r p h m =
    let f : length (take k d) ≡ k = length-take-le k d (omega arith) in
    let t : take k (take k d ++ (r ++ drop (k + length r) d)) ≡ take k d = take_at (take k d) _ k f in
    let n : ℕ = length p - length r in
    let g : length (take k d ++ r) ≡ k + length r = length-append (take k d) r ∙ ap (λ (v : ℕ). v + length r) f in
    let v : k + length p ≡ length (take k d ++ r) + n = omega (arith, g) in
    let u : k + length r + n ≡ k + length p = omega arith in
    let w : drop (k + length p) (take k d ++ (r ++ drop (k + length r) d)) ≡ drop (k + length p) d
    = rw (sym (append_assoc (take k d) r (drop (k + length r) d)), v) (drop-append-add (take k d ++ r) (drop (k + length r) d) n ∙ drop-drop n (k + length r) d ∙ ap (λ (j : ℕ). drop j d) (u ∙ v)) in
    rw (t, w)

-- the first j bytes of s are put, and then those from k on, which may stand back
pub put_over : (d : List ℕ) (i : ℕ) (s : List ℕ) (j k w : ℕ) {x y : List ℕ} → x ≡ put d i (take j s) → y ≡ put x (i + k) (part s k w)
    → k ≤ j → j ≤ k + w → k + w ≤ length s → i + length s ≤ length d → y ≡ put d i (take (k + w) s)
put_over d i s j k w {x} {y} p q hk hj hs hd =
    let r : List ℕ = take (j - k) (drop k s) in
    let c : List ℕ = part s k w in
    let jk : j ≡ k + (j - k) = omega arith in
    let e : take j s ≡ take k s ++ r = ap (λ (n : ℕ). take n s) jk ∙ take-add k (j - k) s in
    let lk : length (take k s) ≡ k = length-take-le k s (omega arith) in
    let lr : length r ≡ j - k = length-take-le (j - k) (drop k s) (omega (arith, length-drop k s)) in
    let lc : length c ≡ w = length-part s k w hs in
    let b : List ℕ = put d i (take k s) in
    let f : put d i (take k s ++ r) ≡ put b (i + k) r = sym (put-put d i (take k s) r (omega (arith, lk)) (omega (arith, lr))) in
    let lb : length b ≡ length d = length-put d i (take k s) (omega (arith, lk)) in
    let g : put (put b (i + k) r) (i + k) c ≡ put b (i + k) c = put_again b (i + k) r c (omega (arith, lr, lc)) (omega (arith, lb, lc)) in
    let h : put b (i + k) c ≡ put d i (take k s ++ c) = put-put d i (take k s) c (omega (arith, lk)) (omega (arith, lc)) in
    let t : take k s ++ c ≡ take (k + w) s = ap (λ (z : List ℕ). take k s ++ z) (sym (part_in s k w hs)) ∙ sym (take-add k w s) in
    q ∙ ap (λ (z : List ℕ). put z (i + k) c) (p ∙ ap (put d i) e ∙ f) ∙ g ∙ h ∙ ap (put d i) t

-- the last step ends where the bytes do
pub put_last : (d : List ℕ) (i : ℕ) (s : List ℕ) (j k w : ℕ) {x y : List ℕ} → x ≡ put d i (take j s) → y ≡ put x (i + k) (part s k w)
    → k ≤ j → j ≤ k + w → k + w ≡ length s → i + length s ≤ length d → y ≡ put d i s
put_last d i s j k w p q hk hj e hd = put_over d i s j k w p q hk hj (omega arith) hd ∙ ap (put d i) (ap (λ (n : ℕ). take n s) e ∙ take-length s)

-- two spans of one width, the first bytes and the last, are all of the bytes
pub put_two : (d : List ℕ) (i : ℕ) (s : List ℕ) (w k : ℕ) {x y : List ℕ} → x ≡ put d (i + 0) (part s 0 w) → y ≡ put x (i + k) (part s k w)
    → k ≤ w → k + w ≡ length s → i + length s ≤ length d → y ≡ put d i s
put_two d i s w k p q hk e hd =
    let first = put_over d i s 0 0 w (put-nil d i) p (omega arith) (omega arith) (omega arith) hd in
    put_last d i s (0 + w) k w first q (omega arith) (omega arith) e hd
