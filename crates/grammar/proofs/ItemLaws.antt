-- The item list: what its walk passes is items end to end, and two zero bytes.
use mathlib.Core.Path.{◌≡◌, refl, sym, ap, ◌∙◌}
use mathlib.Core.List.{List, [], ◌∷◌, ◌++◌, append_assoc}
use mathlib.Core.Bool.{Bool, true, false, ◌&&◌, cond}
use Prim.Native.Nat.{ℕ, zero, suc, ◌+◌, ◌-◌, ◌*◌, ◌/◌, ◌%◌, ◌^◌, ◌≤◌, ◌<◌}
use native.Mathlib.Omega.{arith}
use lib.ListN.{length, take, drop, take-append-drop, length-append, length-drop}
use lib.Seq.{length-take-le, take-take, take_at, drop_at}
use lib.Dec.{leb, eqb}
use borrow.Author.Tests.{leb-true, le-leb, eqb-true, ne_eqb}
use Rattle.octets.specs.Numbers.{Bytes, number, u16_at, little}
use Rattle.octets.proofs.NumberLaws.{Bytes-nil, Bytes-cons, Bytes-take, Bytes-drop, Bytes-tail, little-number, length-little, number_back, number_below, number_same}
use Rattle.format.specs.declared.Place.{Place}
use Rattle.format.specs.declared.Fault.TheVariants.{Cut as CUT, Items as ITEMS}
use Rattle.format.specs.Tests.{◌else◌at◌, got, section, place}
use Rattle.format.specs.Items.{item_tests, items_length, items_rules, items}
use Rattle.format.specs.Steps.ItemWalk.{walk}
use Rattle.format.proofs.Bools.{and-true}
use Rattle.format.proofs.Chains.{Pass, pass, Pass-all, all-Pass, tests_elim, no_true}
use Rattle.format.proofs.ItemsLaws.{tests_walk}
use Rattle.grammar.specs.Grammar.{EachOf, from, sized_parts, PartList, ItemList, ItemsIs}
use Rattle.grammar.proofs.Agree.{Agrees}
use Rattle.grammar.proofs.FieldLaws.{first_field}

-- each part with a size that fits
abbrev pub EachPart : ℕ → (List ℕ → Type 0) → List (List ℕ) → Type 0
EachPart w Own xs = EachOf (λ x. (w + length x < 256 ^ w) × Own x) xs

-- ---- over an item

walk_skip : (k : ℕ) (l : List ℕ) → walk k l ≡ true → (k ≤ length l) × (walk 0 (drop k l) ≡ true)
unfolding walk
walk_skip zero l e = (omega arith, e)
walk_skip (suc k) [] e = no_true e
walk_skip (suc k) (a ∷ l) e = let i = walk_skip k l e in (omega (arith, i.0), i.1)

walk_over : (x r : List ℕ) → walk (length x) (x ++ r) ≡ walk 0 r
unfolding walk
walk_over [] r = refl
walk_over (a ∷ x) r = walk_over x r

-- two bytes are their number's
two-Bytes : (a b : ℕ) (l : List ℕ) → Bytes (a ∷ b ∷ l) → (a ∷ b ∷ [] ≡ little 2 (a + 256 * b)) × (a + 256 * b < 65536)
unfolding number
two-Bytes a b l bs =
    let e : number (a ∷ b ∷ []) ≡ a + 256 * b = omega arith in
    let c : Bytes (a ∷ b ∷ []) = Bytes-cons (bs.at 0) (Bytes-cons (bs.at 1) Bytes-nil) in
    (sym (rw e at (little-number (a ∷ b ∷ []) c)), omega (arith, bs.at 0, bs.at 1))

-- ---- from the walk to items

pub part_before : (w : ℕ) (Own : List ℕ → Type 0) (x y : List ℕ) → w + length x < 256 ^ w → Own x → PartList w Own y → PartList w Own (little w (w + length x) ++ (x ++ y))
part_before w Own x y h o i =
    record {
      parts = x ∷ i.parts;
      is = rw (append_assoc (little w (w + length x)) (x ++ sized_parts w i.parts) (little w 0), append_assoc x (sized_parts w i.parts) (little w 0), ← i.is);
      each = ((h, o), i.each);
    }

-- one item, and the others by what is known of shorter lists
one_walked : (l : List ℕ) → Bytes l → walk 0 l ≡ true → ((r : List ℕ) → length r < length l → Bytes r → walk 0 r ≡ true → ItemList r) → ItemList l
unfolding walk little
one_walked [] bs e f = no_true e
one_walked (a ∷ []) bs e f = no_true e
one_walked (a ∷ b ∷ l) bs e f =
    go (eqb (a + 256 * b) 0) refl e (f (drop (a + 256 * b - 2) l) (omega (arith, length-drop (a + 256 * b - 2) l)) (Bytes-drop (a + 256 * b - 2) l (Bytes-tail (Bytes-tail bs))))
  where
    last : (r : List ℕ) → length r ≡ 0 → a ≡ 0 → b ≡ 0 → ItemList (a ∷ b ∷ r)
    last [] h p q = record { parts = []; is = rw (p, q); each = tt }
    last (x ∷ r) h p q = absurd (omega arith)

    go : (t : Bool) → eqb (a + 256 * b) 0 ≡ t → cond t (eqb (length l) 0) (leb 2 (a + 256 * b) && walk (a + 256 * b - 2) l) ≡ true
        → (walk 0 (drop (a + 256 * b - 2) l) ≡ true → ItemList (drop (a + 256 * b - 2) l)) → ItemList (a ∷ b ∷ l)
    go true t e f =
        let z : a + 256 * b ≡ 0 = eqb-true (a + 256 * b) 0 t in
        last l (eqb-true (length l) 0 e) (omega arith) (omega arith)
    go false t e f =
        let i = and-true (leb 2 (a + 256 * b)) (walk (a + 256 * b - 2) l) e in
        let two : 2 ≤ a + 256 * b = leb-true 2 (a + 256 * b) i.0 in
        let j = walk_skip (a + 256 * b - 2) l i.1 in
        let x : List ℕ = take (a + 256 * b - 2) l in
        let m : length x ≡ a + 256 * b - 2 = length-take-le (a + 256 * b - 2) l j.0 in
        let o : a + 256 * b ≡ 2 + length x = omega arith in
        let w = two-Bytes a b l bs in
        let s : a ∷ b ∷ l ≡ little 2 (2 + length x) ++ (x ++ drop (a + 256 * b - 2) l)
        = ap (λ (y : List ℕ). y ++ l) (w.0 ∙ ap (little 2) o) ∙ ap (λ (y : List ℕ). little 2 (2 + length x) ++ y) (sym (take-append-drop (a + 256 * b - 2) l)) in
        rw s (part_before 2 (λ x. Unit {0}) x (drop (a + 256 * b - 2) l) (omega (arith, w.1)) tt (f j.1))

-- k bounds the length
walked : (k : ℕ) (l : List ℕ) → length l ≤ k → Bytes l → walk 0 l ≡ true → ItemList l
walked zero l h bs e = one_walked l bs e (λ r s c i. absurd (omega arith))
walked (suc k) l h bs e = one_walked l bs e (λ r s c i. walked k r (omega arith) c i)

pub walk_items : (l : List ℕ) → Bytes l → walk 0 l ≡ true → ItemList l
walk_items l bs e = walked (length l) l (omega arith) bs e

-- ---- and back

step : (x r : List ℕ) → 2 + length x < 65536 → walk 0 r ≡ true → walk 0 (little 2 (2 + length x) ++ (x ++ r)) ≡ true
unfolding walk little
step x r h e =
    let m : ℕ = 2 + length x in
    let n : (2 + length x) % 256 + 256 * ((2 + length x) / 256 % 256) ≡ 2 + length x = omega arith in
    let k : 2 + length x - 2 ≡ length x = omega arith in
    rw (n, ne_eqb (2 + length x) 0 (λ z. omega arith), le-leb 2 (2 + length x) (omega arith), k) (walk_over x r ∙ e)

none_walked : walk 0 (little 2 0) ≡ true
unfolding walk little
none_walked = refl

all_walked : (xs : List (List ℕ)) → EachPart 2 (λ x. Unit {0}) xs → walk 0 (sized_parts 2 xs ++ little 2 0) ≡ true
all_walked [] h = none_walked
all_walked (x ∷ xs) h =
    rw (append_assoc (little 2 (2 + length x)) (x ++ sized_parts 2 xs) (little 2 0), append_assoc x (sized_parts 2 xs) (little 2 0))
    (step x (sized_parts 2 xs ++ little 2 0) h.0.0 (all_walked xs h.1))

pub items_walk : (l : List ℕ) → ItemList l → walk 0 l ≡ true
items_walk l i = rw i.is (all_walked i.parts i.each)

-- ---- the section

length_list : (l : List ℕ) (i : ItemList l) → length l ≡ length (sized_parts 2 i.parts) + 2
length_list l i = ap length i.is ∙ length-append (sized_parts 2 i.parts) (little 2 0) ∙ ap (λ (n : ℕ). length (sized_parts 2 i.parts) + n) (length-little 2 0)

items_told : (body : Place) (p : ℕ) (s : List ℕ) → Bytes s → 2 ≤ length s → items_length s ≤ length s → Pass (items_rules (take (items_length s) s))
    → place (p + 2) (items_length s - 4) ≡ body → ItemsIs body p (take (items_length s) s)
items_told body p s bs two fits rules held =
    let n : ℕ = items_length s in
    let t : List ℕ = take n s in
    let l : length t ≡ n = length-take-le n s fits in
    let e : u16_at t 0 ≡ u16_at s 0 = number_same 2 2 t s 0 (take-take 2 n s (omega arith)) (omega arith) in
    let d : length (drop 2 t) ≡ u16_at s 0 = length-drop 2 t ∙ (omega arith) in
    let w : walk 0 (drop 2 t) ≡ true = sym (tests_walk ITEMS 2 0 (drop 2 t)) ∙ Pass-all (items_rules t) rules in
    let i = walk_items (drop 2 t) (Bytes-drop 2 t (Bytes-take n s bs)) w in
    let k : items_length s - 4 ≡ length (sized_parts 2 i.parts) = omega (arith, length_list (drop 2 t) i) in
    record {
      list = drop 2 t;
      is = first_field 2 t (Bytes-take n s bs) (omega arith) ∙ ap (λ (k : ℕ). little 2 k ++ drop 2 t) (e ∙ sym d);
      fits = omega (arith, number_below 2 s 0 bs);
      items = i;
      place = sym held ∙ ap (from (p + 2)) k;
    }

items_read : (body : Place) (p : ℕ) (x r : List ℕ) → ItemsIs body p x → items p (x ++ r) ≡ got body (length x)
items_read body p x r g =
    let s : List ℕ = x ++ r in
    let e : s ≡ little 2 (length g.list) ++ (g.list ++ r) = ap (λ (l : List ℕ). l ++ r) g.is ∙ append_assoc (little 2 (length g.list)) g.list r in
    let c : u16_at s 0 ≡ length g.list = ap (λ (l : List ℕ). u16_at l 0) e ∙ number_back 2 (length g.list) (g.list ++ r) g.fits in
    let l : length x ≡ 2 + length g.list
    = ap length g.is ∙ length-append (little 2 (length g.list)) g.list ∙ ap (λ (n : ℕ). n + length g.list) (length-little 2 (length g.list)) in
    let n : length s ≡ length x + length r = length-append x r in
    let w : items_length s ≡ length x = omega arith in
    let t : take (items_length s) s ≡ x = take_at x r (items_length s) (sym w) in
    let d : drop 2 x ≡ g.list = ap (drop 2) g.is ∙ drop_at (little 2 (length g.list)) g.list 2 (length-little 2 (length g.list)) in
    let k : items_length s - 4 ≡ length (sized_parts 2 g.items.parts) = omega (arith, length_list g.list g.items) in
    let rules : Pass (items_rules (take (items_length s) s)) = rw (t, d) (all-Pass (item_tests ITEMS 2 0 g.list) (tests_walk ITEMS 2 0 g.list ∙ items_walk g.list g.items)) in
    pass (section 1 p) (leb 2 (length s) else CUT at 0 ∷ leb (items_length s) (length s) else CUT at 0 ∷ items_rules (take (items_length s) s)) (got (place (p + 2) (items_length s - 4)) (items_length s))
    (le-leb 2 (length s) (omega arith), (le-leb (items_length s) (length s) (omega arith), rules)) ∙ rw (k, w, ← g.place)

pub items-Agrees : (body : Place) → Agrees items (λ p b. b ≡ body) (ItemsIs body)
items-Agrees body = record {
  told = λ p s a n bs e.
      tests_elim (λ a n. a ≡ body → (n ≤ length s) × ItemsIs body p (take n s)) (section 1 p)
      (leb 2 (length s) else CUT at 0 ∷ leb (items_length s) (length s) else CUT at 0 ∷ items_rules (take (items_length s) s)) (place (p + 2) (items_length s - 4)) (items_length s)
      (λ c v.
      let j = leb-true (items_length s) (length s) c.1.0 in
      (j, items_told body p s bs (leb-true 2 (length s) c.0) j c.1.1 v))
      a n e;
  read = λ p x r bs g. record { value = body; is = items_read body p x r g; held = refl };
}
