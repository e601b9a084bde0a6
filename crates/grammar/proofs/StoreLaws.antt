-- The property store: what its tests pass is storages end to end, each of values end to end.
use mathlib.Core.Path.{◌≡◌, refl, sym, ap, subst, ◌∙◌}
use mathlib.Core.List.{List, [], ◌∷◌, ◌++◌, append_assoc}
use mathlib.Core.Bool.{Bool, true, false, cond}
use Prim.Native.Nat.{ℕ, zero, suc, ◌+◌, ◌-◌, ◌≤◌, ◌<◌}
use native.Mathlib.Omega.{arith}
use lib.ListN.{length, take, drop, get_or, take-append-drop, length-append, length-drop}
use lib.Seq.{length-take-le, take-take, take_all, take_at, drop_at, drop-drop, drop-cons, get_or-drop}
use borrow.Author.Tests.{leb-true, le-leb, eqb-true, eqb-false, eq-eqb}
use Rattle.octets.specs.Numbers.{Bytes, number, number_at, u32_at, little}
use Rattle.octets.proofs.NumberLaws.{Bytes-take, Bytes-drop, length-little, number_back, number_below, number_same, number_drop}
use Rattle.format.specs.Tests.{Test}
use Rattle.format.specs.Store.{part_tests, name_length, value_tests, is_named, identifier_of, storage_tests, store_tests}
use Rattle.format.proofs.Chains.{Pass}
use Rattle.format.proofs.StoreLaws.{parts_more, parts_end, parts_split}
use Rattle.grammar.specs.Grammar.{If, sized_parts, PartList, ValueIs, StorageIs, StoreIs, named_bytes}
use Rattle.grammar.proofs.Agree.{Bytes-left, Bytes-right}
use Rattle.grammar.proofs.FieldLaws.{first_field, Bytes-here}
use Rattle.grammar.proofs.ItemLaws.{EachPart, part_before}

-- ---- parts

-- a part with its size before it
abbrev sized : List ℕ → List ℕ
sized x = little 4 (4 + length x) ++ x

length-sized : (x : List ℕ) → length (sized x) ≡ 4 + length x
length-sized x = length-append (little 4 (4 + length x)) x ∙ ap (λ (n : ℕ). n + length x) (length-little 4 (4 + length x))

drop-sized : (x : List ℕ) → drop 4 (sized x) ≡ x
drop-sized x = drop_at (little 4 (4 + length x)) x 4 (length-little 4 (4 + length x))

module _ (least : ℕ) (own : ℕ → List ℕ → List Test) (Own : List ℕ → Type 0) where
  -- a part that passes its own tests is what it should be without its size
  abbrev OwnTold : Type 0
  OwnTold = (j : ℕ) (v : List ℕ) → Bytes v → least ≤ length v → Pass (own j v) → Own (drop 4 v)

  -- and back
  abbrev OwnRead : Type 0
  OwnRead = (j : ℕ) (x : List ℕ) → Bytes x → Own x → (least ≤ 4 + length x) × Pass (own j (sized x))

  -- one part, and the others by what is known of shorter lists
  told_one : 4 ≤ least → OwnTold → (i : ℕ) (l : List ℕ) → Bytes l → Pass (part_tests least own i 0 l)
      → ((j : ℕ) (r : List ℕ) → length r < length l → Bytes r → Pass (part_tests least own j 0 r) → PartList 4 Own r) → PartList 4 Own l
  told_one low F i l bs c f =
      parts_split least own i l c
      (λ e. record { parts = []; is = e; each = tt })
      (λ n e some lo fits four o q.
      let v : List ℕ = take n l in
      let m : length v ≡ n = length-take-le n l fits in
      let x : List ℕ = drop 4 v in
      let y : length x ≡ n - 4 = length-drop 4 v ∙ (omega arith) in
      let z : u32_at v 0 ≡ 4 + length x = number_same 4 4 v l 0 (take-take 4 n l (omega arith)) (omega arith) ∙ (omega arith) in
      let s : v ≡ little 4 (4 + length x) ++ x = first_field 4 v (Bytes-take n l bs) (omega arith) ∙ ap (λ (k : ℕ). little 4 k ++ x) z in
      let t : l ≡ little 4 (4 + length x) ++ (x ++ drop n l)
      = sym (take-append-drop n l) ∙ ap (λ (w : List ℕ). w ++ drop n l) s ∙ append_assoc (little 4 (4 + length x)) x (drop n l) in
      let g : PartList 4 Own (little 4 (4 + length x) ++ (x ++ drop n l))
      = part_before 4 Own x (drop n l) (omega (arith, number_below 4 l 0 bs)) (F i v (Bytes-take n l bs) (omega arith) o)
      (f (i + n) (drop n l) (omega (arith, length-drop n l)) (Bytes-drop n l bs) q) in
      subst (PartList 4 Own) (sym t) g)

  -- k bounds the length
  told_some : 4 ≤ least → OwnTold → (k i : ℕ) (l : List ℕ) → length l ≤ k → Bytes l → Pass (part_tests least own i 0 l) → PartList 4 Own l
  told_some low F zero i l h bs c = told_one low F i l bs c (λ j r s b p. absurd (omega arith))
  told_some low F (suc k) i l h bs c = told_one low F i l bs c (λ j r s b p. told_some low F k j r (omega arith) b p)

  parts_told : 4 ≤ least → OwnTold → (i : ℕ) (l : List ℕ) → Bytes l → Pass (part_tests least own i 0 l) → PartList 4 Own l
  parts_told low F i l bs c = told_some low F (length l) i l (omega arith) bs c

  read_each : OwnRead → (xs : List (List ℕ)) → Bytes (sized_parts 4 xs) → EachPart 4 Own xs → (i : ℕ) → Pass (part_tests least own i 0 (sized_parts 4 xs ++ little 4 0))
  read_each F [] bs h i = parts_end least own i
  read_each F (x ∷ xs) bs h i =
      let rest : Bytes (x ++ sized_parts 4 xs) = Bytes-right (little 4 (4 + length x)) (x ++ sized_parts 4 xs) bs in
      let y = F i x (Bytes-left x (sized_parts 4 xs) rest) h.0.1 in
      let l = length-sized x in
      let e : sized_parts 4 (x ∷ xs) ++ little 4 0 ≡ sized x ++ (sized_parts 4 xs ++ little 4 0)
      = append_assoc (little 4 (4 + length x)) (x ++ sized_parts 4 xs) (little 4 0) ∙ ap (λ (r : List ℕ). little 4 (4 + length x) ++ r) (append_assoc x (sized_parts 4 xs) (little 4 0))
      ∙ sym (append_assoc (little 4 (4 + length x)) x (sized_parts 4 xs ++ little 4 0)) in
      subst (λ (s : List ℕ). Pass (part_tests least own i 0 s)) (sym e)
      (parts_more least own i (sized x) (sized_parts 4 xs ++ little 4 0) (number_back 4 (4 + length x) x h.0.0 ∙ sym l) (omega arith) (omega arith) y.1
      (read_each F xs (Bytes-right x (sized_parts 4 xs) rest) h.1 (i + length (sized x))))

  parts_read : OwnRead → (i : ℕ) (l : List ℕ) → Bytes l → PartList 4 Own l → Pass (part_tests least own i 0 l)
  parts_read F i l bs g =
      subst (λ (s : List ℕ). Pass (part_tests least own i 0 s)) (sym g.is)
      (read_each F g.parts (Bytes-left (sized_parts 4 g.parts) (little 4 0) (subst Bytes g.is bs)) g.each i)

-- parts are their last size at least
parts_four : (Own : List ℕ → Type 0) (l : List ℕ) → PartList 4 Own l → 4 ≤ length l
parts_four Own l g = omega (arith, ap length g.is, length-append (sized_parts 4 g.parts) (little 4 0), length-little 4 0)

-- ---- a value

value_told : (named : Bool) → OwnTold 9 (value_tests named) (ValueIs named)
value_told named j v bs low c =
    let k : ℕ = name_length named v in
    let h : 9 + k ≤ length v = leb-true (9 + k) (length v) c.0 in
    let z : get_or v 8 0 ≡ 0 = eqb-true (get_or v 8 0) 0 c.1.0 in
    let x : List ℕ = drop 4 v in
    let f : u32_at x 0 ≡ u32_at v 4 = number_drop 4 4 v 0 in
    let d : drop 4 x ≡ 0 ∷ drop 9 v = drop-drop 4 4 v ∙ drop-cons v 8 0 (omega arith) ∙ ap (λ (a : ℕ). a ∷ drop 9 v) z in
    let n : length (drop 9 v) ≡ length v - 9 = length-drop 9 v in
    record {
      field = u32_at v 4;
      name = take k (drop 9 v);
      raw = drop k (drop 9 v);
      is = first_field 4 x (Bytes-drop 4 v bs) (omega (arith, length-drop 4 v)) ∙ rw (f, d, take-append-drop k (drop 9 v));
      fits = number_below 4 v 4 bs;
      name_length = length-take-le k (drop 9 v) (omega arith);
    }

value_read : (named : Bool) → OwnRead 9 (value_tests named) (ValueIs named)
value_read named j x bs g =
    let t : List ℕ = g.name ++ g.raw in
    let v : List ℕ = sized x in
    let d : drop 4 v ≡ little 4 g.field ++ (0 ∷ t) = drop-sized x ∙ g.is in
    let f : u32_at v 4 ≡ g.field = sym (number_drop 4 4 v 0) ∙ ap (λ (l : List ℕ). u32_at l 0) d ∙ number_back 4 g.field (0 ∷ t) g.fits in
    let e : drop 8 v ≡ 0 ∷ t = sym (drop-drop 4 4 v) ∙ ap (drop 4) d ∙ drop_at (little 4 g.field) (0 ∷ t) 4 (length-little 4 g.field) in
    let z : get_or v 8 0 ≡ 0 = sym (get_or-drop 8 v 0 0) ∙ ap (λ (l : List ℕ). get_or l 0 0) e in
    let m : length x ≡ 5 + (length g.name + length g.raw)
    = ap length g.is ∙ length-append (little 4 g.field) (0 ∷ t) ∙ ap (λ (n : ℕ). n + suc (length t)) (length-little 4 g.field) ∙ omega (arith, length-append g.name g.raw) in
    let n : name_length named v ≡ length g.name = ap (λ (k : ℕ). cond named k 0) f ∙ sym g.name_length in
    let l = length-sized x in
    (omega arith, (le-leb (9 + name_length named v) (length v) (omega arith), (eq-eqb (get_or v 8 0) 0 z, tt)))

-- ---- a storage

named_whole : number_at 16 named_bytes 0 ≡ number named_bytes
unfolding number_at number
named_whole = refl

-- the sixteen bytes of the named format
named_told : (b : List ℕ) → Bytes b → length b ≡ 16 → (t : Bool) → is_named b ≡ t → If t (b ≡ named_bytes) (b ≡ named_bytes → ⊥)
unfolding is_named number little
named_told b bs n true e = sym (take_all 16 b (omega arith)) ∙ Bytes-here 16 (number named_bytes) b 0 bs (omega arith) (eqb-true _ _ e)
named_told b bs n false e = λ z. eqb-false (number_at 16 b 0) (number named_bytes) e (ap (λ (l : List ℕ). number_at 16 l 0) z ∙ named_whole)

named_read : (b : List ℕ) → Bytes b → length b ≡ 16 → (t : Bool) → If t (b ≡ named_bytes) (b ≡ named_bytes → ⊥) → is_named b ≡ t
named_read b bs n t g = go (is_named b) refl t g
  where
    go : (u : Bool) → is_named b ≡ u → (t : Bool) → If t (b ≡ named_bytes) (b ≡ named_bytes → ⊥) → is_named b ≡ t
    go true e true g = e
    go true e false g = absurd (g (named_told b bs n true e))
    go false e true g = absurd (named_told b bs n false e g)
    go false e false g = e

storage_told : OwnTold 28 storage_tests StorageIs
storage_told j v bs low c =
    let x : List ℕ = drop 4 v in
    let b : List ℕ = identifier_of v in
    let y : length (drop 8 v) ≡ length v - 8 = length-drop 8 v in
    let n : length b ≡ 16 = length-take-le 16 (drop 8 v) (omega arith) in
    let f : u32_at x 0 ≡ 0x53505331 = number_drop 4 4 v 0 ∙ eqb-true (u32_at v 4) 0x53505331 c.0 in
    let d : drop 4 x ≡ b ++ drop 24 v = drop-drop 4 4 v ∙ sym (take-append-drop 16 (drop 8 v)) ∙ ap (λ (l : List ℕ). b ++ l) (drop-drop 16 8 v) in
    record {
      identifier = b;
      values = drop 24 v;
      named = is_named b;
      is = first_field 4 x (Bytes-drop 4 v bs) (omega (arith, length-drop 4 v)) ∙ rw (f, d);
      sixteen = n;
      is_named = named_told b (Bytes-take 16 (drop 8 v) (Bytes-drop 8 v bs)) n (is_named b) refl;
      is_values = parts_told 9 (value_tests (is_named b)) (ValueIs (is_named b)) (omega arith) (value_told (is_named b)) (j + 24) (drop 24 v) (Bytes-drop 24 v bs) c.1;
    }

storage_read : OwnRead 28 storage_tests StorageIs
storage_read j x bs g =
    let t : List ℕ = g.identifier ++ g.values in
    let v : List ℕ = sized x in
    let bt : Bytes t = Bytes-right (little 4 0x53505331) t (subst Bytes g.is bs) in
    let d : drop 4 v ≡ little 4 0x53505331 ++ t = drop-sized x ∙ g.is in
    let f : u32_at v 4 ≡ 0x53505331 = sym (number_drop 4 4 v 0) ∙ ap (λ (l : List ℕ). u32_at l 0) d ∙ number_back 4 0x53505331 t (omega arith) in
    let e : drop 8 v ≡ t = sym (drop-drop 4 4 v) ∙ ap (drop 4) d ∙ drop_at (little 4 0x53505331) t 4 (length-little 4 0x53505331) in
    let i : identifier_of v ≡ g.identifier = ap (take 16) e ∙ take_at g.identifier g.values 16 g.sixteen in
    let w : drop 24 v ≡ g.values = sym (drop-drop 16 8 v) ∙ ap (drop 16) e ∙ drop_at g.identifier g.values 16 g.sixteen in
    let n : is_named (identifier_of v) ≡ g.named = ap is_named i ∙ named_read g.identifier (Bytes-left g.identifier g.values bt) g.sixteen g.named g.is_named in
    let m : length x ≡ 4 + length t = ap length g.is ∙ length-append (little 4 0x53505331) t ∙ ap (λ (k : ℕ). k + length t) (length-little 4 0x53505331) in
    let four : 4 ≤ length g.values = parts_four (ValueIs g.named) g.values g.is_values in
    let c = parts_read 9 (value_tests g.named) (ValueIs g.named) (value_read g.named) (j + 24) g.values (Bytes-right g.identifier g.values bt) g.is_values in
    (omega (arith, length-append g.identifier g.values, g.sixteen), (eq-eqb (u32_at v 4) 0x53505331 f, rw (n, w) c))

-- ---- the store

pub store_told : (i : ℕ) (l : List ℕ) → Bytes l → Pass (store_tests i l) → StoreIs l
unfolding store_tests
store_told i l bs c = parts_told 28 storage_tests StorageIs (omega arith) storage_told i l bs c

pub store_read : (i : ℕ) (l : List ℕ) → Bytes l → StoreIs l → Pass (store_tests i l)
unfolding store_tests
store_read i l bs g = parts_read 28 storage_tests StorageIs storage_read i l bs g
