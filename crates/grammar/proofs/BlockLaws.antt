-- One block: its row of the table.
use mathlib.Core.Path.{◌≡◌, refl, sym, ap, subst, ◌∙◌}
use mathlib.Core.List.{List, [], ◌∷◌, ◌++◌}
use mathlib.Core.Bool.{Bool, true, false, cond}
use Prim.Native.Nat.{ℕ, suc, ◌+◌, ◌-◌, ◌≤◌, ◌<◌}
use native.Mathlib.Omega.{arith}
use lib.ListN.{length, take, drop, take-append-drop, length-drop}
use lib.Seq.{length-take-le, take_all, take_at, drop_at, drop-drop}
use lib.Dec.{leb, eqb}
use borrow.Author.Tests.{leb-true, le-leb, ltb-true, eqb-true, eq-eqb, ne_eqb}
use Rattle.octets.specs.Numbers.{Bytes}
use Rattle.octets.proofs.NumberLaws.{Bytes-drop}
use Rattle.format.specs.declared.Fault.TheVariants.{Block as BLOCK}
use Rattle.format.specs.Items.{item_tests}
use Rattle.format.specs.Blocks.{SizeRule, signatures, slot_in, slot_of, size_fits, path_tests, inside_tests, known}
use Rattle.format.proofs.Bools.{clash}
use Rattle.format.proofs.Chains.{Pass, Pass-all, all-Pass}
use Rattle.format.proofs.ItemsLaws.{tests_walk}
use Rattle.grammar.specs.Grammar.{EachOf, PathTexts, ItemList, known_rows}
use Rattle.grammar.proofs.TextLaws.{Text-at, Text-there}
use Rattle.grammar.proofs.ItemLaws.{walk_items, items_walk}
use Rattle.grammar.proofs.StoreLaws.{store_told, store_read}

-- ---- what a block holds

path_told : (b : List ℕ) → length b ≡ 0x314 → Pass (path_tests b) → PathTexts (drop 8 b)
path_told b n c =
    let x : List ℕ = take 260 (drop 8 b) in
    let y : List ℕ = take 520 (drop 268 b) in
    let l : length (drop 8 b) ≡ length b - 8 = length-drop 8 b in
    let m : length (drop 268 b) ≡ length b - 268 = length-drop 268 b in
    let w : drop 260 (drop 8 b) ≡ y = drop-drop 260 8 b ∙ sym (take_all 520 (drop 268 b) (omega arith)) in
    record {
      bytes = x;
      units = y;
      is = sym (take-append-drop 260 (drop 8 b)) ∙ ap (λ (k : List ℕ). x ++ k) w;
      bytes_room = length-take-le 260 (drop 8 b) (omega arith);
      units_room = length-take-le 520 (drop 268 b) (omega arith);
      bytes_text = (_, Text-at false x 0 c.0);
      units_text = (_, Text-at true y 0 c.1.0);
    }

path_read : (b : List ℕ) → PathTexts (drop 8 b) → Pass (path_tests b)
path_read b g =
    let x : take 260 (drop 8 b) ≡ g.bytes = ap (take 260) g.is ∙ take_at g.bytes g.units 260 g.bytes_room in
    let d : drop 268 b ≡ g.units = sym (drop-drop 260 8 b) ∙ ap (drop 260) g.is ∙ drop_at g.bytes g.units 260 g.bytes_room in
    let y : take 520 (drop 268 b) ≡ g.units = ap (take 520) d ∙ take_all 520 g.units (omega (arith, g.units_room)) in
    let s = Text-there false g.bytes 0 g.bytes_text.0 g.bytes_text.1 in
    let t = Text-there true g.units 0 g.units_text.0 g.units_text.1 in
    (rw x s.ends, (rw y t.ends, tt))

list_told : (b : List ℕ) → Bytes b → Pass (item_tests BLOCK 8 0 (drop 8 b)) → ItemList (drop 8 b)
list_told b bs c = walk_items (drop 8 b) (Bytes-drop 8 b bs) (sym (tests_walk BLOCK 8 0 (drop 8 b)) ∙ Pass-all (item_tests BLOCK 8 0 (drop 8 b)) c)

list_read : (b : List ℕ) → ItemList (drop 8 b) → Pass (item_tests BLOCK 8 0 (drop 8 b))
list_read b g = all-Pass (item_tests BLOCK 8 0 (drop 8 b)) (tests_walk BLOCK 8 0 (drop 8 b) ∙ items_walk (drop 8 b) g)

-- ---- by its signature

-- the rows of a block with the signature x that holds s
abbrev pub ByRows : ℕ → List ℕ → Type 0
ByRows x s = EachOf (λ (y, (Size, Further)). x ≡ y → Size (8 + length s) × Further s) known_rows

-- the tests of a block with the signature x
abbrev RowTests : ℕ → List ℕ → Type 0
RowTests x b = (size_fits (slot_of x) (length b) ≡ true) × Pass (inside_tests (slot_of x) b)

module _ (b : List ℕ) (n : length b ≡ 8 + length (drop 8 b)) where
  abbrev Exact : ℕ → Type 0
  Exact m = 8 + length (drop 8 b) ≡ m

  abbrev Least : ℕ → Type 0
  Least m = m ≤ 8 + length (drop 8 b)

  size_exact : (m : ℕ) → eqb (length b) m ≡ true → Exact m
  size_exact m e = sym n ∙ eqb-true (length b) m e

  size_least : (m : ℕ) → leb m (length b) ≡ true → Least m
  size_least m e = let h = leb-true m (length b) e in omega arith

  exact_size : (m : ℕ) → Exact m → eqb (length b) m ≡ true
  exact_size m e = eq-eqb (length b) m (n ∙ e)

  least_size : (m : ℕ) → Least m → leb m (length b) ≡ true
  least_size m h = le-leb m (length b) (omega arith)

  pub rows_told : Bytes b → (x : ℕ) → RowTests x b → ByRows x (drop 8 b)
  unfolding slot_of size_fits inside_tests
  rows_told bs x c = (
    (λ e. paths (at e)),
    (
      (λ e. (size_exact 0xCC (at e).0, tt)),
      (
        (λ e. (size_exact 0x60 (at e).0, tt)),
        (
          (λ e. (size_exact 0x0C (at e).0, tt)),
          (
            (λ e. (size_exact 0x10 (at e).0, tt)),
            (
              (λ e. paths (at e)),
              (
                (λ e. paths (at e)),
                (
                  (λ e. (size_least 0x88 (at e).0, tt)),
                  (
                    (λ e. let r = at e in (size_least 0x0C r.0, store_told 8 (drop 8 b) (Bytes-drop 8 b bs) r.1)),
                    (
                      (λ e. (size_exact 0x1C (at e).0, tt)),
                      (
                        (λ e. let r = at e in (size_least 0x0A r.0, list_told b bs r.1)),
                        tt,
                      ),
                    ),
                  ),
                ),
              ),
            ),
          ),
        ),
      ),
    ),
  )
    where
      at : {y : ℕ} → x ≡ y → RowTests y b
      at e = subst (λ (z : ℕ). RowTests z b) e c

      paths : (eqb (length b) 0x314 ≡ true) × Pass (path_tests b) → Exact 0x314 × PathTexts (drop 8 b)
      paths r = let s = size_exact 0x314 r.0 in (s, path_told b (n ∙ s) r.1)

  -- x is this signature, or is not
  decide {ℓ} : {X : Type ℓ} (x y : ℕ) → (x ≡ y → X) → (eqb x y ≡ false → X) → X
  decide {X = X} x y f g = go (eqb x y) refl
    where
      go : (t : Bool) → eqb x y ≡ t → X
      go true e = f (eqb-true x y e)
      go false e = g e

  pub rows_read : Bytes b → (x : ℕ) → ByRows x (drop 8 b) → RowTests x b
  unfolding slot_of size_fits inside_tests
  rows_read bs x (g1, (g2, (g3, (g4, (g5, (g6, (g7, (g8, (g9, (g10, (g11, z))))))))))) =
      decide x 0xA0000001 (λ e. to e (let r = g1 e in (exact_size 0x314 r.0, path_read b r.1))) (λ o1.
      decide x 0xA0000002 (λ e. to e (exact_size 0xCC (g2 e).0, tt)) (λ o2.
      decide x 0xA0000003 (λ e. to e (exact_size 0x60 (g3 e).0, tt)) (λ o3.
      decide x 0xA0000004 (λ e. to e (exact_size 0x0C (g4 e).0, tt)) (λ o4.
      decide x 0xA0000005 (λ e. to e (exact_size 0x10 (g5 e).0, tt)) (λ o5.
      decide x 0xA0000006 (λ e. to e (let r = g6 e in (exact_size 0x314 r.0, path_read b r.1))) (λ o6.
      decide x 0xA0000007 (λ e. to e (let r = g7 e in (exact_size 0x314 r.0, path_read b r.1))) (λ o7.
      decide x 0xA0000008 (λ e. to e (least_size 0x88 (g8 e).0, tt)) (λ o8.
      decide x 0xA0000009 (λ e. to e (let r = g9 e in (least_size 0x0C r.0, store_read 8 (drop 8 b) (Bytes-drop 8 b bs) r.1))) (λ o9.
      decide x 0xA000000B (λ e. to e (exact_size 0x1C (g10 e).0, tt)) (λ o10.
      decide x 0xA000000C (λ e. to e (let r = g11 e in (least_size 0x0A r.0, list_read b r.1))) (λ o11.
      rw (o1, o2, o3, o4, o5, o6, o7, o8, o9, o10, o11) (refl, tt))))))))))))
    where
      to : {y : ℕ} → x ≡ y → RowTests y b → RowTests x b
      to e r = subst (λ (z : ℕ). RowTests z b) (sym e) r

-- ---- known signatures

-- it has none of the table
abbrev pub Unknown : ℕ → Type 0
Unknown x = EachOf (λ (z, row). x ≡ z → ⊥) known_rows

pub Unknown-told : (x : ℕ) → known (slot_of x) ≡ false → Unknown x
unfolding slot_of
Unknown-told x e = (no refl, (no refl, (no refl, (no refl, (no refl, (no refl, (no refl, (no refl, (no refl, (no refl, (no refl, tt)))))))))))
  where
    no : {y : ℕ} → known (slot_of y) ≡ true → x ≡ y → ⊥
    no k q = clash k (ap (λ (z : ℕ). known (slot_of z)) (sym q) ∙ e)

pub Unknown-read : (x : ℕ) → Unknown x → known (slot_of x) ≡ false
unfolding slot_of
Unknown-read x (u1, (u2, (u3, (u4, (u5, (u6, (u7, (u8, (u9, (u10, (u11, z))))))))))) =
    rw (ne_eqb x 0xA0000001 u1, ne_eqb x 0xA0000002 u2, ne_eqb x 0xA0000003 u3, ne_eqb x 0xA0000004 u4, ne_eqb x 0xA0000005 u5, ne_eqb x 0xA0000006 u6, ne_eqb x 0xA0000007 u7, ne_eqb x 0xA0000008 u8, ne_eqb x 0xA0000009 u9, ne_eqb x 0xA000000B u10, ne_eqb x 0xA000000C u11)

-- one slot, one signature
slot_same : (rows : List (ℕ × SizeRule)) (x y : ℕ) → slot_in rows x ≡ slot_in rows y → slot_in rows x < length rows → x ≡ y
slot_same [] x y e h = absurd (omega arith)
slot_same (r ∷ rows) x y e h = go (eqb x r.0) refl (eqb y r.0) refl e h (slot_same rows x y)
  where
    go : (a : Bool) → eqb x r.0 ≡ a → (b : Bool) → eqb y r.0 ≡ b → cond a 0 (suc (slot_in rows x)) ≡ cond b 0 (suc (slot_in rows y))
        → cond a 0 (suc (slot_in rows x)) < suc (length rows) → (slot_in rows x ≡ slot_in rows y → slot_in rows x < length rows → x ≡ y) → x ≡ y
    go true p true q e h f = eqb-true x r.0 p ∙ sym (eqb-true y r.0 q)
    go true p false q e h f = absurd (omega arith)
    go false p true q e h f = absurd (omega arith)
    go false p false q e h f = f (omega arith) (omega arith)

pub known_same : (x y : ℕ) → slot_of x ≡ slot_of y → known (slot_of x) ≡ true → x ≡ y
unfolding slot_of
known_same x y e k = slot_same signatures x y e (ltb-true (slot_in signatures x) 11 k)
