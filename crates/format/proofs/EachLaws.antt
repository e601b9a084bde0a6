-- Where the tests of a list may fail: each at a field that is there, as far as the tests before it hold.
use mathlib.Core.Path.{◌≡◌, refl, sym}
use mathlib.Core.List.{List, [], ◌∷◌, ◌++◌, map}
use mathlib.Core.Bool.{Bool, true, false, not, ◌&&◌, ◌||◌, cond}
use Prim.Native.Nat.{ℕ, zero, suc, ◌+◌, ◌-◌, ◌*◌, ◌≤◌, ◌<◌}
use native.Mathlib.Omega.{arith}
use lib.ListN.{length, take, drop}
use lib.Dec.{leb, ltb, eqb}
use borrow.Author.Tests.{leb-true, ltb-true}
use Rattle.std.specs.Prelude.{IfSome, Some}
use Rattle.octets.specs.Numbers.{u32_at}
use Rattle.format.specs.declared.Fault.{Fault}
use Rattle.format.specs.declared.Fault.TheVariants.{Piece as PIECE}
use Rattle.format.specs.declared.Place.{Place}
use Rattle.format.specs.Tests.{Test, ◌else◌at◌, inside, place, no_place}
use Rattle.format.specs.Items.{item_tests}
use Rattle.format.specs.Pieces.{Piece, text_tests, text_piece, struct_tests, uncut, tests_of, each_ok, span, led, apart_from, apart_tests, piece_tests}
use Rattle.format.specs.Volume.{label_unicode, label_offset, label_field, label_least, volume_rules}
use Rattle.format.specs.Network.{network_unicode, has_device, network_head, network_pieces, network_head_tests, network_rules}
use Rattle.format.specs.Steps.ItemWalk.{walk}
use Rattle.format.specs.Steps.Wrong.{wrong}
use Rattle.format.proofs.Bools.{and-true, and_both, by_order, clash}
use Rattle.format.proofs.Chains.{Pass}
use Rattle.format.proofs.Intervals.{apart_before}
use Rattle.format.proofs.Holds.{network_head_holds}

-- a rule that is only for some
pub unless_false : (u x : Bool) → (not u || x) ≡ false → u ≡ true
unless_false true x e = refl
unless_false false x e = sym e

unless_true : (u x : Bool) → (not u || x) ≡ true → u ≡ true → x ≡ true
unless_true true x e f = e
unless_true false x e f = clash f refl

-- ---- lists of tests

-- X allows each test to fail where it is, if those before it hold
abbrev pub Each : (Fault → ℕ → Type 0) → List Test → Type 0
Each X [] = Unit {0}
Each X (t ∷ ts) = (t.holds ≡ false → X t.fault t.field) × (t.holds ≡ true → Each X ts)

abbrev fields_below : ℕ → List Test → Bool
fields_below n [] = true
fields_below n (t ∷ ts) = ltb t.field n && fields_below n ts

module _ (X : Fault → ℕ → Type 0) where
  pub Each-append : (ts us : List Test) → Each X ts → (Pass ts → Each X us) → Each X (ts ++ us)
  Each-append [] us h k = k tt
  Each-append (t ∷ ts) us h k = (h.0, λ e. Each-append ts us (h.1 e) (λ c. k (e, c)))

  Each-inside : (o : ℕ) (ts : List Test) → Each (λ f i. X f (o + i)) ts → Each X (inside o ts)
  Each-inside o [] h = tt
  Each-inside o (t ∷ ts) h = (h.0, λ e. Each-inside o ts (h.1 e))

  pub Each-below : (n : ℕ) (ts : List Test) → ((f : Fault) (i : ℕ) → i < n → X f i) → fields_below n ts ≡ true → Each X ts
  Each-below n [] g e = tt
  Each-below n (t ∷ ts) g e =
      let (a, b) = and-true (ltb t.field n) (fields_below n ts) e in
      ((λ z. g t.fault t.field (ltb-true t.field n a)), λ z. Each-below n ts g b)

  -- the first wrong field is one of those
  pub Each-wrong : (ts : List Test) → Each X ts → (Y : ℕ → Type 0) → ((f : Fault) (i : ℕ) → X f i → Y i) → IfSome (wrong ts) Y
  Each-wrong [] h Y some = tt
  Each-wrong (t ∷ ts) h Y some = go t.holds refl (λ e. Each-wrong ts (h.1 e) Y some)
    where
      go : (b : Bool) → t.holds ≡ b → (t.holds ≡ true → IfSome (wrong ts) Y) → IfSome (cond b (wrong ts) (Some t.field)) Y
      go true e f = f e
      go false e f = some t.fault t.field (h.0 e)

  -- ---- items: each size stands before the end, but the one after the last item

  pub Each-items : (f : Fault) (i k : ℕ) (l : List ℕ) → k ≤ length l → ((j : ℕ) → j < i + (length l - k) → X f j)
      → ((j : ℕ) → j ≡ i + (length l - k) → walk k (l ++ 0 ∷ 0 ∷ []) ≡ true → X f j) → Each X (item_tests f i k l)
  unfolding item_tests walk
  Each-items f i zero [] h g e = ((λ z. e i (omega arith) refl), λ z. tt)
  Each-items f i zero (a ∷ []) h g e = ((λ z. g i (omega arith)), λ z. tt)
  Each-items f i zero (a ∷ b ∷ l) h g e = go (eqb (a + 256 * b) 0) refl (λ u v. Each-items f (i + (a + 256 * b)) (a + 256 * b - 2) l v)
    where
      here : X f i
      here = g i (omega arith)

      go : (t : Bool) → eqb (a + 256 * b) 0 ≡ t
          → (2 ≤ a + 256 * b → a + 256 * b - 2 ≤ length l → ((j : ℕ) → j < i + (a + 256 * b) + (length l - (a + 256 * b - 2)) → X f j)
          → ((j : ℕ) → j ≡ i + (a + 256 * b) + (length l - (a + 256 * b - 2)) → walk (a + 256 * b - 2) (l ++ 0 ∷ 0 ∷ []) ≡ true → X f j)
          → Each X (item_tests f (i + (a + 256 * b)) (a + 256 * b - 2) l))
          → Each X (cond t (eqb (length l) 0 else f at i ∷ []) (leb 2 (a + 256 * b) else f at i ∷ leb (a + 256 * b - 2) (length l) else f at i ∷ item_tests f (i + (a + 256 * b)) (a + 256 * b - 2) l))
      go true t r = ((λ z. here), λ z. tt)
      go false t r = (
        (λ z. here),
        λ c. (
          (λ z. here),
          λ d.
              let u : 2 ≤ a + 256 * b = leb-true 2 (a + 256 * b) c in
              let v : a + 256 * b - 2 ≤ length l = leb-true (a + 256 * b - 2) (length l) d in
              r u v (λ j q. g j (omega arith)) (λ j q w. e j (omega arith) (rw t (and_both (leb 2 (a + 256 * b)) _ c w))),
        ),
      )
  Each-items f i (suc k) [] h g e = absurd (omega arith)
  Each-items f i (suc k) (a ∷ l) h g e = Each-items f i k l (omega arith) (λ j q. g j (omega arith)) (λ j q w. e j (omega arith) w)

  -- ---- pieces

  -- its offset field and its own tests, if it is there
  abbrev PieceIn : Piece → Type 0
  PieceIn x = x.present ≡ true → X PIECE x.field × Each X x.own

  abbrev pub PiecesIn : List Piece → Type 0
  PiecesIn [] = Unit {0}
  PiecesIn (x ∷ xs) = PieceIn x × PiecesIn xs

  Each-of : (head : ℕ) (x : Piece) → PieceIn x → Each X (tests_of head x)
  Each-of head x h = go x.present h
    where
      go : (b : Bool) → (b ≡ true → X PIECE x.field × Each X x.own) → Each X (cond b (leb head x.offset else PIECE at x.field ∷ x.own) [])
      go true h = ((λ e. (h refl).0), λ e. (h refl).1)
      go false h = tt

  Each-own : (head : ℕ) (xs : List Piece) → PiecesIn xs → Each X (each_ok head xs)
  Each-own head [] h = tt
  Each-own head (x ∷ xs) h = Each-append (tests_of head x) (each_ok head xs) (Each-of head x h.0) (λ c. Each-own head xs h.1)

  none_apart : (bs : List Place) → apart_from no_place bs ≡ true
  none_apart [] = refl
  none_apart (b ∷ bs) = and_both _ (apart_from no_place bs) (apart_before no_place b (omega arith)) (none_apart bs)

  -- what is absent shares no byte
  Each-apart : (bs : List Place) (xs : List Piece) → PiecesIn xs → Each X (apart_tests bs (map led xs))
  Each-apart bs [] h = tt
  Each-apart bs (x ∷ xs) h = (go x.present h.0, λ e. Each-apart (span x ∷ bs) xs h.1)
    where
      go : (b : Bool) → (b ≡ true → X PIECE x.field × Each X x.own) → apart_from (cond b (place x.offset x.size) no_place) bs ≡ false → X PIECE x.field
      go true h e = (h refl).0
      go false h e = clash (none_apart bs) e

  pub Each-piece : (head : ℕ) (xs : List Piece) → PiecesIn xs → Each X (piece_tests head xs)
  Each-piece head xs h = Each-append (each_ok head xs) (apart_tests [] (map led xs)) (Each-own head xs h) (λ c. Each-apart [] xs h)

  pub Each-text : (i : ℕ) (u : Bool) (l : List ℕ) → X PIECE i → X PIECE i × Each X (text_tests i u l)
  Each-text i u l x = (x, ((λ e. x), λ e. tt))

  pub Each-struct : (i o least : ℕ) (rules : List ℕ → List Test) (l : List ℕ) → X PIECE i → (4 ≤ length l → X PIECE (o + 0))
      → (u32_at l 0 ≤ length l → least ≤ u32_at l 0 → Each (λ f j. X f (o + j)) (rules (take (u32_at l 0) l))) → Each X (struct_tests i o least rules l)
  Each-struct i o least rules l a b c = (
    (λ e. a),
    λ d. (
      (λ e. a),
      λ e.
          Each-inside o (leb least (u32_at l 0) else PIECE at 0 ∷ rules (take (u32_at l 0) l))
          ((λ g. b (leb-true 4 (length l) d)), λ g. c (leb-true (u32_at l 0) (length l) e) (leb-true least (u32_at l 0) g)),
    ),
  )

  -- ---- the structures in LinkInfo: their fields stand inside, but for the two that a network link may lack

  pub Each-volume : (v : List ℕ) → 0x11 ≤ length v → ((j : ℕ) → j < length v → X PIECE j) → Each X (volume_rules v)
  Each-volume v h g = (
    (λ e. g 4 (omega arith)),
    λ e. (
      (λ e. g 16 (omega arith)),
      λ e.
          Each-of (label_least (label_unicode v)) (text_piece true (label_unicode v) v (label_field v) (label_offset v))
          (λ e. Each-text (label_field v) (label_unicode v) (drop (label_offset v) v) (g (label_field v) (below (label_unicode v)))),
    ),
  )
    where
      below : (u : Bool) → cond u 16 12 < length v
      below true = omega arith
      below false = omega arith

  module _ (v : List ℕ) (h : 0x14 ≤ length v) (g : (j : ℕ) → j < length v → X PIECE j)
      (first : network_unicode v ≡ true → length v ≡ 0x14 → X PIECE 20) (second : network_unicode v ≡ true → length v ≡ 0x18 → X PIECE 24) where
    cut_first : uncut (network_unicode v) 0x18 v ≡ false → X PIECE 20
    cut_first e =
        by_order 21 (length v) (λ k. g 20 (omega arith)) (λ k. first (unless_false (network_unicode v) _ e) (omega arith))

    cut_second : uncut (network_unicode v) 0x18 v ≡ true → uncut (network_unicode v) 0x1C v ≡ false → X PIECE 24
    cut_second c e =
        let u : network_unicode v ≡ true = unless_false (network_unicode v) _ e in
        let r : 0x18 ≤ length v = leb-true 0x18 (length v) (unless_true (network_unicode v) _ c u) in
        by_order 25 (length v) (λ k. g 24 (omega arith)) (λ k. second u (omega arith))

    long : uncut (network_unicode v) 0x1C v ≡ true → network_unicode v ≡ true → 0x1C ≤ length v
    long c u = leb-true 0x1C (length v) (unless_true (network_unicode v) _ c u)

    network_pieces_lem : uncut (network_unicode v) 0x1C v ≡ true → PiecesIn (network_pieces v)
    network_pieces_lem c = (
      (λ e. Each-text 8 false (drop (u32_at v 8) v) (g 8 (omega arith))),
      (
        (λ e. Each-text 12 false (drop (u32_at v 12) v) (g 12 (omega arith))),
        (
          (λ e. Each-text 20 true (drop (u32_at v 20) v) (g 20 (omega (arith, long c e)))),
          ((λ e. Each-text 24 true (drop (u32_at v 24) v) (g 24 (omega (arith, long c (and-true (network_unicode v) (has_device v) e).0)))), tt),
        ),
      ),
    )

    pub Each-network : Each X (network_rules v)
    Each-network =
        Each-append (network_head_tests v) (piece_tests (network_head (network_unicode v)) (network_pieces v)) (
          (λ e. g 4 (omega arith)),
          λ e. (
            (λ e. g 8 (omega arith)),
            λ e. (
              cut_first,
              λ c. (
                cut_second c,
                λ d.
                    ((λ e. g 12 (omega arith)), λ e. ((λ e. g 24 (omega (arith, long d (unless_false (network_unicode v) _ e)))), λ e. tt)),
              ),
            ),
          ),
        )
        (λ c. Each-piece (network_head (network_unicode v)) (network_pieces v) (network_pieces_lem (network_head_holds v c).device_unicode_field))
