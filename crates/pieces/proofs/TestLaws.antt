-- Chains of tests one after another, and of which fields those of pieces are.
use mathlib.Core.Path.{◌≡◌, refl}
use mathlib.Core.List.{List, [], ◌∷◌, ◌++◌, map, append-nil}
use mathlib.Core.Bool.{Bool, true, false, cond}
use Prim.Native.Nat.{ℕ, ◌+◌, ◌≤◌}
use native.Mathlib.Omega.{arith}
use lib.ListN.{length}
use lib.Dec.{leb}
use borrow.Author.Tests.{leb-true}
use Rattle.std.specs.Prelude.{Result, Ok, Err}
use Rattle.format.specs.declared.Place.{Place}
use Rattle.format.specs.declared.Fault.TheVariants.{Piece as PIECE}
use Rattle.format.specs.Tests.{Site, spot_at, Outcome, refused, Test, ◌else◌at◌, tests, inside}
use Rattle.format.specs.Steps.Wrong.{given}
use Rattle.format.specs.Pieces.{Piece, text_piece, uncut, tests_of, each_ok, span, led, apart_tests, piece_tests}
use Rattle.format.proofs.Chains.{no_true}

-- a field that is there and not cut
pub uncut_room : (there : Bool) (end : ℕ) (l : List ℕ) → uncut there end l ≡ true → there ≡ true → end ≤ length l
uncut_room true end l e t = leb-true end (length l) e
uncut_room false end l e t = no_true t

-- ---- one test with its field

pub demand_held : (b : Bool) (i : ℕ) {x : Unit {0}} → Ok x ≡ cond b (Ok tt) (Err i) → b ≡ true
demand_held true i e = refl
demand_held false i e = cc

pub demand_lost : (b : Bool) (i : ℕ) {w : ℕ} → ◌≡◌ {A = Result (Unit {0}) ℕ} (Err w) (cond b (Ok tt) (Err i)) → (b ≡ false) × (w ≡ i)
demand_lost true i e = cc
demand_lost false i e = (refl, cc)

-- ---- tests one after another

-- whether they hold, or the field of the first that fails
abbrev pub told : List Test → Result (Unit {0}) ℕ
told ts = given ts tt

-- the first of these fails, so does the first of more
pub given_lost : {A B : Type 0} (ts us : List Test) (a : A) (b : B) {i : ℕ} → given ts a ≡ Err i → given (ts ++ us) b ≡ Err i
given_lost [] us a b e = cc
given_lost (t ∷ ts) us a b {i} e = go t.holds (given_lost ts us a b) e
  where
    go : (h : Bool) → (given ts a ≡ Err i → given (ts ++ us) b ≡ Err i) → cond h (given ts a) (Err t.field) ≡ Err i → cond h (given (ts ++ us) b) (Err t.field) ≡ Err i
    go true f e = f e
    go false f e = cc

-- all of these hold, so the rest decides
pub given_then : {A B : Type 0} (ts us : List Test) (a : A) (b : B) {x : A} → given ts a ≡ Ok x → given (ts ++ us) b ≡ given us b
given_then [] us a b e = refl
given_then (t ∷ ts) us a b {x} e = go t.holds (given_then ts us a b) e
  where
    go : (h : Bool) → (given ts a ≡ Ok x → given (ts ++ us) b ≡ given us b) → cond h (given ts a) (Err t.field) ≡ Ok x → cond h (given (ts ++ us) b) (Err t.field) ≡ given us b
    go true f e = f e
    go false f e = cc

-- what they are passed on with does not matter
pub same_lost : {A B : Type 0} (ts : List Test) (a : A) (b : B) {i : ℕ} → given ts a ≡ Err i → given ts b ≡ Err i
same_lost ts a b e = rw append-nil at (given_lost ts [] a b e)

pub same_held : {A B : Type 0} (ts : List Test) (a : A) (b : B) {x : A} → given ts a ≡ Ok x → given ts b ≡ Ok b
same_held ts a b e = rw append-nil at (given_then ts [] a b e)

-- the tests of a structure, counted from the start of what holds it
pub inside_lost : {A B : Type 0} (o : ℕ) (ts : List Test) (a : A) (b : B) {i : ℕ} → given ts a ≡ Err i → given (inside o ts) b ≡ Err (o + i)
inside_lost o [] a b e = cc
inside_lost o (t ∷ ts) a b {i} e = go t.holds (inside_lost o ts a b) e
  where
    go : (h : Bool) → (given ts a ≡ Err i → given (inside o ts) b ≡ Err (o + i)) → cond h (given ts a) (Err t.field) ≡ Err i → cond h (given (inside o ts) b) (Err (o + t.field)) ≡ Err (o + i)
    go true f e = f e
    go false f e = cc

pub inside_then : {A B : Type 0} (o : ℕ) (ts : List Test) (a : A) (b : B) {x : A} → given ts a ≡ Ok x → given (inside o ts) b ≡ Ok b
inside_then o [] a b e = refl
inside_then o (t ∷ ts) a b {x} e = go t.holds (inside_then o ts a b) e
  where
    go : (h : Bool) → (given ts a ≡ Ok x → given (inside o ts) b ≡ Ok b) → cond h (given ts a) (Err t.field) ≡ Ok x → cond h (given (inside o ts) b) (Err (o + t.field)) ≡ Ok b
    go true f e = f e
    go false f e = cc

-- ---- tests of fields

-- a test of PIECE, of a field no later than k
pub record Field (k : ℕ) (t : Test) : Type 0 where
  pub piece : t.fault ≡ PIECE
  pub most : t.field ≤ k

-- Each of these tests is one, as long as those before it hold: only a structure that starts inside has no later fields.
abbrev pub Fields : ℕ → List Test → Type 0
Fields k [] = Unit {0}
Fields k (t ∷ ts) = Field k t × (t.holds ≡ true → Fields k ts)

pub here : (k i : ℕ) {b : Bool} → i ≤ k → Field k (b else PIECE at i)
here k i g = record { piece = refl; most = g }

pub Fields-join : (k : ℕ) (ts us : List Test) → Fields k ts → Fields k us → Fields k (ts ++ us)
Fields-join k [] us f g = g
Fields-join k (t ∷ ts) us f g = (f.0, λ e. Fields-join k ts us (f.1 e) g)

pub Fields-inside : (o k m : ℕ) (ts : List Test) → o + k ≤ m → Fields k ts → Fields m (inside o ts)
Fields-inside o k m [] h f = tt
Fields-inside o k m (t ∷ ts) h f = (record { piece = f.0.piece; most = omega (arith, f.0.most) }, λ e. Fields-inside o k m ts h (f.1 e))

-- the first that fails refuses with its field
pub Fields-refused : {A B : Type 0} (k : ℕ) (w : Site) (ts : List Test) (r : Outcome B) (a : A) {i : ℕ} → Fields k ts → given ts a ≡ Err i → tests w ts r ≡ refused PIECE (spot_at w i)
Fields-refused k w [] r a f e = cc
Fields-refused k w (t ∷ ts) r a {i} f e = go t.holds (λ h. Fields-refused k w ts r a (f.1 h)) e
  where
    go : (h : Bool) → (h ≡ true → given ts a ≡ Err i → tests w ts r ≡ refused PIECE (spot_at w i)) → cond h (given ts a) (Err t.field) ≡ Err i
        → cond h (tests w ts r) (refused t.fault (spot_at w t.field)) ≡ refused PIECE (spot_at w i)
    go true g e = g refl e
    go false g e = let q : t.field ≡ i = cc in rw (f.0.piece, q)

pub Fields-most : {A : Type 0} (k : ℕ) (ts : List Test) (a : A) {i : ℕ} → Fields k ts → given ts a ≡ Err i → i ≤ k
Fields-most k [] a f e = cc
Fields-most k (t ∷ ts) a {i} f e = go t.holds (λ h. Fields-most k ts a (f.1 h)) e
  where
    go : (h : Bool) → (h ≡ true → given ts a ≡ Err i → i ≤ k) → cond h (given ts a) (Err t.field) ≡ Err i → i ≤ k
    go true g e = g refl e
    go false g e = let q : t.field ≡ i = cc in omega (arith, f.0.most)

-- tests that hold are passed by
pub tests_passed : {A B : Type 0} (w : Site) (ts : List Test) (r : Outcome B) (a : A) {x : A} → given ts a ≡ Ok x → tests w ts r ≡ r
tests_passed w [] r a e = refl
tests_passed w (t ∷ ts) r a {x} e = go t.holds (tests_passed w ts r a) e
  where
    go : (h : Bool) → (given ts a ≡ Ok x → tests w ts r ≡ r) → cond h (given ts a) (Err t.field) ≡ Ok x → cond h (tests w ts r) (refused t.fault (spot_at w t.field)) ≡ r
    go true f e = f e
    go false f e = cc

-- ---- the tests of all pieces

-- the tests of a piece are of fields up to k
pub record PieceFields (k h : ℕ) (x : Piece) : Type 0 where
  pub most : x.field ≤ k
  pub own : leb h x.offset ≡ true → Fields k x.own

abbrev pub AllFields : ℕ → ℕ → List Piece → Type 0
AllFields k h [] = Unit {0}
AllFields k h (x ∷ xs) = PieceFields k h x × AllFields k h xs

pub text_fields : (k h : ℕ) (b u : Bool) (l : List ℕ) (i o : ℕ) → i ≤ k → PieceFields k h (text_piece b u l i o)
text_fields k h b u l i o g = record { most = g; own = λ e. (here k i g, λ e. tt) }

module _ (k h : ℕ) where
  piece_fields : (x : Piece) → PieceFields k h x → Fields k (tests_of h x)
  piece_fields x f = go x.present
    where
      go : (b : Bool) → Fields k (cond b (leb h x.offset else PIECE at x.field ∷ x.own) [])
      go true = (here k x.field f.most, f.own)
      go false = tt

  each_Fields : (xs : List Piece) → AllFields k h xs → Fields k (each_ok h xs)
  each_Fields [] f = tt
  each_Fields (x ∷ xs) f = Fields-join k (tests_of h x) (each_ok h xs) (piece_fields x f.0) (each_Fields xs f.1)

  apart_Fields : (bs : List Place) (xs : List Piece) → AllFields k h xs → Fields k (apart_tests bs (map led xs))
  apart_Fields bs [] f = tt
  apart_Fields bs (x ∷ xs) f = (here k x.field f.0.most, λ e. apart_Fields (span x ∷ bs) xs f.1)

  pub pieces_Fields : (xs : List Piece) → AllFields k h xs → Fields k (piece_tests h xs)
  pieces_Fields xs f = Fields-join k (each_ok h xs) (apart_tests [] (map led xs)) (each_Fields xs f) (apart_Fields [] xs f)

-- the pieces' own tests come first, in the order of their fields
module _ (h : ℕ) (x : Piece) (xs : List Piece) where
  pub piece_lost : {i : ℕ} → told (tests_of h x) ≡ Err i → told (each_ok h (x ∷ xs)) ≡ Err i
  piece_lost e = given_lost (tests_of h x) (each_ok h xs) tt tt e

  pub piece_then : {y : Unit {0}} → told (tests_of h x) ≡ Ok y → told (each_ok h (x ∷ xs)) ≡ told (each_ok h xs)
  piece_then e = given_then (tests_of h x) (each_ok h xs) tt tt e
