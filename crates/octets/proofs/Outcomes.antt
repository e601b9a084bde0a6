-- What it means that a contract leaves no freedom: any two outcomes that it allows are equal.
use mathlib.Core.Path.{◌≡◌, refl, sym, ◌∙◌}
use mathlib.Core.List.{List, [], ◌∷◌}
use Prim.Native.Nat.{ℕ}
use borrow.Fn.World.{ArgsD, ResD}
use contract.Lifetimes.{Lfts}
use denote.Triple.Clauses.{Ended, AtExit}
use Rattle.std.specs.Prelude.{Option, Some, None, MatchOption}
use Rattle.std.specs.Option.{option_map}

module _ (T : Ended) where
  abbrev pub LftsOf : Type 0
  LftsOf = Lfts T.signature.lifetimes

  -- what a contract says of the arguments, the answer and the parameters at exit
  abbrev pub Says : Type 1
  Says = (κs : LftsOf) → ArgsD T.signature κs → ResD T.signature κs → AtExit T κs → Type 0

  -- whatever is the same in any two outcomes
  abbrev pub Alike : ((κs : LftsOf) (r q : ResD T.signature κs) (s t : AtExit T κs) → Type 0) → Says → Type 0
  Alike same Post = (κs : LftsOf) (a : ArgsD T.signature κs) (r q : ResD T.signature κs) (s t : AtExit T κs) → Post κs a r s → Post κs a q t → same κs r q s t

  abbrev pub OneAnswer : Says → Type 0
  OneAnswer = Alike (λ κs r q s t. r ≡ q)

  -- a part of the caller's own bytes is seen by its content
  abbrev pub OneShown : ((κs : LftsOf) → ResD T.signature κs → List ℕ) → Says → Type 0
  OneShown seen = Alike (λ κs r q s t. seen κs r ≡ seen κs q)

  -- one answer, and one content of the buffer
  abbrev pub OneOutcome : ((κs : LftsOf) → AtExit T κs → List ℕ) → Says → Type 0
  OneOutcome out = Alike (λ κs r q s t. (r ≡ q) × (out κs s ≡ out κs t))

  -- of an iterator: one item, as it is seen, and the same items left
  abbrev pub OneItem : {A B : Type 0} → ((κs : LftsOf) → ResD T.signature κs → A) → ((κs : LftsOf) → AtExit T κs → B) → Says → Type 0
  OneItem item left = Alike (λ κs r q s t. (item κs r ≡ item κs q) × (left κs s ≡ left κs t))

-- ---- the first of the items that are left, and the others

module _ {A B : Type 0} (seen : A → B) where
  -- r is the first of l as it is seen, and m are the others; with none left it is none
  abbrev First : List B → Option A → List B → Type 0
  First l r m = MatchOption r ((l ≡ []) × (m ≡ [])) (λ x. l ≡ seen x ∷ m)

  pub one_first : (l : List B) (r q : Option A) (m n : List B) → First l r m → First l q n → (option_map seen r ≡ option_map seen q) × (m ≡ n)
  one_first l None None m n p o = (refl, p.1 ∙ sym o.1)
  one_first l None (Some y) m n p o = let z = sym p.0 ∙ o in cc
  one_first l (Some x) None m n p o = let z = sym o.0 ∙ p in cc
  one_first l (Some x) (Some y) m n p o =
      let z : ◌≡◌ {A = List B} (seen x ∷ m) (seen y ∷ n) = sym p ∙ o in
      (cc, cc)

itself : {A : Type 0} (r : Option A) → option_map (λ x. x) r ≡ r
itself None = refl
itself (Some x) = refl

pub one_item : {A : Type 0} (l : List A) (r q : Option A) (m n : List A) → First (λ x. x) l r m → First (λ x. x) l q n → (r ≡ q) × (m ≡ n)
one_item l r q m n p o = let e = one_first (λ x. x) l r q m n p o in (sym (itself r) ∙ e.0 ∙ itself q, e.1)
