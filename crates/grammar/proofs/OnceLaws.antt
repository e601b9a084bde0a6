-- A known signature stands once: against the blocks before it, as reading has it, and against those after it.
use mathlib.Core.Path.{◌≡◌, refl, sym, ap, subst, ◌∙◌}
use mathlib.Core.List.{List, [], ◌∷◌}
use mathlib.Core.Bool.{Bool, true, false, not, ◌&&◌, ◌||◌}
use Prim.Native.Nat.{ℕ}
use lib.Dec.{eqb}
use borrow.Author.Tests.{eqb-true, eq-eqb}
use Rattle.format.specs.Blocks.{slot_of, known, is_among, once}
use Rattle.format.proofs.Bools.{clash}
use Rattle.grammar.specs.Grammar.{EachOf, KnownOnce}
use Rattle.grammar.proofs.BlockLaws.{Unknown, Unknown-told, Unknown-read, known_same}

-- each block against those before it, of these slots
abbrev pub OnceAfter : List ℕ → List (ℕ × List ℕ) → Type 0
OnceAfter before [] = Unit {0}
OnceAfter before ((x, s) ∷ bs) = (once before (slot_of x) ≡ true) × OnceAfter (slot_of x ∷ before) bs

-- each block against the same ones
abbrev EachOnce : List ℕ → List (ℕ × List ℕ) → Type 0
EachOnce before [] = Unit {0}
EachOnce before ((x, s) ∷ bs) = (once before (slot_of x) ≡ true) × EachOnce before bs

-- ---- one more before

drop_one : (k e a : Bool) → not (k && (e || a)) ≡ true → not (k && a) ≡ true
drop_one true true a h = clash h refl
drop_one true false a h = h
drop_one false e a h = refl

fewer : (y : ℕ) (before : List ℕ) (bs : List (ℕ × List ℕ)) → EachOnce (y ∷ before) bs → EachOnce before bs
fewer y before [] h = tt
fewer y before ((x, s) ∷ bs) h = (drop_one (known (slot_of x)) (eqb (slot_of x) y) (is_among (slot_of x) before) h.0, fewer y before bs h.1)

-- ---- from those before to those after

-- where x stands again it is none of the table
abbrev Again : ℕ → List (ℕ × List ℕ) → Type 0
Again x bs = EachOf (λ (y, t). x ≡ y → Unknown x) bs

other : (x y : ℕ) (before : List ℕ) → once (slot_of x ∷ before) (slot_of y) ≡ true → x ≡ y → Unknown x
other x y before h e =
    Unknown-told x (go (known (slot_of x)) (eqb (slot_of x) (slot_of x)) (is_among (slot_of x) before) (eq-eqb (slot_of x) (slot_of x) refl) (subst (λ (z : ℕ). once (slot_of x ∷ before) (slot_of z) ≡ true) (sym e) h))
  where
    go : (k e a : Bool) → e ≡ true → not (k && (e || a)) ≡ true → k ≡ false
    go true e a p h = clash h (rw p)
    go false e a p h = refl

Again-after : (x : ℕ) (before : List ℕ) (bs : List (ℕ × List ℕ)) → EachOnce (slot_of x ∷ before) bs → Again x bs
Again-after x before [] h = tt
Again-after x before ((y, s) ∷ bs) h = (other x y before h.0, Again-after x before bs h.1)

after_known : (before : List ℕ) (bs : List (ℕ × List ℕ)) → OnceAfter before bs → EachOnce before bs × KnownOnce bs
after_known before [] h = (tt, tt)
after_known before ((x, s) ∷ bs) h =
    let i = after_known (slot_of x ∷ before) bs h.1 in
    ((h.0, fewer (slot_of x) before bs i.0), (Again-after x before bs i.0, i.1))

pub once_told : (bs : List (ℕ × List ℕ)) → OnceAfter [] bs → KnownOnce bs
once_told bs h = (after_known [] bs h).1

-- ---- and back

fresh : (x y : ℕ) (before : List ℕ) → (x ≡ y → Unknown x) → once before (slot_of y) ≡ true → once (slot_of x ∷ before) (slot_of y) ≡ true
fresh x y before f h = go (known (slot_of y)) refl (eqb (slot_of y) (slot_of x)) refl (is_among (slot_of y) before) h
  where
    go : (k : Bool) → known (slot_of y) ≡ k → (e : Bool) → eqb (slot_of y) (slot_of x) ≡ e → (a : Bool) → not (k && a) ≡ true → not (k && (e || a)) ≡ true
    go true p true q a h =
        let s : slot_of y ≡ slot_of x = eqb-true (slot_of y) (slot_of x) q in
        clash (ap known (sym s) ∙ p) (Unknown-read x (f (sym (known_same y x s p))))
    go true p false q a h = h
    go false p e q a h = refl

more : (x : ℕ) (before : List ℕ) (bs : List (ℕ × List ℕ)) → Again x bs → EachOnce before bs → EachOnce (slot_of x ∷ before) bs
more x before [] f h = tt
more x before ((y, s) ∷ bs) f h = (fresh x y before f.0 h.0, more x before bs f.1 h.1)

known_after : (before : List ℕ) (bs : List (ℕ × List ℕ)) → EachOnce before bs → KnownOnce bs → OnceAfter before bs
known_after before [] h k = tt
known_after before ((x, s) ∷ bs) h k = (h.0, known_after (slot_of x ∷ before) bs (more x before bs k.0 h.1) k.1)

-- nothing stands before the first
none_before : (bs : List (ℕ × List ℕ)) → EachOnce [] bs
none_before [] = tt
none_before ((x, s) ∷ bs) = (go (known (slot_of x)), none_before bs)
  where
    go : (k : Bool) → not (k && false) ≡ true
    go true = refl
    go false = refl

pub once_read : (bs : List (ℕ × List ℕ)) → KnownOnce bs → OnceAfter [] bs
once_read bs k = known_after [] bs (none_before bs) k
