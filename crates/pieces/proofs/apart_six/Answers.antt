-- Of LinkInfo's six pieces the first four come first, and then the other two.
use mathlib.Core.Path.{◌≡◌, sym, ◌∙◌}
use mathlib.Core.List.{List, [], ◌∷◌}
use mathlib.Core.Bool.{true, ◌&&◌, cond}
use Prim.Native.Nat.{ℕ}
use Rattle.std.proofs.lemmas.Result.{err_from_is_err_and}
use Rattle.std.specs.Prelude.{Ok, Err}
use Rattle.format.proofs.Bools.{and_assoc, and_yes}
use Rattle.format.specs.declared.Place.{Place}
use Rattle.format.specs.Tests.{Test}
use Rattle.format.specs.Pieces.{apart, apart_from, apart_tests}
use Rattle.pieces.specs.Steps.Found.{four_apart, six_apart}
use Rattle.pieces.proofs.TestLaws.{demand_held, given_lost, given_then}
use Rattle.pieces.proofs.apart_six.Goals as goal

module _ (a b c d e f : Place) where
  abbrev four : List Test
  four = apart_tests [] ((0, a) ∷ (16, b) ∷ (20, c) ∷ (24, d) ∷ [])

  abbrev two : List Test
  two = apart_tests (d ∷ c ∷ b ∷ a ∷ []) ((28, e) ∷ (32, f) ∷ [])

  four_lost : {w : ℕ} → Err w ≡ four_apart 16 a b c d → Err w ≡ six_apart a b c d e f
  unfolding four_apart six_apart
  four_lost h = sym (given_lost four two tt tt (sym h))

  five_apart : {x : Unit {0}} → Ok x ≡ four_apart 16 a b c d → (((apart e d && apart e c) && apart e b) && apart e a) ≡ true
      → cond ((((apart f e && apart f d) && apart f c) && apart f b) && apart f a) (Ok tt) (Err 32) ≡ six_apart a b c d e f
  unfolding four_apart six_apart
  five_apart h k =
      let z : apart_from e (d ∷ c ∷ b ∷ a ∷ []) ≡ true = simp and_yes (simp and_assoc at k) in
      sym (given_then four two tt tt (sym h) ∙ rw z (simp (and_assoc, and_yes)))

pub returns-in_err-apart_four : goal.returns-in_err-apart_four
returns-in_err-apart_four c =
    let p = err_from_is_err_and c.from_residual.result c.from_residual.ensures.1 in
    rw (p.1, p.2) (four_lost _ _ _ _ _ _ c.in_err-apart_four.ensures)

pub returns : goal.returns
returns c =
    rw (c.demand-2.ensures, c.apart-5.ensures, c.apart-6.ensures, c.apart-7.ensures, c.apart-8.ensures, c.apart-9.ensures)
    (five_apart _ _ _ _ _ _ c.in_ok-apart_four.ensures (rw (c.apart.ensures, c.apart-2.ensures, c.apart-3.ensures, c.apart-4.ensures) at (demand_held _ _ c.in_ok-demand.ensures)))
