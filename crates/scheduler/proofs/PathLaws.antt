-- One law for each way out of the path block call over fields.
use mathlib.Core.Path.{◌≡◌, refl, sym, subst, ◌∙◌}
use mathlib.Core.List.{List}
use mathlib.Core.Bool.{Bool, true, false, not, cond}
use Prim.Native.Nat.{ℕ, ◌≤◌}
use native.Mathlib.Omega.{arith}
use lib.ListN.{length}
use lib.Dec.{leb}
use borrow.Author.Tests.{eq-eqb, ne_eqb, not-true, not-false}
use Rattle.format.specs.declared.Profile.{Profile}
use Rattle.format.specs.declared.Record.{Record}
use Rattle.format.specs.declared.Fault.TheVariants.{Place as PLACE, Unwritable as UNWRITABLE, Room as ROOM}
use Rattle.format.specs.Tests.{Outcome, got, refused}
use Rattle.format.specs.Numbers.{Numbered, answer_value}
use Rattle.format.specs.Shortcut.{most, verdict_of}
use Rattle.format.specs.Bodies.{placed}
use Rattle.format.specs.Contents.{contents}
use Rattle.format.specs.Writing.{canonical, writable}
use Rattle.format.specs.PathWriting.{is_path, path_text, path_block, with_path, path_writing, path_answer, path_output, PathEnds}
use Rattle.format.proofs.Bools.{clash}
use Rattle.format.proofs.AnswerLaws.{nowhere}
use Rattle.fields.specs.Fields.{field_count, are_record, record_from}
use Rattle.scheduler.specs.Code.{code_of}
use Rattle.scheduler.specs.Records.{FIELDS, VALUES}
use Rattle.scheduler.specs.Paths.{path_code, path_written, PathEndsOf}
use Rattle.scheduler.proofs.PositionLaws.{writable_few}
use Rattle.format.specs.Verdicts.{Verdict}

-- what is written is a shortcut
pub path_small : (profile : Profile) (r : Record) (d : List ℕ) (signature : ℕ) (text unicode out : List ℕ) → answer_value (path_answer profile r d signature text unicode out) ≤ 4194820
unfolding answer_value path_answer path_writing
path_small profile r d signature text unicode out =
    let c = with_path (path_block signature text unicode) (contents d r) in
    let w = canonical c in
    go w (placed (length d) r) (is_path signature) (path_text false text) (path_text true unicode) (writable profile (contents d r)) (writable profile c) (leb (length w) (length out)) (λ e. writable_few profile c e)
  where
    no : Outcome (List ℕ)
    no = refused UNWRITABLE nowhere

    go : (w : List ℕ) (a s t u e f g : Bool) → (f ≡ true → length w ≤ most)
        → answer_value (verdict_of (cond a (cond s (cond t (cond u (cond e (cond f (cond g (got w (length w)) (refused ROOM nowhere)) no) no) no) no) no) (refused PLACE nowhere))) ≤ 4194820
    go w true true true true true true true h = omega (arith, h refl)
    go w true true true true true true false h = omega arith
    go w true true true true true false g h = omega arith
    go w true true true true false f g h = omega arith
    go w true true true false e f g h = omega arith
    go w true true false u e f g h = omega arith
    go w true false t u e f g h = omega arith
    go w false s t u e f g h = omega arith

module _ (profile : Profile) (f d : List ℕ) (signature : ℕ) (text unicode out : List ℕ) where
  abbrev Answers : ℕ → List ℕ → Type 0
  Answers r x = (r ≡ path_code profile f d signature text unicode out) × ((x ≡ path_written profile f d signature text unicode out) × PathEndsOf profile f d signature text unicode out r x)

  pub path_miscounted : (length f ≡ field_count → ⊥) → Answers FIELDS out
  unfolding path_code path_written
  path_miscounted h = let e = ne_eqb (length f) field_count h in (rw e, (rw e, λ n i. absurd (h n)))

  module _ (h : length f ≡ field_count) {b : Bool} (e : b ≡ are_record f) where
    pub path_no_record : not b ≡ true → Answers VALUES out
    unfolding path_code path_written
    path_no_record t =
        let n = eq-eqb (length f) field_count h in
        let k : are_record f ≡ false = sym e ∙ not-true b t in
        (rw (n, k), (rw (n, k), λ n i. clash i k))

    module _ (t : not b ≡ false) where
      pub record_there : are_record f ≡ true
      record_there = sym e ∙ not-false b t

      pub path_answered : {q : Record} → q ≡ record_from f → {v : Verdict} {x : List ℕ} {r : ℕ}
          → (v ≡ path_answer profile q d signature text unicode out)
          × ((x ≡ path_output profile q d signature text unicode out)
          × (Numbered v (path_writing profile q d signature text unicode (length out)) × PathEnds profile q d signature text unicode out v x))
          → r ≡ code_of v → Answers r x
      unfolding path_code path_written
      path_answered i {v} {x} (j, (k, (number, z))) l =
          let n = eq-eqb (length f) field_count h in (
            rw (n, record_there) (l ∙ rw (j, i)),
            (
              rw (n, record_there) (k ∙ rw i),
              λ m o.
                  record { verdict = v; code = l; ends = subst (λ (t : Record). PathEnds profile t d signature text unicode out v x) i z },
            ),
          )
