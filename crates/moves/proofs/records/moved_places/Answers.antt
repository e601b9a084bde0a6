-- One slot more; and at the end slot by slot.
use Rattle.std.proofs.Common.{◌≡◌, ℕ, ◌≤◌, ◌≢◌, length, set, ◌∙◌, arith, rules, below_more, get_or-set_other, get_or-set_same, length-set}
use Rattle.format.specs.Tests.{no_place}
use Rattle.moves.specs.Steps.Moves.{moved_place, in_row}
use Rattle.moves.proofs.RecordLaws.{places_are}
use Rattle.moves.proofs.records.moved_places.Goals as goal

pub loop-k-preserved : goal.loop-k-preserved
loop-k-preserved c =
    let m = c.loop-k.moved in
    let k = c.loop-k.k in
    let v = c.moved_place.result in
    let long : length m ≡ 17 = c.loop-k.invariant.long in
    let other : (j : ℕ) → j ≢ k → in_row (set m k v) j ≡ in_row m j = λ j n. get_or-set_other m k j v no_place n in
    record {
      long = length-set m k v ∙ long;
      done = λ j a b. below_more (λ (i : ℕ). 10 ≤ i → in_row (set m k v) i ≡ moved_place c.args.unicode (in_row c.args.row i)) k
          (λ i h e. other i (omega arith) ∙ c.loop-k.invariant.done i e h)
          (λ e. get_or-set_same m k v no_place (omega arith) ∙ c.moved_place.ensures)
          j b a;
      before = λ j h. other j (omega arith) ∙ c.loop-k.invariant.before j h;
      after = λ j h. other j (omega arith) ∙ c.loop-k.invariant.after j (omega arith);
    }

pub returns : goal.returns
returns c =
    places_are c.args.unicode c.args.gain c.args.row c.loop-k.moved c.loop-k.invariant.long
    (λ j h. c.loop-k.invariant.before j (omega arith) ∙ search rules)
    (c.loop-k.invariant.before 8 (omega arith) ∙ search rules)
    (c.loop-k.invariant.before 9 (omega arith) ∙ search rules)
    (λ j a b. c.loop-k.invariant.done j a (omega arith))
    (λ j h. c.loop-k.invariant.after j (omega arith) ∙ search rules)
