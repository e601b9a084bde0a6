-- The tests that the code joins one by one are every test of the list.
use mathlib.Core.List.{[], ◌∷◌}
use Rattle.fields.specs.Fields.{word_at, flag_at, info_numbers}
use Rattle.format.proofs.Bools.{joined-every}
use Rattle.fields.proofs.info_numbers.Goals as goal

pub returns : goal.returns
unfolding info_numbers
returns c =
    let f = c.args.f.now in
    joined-every (word_at f 9) (flag_at f 10 ∷ word_at f 11 ∷ word_at f 12 ∷ flag_at f 13 ∷ word_at f 14 ∷ word_at f 15 ∷ flag_at f 16 ∷ [])
