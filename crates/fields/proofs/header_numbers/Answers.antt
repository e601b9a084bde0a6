-- The tests that the code joins one by one are every test of the list.
use lib.Dec.{ltb}
use lib.ListN.{get_or}
use mathlib.Core.List.{[], ◌∷◌}
use Rattle.fields.specs.Fields.{word_at, header_numbers}
use Rattle.format.proofs.Bools.{joined-every}
use Rattle.fields.proofs.header_numbers.Goals as goal

pub returns : goal.returns
unfolding header_numbers
returns c =
    let f = c.args.f.now in
    joined-every (word_at f 0) (word_at f 1 ∷ word_at f 5 ∷ word_at f 6 ∷ word_at f 7 ∷ ltb (get_or f 8 0) 65536 ∷ [])
