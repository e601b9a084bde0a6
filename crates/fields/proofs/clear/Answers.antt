-- All numbers are filled, as many as a record has.
use mathlib.Core.Path.{◌≡◌}
use lib.ListN.{length, replicate}
use Rattle.fields.proofs.clear.Goals as goal

pub returns : goal.returns
returns c =
    let filled : c.fill.new.self ≡ replicate (length c.args.f.now) 0 = c.fill.ensures.after (λ y e. e) in
    rw (filled, c.requires)
