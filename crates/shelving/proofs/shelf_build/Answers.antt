-- One law for each way out. The lengths fit where they are few and add up; many are not added.
use mathlib.Core.Path.{◌≡◌, sym, ap, ◌∙◌}
use mathlib.Core.Bool.{Bool, ◌&&◌}
use lib.ListN.{length}
use lib.Dec.{leb, eqb}
use borrow.Author.Tests.{le-leb, lt-leb}
use Rattle.format.specs.Shortcut.{sum}
use Rattle.shelving.proofs.FileLaws.{build_told, build_wrong, build_Entries, build_filed}
use Rattle.shelving.proofs.shelf_build.Goals as goal
use Rattle.shelving.proofs.shelf_build.Goals.{Joined-few, then-few, else-few}

fit : (c : Joined-few) → c.if-few.fit ≡ (leb (length c.args.lengths.now) 64 && eqb (sum c.args.lengths.now) (length c.args.bodies.now))
fit c =
    let whole = eqb (sum c.args.lengths.now) (length c.args.bodies.now) in
    elim c.if-few.branch [
      | then-few w ↦ w.fit-is ∙ w.adds_up-fit.ensures ∙ sym (ap (λ (b : Bool). b && whole) (le-leb _ 64 w.if-few.true))
      | else-few w ↦ w.fit-is ∙ lt-leb _ 64 w.if-few.false ∙ sym (ap (λ (b : Bool). b && whole) (lt-leb _ 64 w.if-few.false))
    ]

pub returns-then-not-fit : goal.returns-then-not-fit
returns-then-not-fit c =
    let told = fit (goal.at.returns-then-not-fit c).Joined-few in
    rw c.at.ensures (let both = build_told c.args.lengths.now c.args.bodies.now c.args.out.now (build_wrong c.args.lengths.now c.args.bodies.now c.args.out.now told c.if-not-fit.true) in record { answer = both.0; output = both.1.0; numbers = both.1.1 })

pub shelve-requires : goal.shelve-requires
shelve-requires c =
    build_Entries c.args.lengths.now c.args.bodies.now c.args.out.now (fit (goal.at.shelve-requires c).Joined-few) c.if-not-fit.false

pub returns : goal.returns
returns c =
    let told = fit (goal.at.returns c).Joined-few in
    let both = build_told c.args.lengths.now c.args.bodies.now c.args.out.now (build_filed c.args.lengths.now c.args.bodies.now c.args.out.now told c.if-not-fit.false c.shelve.ensures) in record { answer = both.0; output = both.1.0; numbers = both.1.1 }
