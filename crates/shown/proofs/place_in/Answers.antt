-- An accepted shortcut has every row of the listing, so each name is answered by its row.
use mathlib.Core.Path.{refl, ◌∙◌}
use Rattle.shown.proofs.Laws.{AllRows, all_rows, place-0, place_1, place_2, place_3, place_4, place_5, place_6, place_7, place_8, place-9, place_more}
use Rattle.shown.proofs.place_in.Goals as goal
use Rattle.shown.proofs.place_in.Goals.{After-flags-f}

every-row : (c : After-flags-f) → AllRows c.args.o.now.profile c.args.o.now.s.now c.flags-f.result c.args.o.now.ends
every-row c = all_rows c.args.o.now.whole c.flags-f.ensures

pub returns-then-name-eq8 : goal.returns-then-name-eq8
returns-then-name-eq8 c =
    rw c.if-name-eq8.true (c.unwrap_or.ensures ∙ place_8 _ _ _ (all_rows c.args.o.now.whole refl) c.nth_block.ensures)

pub returns-in-0 : goal.returns-in-0
returns-in-0 c =
    rw c.in-0.is (place-0 _ _ _ (every-row (goal.at.returns-in-0 c).After-flags-f))

pub returns-in-1 : goal.returns-in-1
returns-in-1 c =
    rw c.in-1.is (c.between.ensures ∙ rw c.items_there.ensures (place_1 _ _ _ (every-row (goal.at.returns-in-1 c).After-flags-f)))

pub returns-in-2 : goal.returns-in-2
returns-in-2 c =
    rw c.in-2.is (c.between-in-2.ensures ∙ rw c.info_there.ensures (place_2 _ _ _ (every-row (goal.at.returns-in-2 c).After-flags-f)))

pub returns-in-3 : goal.returns-in-3
returns-in-3 c =
    rw c.in-3.is (c.between-in-3.ensures ∙ rw c.name_there.ensures (place_3 _ _ _ (every-row (goal.at.returns-in-3 c).After-flags-f)))

pub returns-in-4 : goal.returns-in-4
returns-in-4 c =
    rw c.in-4.is (c.between-in-4.ensures ∙ rw c.relative_there.ensures (place_4 _ _ _ (every-row (goal.at.returns-in-4 c).After-flags-f)))

pub returns-in-5 : goal.returns-in-5
returns-in-5 c =
    rw c.in-5.is (c.between-in-5.ensures ∙ rw c.workdir_there.ensures (place_5 _ _ _ (every-row (goal.at.returns-in-5 c).After-flags-f)))

pub returns-in-6 : goal.returns-in-6
returns-in-6 c =
    rw c.in-6.is (c.between-in-6.ensures ∙ rw c.arguments_there.ensures (place_6 _ _ _ (every-row (goal.at.returns-in-6 c).After-flags-f)))

pub returns-in-7 : goal.returns-in-7
returns-in-7 c =
    rw c.in-7.is (c.between-in-7.ensures ∙ rw c.icon_there.ensures (place_7 _ _ _ (every-row (goal.at.returns-in-7 c).After-flags-f)))

pub returns-in-9 : goal.returns-in-9
returns-in-9 c =
    rw c.in-9.is (rw c.saturating_sub.ensures (place-9 _ _ _ (every-row (goal.at.returns-in-9 c).After-flags-f)))

pub returns-in_default : goal.returns-in_default
returns-in_default c =
    place_more _ _ _ (every-row (goal.at.returns-in_default c).After-flags-f) _ c.if-name-eq8.false c.in_default.in_default-own.rest
