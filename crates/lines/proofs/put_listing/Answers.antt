-- An accepted shortcut has its rows by the outline, and a refused one has none.
use mathlib.Core.Path.{sym, ◌∙◌}
use Rattle.std.proofs.Common.{rules}
use Rattle.reader.specs.Steps.Finish.{Whole}
use Rattle.shown.proofs.Laws.{all_rows}
use Rattle.lines.proofs.ListingTexts.{rows_shown, accepted_listing, refused_listing}
use Rattle.lines.proofs.WindowLaws.{Showed-join, Showed-as, piece_shown}
use Rattle.lines.proofs.put_listing.Goals as goal

pub returns-in_default : goal.returns-in_default
returns-in_default c =
    let told = refused_listing _ _ c.outline_of-o.ensures.answer c.verdict_of.ensures c.in_default.is in
    let shown = piece_shown (Showed-as c.verdict.ensures told) c.new-w.ensures.out c.new-w.ensures.at c.new-w.ensures.skip in
    record { answer = c.filled.ensures ∙ shown.at; output = search rules }

pub returns : goal.returns
returns c =
    let o = c.outline_of-o.ensures in
    let w : Whole c.args.profile c.args.s.now c.in-Ok.ends _ = record { ends = sym o.answer ∙ c.in-Ok.is; lengths = o.lengths } in
    let R = all_rows w c.flags.ensures in
    let all = Showed-join (Showed-join c.verdict.ensures c.sections.ensures) (rows_shown c.blocks-2.ensures R) in
    let shown = piece_shown (Showed-as all (accepted_listing _ _ o.answer c.verdict_of.ensures R)) c.new-w.ensures.out c.new-w.ensures.at c.new-w.ensures.skip in
    record { answer = c.filled-2.ensures ∙ shown.at; output = search rules }
