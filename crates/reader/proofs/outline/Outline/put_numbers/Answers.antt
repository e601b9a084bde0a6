-- The parts that were put one after another are the record as numbers.
use Rattle.std.proofs.Common.{arith, refl, sym, ap, ap₂, ◌∙◌}
use Rattle.std.proofs.Common.{◌≡◌, ℕ, List}
use Rattle.format.specs.Info.{info_fields}
use Rattle.format.specs.Presence.{info_there}
use Rattle.info.specs.Steps.Putting.{info_part}
use Rattle.reader.proofs.WholeLaws.{laid, info_part_put, no_info_part, whole_put}
use Rattle.reader.proofs.outline.Outline.put_numbers.Goals as goal
use Rattle.reader.proofs.outline.Outline.put_numbers.Goals.{Joined-info_there, else-info_there, then-info_there}

-- the list where the ways meet
joined : (c : Joined-info_there) → c.if-info_there.f ≡ info_part (laid c.args.self.now.whole).read
joined c =
    let there = ap info_there (sym c.flags.ensures) ∙ sym c.info_there.ensures in
    elim c.if-info_there.branch [
      | then-info_there w ↦ info_part_put c.args.self.now.whole (there ∙ w.if-info_there.true) (w.f-is ∙ w.put_info.ensures ∙ ap₂ (λ (i : ℕ) (l : List ℕ). info_part (info_fields i l)) w.info.ensures.1 w.info.ensures.0)
      | else-info_there w ↦ no_info_part c.args.self.now.whole (there ∙ w.if-info_there.false) (w.f-is ∙ c.requires)
    ]

pub info-requires : goal.info-requires
info-requires c = record { there = ap info_there (sym c.flags.ensures) ∙ sym c.info_there.ensures ∙ c.if-info_there.true }

pub header_fields-requires : goal.header_fields-requires
header_fields-requires c = (laid c.args.self.now.whole).long

pub overflow_sub-blocks : goal.overflow_sub-blocks
overflow_sub-blocks c = omega (arith, (laid c.args.self.now.whole).long)

pub overflow_sub-blocks-2 : goal.overflow_sub-blocks-2
overflow_sub-blocks-2 c = omega (arith, (laid c.args.self.now.whole).blocks)

pub returns : goal.returns
returns c =
    whole_put c.args.self.now.whole (joined (goal.at.returns c).Joined-info_there) c.header_fields.ensures c.put_header.ensures
    c.items.ensures c.put_place.ensures
    c.put_strings.ensures
    refl c.put_place-2.ensures
