-- The terminal block has four bytes, so the blocks end no earlier.
use Rattle.reader.proofs.outline_from.Goals as goal
use Rattle.reader.proofs.OutlineLaws.{four_after}

pub ended-requires : goal.ended-requires
ended-requires c = four_after _ _ c.in_ok-end.ensures.answer

pub returns-in_err-end-clause-firsts : goal.returns-in_err-end-clause-firsts
returns-in_err-end-clause-firsts c =
    rw (
      ← c.strings_unicode-u.ensures,
      ← c.items_there.ensures,
      ← c.in_ok-items.ensures,
      ← c.info_there.ensures,
      ← c.in_ok-info.ensures.answer,
      ← c.name_there.ensures,
      ← c.in_ok-name.ensures,
      ← c.relative_there.ensures,
      ← c.in_ok-relative.ensures,
      ← c.workdir_there.ensures,
      ← c.in_ok-workdir.ensures,
      ← c.arguments_there.ensures,
      ← c.in_ok-arguments.ensures,
      ← c.icon_there.ensures,
      ← c.in_ok-icon.ensures,
    ) c.in_err-end.ensures.row
