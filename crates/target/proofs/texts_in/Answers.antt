-- There is a target, so LinkInfo and one of its texts are there; the shortcut is accepted, so both texts stand inside it.
use Rattle.reader.proofs.OutlineLaws.{accepted}
use Rattle.target.specs.Steps.Texts.{first_text, texts_of}
use Rattle.target.proofs.Laws.{texts_inside, target_there}
use Rattle.target.proofs.texts_in.Goals as goal

pub first_text-first-requires : goal.first_text-first-requires
first_text-first-requires c =
    let there = target_there _ _ c.requires in
    record { there = there.info; either = there.either }

pub suffix_text-suffix-requires : goal.suffix_text-suffix-requires
suffix_text-suffix-requires c = record { there = (target_there _ _ c.requires).info }

pub separated-requires : goal.separated-requires
unfolding first_text
separated-requires c =
    let i = texts_inside _ _ _ (accepted c.args.o.now.whole) in
    rw (c.first_text-first.ensures, c.suffix_text-suffix.ensures) (i.first, i.suffix)

pub returns : goal.returns
unfolding texts_of first_text
returns c = rw (c.separated.ensures, c.first_text-first.ensures, c.suffix_text-suffix.ensures)
