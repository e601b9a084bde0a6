use Rattle.fields.proofs.Laws.{both_parts, record_is}
use Rattle.fields.proofs.record_from.Goals as goal

-- The tests of the whole are those of the header and of LinkInfo.
pub header_from-header-requires : goal.header_from-header-requires
header_from-header-requires c = record { size = c.requires.size; numbers = (both_parts _ c.requires.numbers).0 }

pub link_from-link-requires : goal.link_from-link-requires
link_from-link-requires c = record { size = c.requires.size; numbers = (both_parts _ c.requires.numbers).1 }

pub returns : goal.returns
returns c = record_is _ c.header_from-header.ensures c.link_from-link.ensures c.places_from-places.ensures
