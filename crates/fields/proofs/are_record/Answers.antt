-- The numbers of a record are those of its header and those of its LinkInfo together.
use Rattle.fields.proofs.Laws.{joined_parts}
use Rattle.fields.proofs.are_record.Goals as goal

pub returns : goal.returns
returns c = joined_parts _ c.header_numbers.ensures c.info_numbers.ensures
