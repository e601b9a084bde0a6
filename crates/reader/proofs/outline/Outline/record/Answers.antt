-- The numbers are the record's, and each fits its field.
use Rattle.reader.proofs.WholeLaws.{numbers_fit, numbers_back}
use Rattle.reader.proofs.outline.Outline.record.Goals as goal

pub record_from-requires-clause-numbers : goal.record_from-requires-clause-numbers
record_from-requires-clause-numbers c = numbers_fit c.args.self.now.whole c.args.self.now.bytes c.put_numbers.ensures

pub returns : goal.returns
returns c = numbers_back c.args.self.now.whole c.args.self.now.bytes c.put_numbers.ensures c.record_from.ensures
