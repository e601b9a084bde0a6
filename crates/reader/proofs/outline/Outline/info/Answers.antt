-- LinkInfo stands between the ends of two sections, and keeps the rules.
use Rattle.reader.proofs.WholeLaws.{laid}
use Rattle.reader.proofs.outline.Outline.info.Goals as goal

pub slice_bounds-result-count : goal.slice_bounds-result-count
slice_bounds-result-count c = (laid c.args.self.now.whole).info.0

pub slice_bounds-result-start : goal.slice_bounds-result-start
slice_bounds-result-start c = (laid c.args.self.now.whole).info.0

pub slice_bounds-result-end : goal.slice_bounds-result-end
slice_bounds-result-end c = (laid c.args.self.now.whole).info.1

pub invariant_of-result : goal.invariant_of-result
invariant_of-result c = record { right = (laid c.args.self.now.whole).right c.requires.there }
