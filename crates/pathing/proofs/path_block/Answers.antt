-- A refusal of the writer is the answer. What it wrote is the record's form, and the block put over it makes that of the changed record.
use mathlib.Core.Path.{refl}
use native.Mathlib.Omega.{arith}
use Rattle.std.proofs.lemmas.Result.{err_from_is_err_and}
use Rattle.octets.specs.Numbers.{Bytes}
use Rattle.format.proofs.FitsLaws.{type_fits}
use Rattle.format.proofs.Ranges.{FitsRecord}
use Rattle.pathing.proofs.Laws.{ended, Stand, path_refused, path_left}
use Rattle.pathing.proofs.path_block.Goals as goal
use Rattle.pathing.proofs.path_block.Goals.{After-shared_slice_known-3-1, In_ok-n}

-- what the types give
bytes-given : (c : After-shared_slice_known-3-1) → Bytes c.args.text.now × Bytes c.args.unicode.now
bytes-given c = (record { at = λ i. omega (arith, c.shared_slice_known-2-1.given i) }, record { at = λ i. omega (arith, c.shared_slice_known-3-1.given i) })

all-given : (c : After-shared_slice_known-3-1)
    → FitsRecord c.args.r
    × (Bytes c.args.d.now × (Bytes c.args.text.now × Bytes c.args.unicode.now))
all-given c = (type_fits _ _ c.well_formed.0, (record { at = λ i. omega (arith, c.shared_slice_known-1.given i) }, bytes-given c))

-- where the parts stand, once the record is written
stand : (c : In_ok-n)
    → Stand c.args.profile c.args.r c.args.d.now c.args.signature c.args.text.now c.args.unicode.now c.args.out.now
    c.in_ok-n.n c.gained-more.result c.part-x.result.now c.place_of-at.result
stand c =
    (path_left c.args.profile c.args.r c.args.d.now c.args.signature c.args.text.now c.args.unicode.now c.args.out.now (bytes-given (goal.at.In_ok-n c).After-shared_slice_known-3-1)
    c.part-x.ensures c.place_of-at.ensures c.path_fits-fits.ensures c.gained-more.ensures (c.in_ok-n.ensures.answer, c.in_ok-n.ensures.output) refl).0

pub returns-in_err-n : goal.returns-in_err-n
returns-in_err-n c =
    let p = err_from_is_err_and c.from_residual.result c.from_residual.ensures.1 in
    let both = ended _ _ _ _ _ _ _ (all-given (goal.at.returns-in_err-n c).After-shared_slice_known-3-1)
    (path_refused _ _ _ _ _ _ _ (bytes-given (goal.at.returns-in_err-n c).After-shared_slice_known-3-1)
    c.part-x.ensures c.place_of-at.ensures c.path_fits-fits.ensures c.gained-more.ensures (c.in_err-n.ensures.answer, c.in_err-n.ensures.output) refl) in
    rw (p.1, p.2) (record { answer = both.0; output = both.1.0; numbers = both.1.1.0; least = both.1.1.1 })

pub block_of-b-requires : goal.block_of-b-requires
block_of-b-requires c = (stand c).texts

pub overflow_sub-n : goal.overflow_sub-n
overflow_sub-n c = let s = stand (goal.at.overflow_sub-n c).In_ok-n in omega (arith, s.before)

pub overflow_sub-n-2 : goal.overflow_sub-n-2
overflow_sub-n-2 c = let s = stand (goal.at.overflow_sub-n-2 c).In_ok-n in omega (arith, s.before)

pub overflow_sub-n-3 : goal.overflow_sub-n-3
overflow_sub-n-3 c = let s = stand (goal.at.overflow_sub-n-3 c).In_ok-n in omega (arith, s.before)

pub overflow_sub-n-4 : goal.overflow_sub-n-4
overflow_sub-n-4 c = let s = stand (goal.at.overflow_sub-n-4 c).In_ok-n in omega (arith, s.before)

pub put_over-requires : goal.put_over-requires
put_over-requires c = let s = stand (goal.at.put_over-requires c).In_ok-n in (omega (arith, s.place), omega (arith, s.before, s.room))

pub returns : goal.returns
returns c =
    let both = ended _ _ _ _ _ _ _ (all-given (goal.at.returns c).After-shared_slice_known-3-1)
    ((path_left _ _ _ _ _ _ _ (bytes-given (goal.at.returns c).After-shared_slice_known-3-1)
    c.part-x.ensures c.place_of-at.ensures c.path_fits-fits.ensures c.gained-more.ensures (c.in_ok-n.ensures.answer, c.in_ok-n.ensures.output) refl
    ).1 _ _ c.block_of-b.ensures c.put_over.ensures) in record { answer = both.0; output = both.1.0; numbers = both.1.1.0; least = both.1.1.1 }
