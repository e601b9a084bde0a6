-- The sections have room where the whole has, and no size was clipped.
use mathlib.Core.Path.{◌≡◌, sym}
use native.Mathlib.Omega.{arith}
use Rattle.std.proofs.Common.{rules}
use Rattle.format.specs.Contents.{contents}
use Rattle.format.specs.Writing.{canonical}
use Rattle.format.specs.Steps.Flat.{flat_bytes}
use Rattle.format.proofs.FlatLaws.{canonical_flat}
use Rattle.sizes.proofs.WholeLaws.{sized as sizes_of_slots}
use Rattle.copies.proofs.OutputLaws.{reword}
use Rattle.canonical.proofs.FitsLaws.{sizes_exact, whole_size}
use Rattle.canonical.proofs.put_canonical.Goals as goal

pub invariant_of-f-clause-sized : goal.invariant_of-f-clause-sized
invariant_of-f-clause-sized c = sizes_exact c.args.q c.requires.shape c.requires.fits c.requires.sized

pub put_record-requires-clause-room : goal.put_record-requires-clause-room
put_record-requires-clause-room c =
    let size = whole_size c.args.q c.requires.shape c.requires.fits c.requires.sized in
    rw (c.new-w.ensures, size) (record { room = omega (arith, c.requires.fits.room) })

pub put_record-requires-clause-few : goal.put_record-requires-clause-few
put_record-requires-clause-few c =
    rw (whole_size c.args.q c.requires.shape c.requires.fits c.requires.sized) (c.requires.fits.few)

pub returns : goal.returns
returns c =
    let q = c.args.q in
    let d = c.args.d.now in
    let sized = sizes_exact q c.requires.shape c.requires.fits c.requires.sized in
    let flat = canonical_flat d q c.args.sizes (rw sized (sizes_of_slots d q c.requires.fits.inside)) in
    let bytes : flat_bytes d q c.args.s c.args.sizes ≡ canonical (contents d q) = rw c.requires.shape (sym flat) in
    let w = reword c.put_record.ensures bytes (whole_size q c.requires.shape c.requires.fits c.requires.sized) in
    let same = w.same in
    let content = w.content in
    let next = w.next in
    let begun = c.new-w.ensures in
    search rules
