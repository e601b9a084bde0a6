-- What is kept is put first, and the terminal behind it.
use Rattle.salvaging.proofs.Laws.{put_both}
use Rattle.salvaging.proofs.put_saved.Goals as goal

pub returns-then-r : goal.returns-then-r
returns-then-r c =
    put_both c.args.s.now c.args.out.now c.args.r c.if-r.true c.requires.kept_in_bounds c.requires.mended_in_bounds c.put_bytes.ensures c.put_u32.ensures
