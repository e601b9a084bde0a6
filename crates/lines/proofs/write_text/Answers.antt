use mathlib.Core.Path.{refl, ◌∙◌}
use Prim.Native.Nat.{ℕ}
use native.Mathlib.Omega.{arith}
use lib.ListN.{length-replicate}
use Rattle.lines.specs.Steps.Pieces.{PiecesOf}
use Rattle.lines.proofs.PieceLaws.{piece_inside, piece_fits, piece_kept, piece_last}
use Rattle.lines.proofs.write_text.Goals as goal

pub loop-profile-init : goal.loop-profile-init
loop-profile-init g c = record { room = length-replicate {A = ℕ} 65536 0; full = omega arith; inside = λ text pieces. omega arith }

pub returns-then-last : goal.returns-then-last
unfolding PiecesOf
returns-then-last g c = λ text pieces.
    let piece = pieces _ _ _ _ _ refl c.put-n.ensures in
    piece_last piece (c.loop-profile.invariant.inside text pieces) (omega (arith, c.loop-profile.invariant.room, c.if-last.true))

pub overflow_add-from : goal.overflow_add-from
unfolding PiecesOf
overflow_add-from g c =
    let (text, short, pieces) = c.requires.text in
    omega (arith, short, piece_inside (pieces _ _ _ _ _ refl c.put-n.ensures) (c.loop-profile.invariant.inside text pieces))

pub loop-profile-smaller : goal.loop-profile-smaller
unfolding PiecesOf
loop-profile-smaller g c =
    let (text, short, pieces) = c.requires.text in
    omega (arith, short, c.if-last.false, piece_inside (pieces _ _ _ _ _ refl c.put-n.ensures) (c.loop-profile.invariant.inside text pieces))

pub loop-profile-preserved : goal.loop-profile-preserved
unfolding PiecesOf
loop-profile-preserved g c =
    let (text, short, pieces) = c.requires.text in
    let piece = pieces _ _ _ _ _ refl c.put-n.ensures in
    let room = c.loop-profile.invariant.room in
    record {
      room = piece_kept piece ∙ room;
      full = omega (arith, room, piece_fits piece, c.loop-profile.invariant.full, c.if-last.false);
      inside = λ other h. piece_inside (h _ _ _ _ _ refl c.put-n.ensures) (c.loop-profile.invariant.inside other h);
    }
