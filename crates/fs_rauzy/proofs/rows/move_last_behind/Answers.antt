-- The part right of the winner is turned round.
use Rattle.std.proofs.Common.{◌+◌, ◌-◌, length, arith}
use Rattle.fs_rauzy.proofs.RowMoves.{moved_behind}
use Rattle.fs_rauzy.proofs.rows.move_last_behind.Goals as goal

pub returns : goal.returns
returns c = λ left right winner loser before was.
    moved_behind left right winner loser c.args.place (length c.args.row.now - (c.args.place + 1)) c.args.row.now c.rotate_right.new.self before was (omega arith) c.rotate_right.ensures.after
