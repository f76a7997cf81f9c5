use Rattle.fs_job.proofs.TextPieces.{uncut_not_two, cut_once_two, cut_twice_not_two}
use Rattle.fs_job.proofs.pieces.cut_once.Goals as goal

pub returns-in_err-prefix : goal.returns-in_err-prefix
returns-in_err-prefix c = rw c.from_residual.ensures (uncut_not_two c.args.separator c.args.text.now c.in_err-prefix.ensures)

pub returns-in-Some : goal.returns-in-Some
returns-in-Some c = cut_twice_not_two c.args.separator c.args.text.now c.in_ok-prefix.prefix.now c.in-Some.field-0.0.now c.in_ok-prefix.rest.now c.in-Some.field-0.1.now c.in_ok-prefix.ensures c.in-Some.ensures

pub returns-in-None : goal.returns-in-None
returns-in-None c = cut_once_two c.args.separator c.args.text.now c.in_ok-prefix.prefix.now c.in_ok-prefix.rest.now c.in_ok-prefix.ensures c.in-None.ensures
