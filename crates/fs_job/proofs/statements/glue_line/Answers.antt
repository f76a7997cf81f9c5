use Rattle.fs_job.specs.Pieces.{words_of}
use Rattle.fs_job.proofs.StatementWords.{first_not_corner, second_not_corner}
use Rattle.fs_job.proofs.statements.glue_line.Goals as goal

pub returns-in_err-corner : goal.returns-in_err-corner
returns-in_err-corner c = rw c.from_residual-in_err-corner.ensures
    (first_not_corner (words_of c.args.words.now) (words_of c.in_ok-one.rest.now) c.in_ok-one.one.now c.in_ok-one.ensures.0 c.in_err-corner.ensures)

pub returns-in_err-corner-2 : goal.returns-in_err-corner-2
returns-in_err-corner-2 c = rw c.from_residual-in_err-corner-2.ensures
    (second_not_corner (words_of c.args.words.now) (words_of c.in_ok-one.rest.now) c.in_ok-one.one.now c.in_ok-two.two.now c.in_ok-one.ensures.0 c.in_ok-two.ensures c.in_err-corner-2.ensures)
