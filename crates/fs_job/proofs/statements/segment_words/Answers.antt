use Rattle.fs_job.specs.Pieces.{words_of}
use Rattle.fs_job.proofs.StatementWords.{start_not_corner, end_not_pair}
use Rattle.fs_job.proofs.statements.segment_words.Goals as goal

pub returns-in_err-cut_once : goal.returns-in_err-cut_once
returns-in_err-cut_once c = rw c.from_residual-in_err-cut_once.ensures
    (end_not_pair (words_of c.args.words.now) (words_of c.in_ok-start.rest.now) c.in_ok-start.start.now c.in_ok-pair.pair.now c.in_ok-start.ensures.0 c.in_ok-pair.ensures c.in_err-cut_once.ensures)

pub returns-in_err-corner : goal.returns-in_err-corner
returns-in_err-corner c = rw c.from_residual-in_err-corner.ensures
    (start_not_corner (words_of c.args.words.now) (words_of c.in_ok-start.rest.now) c.in_ok-start.start.now c.in_ok-start.ensures.0 c.in_err-corner.ensures)
