use Rattle.std.proofs.lemmas.Result.{err_from_is_err_and}
use Rattle.fs_job.specs.Line.{pair_of}
use Rattle.fs_job.proofs.NumberTexts.{bad_number_first, bad_number_second}
use Rattle.fs_job.proofs.points.read_point.Goals as goal

pub returns-in_err-read_number-clause-fault : goal.returns-in_err-read_number-clause-fault
returns-in_err-read_number-clause-fault c =
    let p = err_from_is_err_and c.from_residual.result c.from_residual.ensures.1 in
    rw (p.1, p.2) (bad_number_first (pair_of c.args.word.now) c.in_err-read_number.field-0.0 (rw c.split_pair.ensures.x at c.in_err-read_number.ensures.read))

pub returns-in_err-read_number-2-clause-fault : goal.returns-in_err-read_number-2-clause-fault
returns-in_err-read_number-2-clause-fault c =
    let p = err_from_is_err_and c.from_residual-in_err-read_number-2.result c.from_residual-in_err-read_number-2.ensures.1 in
    rw (p.1, p.2) (bad_number_second (pair_of c.args.word.now) c.in_ok-read_number.field-0 c.in_err-read_number-2.field-0.0
    (rw c.split_pair.ensures.x at c.in_ok-read_number.ensures.read) (rw c.split_pair.ensures.y at c.in_err-read_number-2.ensures.read))
