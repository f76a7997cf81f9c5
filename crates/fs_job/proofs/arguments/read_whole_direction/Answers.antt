use Rattle.std.proofs.Common.{inl}
use Rattle.std.proofs.lemmas.Result.{err_from_is_err_and}
use Rattle.fs_job.specs.Line.{pair_of}
use Rattle.fs_job.proofs.NumberTexts.{bad_whole_first, bad_whole_second}
use Rattle.fs_job.proofs.arguments.read_whole_direction.Goals as goal

pub returns-in_err-read_whole-clause-fault : goal.returns-in_err-read_whole-clause-fault
returns-in_err-read_whole-clause-fault c =
    let p = err_from_is_err_and c.from_residual.result c.from_residual.ensures.1 in
    let told = rw c.split_pair.ensures.x at c.in_err-read_whole.ensures.fault in
    rw (p.1, p.2) (inl (told.0, bad_whole_first (pair_of c.args.pair.now) told.0 told.1, told.2))

pub returns-in_err-read_whole-2-clause-fault : goal.returns-in_err-read_whole-2-clause-fault
returns-in_err-read_whole-2-clause-fault c =
    let p = err_from_is_err_and c.from_residual-in_err-read_whole-2.result c.from_residual-in_err-read_whole-2.ensures.1 in
    let read = rw c.split_pair.ensures.x at c.in_ok-read_whole.ensures.whole in
    let told = rw c.split_pair.ensures.y at c.in_err-read_whole-2.ensures.fault in
    rw (p.1, p.2) (inl (told.0, bad_whole_second (pair_of c.args.pair.now) c.in_ok-read_whole.field-0 told.0 read told.1, told.2))
