use Rattle.std.proofs.lemmas.Result.{err_from_is_err_and}
use Rattle.fs_job.specs.Line.{pair_of}
use Rattle.fs_job.proofs.CommandArguments.{not_origin, not_zero_vector}
use Rattle.fs_job.proofs.arguments.read_command.Goals as goal

pub returns-in_err-read_direction-in-Segment-clause-fault : goal.returns-in_err-read_direction-in-Segment-clause-fault
returns-in_err-read_direction-in-Segment-clause-fault c =
    let p = err_from_is_err_and c.from_residual.result c.from_residual.ensures.1 in
    rw (p.1, p.2, c.in-Segment.is) c.in_err-read_direction-in-Segment.ensures.fault

pub returns-in_ok-read_direction-in-Segment-clause-nonzero : goal.returns-in_ok-read_direction-in-Segment-clause-nonzero
returns-in_ok-read_direction-in-Segment-clause-nonzero c = rw c.in-Segment.is
    (λ zero. not_origin (pair_of c.in-Segment.pair.now) c.in_ok-read_direction-in-Segment.field-0 c.in_ok-read_direction-in-Segment.ensures.point c.in_ok-read_direction-in-Segment.ensures.nonzero zero.0 zero.1 zero.2)

pub returns-in_ok-read_whole_direction-in-Flow-clause-nonzero : goal.returns-in_ok-read_whole_direction-in-Flow-clause-nonzero
returns-in_ok-read_whole_direction-in-Flow-clause-nonzero c = rw c.in-Flow.is
    (λ zero. not_zero_vector (pair_of c.in-Flow.pair.now) c.in_ok-read_whole_direction-in-Flow.field-0 c.in_ok-read_whole_direction-in-Flow.ensures.vector c.in_ok-read_whole_direction-in-Flow.ensures.nonzero zero.0 zero.1 zero.2)
