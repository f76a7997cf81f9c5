use Rattle.std.proofs.Common.{inr, ap}
use Rattle.fs_job.specs.declared.job.JobStop.TheVariants as JobStop
use Rattle.fs_job.specs.Pieces.{words_of}
use Rattle.fs_job.proofs.PolygonNumbers.{points_before_next, next_is_pair, bad_number_at}
use Rattle.fs_job.proofs.points.read_points.Goals as goal

pub read_point-requires : goal.read_point-requires
read_point-requires c =
    next_is_pair (words_of c.args.pairs.words.now) (words_of c.loop-word.rest.now) (words_of c.in-Some.more.now) c.in-Some.word.now c.loop-word.points c.loop-word.invariant c.in-Some.ensures.0 c.requires

pub returns-in-Err-clause-fault : goal.returns-in-Err-clause-fault
returns-in-Err-clause-fault c =
    inr (
      c.in-Err.fault,
      ap JobStop.Fault c.number_fault.ensures,
      bad_number_at (words_of c.args.pairs.words.now) (words_of c.loop-word.rest.now) (words_of c.in-Some.more.now) c.in-Some.word.now c.loop-word.points c.in-Err.fault c.loop-word.invariant c.in-Some.ensures.0 c.in-Err.ensures.fault,
    )

pub loop-word-preserved : goal.loop-word-preserved
loop-word-preserved c = rw c.in_ok-push-in-Ok.ensures.ok
    (points_before_next (words_of c.args.pairs.words.now) (words_of c.loop-word.rest.now) (words_of c.in-Some.more.now) c.in-Some.word.now c.loop-word.points c.in-Ok.point c.loop-word.invariant c.in-Some.ensures.0 c.in-Ok.ensures.point)
