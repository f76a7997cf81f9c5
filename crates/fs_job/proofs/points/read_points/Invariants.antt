use Rattle.std.proofs.Common.{length}
use Rattle.fs_job.specs.Pieces.{words_of}
use Rattle.fs_job.proofs.PolygonNumbers.{PointsBefore}
use Rattle.fs_job.proofs.points.read_points.Given as goal

-- the points so far are those of the words so far
abbrev pub invariant-loop-word : goal.invariant-loop-word
invariant-loop-word l = PointsBefore (words_of l.fn.pairs.words.now) (words_of l.rest) l.points

abbrev pub decreases-loop-word : goal.decreases-loop-word
decreases-loop-word l = length l.rest
