use Rattle.std.proofs.Common.{◌+◌, ◌≤◌, length}
use Rattle.std.specs.List.{AllByRecursion}
use Rattle.std.specs.Prelude.{IsTrue}
use Rattle.fs_job.specs.Pieces.{IsText}
use Rattle.fs_job.specs.Stage.{progress_of}
use Rattle.fs_job.proofs.TextLines.{lines_left, bytes_left}
use Rattle.fs_job.proofs.JobLines.{HasSurfaceAtEnd, LedTo}
use Rattle.fs_job.proofs.reading.read_lines.Given as goal

-- the lines so far lead to the stage
abbrev pub invariant-loop-rest : goal.invariant-loop-rest
invariant-loop-rest l = record {
  led : LedTo l.fn.bytes (lines_left l.rest) l.number (progress_of l.stage);
  ready : HasSurfaceAtEnd (progress_of l.stage);
  text : IsTrue l.known_text → AllByRecursion IsText (lines_left l.rest);
  few : l.number + bytes_left l.rest ≤ length l.fn.bytes + 1;
}

abbrev pub decreases-loop-rest : goal.decreases-loop-rest
decreases-loop-rest l = bytes_left l.rest
