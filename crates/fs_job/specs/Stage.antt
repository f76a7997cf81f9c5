-- What the reader holds between two lines, and what it returns for a line. The contract of `flat` doesn't rest on this file.
use Rattle.std.specs.Prelude.{Result, Ok, Err}
use Rattle.fs_job.specs.declared.draft_job.DraftJob.{DraftJob}
use Rattle.fs_job.specs.declared.drafts.Stage.{Stage}
use Rattle.fs_job.specs.declared.drafts.Stage.TheVariants as stages
use Rattle.fs_job.specs.declared.job.JobStop.{JobStop}
use Rattle.fs_job.specs.declared.job.JobStop.TheVariants as stops
use Rattle.fs_job.specs.Draft.{Draft, Progress, nothing, headed, drafted, ended, Outcome, to_progress, to_fault}

-- the draft that the reader holds
abbrev pub kept_draft : DraftJob → Draft
kept_draft draft = record { d = draft.field.d; table = draft.table; polygons = draft.shape.polygons; glues = draft.shape.glues; commands = draft.commands }

-- how far the lines have come, by what the reader holds
abbrev pub progress_of : Stage → Progress
progress_of stages.Start = nothing
progress_of stages.Headed = headed
progress_of (stages.Drafted draft) = drafted (kept_draft draft)
progress_of (stages.Ended draft) = ended (kept_draft draft)

-- the outcome that is returned has P; out of memory is no outcome
abbrev pub ReturnsOutcome : (Outcome → Type 0) → Result Stage JobStop → Type 0
ReturnsOutcome P (Ok stage) = P (to_progress (progress_of stage))
ReturnsOutcome P (Err (stops.Fault fault)) = P (to_fault fault)
ReturnsOutcome P (Err stops.NoMemory) = Unit {0}
