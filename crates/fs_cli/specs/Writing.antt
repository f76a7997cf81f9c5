-- What a call wrote into the sink, whole or broken off. The contract of `flat` doesn't rest on this file.
use Rattle.std.specs.Prelude.{◌≡◌, ◌≢◌, ℕ, ◌≤◌, ◌⊎◌, Bool, List, Option}
use Rattle.std.specs.Io.KnownBytes.{Appends}
use Rattle.fs_io.specs.Faults.{Rose}
use Rattle.fs_gluing.specs.Surface.{GluedPolygons}
use Rattle.fs_job.specs.declared.job.Command.{Command}
use Rattle.fs_report.specs.Answers.{Answers}
use Rattle.fs_cli.specs.declared.answering.Extent.{Extent}
use Rattle.fs_cli.specs.declared.answering.Extent.TheVariants as extents
use Rattle.fs_cli.specs.declared.outcome.Status.{Status}
use Rattle.fs_cli.specs.declared.outcome.Status.TheVariants as status
use Rattle.fs_cli.specs.Answer.{IsWhole, IsBroken, first_line, AnswersFirstLine, status_of, BeginsEach}

-- this text, with this status
abbrev pub IsThisText : List ℕ → Status → List ℕ → Status → Type 0
IsThisText text meant output result = (output ≡ text) × (result ≡ meant)

-- what of a text is written, to this extent
abbrev pub part_of : Extent → List ℕ → List ℕ
part_of extents.Whole text = text
part_of extents.FirstLine text = first_line text

-- the answer to a command about a surface, within a budget, to this extent
abbrev pub AnswersIn : Extent → GluedPolygons → ℕ → Command → List ℕ → Bool → Type 0
AnswersIn extents.Whole s budget = Answers s budget
AnswersIn extents.FirstLine s budget = AnswersFirstLine s budget

-- such a text, with its status by whether it is partial
abbrev pub HasStatus : (List ℕ → Bool → Type 0) → List ℕ → Status → Type 0
HasStatus P output result = (partial : Bool) × P output partial × (result ≡ status_of partial)

-- a text that is meant with this status was written; or it broke off, and each text that is meant begins with what was written
pub record Writes (Means : List ℕ → Status → Type 0) (result : Status) (held held' : Option (List ℕ)) (faults faults' : ℕ) : Type 0 where
  pub kinds : IsWhole result ⊎ IsBroken result
  pub whole : IsWhole result → (output : List ℕ) × Means output result × Appends held held' output
  pub broken : IsBroken result → (prefix : List ℕ) × BeginsEach Means prefix × Appends held held' prefix
  pub write_fault : result ≡ status.WriteFault → Rose faults faults'
  pub kept : result ≢ status.WriteFault → faults' ≡ faults
  pub never_falls : faults ≤ faults'
