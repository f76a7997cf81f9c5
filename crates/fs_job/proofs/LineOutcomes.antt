-- What is returned for a line.
use Rattle.std.proofs.Common.{◌≡◌, ◌≢◌, ℕ, ◌+◌, ◌⊎◌, inl, inr, ◌∷◌, List, Result, Ok, Err, refl, subst, sym}
use Rattle.fs_job.specs.declared.drafts.Stage.{Stage}
use Rattle.fs_job.specs.declared.drafts.Stage.TheVariants as stages
use Rattle.fs_job.specs.declared.draft_job.DraftJob.{DraftJob}
use Rattle.fs_job.specs.declared.job.JobStop.{JobStop}
use Rattle.fs_job.specs.declared.job.JobStop.TheVariants as stops
use Rattle.fs_job.specs.Pieces.{words_of, IsText}
use Rattle.fs_job.specs.Statement.{Statement, SpellsStatement}
use Rattle.fs_job.specs.Draft.{Draft, Progress, nothing, ended, Outcome, to_progress, to_fault, IsAllowed, StatementLeads}
use Rattle.fs_job.specs.Grammar.{Leads, statement, IsFirstFault}
use Rattle.fs_job.specs.Stage.{progress_of, ReturnsOutcome}
use Rattle.fs_job.proofs.JobLines.{LedTo, first_fault_at_line}
use Rattle.fs_gluing.specs.declared.faults.Fault.{Fault}

returns_weaker : (P Q : Outcome → Type 0) → ((o : Outcome) → P o → Q o) → (r : Result Stage JobStop) → ReturnsOutcome P r → ReturnsOutcome Q r
returns_weaker P Q f (Ok stage) came = f (to_progress (progress_of stage)) came
returns_weaker P Q f (Err (stops.Fault fault)) came = f (to_fault fault) came
returns_weaker P Q f (Err stops.NoMemory) came = came

-- a line after the header, by what it states
pub returns_after_header : (n : ℕ) (before stated : Progress) (line : List ℕ) (s : Statement) (r : Result Stage JobStop) → before ≡ stated → IsText line → before ≢ nothing → SpellsStatement (words_of line) s
    → ReturnsOutcome (StatementLeads n stated s) r → ReturnsOutcome (Leads n before line) r
returns_after_header n before stated line s r e text some spells came =
    returns_weaker (StatementLeads n before s) (Leads n before line) (λ o leads. statement s text some spells leads) r
    (subst (λ (b : Progress). ReturnsOutcome (StatementLeads n b s) r) (sym e) came)

-- after the end no statement is allowed
pub not_allowed : (stage : Stage) → stage ≢ stages.Headed → ((draft : DraftJob) → stage ≢ stages.Drafted draft) → (s : Statement) → ¬ IsAllowed (progress_of stage) s
not_allowed stages.Start h d s may = may
not_allowed stages.Headed h d s may = h refl
not_allowed (stages.Drafted draft) h d s may = d draft refl
not_allowed (stages.Ended draft) h d s may = may

-- a stage that isn't the last is no end, and one that isn't the first has the header
pub not_ended : (stage : Stage) → ((draft : DraftJob) → stage ≢ stages.Ended draft) → (draft : Draft) → progress_of stage ≢ ended draft
not_ended stages.Start h draft e = cc
not_ended stages.Headed h draft e = cc
not_ended (stages.Drafted d) h draft e = cc
not_ended (stages.Ended d) h draft e = h d refl

-- a stage that isn't the first has the header
pub not_start : (stage : Stage) → stage ≢ stages.Start → progress_of stage ≢ nothing
not_start stages.Start h e = h refl
not_start stages.Headed h e = cc
not_start (stages.Drafted d) h e = cc
not_start (stages.Ended d) h e = cc

-- a line at which reading stops
pub first_fault_by_line : (bytes : List ℕ) (old rest : List (List ℕ)) (line : List ℕ) (number : ℕ) (a : Progress) (e : JobStop) → LedTo bytes old number a → old ≡ line ∷ rest → ReturnsOutcome (Leads (number + 1) a line) (Err e)
    → (e ≡ stops.NoMemory) ⊎ ((fault : Fault) × (e ≡ stops.Fault fault) × IsFirstFault bytes fault)
first_fault_by_line bytes old rest line number a (stops.Fault fault) led e came = inr (fault, refl, first_fault_at_line bytes old rest line number a fault led e came)
first_fault_by_line bytes old rest line number a stops.NoMemory led e came = inl refl
