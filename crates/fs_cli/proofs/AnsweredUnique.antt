-- Bytes have at most one answer.
use Rattle.std.proofs.Common.{◌≡◌, ◌<◌, ◌≤◌, ℕ, Some, Err, List, length, sym, ap, ◌∙◌, subst, arith}
use Rattle.fs_io.specs.Whole.{most_bytes}
use Rattle.fs_gluing.specs.declared.faults.BuildStop.{BuildStop}
use Rattle.fs_gluing.specs.declared.faults.Fault.{Fault}
use Rattle.fs_gluing.specs.declared.faults.Fault.TheVariants.{TooLong}
use Rattle.fs_gluing.specs.declared.shapes.Point.{Point}
use Rattle.fs_gluing.specs.declared.shapes.Shape.{Shape}
use Rattle.fs_unfold.specs.Unfolding.{EndsUnfolding}
use Rattle.fs_job.specs.Draft.{Draft}
use Rattle.fs_job.specs.Grammar.{IsJob, IsFirstFault}
use Rattle.fs_report.specs.Text.{fault_line}
use Rattle.fs_cli.specs.declared.outcome.Status.TheVariants as status
use Rattle.fs_cli.specs.declared.outcome.Status.{Status}
use Rattle.fs_cli.specs.Answer.{DescribesShape, AnswersShape, AnswersJob, too_long, no_job, not_unfolded, answered, stop_line, stop_status}
use Rattle.fs_cli.specs.Writing.{IsThisText}
use Rattle.fs_cli.proofs.DescribedShapes.{describes_one, stops_once, stop_or_shape, described_strict}
use Rattle.fs_cli.proofs.ShapeAnswers.{shape_answer_unique}

-- each text is one job or has one first fault
pub record JobLaw : Type 0 where
  pub one_job : (bytes : List ℕ) → (a b : Draft) → IsJob bytes a → IsJob bytes b → a ≡ b
  pub one_fault : (bytes : List ℕ) → (a b : Fault) → IsFirstFault bytes a → IsFirstFault bytes b → a ≡ b
  pub not_both : (bytes : List ℕ) → (draft : Draft) → (fault : Fault) → IsJob bytes draft → ¬ IsFirstFault bytes fault
  pub not_neither : (bytes : List ℕ) → ((draft : Draft) → ¬ IsJob bytes draft) → ((fault : Fault) → ¬ IsFirstFault bytes fault) → ⊥

-- equal drafts describe one shape, so its answer is the same
shape_along : (budget : ℕ) (a b : Draft) (s t : Shape) (output : List ℕ) (r : Status) → a ≡ b → DescribesShape a s → DescribesShape b t → AnswersShape a.d s budget a.commands output r
    → AnswersShape b.d t budget b.commands output r
shape_along budget a b s t output r e of_s of_t answers =
    subst (λ (u : Shape). AnswersShape b.d u budget b.commands output r) (describes_one b s t (subst (λ (j : Draft). DescribesShape j s) e of_s) of_t)
    (subst (λ (j : Draft). AnswersShape j.d s budget j.commands output r) e answers)

-- the table of a draft
record IsStopped (draft : Draft) (stop : BuildStop) : Type 0 where
  pub table : List Point
  pub there : draft.table ≡ Some table
  pub ends : EndsUnfolding draft.d table (Err stop)

stops_along : (a b : Draft) (p q : BuildStop) → a ≡ b → IsStopped a p → IsStopped b q → p ≡ q
stops_along a b p q e s t = let moved = subst (λ (j : Draft). IsStopped j p) e s in stops_once b moved.table t.table p q moved.there moved.ends t.there t.ends

stop_not_shape : (a b : Draft) (p : BuildStop) (shape : Shape) → a ≡ b → IsStopped a p → DescribesShape b shape → ⊥
stop_not_shape a b p shape e s of_shape = let moved = subst (λ (j : Draft). IsStopped j p) e s in stop_or_shape b moved.table p shape moved.there moved.ends of_shape

-- ---- what an answer is, for each reason

-- bytes that are too many have this answer only
pub only_long : (budget : ℕ) (bytes : List ℕ) → most_bytes < length bytes → (output : List ℕ) (r : Status) → AnswersJob budget bytes output r → IsThisText (fault_line TooLong) status.Refused output r
only_long budget bytes many output r (too_long a s e) = (e, s)
only_long budget bytes many output r (no_job n a fault s e) = absurd (omega arith)
only_long budget bytes many output r (not_unfolded j table stop a reads is ends s e) = absurd (omega arith)
only_long budget bytes many output r (answered j shape a reads describes answers) = absurd (omega arith)

module _ (law : JobLaw) (budget : ℕ) (bytes : List ℕ) where
  -- bytes with a first fault have this answer only
  pub only_fault : (fault : Fault) → length bytes ≤ most_bytes → IsFirstFault bytes fault → (output : List ℕ) (r : Status) → AnswersJob budget bytes output r
      → IsThisText (fault_line fault) status.Refused output r
  only_fault n few fault output r (too_long a s e) = absurd (omega arith)
  only_fault n few fault output r (no_job n' a fault' s e) = (e ∙ ap (λ (k : Fault). fault_line k) (law.one_fault bytes n' n fault' fault), s)
  only_fault n few fault output r (not_unfolded j table stop a reads is ends s e) = absurd (law.not_both bytes j n reads fault)
  only_fault n few fault output r (answered j shape a reads describes answers) = absurd (law.not_both bytes j n reads fault)

  -- a job whose table isn't unfolded has this answer only
  pub only_stop : (draft : Draft) (table : List Point) (stop : BuildStop) → length bytes ≤ most_bytes → IsJob bytes draft → draft.table ≡ Some table → EndsUnfolding draft.d table (Err stop)
      → (output : List ℕ) (r : Status) → AnswersJob budget bytes output r → IsThisText (stop_line stop) (stop_status stop) output r
  only_stop j table stop few reads is ends output r (too_long a s e) = absurd (omega arith)
  only_stop j table stop few reads is ends output r (no_job n a fault s e) = absurd (law.not_both bytes j n reads fault)
  only_stop j table stop few reads is ends output r (not_unfolded j' table' stop' a reads' is' ends' s e) =
      let same = stops_along j' j stop' stop (law.one_job bytes j' j reads' reads) (record { table = table'; there = is'; ends = ends' }) (record { table = table; there = is; ends = ends }) in
      (e ∙ ap stop_line same, s ∙ ap stop_status same)
  only_stop j table stop few reads is ends output r (answered j' shape a reads' describes answers) =
      absurd (stop_not_shape j j' stop shape (law.one_job bytes j j' reads reads') (record { table = table; there = is; ends = ends }) describes)

  -- a job that describes a shape has the answer of that only
  pub only_shape : (draft : Draft) (shape : Shape) → length bytes ≤ most_bytes → IsJob bytes draft → DescribesShape draft shape → (output : List ℕ) (r : Status) → AnswersJob budget bytes output r
      → AnswersShape draft.d shape budget draft.commands output r
  only_shape j shape few reads describes output r (too_long a s e) = absurd (omega arith)
  only_shape j shape few reads describes output r (no_job n a fault s e) = absurd (law.not_both bytes j n reads fault)
  only_shape j shape few reads describes output r (not_unfolded j' table stop a reads' is ends s e) =
      absurd (stop_not_shape j' j stop shape (law.one_job bytes j' j reads' reads) (record { table = table; there = is; ends = ends }) describes)
  only_shape j shape few reads describes output r (answered j' shape' a reads' describes' answers) =
      shape_along budget j' j shape' shape output r (law.one_job bytes j' j reads' reads) describes' describes answers

  -- so it is unique
  pub answered_unique : (o o' : List ℕ) (r r' : Status) → AnswersJob budget bytes o r → AnswersJob budget bytes o' r' → (o ≡ o') × (r ≡ r')
  answered_unique o o' r r' (too_long a s e) b = let just = only_long budget bytes a o' r' b in (e ∙ sym just.0, s ∙ sym just.1)
  answered_unique o o' r r' (no_job n a fault s e) b = let just = only_fault n a fault o' r' b in (e ∙ sym just.0, s ∙ sym just.1)
  answered_unique o o' r r' (not_unfolded j table stop a reads is ends s e) b = let just = only_stop j table stop a reads is ends o' r' b in (e ∙ sym just.0, s ∙ sym just.1)
  answered_unique o o' r r' (answered j shape a reads describes answers) b =
      shape_answer_unique j.d shape budget j.commands (described_strict j shape describes) o o' r r' answers (only_shape j shape a reads describes o' r' b)
