-- All bytes have an answer.
use Rattle.std.proofs.Common.{◌≤◌, ℕ, List, length, refl, arith}
use Rattle.fs_io.specs.Whole.{most_bytes}
use Rattle.fs_job.specs.Draft.{Draft}
use Rattle.fs_job.specs.Grammar.{IsJob}
use Rattle.fs_job.proofs.SoundDrafts.{job_sound}
use Rattle.fs_cli.specs.declared.outcome.Status.{Status}
use Rattle.fs_cli.specs.Answer.{AnswersJob, too_long, no_job, not_unfolded, answered}
use Rattle.fs_cli.proofs.AnsweredUnique.{JobLaw}
use Rattle.fs_cli.proofs.DescribedShapes.{described_strict, described_fit, shape_or_stop}
use Rattle.fs_cli.proofs.ShapeAnswers.{shape_answer_exists}

module _ (law : JobLaw) (budget : ℕ) (bytes : List ℕ) (none : (output : List ℕ) (result : Status) → ¬ AnswersJob budget bytes output result) where
  job_answered : length bytes ≤ most_bytes → (draft : Draft) → IsJob bytes draft → ⊥
  job_answered few draft reads =
      let sound = job_sound bytes draft reads in
      shape_or_stop draft sound.0
      (λ shape describes.
      shape_answer_exists draft.d shape budget draft.commands (described_strict draft shape describes) sound.0.radicand (described_fit draft shape sound.0 sound.1 describes) sound.0.directions
      (λ output r answers. none output r (answered draft shape few reads describes answers)))
      (λ table stop is ends. none _ _ (not_unfolded draft table stop few reads is ends refl refl))

  -- bytes have an answer
  pub answered_exists : ⊥
  answered_exists = by_length (λ few. law.not_neither bytes (job_answered few) (λ fault at. none _ _ (no_job fault few at refl refl)))
    where
      by_length : ¬ (length bytes ≤ most_bytes) → ⊥
      by_length many = none _ _ (too_long (omega arith) refl refl)
