-- What commands about the surface of a shape are answered with: it is one answer.
use Rattle.std.proofs.Common.{◌≡◌, ℕ, false, List, refl, sym, ap, ◌∙◌, subst}
use Rattle.std.specs.List.{AllByRecursion}
use Rattle.fs_lists.proofs.First.{first_not_all, first_or_all, first_unique}
use Rattle.fs_quadratic.specs.Radicand.{IsRadicand}
use Rattle.fs_gluing.specs.declared.shapes.Shape.{Shape}
use Rattle.fs_gluing.specs.FirstFault.{Test, PassesOf, tests_of, IsFirstFailure, stop_of}
use Rattle.fs_gluing.specs.Shape.{HasShape}
use Rattle.fs_gluing.specs.Surface.{GluedPolygons}
use Rattle.fs_gluing.proofs.Outcome.SurfaceExists.{surface_exists}
use Rattle.fs_gluing.proofs.Outcome.SurfaceUnique.{surface_unique}
use Rattle.fs_job.specs.declared.job.Command.{Command}
use Rattle.fs_job.specs.Reading.{HasDirection}
use Rattle.fs_cli.specs.declared.outcome.Status.{Status}
use Rattle.fs_cli.specs.Answer.{AnswersShape, not_built, built, AnswersCommands, stop_line, stop_status}
use Rattle.fs_cli.specs.Writing.{IsThisText}
use Rattle.fs_cli.proofs.CommandTexts.{commands_exist, commands_unique}
use Rattle.fs_cli.proofs.DescribedShapes.{IsFit}

module _ (d : ℕ) (shape : Shape) (budget : ℕ) (commands : List Command) where
  abbrev Passes : Test → Type 0
  Passes = PassesOf d shape

  -- a shape that fails a test has this answer only
  pub only_failure : (test : Test) → IsFirstFailure d shape test → (output : List ℕ) (r : Status) → AnswersShape d shape budget commands output r → IsThisText (stop_line (stop_of test)) (stop_status (stop_of test)) output r
  only_failure test first output r (not_built other first' s e) =
      let same = first_unique Passes (tests_of shape) other test first' first in
      (e ∙ ap (λ (x : Test). stop_line (stop_of x)) same, s ∙ ap (λ (x : Test). stop_status (stop_of x)) same)
  only_failure test first output r (built s surface of_shape all texts) = absurd (first_not_all Passes (tests_of shape) test first all)

  -- one that passes all tests has the answers about its surface only
  pub only_built : (s : GluedPolygons) → HasShape d shape s → AllByRecursion Passes (tests_of shape) → (output : List ℕ) (r : Status) → AnswersShape d shape budget commands output r → AnswersCommands s budget commands output r
  only_built s of_s all output r (not_built test first t e) = absurd (first_not_all Passes (tests_of shape) test first all)
  only_built s of_s all output r (built t surface of_t all' texts) = subst (λ (u : GluedPolygons). AnswersCommands u budget commands output r) (surface_unique d shape t s of_t of_s all) texts

  -- there is one answer at most
  pub shape_answer_unique : shape.straight ≡ false → (o o' : List ℕ) (r r' : Status) → AnswersShape d shape budget commands o r → AnswersShape d shape budget commands o' r' → (o ≡ o') × (r ≡ r')
  shape_answer_unique strict o o' r r' (not_built test first s e) b = let just = only_failure test first o' r' b in (e ∙ sym just.0, s ∙ sym just.1)
  shape_answer_unique strict o o' r r' (built s surface of_shape all texts) b =
      commands_unique s budget surface (of_shape.straight ∙ strict) commands o o' r r' texts (only_built s of_shape all o' r' b)

  -- and there is one
  pub shape_answer_exists : shape.straight ≡ false → IsRadicand d → IsFit shape → AllByRecursion HasDirection commands → ((output : List ℕ) (r : Status) → ¬ AnswersShape d shape budget commands output r) → ⊥
  shape_answer_exists strict radicand fit directions none =
      first_or_all Passes (tests_of shape) (λ test first. none _ _ (not_built test first refl refl))
      (λ all.
      let s = surface_exists d shape all radicand fit.limits fit.points in
      commands_exist s.0 budget s.1 (s.2.straight ∙ strict) commands directions (λ output r texts. none output r (built s.0 s.1 s.2 all texts)))
