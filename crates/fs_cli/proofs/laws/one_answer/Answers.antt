use Rattle.std.proofs.Common.{ℕ, ◌≡◌, ◌≤◌, Option, None, Some, List, refl, subst}
use Rattle.fs_cli.specs.declared.outcome.Status.{Status}
use Rattle.fs_cli.specs.declared.words.Request.{Request}
use Rattle.fs_cli.specs.declared.words.Staircase.{Staircase}
use Rattle.fs_cli.specs.Answer.{AnswersAsked}
use Rattle.fs_cli.proofs.Requests.{request_unique, request_bounded}
use Rattle.fs_cli.proofs.AnsweredUnique.{JobLaw, answered_unique}
use Rattle.fs_cli.proofs.AnsweredExists.{answered_exists}
use Rattle.fs_cli.proofs.Summaries.{StaircaseLaw, staircase_unique, staircase_exists}
use Rattle.fs_cli.proofs.laws.one_answer.Goals as goal

module _ (law : JobLaw) (staircases : StaircaseLaw) (budget : ℕ) (bytes : List ℕ) where
  one : (o : Option Staircase) → ((s : Staircase) → o ≡ Some s → (1 ≤ s.rectangles) × (s.rectangles ≤ 200)) → (m n : List ℕ) (r q : Status) → AnswersAsked budget o bytes m r → AnswersAsked budget o bytes n q → (m ≡ n) × (r ≡ q)
  one None bounded m n r q a b = answered_unique law budget bytes m n r q a b
  one (Some s) bounded m n r q a b = let l = bounded s refl in staircase_unique staircases budget s l.0 l.1 m n r q a b

  some : (o : Option Staircase) → ((s : Staircase) → o ≡ Some s → (1 ≤ s.rectangles) × (s.rectangles ≤ 200)) → ((output : List ℕ) (r : Status) → ¬ AnswersAsked budget o bytes output r) → ⊥
  some None bounded none = answered_exists law budget bytes none
  some (Some s) bounded none = let l = bounded s refl in staircase_exists staircases budget s l.0 l.1 none

pub returns : goal.returns
returns c =
    let law : JobLaw = record { one_job = c.job_or_fault.ensures.one_job; one_fault = c.job_or_fault.ensures.one_fault; not_both = c.job_or_fault.ensures.not_both; not_neither = c.job_or_fault.ensures.not_neither } in
    let staircases : StaircaseLaw = record { passes = c.staircase_builds.ensures.passes } in
    record {
      one = λ words bytes m n r s a b.
          one law staircases b.request.budget bytes b.request.staircase (request_bounded b.given).rectangles m n r s
          (subst (λ (q : Request). AnswersAsked q.budget q.staircase bytes m r) (request_unique words a.request b.request a.given b.given) a.answer) b.answer;
      some = λ words request given bytes none. some law staircases request.budget bytes request.staircase (request_bounded given).rectangles
          (λ output outcome answer. none output outcome (record { request = request; given = given; answer = answer }));
    }
