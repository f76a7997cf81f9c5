-- The summary of a staircase: it is one, and how it is written.
use Rattle.std.proofs.Common.{◌≡◌, ◌≢◌, ℕ, zero, suc, ◌+◌, ◌*◌, ◌%◌, ◌<◌, ◌≤◌, List, ◌++◌, map, Option, Result, Ok, Err, refl, sym, ap, ◌∙◌, subst, inl, inr, arith, append_assoc}
use Rattle.std.specs.Io.KnownBytes.{Appends}
use Rattle.std.proofs.KnownBytes.{Appends-trans}
use Rattle.std.specs.List.{AllByRecursion, range_with_len}
use Rattle.std.proofs.lemmas.Nat.{mod-mul-add}
use Rattle.fs_lists.proofs.First.{first_not_all}
use Rattle.fs_io.specs.Faults.{Rose}
use Rattle.fs_quadratic.specs.Radicand.{IsRadicand}
use Rattle.fs_plane.specs.Vector.{PlaneVector, vector_zero, east}
use Rattle.fs_gluing.specs.declared.faults.BuildStop.{BuildStop}
use Rattle.fs_gluing.specs.declared.shapes.Shape.{Shape}
use Rattle.fs_gluing.specs.FirstFault.{PassesOf, tests_of, IsBuildResult}
use Rattle.fs_gluing.specs.Shape.{HasShape}
use Rattle.fs_gluing.specs.Surface.{GluedPolygons, IsSurface}
use Rattle.fs_gluing.proofs.Outcome.SurfaceExists.{HasDenominators, surface_exists}
use Rattle.fs_gluing.proofs.Outcome.SurfaceUnique.{surface_unique}
use Rattle.fs_job.specs.declared.job.Command.{Command}
use Rattle.fs_job.specs.declared.job.Form.TheVariants.{Polygons}
use Rattle.fs_job.specs.declared.job.Job.{Job}
use Rattle.fs_workload.specs.Staircase.{rectangle_at, north, staircase_shape, staircase_commands, IsStaircase}
use Rattle.fs_workload.proofs.StaircaseLimits.{shape_within}
use Rattle.fs_cli.specs.declared.answering.Extent.TheVariants as extents
use Rattle.fs_cli.specs.declared.outcome.Status.{Status}
use Rattle.fs_cli.specs.declared.outcome.Status.TheVariants as status
use Rattle.fs_cli.specs.declared.words.Staircase.{Staircase}
use Rattle.fs_cli.specs.Answer.{IsWhole, AnswersAll, AnswersFirstLine, staircase_line, AnswersStaircase, stop_line, stop_status, status_of}
use Rattle.fs_cli.specs.Words.{most_rectangles}
use Rattle.fs_cli.specs.Writing.{Writes, IsThisText, HasStatus}
use Rattle.fs_cli.proofs.CallWrites.{writes_no_memory}
use Rattle.fs_cli.proofs.CommandTexts.{answers_all_unique, one_to_extent, answers_all_exists}

-- √2 is the root of a field
below : (m : ℕ) → 3 ≤ m → 2 % m ≢ 0
below m l e = let two : 2 ≡ 0 * m + 2 = omega arith in let f = ap (λ n. n % m) two ∙ mod-mul-add 0 m 2 (omega (arith, l)) in let g = sym f ∙ e in cc

radicand : IsRadicand 2
radicand = record { least = omega arith; greatest = omega arith; squarefree = λ k l. below (k * k) (square k l) }
  where
    square : (k : ℕ) → 2 ≤ k → 3 ≤ k * k
    square zero l = absurd (omega (arith, l))
    square (suc zero) l = absurd (omega (arith, l))
    square (suc (suc k)) l = omega arith

east_not_zero : east ≢ vector_zero
east_not_zero e = let f = ap (λ (v : PlaneVector). v.x.p) e in cc

north_not_zero : north ≢ vector_zero
north_not_zero e = let f = ap (λ (v : PlaneVector). v.y.p) e in cc

-- the shape of a job that is a staircase is built as that of the staircase
pub built_shape : (k seed : ℕ) (job : Job) (shape : Shape) (built : Result GluedPolygons BuildStop) → IsStaircase k seed job → job.form ≡ Polygons shape → IsBuildResult job.field.d shape built → IsBuildResult 2 (staircase_shape k seed) built
built_shape k seed job shape built is form judged =
    let same : shape ≡ staircase_shape k seed = (let e = sym form ∙ is.form in let f : shape ≡ staircase_shape k seed = cc in f) in
    subst (λ (d : ℕ). IsBuildResult d (staircase_shape k seed) built) is.field (subst (λ (s : Shape). IsBuildResult job.field.d s built) same judged)

-- what was written for equal commands
pub writes_equal_commands : (result : Status) (held held' : Option (List ℕ)) (faults faults' : ℕ) (s : GluedPolygons) (budget : ℕ) {commands commands' : List Command} → commands ≡ commands'
    → Writes (HasStatus (AnswersAll (AnswersFirstLine s budget) commands)) result held held' faults faults' → Writes (HasStatus (AnswersAll (AnswersFirstLine s budget) commands')) result held held' faults faults'
writes_equal_commands result held held' faults faults' s budget e = subst (λ (cs : List Command). Writes (HasStatus (AnswersAll (AnswersFirstLine s budget) cs)) result held held' faults faults') e

-- the shape of each staircase passes all tests
pub record StaircaseLaw : Type 0 where
  pub passes : (k seed : ℕ) → 1 ≤ k → k ≤ 200 → AllByRecursion (PassesOf 2 (staircase_shape k seed)) (tests_of (staircase_shape k seed))

module _ (law : StaircaseLaw) (budget : ℕ) (made : Staircase) (some : 1 ≤ made.rectangles) (few : made.rectangles ≤ most_rectangles) where
  abbrev S : Shape
  S = staircase_shape made.rectangles made.seed

  passes : AllByRecursion (PassesOf 2 S) (tests_of S)
  passes = law.passes made.rectangles made.seed some few

  one : (0 < 1) × (0 < 1)
  one = (omega arith, omega arith)

  rectangles_denominators : (i n : ℕ) → AllByRecursion (AllByRecursion HasDenominators) (map (rectangle_at made.seed) (range_with_len i n))
  rectangles_denominators i zero = tt
  rectangles_denominators i (suc n) = ((one, (one, (one, (one, tt)))), rectangles_denominators (i + 1) n)

  -- the lines after the first
  abbrev Lines : GluedPolygons → List ℕ → Status → Type 0
  Lines s = HasStatus (AnswersAll (AnswersFirstLine s budget) staircase_commands)

  module _ (s : GluedPolygons) (surface : IsSurface s) (of_s : HasShape 2 S s) where
    -- they follow the line of the staircase
    lines_follow : (output : List ℕ) (r : Status) → Lines s output r → AnswersStaircase budget made (staircase_line made ++ output) r
    lines_follow output r means = record { surface = s; is = surface; shape = of_s; lines = output; partial = means.0; each = means.1; whole = refl; kind = means.2 }

    -- and nothing else does
    only_lines : (output : List ℕ) (r : Status) → AnswersStaircase budget made output r → (rest : List ℕ) × (output ≡ staircase_line made ++ rest) × Lines s rest r
    only_lines output r a = (
      a.lines,
      a.whole,
      (a.partial, subst (λ (t : GluedPolygons). AnswersAll (AnswersFirstLine t budget) staircase_commands a.lines a.partial) (surface_unique 2 S a.surface s a.shape of_s passes) a.each, a.kind),
    )

  -- a staircase has one answer at most
  pub staircase_unique : (m n : List ℕ) (r q : Status) → AnswersStaircase budget made m r → AnswersStaircase budget made n q → (m ≡ n) × (r ≡ q)
  staircase_unique m n r q a b =
      let other = only_lines a.surface a.is a.shape n q b in
      let same = answers_all_unique (AnswersFirstLine a.surface budget) (one_to_extent a.surface budget a.is a.shape.straight extents.FirstLine) staircase_commands a.lines other.0 a.partial other.2.0 a.each other.2.1 in (
        a.whole ∙ (ap (λ (text : List ℕ). staircase_line made ++ text) same.0 ∙ sym other.1),
        a.kind ∙ (ap status_of same.1 ∙ sym other.2.2),
      )

  -- and one
  pub staircase_exists : ((output : List ℕ) (r : Status) → ¬ AnswersStaircase budget made output r) → ⊥
  staircase_exists none =
      let s = surface_exists 2 S passes radicand (shape_within made.rectangles made.seed some few S refl) (rectangles_denominators 0 made.rectangles) in
      answers_all_exists s.0 budget s.1 s.2.straight extents.FirstLine staircase_commands (tt, (tt, (tt, (tt, (tt, tt))))) (tt, (tt, (tt, (east_not_zero, (north_not_zero, tt)))))
      (λ lines partial each. none (staircase_line made ++ lines) (status_of partial) (lines_follow s.0 s.1 s.2 lines (status_of partial) (partial, each, refl)))

  -- ---- what is written

  -- it is built, or memory ran out
  pub writes_no_fault : (result : Status) (held held' : Option (List ℕ)) (faults faults' : ℕ) (stop : BuildStop) → IsBuildResult 2 S (Err stop) → Writes (IsThisText (stop_line stop) (stop_status stop)) result held held' faults faults'
      → Writes (AnswersStaircase budget made) result held held' faults faults'
  writes_no_fault result held held' faults faults' stop judged w = elim judged [
    | inl none ↦ writes_no_memory result held held' faults faults' (AnswersStaircase budget made) (subst (λ s. Writes (IsThisText (stop_line s) (stop_status s)) result held held' faults faults') none w)
    | inr failed ↦ absurd (first_not_all (PassesOf 2 S) (tests_of S) failed.0 failed.1 passes)
  ]

  module _ (s : GluedPolygons) (judged : IsBuildResult 2 S (Ok s)) where
    -- its line, and then the first line of each answer
    pub writes_summary : (first result : Status) (held between held' : Option (List ℕ)) (faults once twice : ℕ) → first ≡ status.Done
        → Writes (IsThisText (staircase_line made) status.Done) first held between faults once → Writes (Lines s) result between held' once twice
        → Writes (AnswersStaircase budget made) result held held' faults twice
    writes_summary first result held between held' faults once twice done w v =
        let title = w.whole (subst IsWhole (sym done) tt) in
        let appended = subst (Appends held between) title.1.0 title.2 in
        let same : once ≡ faults = w.kept (λ e. let f = sym done ∙ e in cc) in
        record {
          kinds = v.kinds;
          whole = λ whole. let wrote = v.whole whole in
              (staircase_line made ++ wrote.0, lines_follow s judged.0 judged.1 wrote.0 result wrote.1, Appends-trans held between held' (staircase_line made) wrote.0 appended wrote.2);
          broken = λ broken. let wrote = v.broken broken in (
            staircase_line made ++ wrote.0,
            (λ output r means.
                let only = only_lines s judged.0 judged.1 output r means in
                let rest = wrote.1 only.0 r only.2 in
                (rest.0, only.1 ∙ (ap (λ (text : List ℕ). staircase_line made ++ text) rest.1 ∙ sym (append_assoc (staircase_line made) wrote.0 rest.0)))),
            Appends-trans held between held' (staircase_line made) wrote.0 appended wrote.2,
          );
          write_fault = λ e. subst (λ (f : ℕ). Rose f twice) same (v.write_fault e);
          kept = λ other. v.kept other ∙ same;
          never_falls = subst (λ (f : ℕ). f ≤ twice) same v.never_falls;
        }

    -- or it broke off in its line
    pub writes_title : (result : Status) (held held' : Option (List ℕ)) (faults faults' : ℕ) → result ≢ status.Done → Writes (IsThisText (staircase_line made) status.Done) result held held' faults faults'
        → Writes (AnswersStaircase budget made) result held held' faults faults'
    writes_title result held held' faults faults' other w = record {
      kinds = w.kinds;
      whole = λ whole. absurd (other (w.whole whole).1.1);
      broken = λ broken. let wrote = w.broken broken in (
        wrote.0,
        (λ output r means.
            let only = only_lines s judged.0 judged.1 output r means in
            let rest = wrote.1 (staircase_line made) status.Done (refl, refl) in
            (rest.0 ++ only.0, only.1 ∙ (ap (λ (text : List ℕ). text ++ only.0) rest.1 ∙ append_assoc wrote.0 rest.0 only.0))),
        wrote.2,
      );
      write_fault = w.write_fault;
      kept = w.kept;
      never_falls = w.never_falls;
    }
