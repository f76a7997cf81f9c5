-- What a call wrote, from what the calls in it wrote.
use Rattle.std.proofs.Common.{◌≡◌, ◌≢◌, ℕ, ◌+◌, ◌<◌, ◌≤◌, ◌⊎◌, ◌↔◌, Bool, false, List, [], ◌∷◌, ◌++◌, Option, None, Some, IfSome, Ok, Err, length, refl, sym, ap, ◌∙◌, subst, inl, inr, arith, append-nil, length-append}
use Rattle.std.specs.Io.KnownBytes.{Consumes, Appends, IsAtEnd}
use Rattle.std.specs.List.{AllByRecursion}
use Rattle.std.proofs.KnownBytes.{Appends-nil}
use Rattle.fs_lists.specs.First.{IsFirstWithout}
use Rattle.fs_io.specs.Whole.{most_bytes}
use Rattle.fs_gluing.specs.declared.faults.Fault.{Fault}
use Rattle.fs_gluing.specs.declared.faults.Fault.TheVariants.{NoSuchSide, TooLong}
use Rattle.fs_gluing.specs.declared.faults.BuildStop.{BuildStop}
use Rattle.fs_gluing.specs.declared.faults.BuildStop.TheVariants as stops
use Rattle.fs_gluing.specs.FirstFault.{Test, IsFirstFailure, IsBuildResult, stop_of}
use Rattle.fs_gluing.specs.declared.shapes.Point.{Point}
use Rattle.fs_gluing.specs.declared.shapes.Shape.{Shape}
use Rattle.fs_unfold.specs.Unfolding.{EndsUnfolding, ReturnsUnfolding}
use Rattle.fs_gluing.specs.Surface.{GluedPolygons, IsSurface}
use Rattle.fs_job.specs.declared.job.Command.{Command}
use Rattle.fs_job.specs.declared.job.JobStop.{JobStop}
use Rattle.fs_job.specs.declared.job.JobStop.TheVariants as job_stops
use Rattle.fs_job.specs.Draft.{Draft}
use Rattle.fs_job.specs.Grammar.{IsJob, IsFirstFault}
use Rattle.fs_report.specs.Answers.{Answers, HasCorner}
use Rattle.fs_report.specs.Text.{fault_line}
use Rattle.fs_cli.specs.declared.outcome.Status.{Status}
use Rattle.fs_cli.specs.declared.outcome.Status.TheVariants as status
use Rattle.fs_cli.specs.Answer.{AnswersJob, AnswersCommands, no_such_corner, each_answered, stated_line, AnswersStaircase, AnswersAsked, IsAnswered, too_long, no_job, not_unfolded, answered, DescribesShape, AnswersShape, not_built, built, BeginsEach, stop_line, stop_status, AnswersAll, status_of, IsWhole, IsBroken}
use Rattle.fs_cli.specs.declared.words.Request.{Request}
use Rattle.fs_cli.specs.declared.words.Staircase.{Staircase}
use Rattle.fs_cli.specs.Words.{GiveRequest, AskForStaircase}
use Rattle.fs_cli.specs.Writing.{Writes, IsThisText, HasStatus}
use Rattle.fs_cli.proofs.CommandTexts.{IsOneForEach, commands_unique, only_each}
use Rattle.fs_cli.proofs.Requests.{request_unique, same_staircase}
use Rattle.fs_cli.proofs.AnsweredUnique.{JobLaw, only_long, only_fault, only_stop, only_shape}
use Rattle.fs_cli.proofs.ShapeAnswers.{only_failure, only_built}

-- where the words are admitted, the status isn't `Usage`
pub no_usage : {words : List (List ℕ)} {request : Request} (result : Status) → GiveRequest words request → result ≢ status.Usage → (result ≡ status.Usage) ↔ ((other : Request) → ¬ GiveRequest words other)
no_usage {words} {request} result given other = ((λ e. absurd (other e)), (λ none. absurd (none request given)))

-- ---- what an answer is, by what the words ask for

module _ {words : List (List ℕ)} {request : Request} (given : GiveRequest words request) {bytes output : List ℕ} {r : Status} where
  -- an answer is one to what they ask for
  answer_of : IsAnswered words bytes output r → AnswersAsked request.budget request.staircase bytes output r
  answer_of a = subst (λ (q : Request). AnswersAsked q.budget q.staircase bytes output r) (request_unique words a.request request a.given given) a.answer

  -- to a job
  pub job_answer : request.staircase ≡ None → IsAnswered words bytes output r → AnswersJob request.budget bytes output r
  job_answer none a = subst (λ (o : Option Staircase). AnswersAsked request.budget o bytes output r) none (answer_of a)

  pub answers_job : request.staircase ≡ None → AnswersJob request.budget bytes output r → IsAnswered words bytes output r
  answers_job none a = record { request = request; given = given; answer = subst (λ (o : Option Staircase). AnswersAsked request.budget o bytes output r) (sym none) a }

  -- or to a staircase
  pub staircase_answer : (staircase : Staircase) → request.staircase ≡ Some staircase → IsAnswered words bytes output r → AnswersStaircase request.budget staircase output r
  staircase_answer staircase is a = subst (λ (o : Option Staircase). AnswersAsked request.budget o bytes output r) is (answer_of a)

  pub answers_staircase : (staircase : Staircase) → request.staircase ≡ Some staircase → AnswersStaircase request.budget staircase output r → IsAnswered words bytes output r
  answers_staircase staircase is a = record { request = request; given = given; answer = subst (λ (o : Option Staircase). AnswersAsked request.budget o bytes output r) (sym is) a }

-- nor is it that of an answer, whole or broken off
pub answer_no_usage : (result : Status) → IsWhole result ⊎ IsBroken result → result ≢ status.Usage
answer_no_usage result kinds e = elim kinds [ inl whole ↦ subst IsWhole e whole | inr broken ↦ subst IsBroken e broken ]

-- each answer begins with the empty text
pub nothing_begins : (words : List (List ℕ)) (old held : Option (List ℕ)) → IfSome old (λ bytes. (prefix : List ℕ) × BeginsEach (IsAnswered words bytes) prefix × Appends held held prefix)
nothing_begins words None held = tt
nothing_begins words (Some bytes) held = ([], λ output result answered. (output, refl), Appends-nil held)

-- ---- bytes that are too many

module _ (words : List (List ℕ)) (request : Request) (given : GiveRequest words request) (no_staircase : request.staircase ≡ None) where
  -- each answer to them begins with what begins the refusal
  pub too_long_begins : (old new : Option (List ℕ)) (taken : List ℕ) (held held' : Option (List ℕ)) → Consumes old new taken → length taken ≡ most_bytes + 1
      → (prefix : List ℕ) × BeginsEach (IsThisText (fault_line TooLong) status.Refused) prefix × Appends held held' prefix
      → IfSome old (λ bytes. (prefix : List ℕ) × BeginsEach (IsAnswered words bytes) prefix × Appends held held' prefix)
  too_long_begins None new taken held held' c many wrote = tt
  too_long_begins (Some bytes) None taken held held' c many wrote = absurd c
  too_long_begins (Some bytes) (Some rest) taken held held' c many wrote =
      let long : most_bytes < length bytes = omega (arith, ap length c, length-append taken rest) in
      (wrote.0, λ output r answered. wrote.1 output r (only_long request.budget bytes long output r (job_answer given no_staircase answered)), wrote.2)

  -- they are refused
  pub too_long_whole : (old new : Option (List ℕ)) (taken : List ℕ) (held held' : Option (List ℕ)) (result : Status) → Consumes old new taken
      → length taken ≡ most_bytes + 1 → (output : List ℕ) × IsThisText (fault_line TooLong) status.Refused output result × Appends held held' output
      → IfSome old (λ bytes. (output : List ℕ) × IsAnswered words bytes output result × Appends held held' output)
  too_long_whole None new taken held held' result c many wrote = tt
  too_long_whole (Some bytes) None taken held held' result c many wrote = absurd c
  too_long_whole (Some bytes) (Some rest) taken held held' result c many wrote =
      let long : most_bytes < length bytes = omega (arith, ap length c, length-append taken rest) in
      (wrote.0, answers_job given no_staircase (too_long long wrote.1.1 wrote.1.0), wrote.2)

  -- and only so
  pub too_long_only : (old new : Option (List ℕ)) (taken : List ℕ) (result : Status) → Consumes old new taken → length taken ≡ most_bytes + 1 → result ≡ status.Refused
      → IfSome old (λ bytes. (output : List ℕ) → (other : Status) → IsAnswered words bytes output other → other ≡ result)
  too_long_only None new taken result c many is = tt
  too_long_only (Some bytes) None taken result c many is = absurd c
  too_long_only (Some bytes) (Some rest) taken result c many is =
      let long : most_bytes < length bytes = omega (arith, ap length c, length-append taken rest) in
      λ output other answered. (only_long request.budget bytes long output other (job_answer given no_staircase answered)).1 ∙ sym is

-- what was read to the end is all that was left
pub all_read : (old new : Option (List ℕ)) (items : List ℕ) → Consumes old new items → IsAtEnd new → (P : List ℕ → Type 0) → P items → IfSome old P
all_read None new items c e P p = tt
all_read (Some bytes) None items c e P p = absurd c
all_read (Some bytes) (Some rest) items c e P p = subst P (sym (c ∙ (ap (λ (ys : List ℕ). items ++ ys) e ∙ append-nil items))) p

-- what holds of all bytes holds of those that are left
pub of_each : (old : Option (List ℕ)) (P : List ℕ → Type 0) → ((bytes : List ℕ) → P bytes) → IfSome old P
of_each None P each = tt
of_each (Some bytes) P each = each bytes

module _ (result : Status) (held held' : Option (List ℕ)) (faults faults' : ℕ) where
  -- two relations that mean the same texts
  writes_meant : (M N : List ℕ → Status → Type 0) → ((output : List ℕ) (r : Status) → M output r → N output r) → ((output : List ℕ) (r : Status) → N output r → M output r)
      → Writes M result held held' faults faults' → Writes N result held held' faults faults'
  writes_meant M N there back w = record {
    kinds = w.kinds;
    whole = λ whole. let wrote = w.whole whole in (wrote.0, there wrote.0 result wrote.1, wrote.2);
    broken = λ broken. let wrote = w.broken broken in (wrote.0, λ output r means. wrote.1 output r (back output r means), wrote.2);
    write_fault = w.write_fault;
    kept = w.kept;
    never_falls = w.never_falls;
  }

  -- the relation means this text with this status, and no other
  writes_just : (N : List ℕ → Status → Type 0) (text : List ℕ) (meant : Status) → N text meant → ((output : List ℕ) (r : Status) → N output r → IsThisText text meant output r)
      → Writes (IsThisText text meant) result held held' faults faults' → Writes N result held held' faults faults'
  writes_just N text meant holds only =
      writes_meant (IsThisText text meant) N (λ output r just. subst (λ (t : List ℕ). N t r) (sym just.0) (subst (N text) (sym just.1) holds)) only

  -- where memory ran out nothing was written, which begins each text
  pub writes_no_memory : (N : List ℕ → Status → Type 0) → Writes (IsThisText [] status.NoMemory) result held held' faults faults' → Writes N result held held' faults faults'
  writes_no_memory N w = record {
    kinds = w.kinds;
    whole = λ whole. absurd (subst IsWhole ((w.whole whole).1.1) whole);
    broken = λ broken.
        let wrote = w.broken broken in
        let begins = wrote.1 [] status.NoMemory (refl, refl) in
        ([], (λ output r means. (output, refl)), subst (Appends held held') (nothing wrote.0 begins.0 begins.1) wrote.2);
    write_fault = w.write_fault;
    kept = w.kept;
    never_falls = w.never_falls;
  }
    where
      nothing : (prefix rest : List ℕ) → [] ≡ prefix ++ rest → prefix ≡ []
      nothing [] rest e = refl
      nothing (b ∷ prefix) rest e = absurd cc

  -- an equal text
  pub writes_along : (text text' : List ℕ) (meant : Status) → text ≡ text' → Writes (IsThisText text meant) result held held' faults faults' → Writes (IsThisText text' meant) result held held' faults faults'
  writes_along text text' meant e = subst (λ (t : List ℕ). Writes (IsThisText t meant) result held held' faults faults') e

  -- the line of an equal stop
  pub writes_equal_stop : (s t : BuildStop) → t ≡ s → Writes (IsThisText (stop_line s) (stop_status s)) result held held' faults faults' → Writes (IsThisText (stop_line t) (stop_status t)) result held held' faults faults'
  writes_equal_stop s t e = subst (λ (x : BuildStop). Writes (IsThisText (stop_line x) (stop_status x)) result held held' faults faults') (sym e)

  -- equal commands
  pub writes_commands : (d : ℕ) (shape : Shape) (budget : ℕ) (commands commands' : List Command) → commands ≡ commands'
      → Writes (AnswersShape d shape budget commands) result held held' faults faults' → Writes (AnswersShape d shape budget commands') result held held' faults faults'
  writes_commands d shape budget commands commands' e = subst (λ (cs : List Command). Writes (AnswersShape d shape budget cs) result held held' faults faults') e

  -- commands of which one names a corner that isn't there
  pub writes_missing : (s : GluedPolygons) (budget : ℕ) (commands : List Command) (command : Command) (line : ℕ) → IsSurface s → s.straight ≡ false → IsFirstWithout (HasCorner s) commands command → line ≡ stated_line command
      → Writes (IsThisText (fault_line (NoSuchSide line)) status.Refused) result held held' faults faults' → Writes (AnswersCommands s budget commands) result held held' faults faults'
  writes_missing s budget commands command line surface strict first is =
      let means : AnswersCommands s budget commands (fault_line (NoSuchSide line)) status.Refused =
      no_such_corner command first refl (ap (λ (n : ℕ). fault_line (NoSuchSide n)) is) in
      writes_just (AnswersCommands s budget commands) (fault_line (NoSuchSide line)) status.Refused means
      (λ output r other. commands_unique s budget surface strict commands output (fault_line (NoSuchSide line)) r status.Refused other means)

  -- commands that are all answered
  pub writes_each : (s : GluedPolygons) (budget : ℕ) (commands : List Command) → IsSurface s → s.straight ≡ false → AllByRecursion (HasCorner s) commands
      → Writes (HasStatus (AnswersAll (Answers s budget) commands)) result held held' faults faults' → Writes (AnswersCommands s budget commands) result held held' faults faults'
  writes_each s budget commands surface strict all =
      writes_meant (HasStatus (AnswersAll (Answers s budget) commands)) (AnswersCommands s budget commands)
      (λ output r means. each_answered means.0 all means.1 means.2)
      (λ output r means. only_each s budget surface strict commands all output r means)

  -- the text of a command, of which there is one at most
  pub writes_command : (Each : Command → List ℕ → Bool → Type 0) → IsOneForEach Each → (command : Command) (text : List ℕ) (partial : Bool) (meant : Status) → Each command text partial → meant ≡ status_of partial
      → Writes (IsThisText text meant) result held held' faults faults' → Writes (HasStatus (Each command)) result held held' faults faults'
  writes_command Each one_each command text partial meant answers is =
      writes_just (HasStatus (Each command)) text meant (partial, answers, is)
      (λ output r means.
      let one = one_each command output text means.0 partial means.1 answers in
      (one.0, means.2 ∙ (ap status_of one.1 ∙ sym is)))

  module _ (d : ℕ) (shape : Shape) (budget : ℕ) (commands : List Command) where
    -- a shape that isn't built
    pub writes_failure : (stop : BuildStop) → IsBuildResult d shape (Err stop) → Writes (IsThisText (stop_line stop) (stop_status stop)) result held held' faults faults'
        → Writes (AnswersShape d shape budget commands) result held held' faults faults'
    writes_failure stop judged w = elim judged [
      | inl none ↦ writes_no_memory (AnswersShape d shape budget commands) (subst (λ s. Writes (IsThisText (stop_line s) (stop_status s)) result held held' faults faults') none w)
      | inr failed ↦ stopped failed.0 failed.1 failed.2
    ]
      where
        stopped : (test : Test) → IsFirstFailure d shape test → stop ≡ stop_of test → Writes (AnswersShape d shape budget commands) result held held' faults faults'
        stopped test first same =
            writes_just (AnswersShape d shape budget commands) (stop_line stop) (stop_status stop) (not_built test first (ap stop_status same) (ap stop_line same))
            (λ output r means. let just = only_failure d shape budget commands test first output r means in (just.0 ∙ sym (ap stop_line same), just.1 ∙ sym (ap stop_status same))) w

    -- one that is built
    pub writes_built : (s : GluedPolygons) → IsBuildResult d shape (Ok s) → Writes (AnswersCommands s budget commands) result held held' faults faults'
        → Writes (AnswersShape d shape budget commands) result held held' faults faults'
    writes_built s judged =
        writes_meant (AnswersCommands s budget commands) (AnswersShape d shape budget commands)
        (λ output r means. built s judged.0 judged.1 judged.2 means)
        (only_built d shape budget commands s judged.1 judged.2)

  module _ (law : JobLaw) (budget : ℕ) (bytes : List ℕ) (few : length bytes ≤ most_bytes) where
    -- bytes that are no job
    pub writes_fault : (e : JobStop) (fault : Fault) → e ≡ job_stops.Fault fault → (e ≡ job_stops.NoMemory) ⊎ ((f : Fault) × (e ≡ job_stops.Fault f) × IsFirstFault bytes f)
        → Writes (IsThisText (fault_line fault) status.Refused) result held held' faults faults' → Writes (AnswersJob budget bytes) result held held' faults faults'
    writes_fault e fault is told =
        writes_just (AnswersJob budget bytes) (fault_line fault) status.Refused (no_job fault few first refl refl) (only_fault law budget bytes fault few first)
      where
        other_stops : job_stops.Fault fault ≡ job_stops.NoMemory → ⊥
        other_stops f = cc

        same_fault : {f : Fault} → job_stops.Fault fault ≡ job_stops.Fault f → fault ≡ f
        same_fault g = cc

        first : IsFirstFault bytes fault
        first = elim told [
          | inl none ↦ absurd (other_stops (sym is ∙ none))
          | inr found ↦ subst (IsFirstFault bytes) (sym (same_fault (sym is ∙ found.1))) found.2
        ]

    -- a job whose table isn't unfolded
    writes_stop : (draft : Draft) (table : List Point) (stop : BuildStop) → IsJob bytes draft → draft.table ≡ Some table → EndsUnfolding draft.d table (Err stop)
        → Writes (IsThisText (stop_line stop) (stop_status stop)) result held held' faults faults' → Writes (AnswersJob budget bytes) result held held' faults faults'
    writes_stop draft table stop reads is ends =
        writes_just (AnswersJob budget bytes) (stop_line stop) (stop_status stop) (not_unfolded draft table stop few reads is ends refl refl) (only_stop law budget bytes draft table stop few reads is ends)

    -- as it is returned
    pub writes_returned_stop : (draft : Draft) (table : List Point) (stop : BuildStop) → IsJob bytes draft → draft.table ≡ Some table → ReturnsUnfolding (EndsUnfolding draft.d table) (Err stop)
        → Writes (IsThisText (stop_line stop) (stop_status stop)) result held held' faults faults' → Writes (AnswersJob budget bytes) result held held' faults faults'
    writes_returned_stop draft table stops.NoMemory reads is ends w = writes_no_memory (AnswersJob budget bytes) w
    writes_returned_stop draft table (stops.Fault fault) reads is ends w = writes_stop draft table (stops.Fault fault) reads is ends w
    writes_returned_stop draft table (stops.Overflow site) reads is ends w = writes_stop draft table (stops.Overflow site) reads is ends w

    -- a job that describes a shape
    pub writes_shape : (draft : Draft) (shape : Shape) → IsJob bytes draft → DescribesShape draft shape → Writes (AnswersShape draft.d shape budget draft.commands) result held held' faults faults'
        → Writes (AnswersJob budget bytes) result held held' faults faults'
    writes_shape draft shape reads describes =
        writes_meant (AnswersShape draft.d shape budget draft.commands) (AnswersJob budget bytes)
        (λ output r means. answered draft shape few reads describes means)
        (only_shape law budget bytes draft shape few reads describes)

  -- the answer to words that ask for a job
  pub writes_job : (words : List (List ℕ)) (request : Request) (bytes : List ℕ) → GiveRequest words request → request.staircase ≡ None → Writes (AnswersJob request.budget bytes) result held held' faults faults'
      → Writes (IsAnswered words bytes) result held held' faults faults'
  writes_job words request bytes given none =
      writes_meant (AnswersJob request.budget bytes) (IsAnswered words bytes) (λ output r answer. answers_job given none answer) (λ output r answered. job_answer given none answered)

  -- and to words that ask for a staircase
  pub writes_staircase : (words : List (List ℕ)) (request : Request) (staircase : Staircase) (bytes : List ℕ) → GiveRequest words request → request.staircase ≡ Some staircase
      → Writes (AnswersStaircase request.budget staircase) result held held' faults faults' → Writes (IsAnswered words bytes) result held held' faults faults'
  writes_staircase words request staircase bytes given is =
      writes_meant (AnswersStaircase request.budget staircase) (IsAnswered words bytes) (λ output r answer. answers_staircase given staircase is answer)
      (λ output r answered. staircase_answer given staircase is answered)

  -- of whichever staircase the words are said to ask for
  pub writes_asked : (words : List (List ℕ)) (request : Request) (made : Staircase) → GiveRequest words request → request.staircase ≡ Some made → Writes (AnswersStaircase request.budget made) result held held' faults faults'
      → (budget : ℕ) (staircase : Staircase) → AskForStaircase words budget staircase → Writes (AnswersStaircase budget staircase) result held held' faults faults'
  writes_asked words request made given is w budget staircase asked =
      let same = same_staircase given is budget staircase asked in
      subst (λ (s : Staircase). Writes (AnswersStaircase budget s) result held held' faults faults') (sym same.1)
      (subst (λ (n : ℕ). Writes (AnswersStaircase n made) result held held' faults faults') (sym same.0) w)
