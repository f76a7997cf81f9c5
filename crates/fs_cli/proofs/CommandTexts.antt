-- The answers to commands, written one after the other.
use Rattle.std.proofs.Common.{◌≡◌, ◌≢◌, ℕ, ◌+◌, ◌<◌, ◌≤◌, Bool, true, false, ◌||◌, List, [], ◌∷◌, ◌++◌, Option, length, take, drop, get_or, refl, sym, ap, ◌∙◌, subst, arith, inl, append-nil, append_assoc, take-append-drop}
use Rattle.std.specs.Io.KnownBytes.{Appends}
use Rattle.std.proofs.KnownBytes.{Appends-trans}
use Rattle.std.proofs.Math.Bool.{or_assoc, or-false}
use Rattle.std.proofs.lemmas.List.{take_more, drop_more, take_all}
use Rattle.std.specs.List.{AllByRecursion}
use Rattle.fs_lists.specs.First.{IsFirstWithout}
use Rattle.fs_lists.proofs.First.{first_not_all, first_unique, first_or_all}
use Rattle.fs_io.specs.Faults.{Rose}
use Rattle.fs_gluing.specs.Surface.{GluedPolygons, IsSurface}
use Rattle.fs_job.specs.declared.job.Command.{Command}
use Rattle.fs_gluing.specs.declared.faults.Fault.TheVariants.{NoSuchSide}
use Rattle.fs_job.specs.Reading.{HasDirection}
use Rattle.fs_report.specs.Answers.{Answers, HasCorner}
use Rattle.fs_report.specs.Text.{fault_line}
use Rattle.fs_report.proofs.AnswersUnique.{answer_unique, answer_exists}
use Rattle.fs_cli.specs.declared.outcome.Status.{Status}
use Rattle.fs_cli.specs.declared.outcome.Status.TheVariants as status
use Rattle.fs_cli.specs.declared.answering.Extent.{Extent}
use Rattle.fs_cli.specs.declared.answering.Extent.TheVariants as extents
use Rattle.fs_cli.specs.Answer.{IsWhole, IsBroken, first_line, AnswersAll, AnswersCommands, no_such_corner, each_answered, stated_line, status_of, BeginsEach}
use Rattle.fs_cli.specs.Writing.{Writes, part_of, AnswersIn, HasStatus}

-- ---- the status of a text

still_done : (p q : Bool) → status_of q ≡ status.Done → status_of (p || q) ≡ status_of p
still_done p true e = cc
still_done true false e = refl
still_done false false e = refl

now_partial : (p q : Bool) → status_of q ≡ status.Partial → status_of (p || q) ≡ status.Partial
now_partial p false e = cc
now_partial true true e = refl
now_partial false true e = refl

neither : (p : Bool) (result : Status) → result ≡ status_of p → result ≢ status.Done → result ≢ status.Partial → ⊥
neither true result e done partial = partial e
neither false result e done partial = done e

is_whole : (p : Bool) → IsWhole (status_of p)
is_whole true = tt
is_whole false = tt

not_broken : (p : Bool) → IsBroken (status_of p) → ⊥
not_broken true b = b
not_broken false b = b

not_write_fault : (p : Bool) → status_of p ≡ status.WriteFault → ⊥
not_write_fault true e = cc
not_write_fault false e = cc

-- a text that was written whole is no fault of writing
pub done_no_fault : {result : Status} → result ≡ status.Done → result ≢ status.WriteFault
done_no_fault done e = cc

pub partial_no_fault : {result : Status} → result ≡ status.Partial → result ≢ status.WriteFault
partial_no_fault partial e = cc

-- the first i commands were answered, with this status so far
abbrev pub AreAnswered : (Command → List ℕ → Bool → Type 0) → List Command → ℕ → Status → Option (List ℕ) → Option (List ℕ) → Type 0
AreAnswered Each commands i so_far held held' = (text : List ℕ) × HasStatus (AnswersAll Each (take i commands)) text so_far × Appends held held' text

-- each command has one answer at most
abbrev pub IsOneForEach : (Command → List ℕ → Bool → Type 0) → Type 0
IsOneForEach Each = (command : Command) (m n : List ℕ) (p q : Bool) → Each command m p → Each command n q → (m ≡ n) × (p ≡ q)

-- ---- commands have one text, and one way to be partial

-- commands have one text at most, partial or whole
pub answers_all_unique : (Each : Command → List ℕ → Bool → Type 0) → IsOneForEach Each → (commands : List Command) (m n : List ℕ) (p q : Bool) → AnswersAll Each commands m p → AnswersAll Each commands n q → (m ≡ n) × (p ≡ q)
answers_all_unique Each one_each [] m n p q a b = (a.0 ∙ sym b.0, a.1 ∙ sym b.1)
answers_all_unique Each one_each (command ∷ commands) m n p q a b =
    let one = one_each command a.prefix b.prefix a.prefix_partial b.prefix_partial a.one b.one in
    let other = answers_all_unique Each one_each commands a.rest b.rest a.rest_partial b.rest_partial a.other b.other in
    (cc, cc)

module _ (s : GluedPolygons) (budget : ℕ) (surface : IsSurface s) (strict : s.straight ≡ false) where
  -- an answer is one, to each extent
  pub one_to_extent : (extent : Extent) → IsOneForEach (AnswersIn extent s budget)
  one_to_extent extents.Whole command m n p q a b = answer_unique s budget command m n p q surface strict a b
  one_to_extent extents.FirstLine command m n p q a b =
      let same = answer_unique s budget command a.0 b.0 p q surface strict a.1 b.1 in
      (a.2 ∙ (ap first_line same.0 ∙ sym b.2), same.1)

  -- what is written of an answer is that answer to this extent
  pub to_extent : (extent : Extent) (command : Command) (text : List ℕ) (p : Bool) → Answers s budget command text p → AnswersIn extent s budget command (part_of extent text) p
  to_extent extents.Whole command text p answers = answers
  to_extent extents.FirstLine command text p answers = (text, answers, refl)

  -- commands have answers to each extent, where the surface has the corners that they name, and no direction is 0,0
  pub answers_all_exists : (extent : Extent) (commands : List Command) → AllByRecursion (HasCorner s) commands → AllByRecursion HasDirection commands
      → ((output : List ℕ) (partial : Bool) → ¬ AnswersAll (AnswersIn extent s budget) commands output partial) → ⊥
  answers_all_exists extent [] all some none = none [] false (refl, refl)
  answers_all_exists extent (command ∷ commands) all some none =
      answer_exists s budget command surface strict all.0 some.0 (λ text p answers. answers_all_exists extent commands all.1 some.1 (λ n q other. none (part_of extent text ++ n) (p || q)
      (record { prefix = part_of extent text; rest = n; prefix_partial = p; rest_partial = q; one = to_extent extent command text p answers; other = other; whole = refl; kind = refl })))

  -- commands have one answer at most
  pub commands_unique : (commands : List Command) (m n : List ℕ) (r q : Status) → AnswersCommands s budget commands m r → AnswersCommands s budget commands n q → (m ≡ n) × (r ≡ q)
  commands_unique commands m n r q (no_such_corner command first is text) (no_such_corner other first' is' text') =
      (text ∙ (ap (λ (c : Command). fault_line (NoSuchSide (stated_line c))) (first_unique (HasCorner s) commands command other first first') ∙ sym text'), is ∙ sym is')
  commands_unique commands m n r q (no_such_corner command first is text) (each_answered p all texts is') = absurd (first_not_all (HasCorner s) commands command first all)
  commands_unique commands m n r q (each_answered p all texts is) (no_such_corner command first is' text') = absurd (first_not_all (HasCorner s) commands command first all)
  commands_unique commands m n r q (each_answered p all texts is) (each_answered p' all' texts' is') =
      let one = answers_all_unique (Answers s budget) (one_to_extent extents.Whole) commands m n p p' texts texts' in
      (one.0, is ∙ (ap status_of one.1 ∙ sym is'))

  -- where the surface has all corners, each command is answered
  pub only_each : (commands : List Command) → AllByRecursion (HasCorner s) commands → (output : List ℕ) (r : Status) → AnswersCommands s budget commands output r → HasStatus (AnswersAll (Answers s budget) commands) output r
  only_each commands all output r (no_such_corner command first is text) = absurd (first_not_all (HasCorner s) commands command first all)
  only_each commands all output r (each_answered p all' texts is) = (p, texts, is)

  -- commands of which no direction is 0,0 have an answer
  pub commands_exist : (commands : List Command) → AllByRecursion HasDirection commands → ((output : List ℕ) (r : Status) → ¬ AnswersCommands s budget commands output r) → ⊥
  commands_exist commands some none =
      first_or_all (HasCorner s) commands (λ command first. none _ _ (no_such_corner command first refl refl))
      (λ all. answers_all_exists extents.Whole commands all some (λ output partial texts. none _ _ (each_answered partial all texts refl)))

module _ (Each : Command → List ℕ → Bool → Type 0) (one_each : IsOneForEach Each) where
  -- one command more, after the others
  answers_all_append : (commands : List Command) (command : Command) (m n : List ℕ) (p q : Bool) → AnswersAll Each commands m p → Each command n q
      → AnswersAll Each (commands ++ command ∷ []) (m ++ n) (p || q)
  answers_all_append [] command m n p q a b = record {
    prefix = n;
    rest = [];
    prefix_partial = q;
    rest_partial = false;
    one = b;
    other = (refl, refl);
    whole = ap (λ (text : List ℕ). text ++ n) a.0 ∙ sym (append-nil n);
    kind = ap (λ (partial : Bool). partial || q) a.1 ∙ sym (or-false q);
  }
  answers_all_append (first ∷ commands) command m n p q a b = record {
    prefix = a.prefix;
    rest = a.rest ++ n;
    prefix_partial = a.prefix_partial;
    rest_partial = a.rest_partial || q;
    one = a.one;
    other = answers_all_append commands command a.rest n a.rest_partial q a.other b;
    whole = ap (λ (text : List ℕ). text ++ n) a.whole ∙ append_assoc a.prefix a.rest n;
    kind = ap (λ (partial : Bool). partial || q) a.kind ∙ or_assoc a.prefix_partial a.rest_partial q;
  }

  -- the texts of some commands, and what begins the text of the next one, begin the texts of all
  module _ (command : Command) (later : List Command) (prefix : List ℕ) (begins : BeginsEach (HasStatus (Each command)) prefix) where
    begin_all : (commands : List Command) (m output : List ℕ) (p q : Bool) → AnswersAll Each commands m p → AnswersAll Each (commands ++ command ∷ later) output q
        → (rest : List ℕ) × (output ≡ (m ++ prefix) ++ rest)
    begin_all [] m output p q a b =
        let this = begins b.prefix (status_of b.prefix_partial) (b.prefix_partial, b.one, refl) in (
          this.0 ++ b.rest,
          b.whole
              ∙ (ap (λ (text : List ℕ). text ++ b.rest) this.1
              ∙ (append_assoc prefix this.0 b.rest
              ∙ ap (λ (text : List ℕ). (text ++ prefix) ++ (this.0 ++ b.rest)) (sym a.0))),
        )
    begin_all (first ∷ commands) m output p q a b =
        let same = one_each first b.prefix a.prefix b.prefix_partial a.prefix_partial b.one a.one in
        let more = begin_all commands a.rest b.rest a.rest_partial b.rest_partial a.other b.other in (
          more.0,
          b.whole
              ∙ (ap (λ (text : List ℕ). text ++ b.rest) same.0
              ∙ (ap (λ (text : List ℕ). a.prefix ++ text) more.1
              ∙ (simp append_assoc refl
              ∙ ap (λ (text : List ℕ). (text ++ prefix) ++ more.0) (sym a.whole)))),
        )

  -- ---- a call for each command

  -- what was written for the command at an index
  pub written_at : (commands : List Command) (i : ℕ) (x : Command) (result : Status) (held held' : Option (List ℕ)) (faults faults' : ℕ) → x ≡ get_or commands i x
      → Writes (HasStatus (Each x)) result held held' faults faults' → Writes (HasStatus (Each (get_or commands i x))) result held held' faults faults'
  written_at commands i x result held held' faults faults' e =
      subst (λ (command : Command). Writes (HasStatus (Each command)) result held held' faults faults') e

  module _ (commands : List Command) where
    module _ (i : ℕ) (d : Command) (h : i < length commands) (held before after : Option (List ℕ)) (result so_far : Status) (faults' faults'' : ℕ)
        (w : Writes (HasStatus (Each (get_or commands i d))) result before after faults' faults'')
        (written : AreAnswered Each commands i so_far held before) where
      abbrev this : Command
      this = get_or commands i d

      all_more : (m n : List ℕ) (p q : Bool) → AnswersAll Each (take i commands) m p → Each this n q → AnswersAll Each (take (i + 1) commands) (m ++ n) (p || q)
      all_more m n p q a b = subst (λ (prefix : List Command). AnswersAll Each prefix (m ++ n) (p || q)) (sym (take_more commands i d h)) (answers_all_append (take i commands) this m n p q a b)

      -- its text was written whole
      more_written : (next : Status) → IsWhole result → ((p q : Bool) → so_far ≡ status_of p → result ≡ status_of q → next ≡ status_of (p || q)) → AreAnswered Each commands (i + 1) next held after
      more_written next whole joined =
          let wrote = w.whole whole in
          let p = written.1.0 in
          let q = wrote.1.0 in (
            written.0 ++ wrote.0,
            (p || q, all_more written.0 wrote.0 p q written.1.1 wrote.1.1, joined p q written.1.2 wrote.1.2),
            Appends-trans held before after written.0 wrote.0 written.2 wrote.2,
          )

      -- the next command was answered whole
      pub done_more : (next : Status) → result ≡ status.Done → next ≡ so_far → AreAnswered Each commands (i + 1) next held after
      done_more next done same = more_written next (subst IsWhole (sym done) tt) (λ p q before this. same ∙ (before ∙ sym (still_done p q (sym this ∙ done))))

      -- the next command was answered in part
      pub partial_more : (next : Status) → result ≡ status.Partial → next ≡ status.Partial → AreAnswered Each commands (i + 1) next held after
      partial_more next partial is = more_written next (subst IsWhole (sym partial) tt) (λ p q before this. is ∙ sym (now_partial p q (sym this ∙ partial)))

      -- it broke off at this command
      parts : commands ≡ take i commands ++ this ∷ drop (i + 1) commands
      parts = sym (take-append-drop i commands) ∙ ap (λ (rest : List Command). take i commands ++ rest) (drop_more commands i d h)

      begun : (prefix : List ℕ) → BeginsEach (HasStatus (Each this)) prefix → BeginsEach (HasStatus (AnswersAll Each commands)) (written.0 ++ prefix)
      begun prefix begins = λ output _ means.
          begin_all this (drop (i + 1) commands) prefix begins (take i commands) written.0 output written.1.0 means.0 written.1.1
          (subst (λ (all : List Command). AnswersAll Each all output means.0) parts means.1)

      -- writing broke off at the next command
      pub broken_off : (faults : ℕ) → faults' ≡ faults → result ≢ status.Done → result ≢ status.Partial
          → Writes (HasStatus (AnswersAll Each commands)) result held after faults faults''
      broken_off faults same not_done not_partial =
          let not_whole : ¬ IsWhole result = λ whole. let wrote = w.whole whole in neither wrote.1.0 result wrote.1.2 not_done not_partial in
          record {
            kinds = w.kinds;
            whole = λ whole. absurd (not_whole whole);
            broken = λ broken.
                let prefix = w.broken broken in
                (written.0 ++ prefix.0, begun prefix.0 prefix.1, Appends-trans held before after written.0 prefix.0 written.2 prefix.2);
            write_fault = λ e. subst (λ (f : ℕ). Rose f faults'') same (w.write_fault e);
            kept = λ other. w.kept other ∙ same;
            never_falls = let later = w.never_falls in omega arith;
          }

    -- the last one was answered
    pub all_written : (i : ℕ) (held held' : Option (List ℕ)) (result : Status) (faults faults' : ℕ) → length commands ≤ i → AreAnswered Each commands i result held held' → faults' ≡ faults
        → Writes (HasStatus (AnswersAll Each commands)) result held held' faults faults'
    all_written i held held' result faults faults' h written same =
        let p = written.1.0 in
        let is = written.1.2 in
        record {
          kinds = inl (subst IsWhole (sym is) (is_whole p));
          whole = λ _. (written.0, (p, subst (λ (all : List Command). AnswersAll Each all written.0 p) (take_all i commands h) written.1.1, is), written.2);
          broken = λ broken. absurd (not_broken p (subst IsBroken is broken));
          write_fault = λ e. absurd (not_write_fault p (sym is ∙ e));
          kept = λ _. same;
          never_falls = omega arith;
        }

-- ---- a corner that isn't there

module _ (s : GluedPolygons) (commands : List Command) (i : ℕ) (x : Command) (h : i < length commands) (is : x ≡ get_or commands i x) where
  -- the first that isn't there
  pub first_missing : AllByRecursion (HasCorner s) (take i commands) → ¬ HasCorner s x → IsFirstWithout (HasCorner s) commands x
  first_missing all missing = record {
    before = take i commands;
    after = drop (i + 1) commands;
    whole =
        sym (take-append-drop i commands) ∙ ap (λ (rest : List Command). take i commands ++ rest) (drop_more commands i x h)
        ∙ ap (λ (c : Command). take i commands ++ c ∷ drop (i + 1) commands) (sym is);
    passed = all;
    fails = missing;
  }
