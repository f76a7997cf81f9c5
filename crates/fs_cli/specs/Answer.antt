-- The whole answer to words and the bytes of a job: what is written, and the status.
use Rattle.std.specs.Prelude.{◌≡◌, ℕ, ◌<◌, ◌≤◌, Bool, false, ◌||◌, if◌then◌else◌, cond, eqb, Option, None, Some, Ok, Err, List, [], ◌∷◌, ◌++◌, length, codes}
use Rattle.std.specs.Fmt.{decimal}
use Rattle.std.specs.List.{AllByRecursion}
use Rattle.fs_lists.specs.First.{IsFirstWithout}
use Rattle.fs_io.specs.Whole.{most_bytes}
use Rattle.fs_gluing.specs.declared.faults.Fault.{Fault}
use Rattle.fs_gluing.specs.declared.faults.Fault.TheVariants.{NoSuchSide, TooLong}
use Rattle.fs_gluing.specs.declared.faults.BuildStop.{BuildStop}
use Rattle.fs_gluing.specs.declared.faults.BuildStop.TheVariants as stops
use Rattle.fs_gluing.specs.declared.shapes.Point.{Point}
use Rattle.fs_gluing.specs.declared.shapes.Shape.{Shape}
use Rattle.fs_gluing.specs.Shape.{HasShape}
use Rattle.fs_gluing.specs.Surface.{GluedPolygons, IsSurface}
use Rattle.fs_gluing.specs.FirstFault.{Test, PassesOf, tests_of, IsFirstFailure, stop_of}
use Rattle.fs_unfold.specs.Unfolding.{EndsUnfolding}
use Rattle.fs_job.specs.declared.job.Command.{Command}
use Rattle.fs_job.specs.declared.job.Command.TheVariants as commands
use Rattle.fs_job.specs.Draft.{Draft}
use Rattle.fs_job.specs.Grammar.{IsJob, IsFirstFault}
use Rattle.fs_report.specs.Answers.{Answers, HasCorner}
use Rattle.fs_workload.specs.Staircase.{staircase_shape, staircase_commands}
use Rattle.fs_report.specs.Text.{fault_line, build_line}
use Rattle.fs_cli.specs.declared.words.Request.{Request}
use Rattle.fs_cli.specs.declared.words.Staircase.{Staircase}
use Rattle.fs_cli.specs.Words.{GiveRequest}
use Rattle.fs_cli.specs.declared.outcome.Status.{Status}
use Rattle.fs_cli.specs.declared.outcome.Status.TheVariants as status

-- what is written where a shape isn't built: its fault, or the site
abbrev pub stop_line : BuildStop → List ℕ
stop_line (stops.Fault fault) = fault_line fault
stop_line (stops.Overflow site) = build_line site
stop_line stops.NoMemory = []

-- the status of such a text
abbrev pub stop_status : BuildStop → Status
stop_status (stops.Fault fault) = status.Refused
stop_status (stops.Overflow site) = status.Partial
stop_status stops.NoMemory = status.NoMemory

-- the shape that a job describes: that of its polygons, without straight corners, or that into which its table unfolds
pub data DescribesShape (draft : Draft) (shape : Shape) : Type 0 where
  by_polygons : draft.table ≡ None → shape ≡ record { polygons = draft.polygons; glues = draft.glues; straight = false } → DescribesShape draft shape
  by_table : (table : List Point) → draft.table ≡ Some table → EndsUnfolding draft.d table (Ok shape) → DescribesShape draft shape

-- the status of a text, by whether it is in place of a whole answer
abbrev pub status_of : Bool → Status
status_of partial = if partial then status.Partial else status.Done

-- the one answer and the other after it, partial where one of them is
pub record AreJoined (One Other : List ℕ → Bool → Type 0) (output : List ℕ) (partial : Bool) : Type 0 where
  pub prefix : List ℕ
  pub rest : List ℕ
  pub prefix_partial : Bool
  pub rest_partial : Bool
  pub one : One prefix prefix_partial
  pub other : Other rest rest_partial
  pub whole : output ≡ prefix ++ rest
  pub kind : partial ≡ prefix_partial || rest_partial

-- the answers to commands in order, one after the other, where this is the answer to each
abbrev pub AnswersAll : (Command → List ℕ → Bool → Type 0) → List Command → List ℕ → Bool → Type 0
AnswersAll Each [] output partial = (output ≡ []) × (partial ≡ false)
AnswersAll Each (command ∷ commands) output partial = AreJoined (Each command) (AnswersAll Each commands) output partial

-- the line of the job that states a command which names a corner
abbrev pub stated_line : Command → ℕ
stated_line commands.Check = 0
stated_line commands.Stratum = 0
stated_line (commands.Segment line start v) = line
stated_line commands.Delaunay = 0
stated_line commands.Cells = 0
stated_line (commands.Saddles limit) = 0
stated_line (commands.Flow v) = 0

-- what commands about a surface are answered with
pub data AnswersCommands (s : GluedPolygons) (budget : ℕ) (commands : List Command) (output : List ℕ) (result : Status) : Type 0 where
  -- the first that names a corner which the surface doesn't have is refused, and none is answered
  no_such_corner : (command : Command) → IsFirstWithout (HasCorner s) commands command → result ≡ status.Refused → output ≡ fault_line (NoSuchSide (stated_line command))
      → AnswersCommands s budget commands output result
  -- the surface has them all, and each command is answered, in order
  each_answered : (partial : Bool) → AllByRecursion (HasCorner s) commands → AnswersAll (Answers s budget) commands output partial → result ≡ status_of partial → AnswersCommands s budget commands output result

-- what commands about the surface of a shape are answered with
pub data AnswersShape (d : ℕ) (shape : Shape) (budget : ℕ) (commands : List Command) (output : List ℕ) (result : Status) : Type 0 where
  -- the shape fails a test of building
  not_built : (test : Test) → IsFirstFailure d shape test → result ≡ stop_status (stop_of test) → output ≡ stop_line (stop_of test) → AnswersShape d shape budget commands output result
  -- its surface is built, and the commands are answered
  built : (s : GluedPolygons) → IsSurface s → HasShape d shape s → AllByRecursion (PassesOf d shape) (tests_of shape) → AnswersCommands s budget commands output result
      → AnswersShape d shape budget commands output result

-- the bytes are answered with this output and this status, each command within the budget, for one of four reasons
pub data AnswersJob (budget : ℕ) (bytes output : List ℕ) (result : Status) : Type 0 where
  -- there are too many bytes
  too_long : most_bytes < length bytes → result ≡ status.Refused → output ≡ fault_line TooLong → AnswersJob budget bytes output result
  -- they are no job
  no_job : (fault : Fault) → length bytes ≤ most_bytes → IsFirstFault bytes fault → result ≡ status.Refused → output ≡ fault_line fault → AnswersJob budget bytes output result
  -- the table isn't unfolded
  not_unfolded : (draft : Draft) → (table : List Point) → (stop : BuildStop) → length bytes ≤ most_bytes → IsJob bytes draft → draft.table ≡ Some table → EndsUnfolding draft.d table (Err stop)
      → result ≡ stop_status stop → output ≡ stop_line stop → AnswersJob budget bytes output result
  -- the commands about the surface of the shape are answered
  answered : (draft : Draft) → (shape : Shape) → length bytes ≤ most_bytes → IsJob bytes draft → DescribesShape draft shape → AnswersShape draft.d shape budget draft.commands output result
      → AnswersJob budget bytes output result

-- a text up to its first line feed, which is kept
abbrev pub first_line : List ℕ → List ℕ
first_line [] = []
first_line (byte ∷ bytes) = byte ∷ cond (eqb byte 10) [] (first_line bytes)

-- the first line of the answer to a command about a surface, within a budget
abbrev pub AnswersFirstLine : GluedPolygons → ℕ → Command → List ℕ → Bool → Type 0
AnswersFirstLine s budget command line partial = (text : List ℕ) × Answers s budget command text partial × (line ≡ first_line text)

-- the line that names a staircase
abbrev pub staircase_line : Staircase → List ℕ
staircase_line staircase = codes "staircase " ++ decimal staircase.rectangles ++ codes " seed " ++ decimal staircase.seed ++ 10 ∷ []

-- a staircase is answered with this output and this status: its line, and the first line of the answer to each of its commands about its surface, within the budget
pub record AnswersStaircase (budget : ℕ) (staircase : Staircase) (output : List ℕ) (result : Status) : Type 0 where
  pub surface : GluedPolygons
  pub is : IsSurface surface
  pub shape : HasShape 2 (staircase_shape staircase.rectangles staircase.seed) surface
  pub lines : List ℕ
  pub partial : Bool
  pub each : AnswersAll (AnswersFirstLine surface budget) staircase_commands lines partial
  pub whole : output ≡ staircase_line staircase ++ lines
  pub kind : result ≡ status_of partial

-- what was asked for is answered: a staircase whatever the bytes are, else the bytes
abbrev pub AnswersAsked : ℕ → Option Staircase → List ℕ → List ℕ → Status → Type 0
AnswersAsked budget None bytes = AnswersJob budget bytes
AnswersAsked budget (Some staircase) bytes = AnswersStaircase budget staircase

-- these words and these bytes are answered with this output and this status
pub record IsAnswered (words : List (List ℕ)) (bytes output : List ℕ) (result : Status) : Type 0 where
  pub request : Request
  pub given : GiveRequest words request
  pub answer : AnswersAsked request.budget request.staircase bytes output result

-- the number of a status
abbrev pub exit_code : Status → ℕ
exit_code status.Done = 0
exit_code status.Usage = 1
exit_code status.Refused = 2
exit_code status.Partial = 3
exit_code status.ReadFault = 4
exit_code status.WriteFault = 5
exit_code status.NoMemory = 6

-- the whole answer was given
abbrev pub IsWhole : Status → Type 0
IsWhole status.Done = Unit {0}
IsWhole status.Refused = Unit {0}
IsWhole status.Partial = Unit {0}
IsWhole status.Usage = ⊥
IsWhole status.ReadFault = ⊥
IsWhole status.WriteFault = ⊥
IsWhole status.NoMemory = ⊥

-- the answer broke off
abbrev pub IsBroken : Status → Type 0
IsBroken status.WriteFault = Unit {0}
IsBroken status.NoMemory = Unit {0}
IsBroken status.Done = ⊥
IsBroken status.Refused = ⊥
IsBroken status.Partial = ⊥
IsBroken status.Usage = ⊥
IsBroken status.ReadFault = ⊥

-- each text that is meant begins so
abbrev pub BeginsEach : (List ℕ → Status → Type 0) → List ℕ → Type 0
BeginsEach Means prefix = (output : List ℕ) → (result : Status) → Means output result → (rest : List ℕ) × (output ≡ prefix ++ rest)
