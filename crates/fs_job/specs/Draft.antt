-- What the lines of a job say together, where a statement is allowed, and what it leads to: a draft with the statement added, or a fault.
use Rattle.std.specs.Prelude.{◌≡◌, ◌≢◌, ℕ, ◌+◌, ◌<◌, ◌≤◌, ◌⊎◌, Bool, true, false, List, [], ◌∷◌, ◌++◌, Option, None, Some, Result, Ok, Err, length, sum_by, Contains}
use Rattle.std.specs.List.{AllByRecursion}
use Rattle.fs_lists.specs.First.{IsFirstWithout}
use Rattle.fs_quadratic.specs.Radicand.{IsRadicand}
use Rattle.fs_quadratic.specs.Ring.{Quadratic, zero}
use Rattle.fs_fraction.specs.Fraction.{Fraction}
use Rattle.fs_fraction.specs.Number.{Reads}
use Rattle.fs_fraction.specs.declared.number.NumberFault.{NumberFault}
use Rattle.fs_fraction.specs.declared.number.NumberFault.TheVariants as number_faults
use Rattle.fs_gluing.specs.Limits.{most_polygons, most_sides}
use Rattle.fs_gluing.specs.declared.faults.Fault.{Fault}
use Rattle.fs_gluing.specs.declared.faults.Fault.TheVariants as faults
use Rattle.fs_gluing.specs.declared.shapes.Glue.{Glue}
use Rattle.fs_gluing.specs.declared.shapes.Point.{Point}
use Rattle.fs_plane.specs.Vector.{PlaneVector, vector_zero}
use Rattle.fs_job.specs.declared.job.Command.{Command}
use Rattle.fs_job.specs.declared.job.Command.TheVariants as commands
use Rattle.fs_job.specs.Statement.{Pair, StatedCommand, check, stratum, segment, delaunay, cells, saddles, flow, NumberText, Statement, field_line, polygon_line, table_line, glue_line, command_line, end_line, number_texts}

-- what the lines of a job so far said
pub record Draft : Type 0 where
  pub d : ℕ
  -- the sides of its table, where it has one
  pub table : Option (List Point)
  pub polygons : List (List Point)
  pub glues : List Glue
  pub commands : List Command

-- how far the lines have come
pub data Progress : Type 0 where
  -- all lines so far were blank
  nothing : Progress
  -- the header came
  headed : Progress
  -- the header and the field came, and perhaps lines after them
  drafted : Draft → Progress
  -- the line `end` came
  ended : Draft → Progress

-- the draft so far; without one, an empty one
abbrev pub draft_of : Progress → Draft
draft_of nothing = record { d = 0; table = None; polygons = []; glues = []; commands = [] }
draft_of headed = record { d = 0; table = None; polygons = []; glues = []; commands = [] }
draft_of (drafted draft) = draft
draft_of (ended draft) = draft

-- it describes a surface, by polygons or by a table
abbrev pub DescribesSurface : Draft → Type 0
DescribesSurface draft = (draft.polygons ≢ []) ⊎ (draft.table ≢ None)

-- such a statement is allowed here: the field once and second; polygons and glue lines before the commands, or one table in place of them; commands and the end after a polygon or a table
abbrev pub IsAllowed : Progress → Statement → Type 0
IsAllowed headed (field_line d) = Unit {0}
IsAllowed (drafted draft) (polygon_line pairs) = (draft.table ≡ None) × (draft.commands ≡ [])
IsAllowed (drafted draft) (table_line pairs) = (draft.table ≡ None) × (draft.polygons ≡ []) × (draft.glues ≡ [])
IsAllowed (drafted draft) (glue_line one two) = (draft.table ≡ None) × (draft.commands ≡ [])
IsAllowed (drafted draft) (command_line command) = DescribesSurface draft
IsAllowed (drafted draft) end_line = DescribesSurface draft
IsAllowed before statement = ⊥

-- the most commands of a job
abbrev pub most_commands : ℕ
most_commands = 256

-- the most sides of a table
abbrev pub most_table_sides : ℕ
most_table_sides = 42

-- the limits leave room for it
abbrev pub HasRoom : Draft → Statement → Type 0
HasRoom draft (polygon_line pairs) = (length draft.polygons < most_polygons) × (sum_by length draft.polygons + length pairs ≤ most_sides)
HasRoom draft (table_line pairs) = length pairs ≤ most_table_sides
HasRoom draft (command_line command) = length draft.commands < most_commands
HasRoom draft (field_line d) = Unit {0}
HasRoom draft (glue_line one two) = Unit {0}
HasRoom draft end_line = Unit {0}

-- a text is read as a whole number, or has this fault: one with a denominator is a bad number, unless it is too wide
pub data ReadsWhole (text : List ℕ) : Result Fraction NumberFault → Type 0 where
  whole_number : (x : Fraction) → Reads text (Ok x) → (¬ Contains text 47) → ReadsWhole text (Ok x)
  bad_text : (fault : NumberFault) → Reads text (Err fault) → ReadsWhole text (Err fault)
  with_denominator : (x : Fraction) → Reads text (Ok x) → Contains text 47 → ReadsWhole text (Err number_faults.BadNumber)

-- a text is read as a whole number, or as any
abbrev pub ReadsEither : Bool → List ℕ → Result Fraction NumberFault → Type 0
ReadsEither true text result = ReadsWhole text result
ReadsEither false text result = Reads text result

-- a text is read as a number, which has to be whole where that is asked for
abbrev pub ReadsText : NumberText → Result Fraction NumberFault → Type 0
ReadsText text result = ReadsEither text.whole text.text result

-- the text is such a number
abbrev pub IsNumber : NumberText → Type 0
IsNumber text = (x : Fraction) × ReadsText text (Ok x)

-- the first of the texts that is no number has this fault
abbrev pub HasBadNumber : List NumberText → NumberFault → Type 0
HasBadNumber texts fault = (text : NumberText) × IsFirstWithout IsNumber texts text × ReadsText text (Err fault)

-- the fault of a line with a text that is no number
abbrev pub number_fault : ℕ → NumberFault → Fault
number_fault n number_faults.BadNumber = faults.BadNumber n
number_fault n number_faults.Wide = faults.Wide n

-- the point that a pair spells
abbrev pub IsPoint : Pair → Point → Type 0
IsPoint pair point = Reads pair.x (Ok point.x) × Reads pair.y (Ok point.y)

-- the point 0,0
abbrev pub IsOrigin : Point → Type 0
IsOrigin point = (point.x.num ≡ zero) × (point.y.num ≡ zero)

-- the text spells this whole number
abbrev pub SpellsWhole : List ℕ → Quadratic → Type 0
SpellsWhole text n = (x : Fraction) × ReadsWhole text (Ok x) × (n ≡ x.num)

-- the vector that a pair of whole numbers spells
abbrev pub IsVector : Pair → PlaneVector → Type 0
IsVector pair v = SpellsWhole pair.x v.x × SpellsWhole pair.y v.y

-- the direction of a command is 0,0
abbrev pub HasZeroDirection : StatedCommand → Type 0
HasZeroDirection check = ⊥
HasZeroDirection stratum = ⊥
HasZeroDirection (segment start pair) = (point : Point) × IsPoint pair point × IsOrigin point
HasZeroDirection delaunay = ⊥
HasZeroDirection cells = ⊥
HasZeroDirection (saddles limit) = ⊥
HasZeroDirection (flow pair) = (v : PlaneVector) × IsVector pair v × (v ≡ vector_zero)

-- a statement on the line with the number n makes no sense, though its numbers are numbers, which is this fault: the d is that of no field, or a direction is 0,0
abbrev pub IsSenseless : ℕ → Statement → Fault → Type 0
IsSenseless n (field_line d) fault = (¬ IsRadicand d) × (fault ≡ faults.BadField)
IsSenseless n (polygon_line pairs) fault = ⊥
IsSenseless n (table_line pairs) fault = ⊥
IsSenseless n (glue_line one two) fault = ⊥
IsSenseless n (command_line command) fault = HasZeroDirection command × (fault ≡ faults.ZeroDirection n)
IsSenseless n end_line fault = ⊥

-- the points that the pairs spell
abbrev pub ArePoints : List Pair → List Point → Type 0
ArePoints [] [] = Unit {0}
ArePoints [] (point ∷ points) = ⊥
ArePoints (pair ∷ pairs) [] = ⊥
ArePoints (pair ∷ pairs) (point ∷ points) = IsPoint pair point × ArePoints pairs points

-- the command that is stated on the line with the number n
abbrev pub IsCommand : ℕ → StatedCommand → Command → Type 0
IsCommand n check command = command ≡ commands.Check
IsCommand n stratum command = command ≡ commands.Stratum
IsCommand n (segment start pair) command = (point : Point) × IsPoint pair point × (command ≡ commands.Segment n start point)
IsCommand n delaunay command = command ≡ commands.Delaunay
IsCommand n cells command = command ≡ commands.Cells
IsCommand n (saddles text) command = (limit : Fraction) × ReadsWhole text (Ok limit) × (command ≡ commands.Saddles limit.num)
IsCommand n (flow pair) command = (v : PlaneVector) × IsVector pair v × (command ≡ commands.Flow v)

-- the progress after the line with the number n: the draft with the statement added
abbrev pub Adds : ℕ → Draft → Statement → Progress → Type 0
Adds n draft (field_line d) after = after ≡ drafted (record { d = d; table = None; polygons = []; glues = []; commands = [] })
Adds n draft (polygon_line pairs) after = (points : List Point) × ArePoints pairs points × (after ≡ drafted (record draft { polygons = draft.polygons ++ points ∷ [] }))
Adds n draft (table_line pairs) after = (points : List Point) × ArePoints pairs points × (after ≡ drafted (record draft { table = Some points }))
Adds n draft (glue_line one two) after = after ≡ drafted (record draft { glues = draft.glues ++ (record { line = n; one = one; two = two }) ∷ [] })
Adds n draft (command_line stated) after = (command : Command) × IsCommand n stated command × (after ≡ drafted (record draft { commands = draft.commands ++ command ∷ [] }))
Adds n draft end_line after = after ≡ ended draft

-- what a line leads to: the progress after it, or a fault
pub data Outcome : Type 0 where
  to_progress : Progress → Outcome
  to_fault : Fault → Outcome

-- where a statement on the line with the number n leads, in the order in which faults are looked for
pub data StatementLeads (n : ℕ) (before : Progress) (s : Statement) (outcome : Outcome) : Type 0 where
  -- it isn't allowed here
  bad_line : ¬ IsAllowed before s → outcome ≡ to_fault (faults.BadLine n) → StatementLeads n before s outcome
  -- a limit leaves no room for it
  too_many : IsAllowed before s → ¬ HasRoom (draft_of before) s → outcome ≡ to_fault (faults.TooMany n) → StatementLeads n before s outcome
  -- one of its texts is no number
  bad_number : (fault : NumberFault) → IsAllowed before s → HasRoom (draft_of before) s → HasBadNumber (number_texts s) fault
      → outcome ≡ to_fault (number_fault n fault) → StatementLeads n before s outcome
  -- it makes no sense
  senseless : (fault : Fault) → IsAllowed before s → HasRoom (draft_of before) s → AllByRecursion IsNumber (number_texts s) → IsSenseless n s fault
      → outcome ≡ to_fault fault → StatementLeads n before s outcome
  -- it is added to the draft
  accepted : (after : Progress) → IsAllowed before s → HasRoom (draft_of before) s → ((fault : Fault) → ¬ IsSenseless n s fault) → Adds n (draft_of before) s after
      → outcome ≡ to_progress after → StatementLeads n before s outcome
