-- What a statement adds to a draft.
use Rattle.std.proofs.Common.{◌≡◌, ℕ, ◌+◌, ◌<◌, ◌≤◌, ◌⊎◌, Option, None, Some, List, [], ◌∷◌, ◌++◌, Err, inl, inr, length, sum_by, refl, sym, ap, ◌∙◌, subst, arith}
use Rattle.fs_lists.proofs.Sums.{lengths-append_one}
use Rattle.fs_quadratic.specs.Radicand.{IsRadicand}
use Rattle.fs_fraction.specs.declared.number.NumberFault.{NumberFault}
use Rattle.fs_plane.specs.declared.corners.Corner.{Corner}
use Rattle.fs_gluing.specs.declared.shapes.Glue.{Glue}
use Rattle.fs_gluing.specs.declared.shapes.Point.{Point}
use Rattle.fs_job.specs.declared.job.Command.{Command}
use Rattle.fs_job.specs.declared.job.JobStop.{JobStop}
use Rattle.fs_job.specs.declared.job.JobStop.TheVariants as stops
use Rattle.fs_job.specs.Statement.{StatedCommand, Statement, field_line, polygon_line, table_line, glue_line, command_line, end_line, number_texts}
use Rattle.fs_gluing.specs.Limits.{most_polygons, most_sides}
use Rattle.fs_job.specs.Draft.{Draft, headed, drafted, ended, to_progress, DescribesSurface, IsAllowed, most_commands, most_table_sides, HasRoom, HasBadNumber, number_fault, HasZeroDirection, IsCommand, ArePoints, StatementLeads, bad_number, accepted}
use Rattle.fs_job.specs.Stage.{ReturnsOutcome}
use Rattle.fs_job.specs.Line.{pairs_of}
use Rattle.fs_job.proofs.Pairs.{length-pairs_of}
use Rattle.fs_job.proofs.PolygonNumbers.{length-points}

-- the field begins a draft
pub adds_field : (n d e : ℕ) (after : Draft) → IsRadicand e → e ≡ d → after ≡ record { d = e; table = None; polygons = []; glues = []; commands = [] } → StatementLeads n headed (field_line d) (to_progress (drafted after))
adds_field n d e after radicand same is =
    accepted (drafted after) tt tt (λ fault no_sense. no_sense.0 (subst IsRadicand same radicand)) (ap drafted (is ∙ ap (λ (k : ℕ). record { d = k; table = None; polygons = []; glues = []; commands = [] }) same)) refl

-- glue lines before the commands are added
pub adds_glue : (n : ℕ) (draft : Draft) (one two : Corner) (glues : List Glue) → IsAllowed (drafted draft) (glue_line one two) → glues ≡ draft.glues ++ (record { line = n; one = one; two = two }) ∷ []
    → StatementLeads n (drafted draft) (glue_line one two) (to_progress (drafted (record { d = draft.d; table = draft.table; polygons = draft.polygons; glues = glues; commands = draft.commands })))
adds_glue n draft one two glues may e =
    accepted _ may tt (λ fault no_sense. no_sense) (ap (λ (gs : List Glue). drafted (record { d = draft.d; table = draft.table; polygons = draft.polygons; glues = gs; commands = draft.commands })) e) refl

-- commands after a polygon or a table are added, while there is room, where no direction is 0,0
pub adds_command : (n : ℕ) (draft : Draft) (stated : StatedCommand) (command : Command) (commands : List Command) → DescribesSurface draft → length draft.commands < most_commands
    → IsCommand n stated command → ¬ HasZeroDirection stated → commands ≡ draft.commands ++ command ∷ []
    → StatementLeads n (drafted draft) (command_line stated) (to_progress (drafted (record { d = draft.d; table = draft.table; polygons = draft.polygons; glues = draft.glues; commands = commands })))
adds_command n draft stated command commands some room is nonzero e =
    accepted _ some room (λ fault no_sense. nonzero no_sense.0) (command, is, ap (λ (cs : List Command). drafted (record { d = draft.d; table = draft.table; polygons = draft.polygons; glues = draft.glues; commands = cs })) e) refl

-- the end is added after a polygon or a table
pub adds_end : (n : ℕ) (draft : Draft) → DescribesSurface draft → StatementLeads n (drafted draft) end_line (to_progress (ended draft))
adds_end n draft some = accepted (ended draft) some tt (λ fault no_sense. no_sense) refl refl

-- ---- polygons

-- there is room for a polygon, by the number of its words
pub has_room : (draft : Draft) (words : List (List ℕ)) (sides count : ℕ) → sides ≡ sum_by length draft.polygons → count ≡ length words → length draft.polygons < most_polygons → sides + count ≤ most_sides → HasRoom draft (polygon_line (pairs_of words))
has_room draft words sides count e f few room = (few, omega (arith, length-pairs_of words))

-- polygons before the commands are added, while there is room
pub adds_polygon : (n : ℕ) (draft : Draft) (words : List (List ℕ)) (points : List Point) (polygons : List (List Point)) → IsAllowed (drafted draft) (polygon_line (pairs_of words)) → HasRoom draft (polygon_line (pairs_of words))
    → ArePoints (pairs_of words) points → polygons ≡ draft.polygons ++ points ∷ []
    → StatementLeads n (drafted draft) (polygon_line (pairs_of words)) (to_progress (drafted (record { d = draft.d; table = draft.table; polygons = polygons; glues = draft.glues; commands = draft.commands })))
adds_polygon n draft words points polygons may room read e =
    accepted _ may room (λ fault no_sense. no_sense) (points, read, ap (λ (ps : List (List Point)). drafted (record { d = draft.d; table = draft.table; polygons = ps; glues = draft.glues; commands = draft.commands })) e) refl

-- ---- tables

-- there is room for a table, by the number of its words
pub has_room_for_table : (draft : Draft) (words : List (List ℕ)) (count : ℕ) → count ≡ length words → count ≤ most_table_sides → HasRoom draft (table_line (pairs_of words))
has_room_for_table draft words count e few = omega (arith, length-pairs_of words)

-- a table alone is added, while there is room
pub adds_table : (n : ℕ) (draft : Draft) (words : List (List ℕ)) (points : List Point) → IsAllowed (drafted draft) (table_line (pairs_of words)) → HasRoom draft (table_line (pairs_of words)) → ArePoints (pairs_of words) points
    → StatementLeads n (drafted draft) (table_line (pairs_of words)) (to_progress (drafted (record draft { table = Some points })))
adds_table n draft words points may room read = accepted _ may room (λ fault no_sense. no_sense) (points, read, refl) refl

-- a table has few sides
pub few_in_table : (words : List (List ℕ)) (points : List Point) (count : ℕ) → count ≡ length words → ArePoints (pairs_of words) points → count ≤ most_table_sides → length points ≤ most_table_sides
few_in_table words points count e read few = omega (arith, length-points (pairs_of words) points read, length-pairs_of words)

-- a table isn't there and there
pub no_table : (table : Option (List Point)) (points : List Point) → table ≡ None → table ≡ Some points → ⊥
no_table table points none some = let e = sym none ∙ some in cc

-- where there is a table, it is this one
pub few_in_this_table : (points table : List Point) → length points ≤ most_table_sides → Some points ≡ Some table → length table ≤ most_table_sides
few_in_this_table points table few e = let same : length points ≡ length table = cc in omega arith

-- ---- faults and sides

-- a text that is no number stops the line
pub leads_to_bad_number : (n : ℕ) (draft : Draft) (s : Statement) (e : JobStop) → IsAllowed (drafted draft) s → HasRoom draft s
    → (e ≡ stops.NoMemory) ⊎ ((fault : NumberFault) × (e ≡ stops.Fault (number_fault n fault)) × HasBadNumber (number_texts s) fault) → ReturnsOutcome (StatementLeads n (drafted draft) s) (Err e)
leads_to_bad_number n draft s e may room told = elim told [
  | inl none ↦ subst (λ (x : JobStop). ReturnsOutcome (StatementLeads n (drafted draft) s) (Err x)) (sym none) tt
  | inr found ↦ subst (λ (x : JobStop). ReturnsOutcome (StatementLeads n (drafted draft) s) (Err x)) (sym found.1) (bad_number found.0 may room found.2 refl)
]

-- the number of sides that is kept
pub sides_counted : (polygons after : List (List Point)) (words : List (List ℕ)) (points : List Point) (sides count : ℕ) → sides ≡ sum_by length polygons → count ≡ length words → ArePoints (pairs_of words) points
    → after ≡ polygons ++ points ∷ [] → sides + count ≡ sum_by length after
sides_counted polygons after words points sides count e f read is =
    let total = ap (sum_by length) is ∙ lengths-append_one polygons points in
    let long = length-points (pairs_of words) points read in
    omega (arith, length-pairs_of words)
