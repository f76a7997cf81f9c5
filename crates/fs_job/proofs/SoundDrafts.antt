-- Sound jobs: polygons and table of a job are within the limits, all denominators are above 0, those of a table in lowest terms, and no direction is 0,0.
use Rattle.std.proofs.Common.{◌≡◌, ℕ, ◌+◌, ◌*◌, ◌<◌, ◌≤◌, ◌^◌, pos, ◌*ℤ◌, Option, Some, None, Result, Ok, Err, IfOk, List, [], ◌∷◌, ◌++◌, length, sum_by, refl, sym, ap, subst, arith, length-append}
use Rattle.std.proofs.Math.Nat.{lt_of_not-le}
use Rattle.std.proofs.lemmas.Nat.{mul-lt}
use Rattle.std.specs.List.{AllByRecursion}
use Rattle.std.specs.Str.Parse.{IsNumeral, digits_value}
use Rattle.fs_lists.proofs.Results.{ok_equal, ok_not_err}
use Rattle.fs_lists.proofs.All.{All-append, All-prefix, All-suffix, All-weaker}
use Rattle.fs_lists.proofs.Digits.{digits_value_below}
use Rattle.fs_quadratic.specs.Radicand.{IsRadicand}
use Rattle.fs_fraction.proofs.Lowest.{reduced-lowest}
use Rattle.fs_fraction.specs.Fraction.{Fraction, IsLowest}
use Rattle.fs_fraction.specs.Number.{Reads, number, Written, Rational, Root, Both, numerators, Spells, IsNarrow, IsDefined, over_value, under_value, under_runs, value, wide_number, zero_denominator, no_number}
use Rattle.fs_gluing.specs.declared.faults.Fault.{Fault}
use Rattle.fs_gluing.specs.declared.shapes.Point.{Point}
use Rattle.fs_gluing.specs.Limits.{most_polygons, most_sides}
use Rattle.fs_gluing.proofs.Outcome.SurfaceExists.{HasDenominators}
use Rattle.fs_job.specs.declared.job.Command.{Command}
use Rattle.fs_job.specs.declared.job.Job.{Job}
use Rattle.fs_job.specs.declared.job.JobStop.{JobStop}
use Rattle.fs_job.specs.Reading.{HasDirection, job_draft}
use Rattle.fs_job.specs.Draft.{IsCommand, Draft, Progress, nothing, headed, drafted, ended, draft_of, DescribesSurface, IsAllowed, most_table_sides, HasRoom, IsSenseless, ArePoints, Adds, to_progress}
use Rattle.fs_job.specs.Grammar.{Leads, LinesLead, IsJob}
use Rattle.fs_job.specs.Pieces.{lines_of}
use Rattle.fs_job.specs.Statement.{Pair, StatedCommand, Statement, field_line, polygon_line, table_line, glue_line, command_line, end_line}
use Rattle.fs_lists.proofs.Sums.{lengths-append_one}
use Rattle.fs_job.proofs.Leads.{line_keeps}
use Rattle.fs_job.proofs.PolygonNumbers.{length-points}
use Rattle.fs_job.proofs.CommandArguments.{has_direction}

-- ---- numbers that are read are in lowest terms

under_positive : (o : Option (List ℕ)) → AllByRecursion (λ run. digits_value 10 run ≡ 0 → ⊥) (under_runs o) → 0 < under_value o
under_positive None a = omega arith
under_positive (Some digits) a = let some = a.0 in omega arith

product_positive : (m n : ℕ) → 0 < m → 0 < n → 0 < m * n
product_positive m n a b = grind arith

under_below : (o : Option (List ℕ)) → AllByRecursion (IsNumeral 10) (under_runs o) → AllByRecursion (λ run. length run ≤ 18) (under_runs o) → under_value o < 10 ^ 18
under_below None digits narrow = omega arith
under_below (Some run) digits narrow = digits_value_below run 18 digits.0.1 narrow.0

product_below : (m n : ℕ) → m < 10 ^ 18 → n < 10 ^ 18 → m * n < 2 ^ 127
product_below m n a b = let l = mul-lt m n (10 ^ 18) (10 ^ 18) a b in omega (arith, l)

value_lowest : (text : List ℕ) (w : Written) → Spells text w → IsNarrow w → IsDefined w → IsLowest (value w).num (value w).den
value_lowest text (Rational minus a) s narrow d =
    let below = under_below a.under s.under (All-suffix _ (numerators (Rational minus a)) (under_runs a.under) narrow) in
    reduced-lowest (record { p = over_value minus a; q = pos 0 }) (under_value a.under) (under_positive a.under d) (omega arith)
value_lowest text (Root minus a) s narrow d =
    let below = under_below a.under s.under (All-suffix _ (numerators (Root minus a)) (under_runs a.under) narrow) in
    reduced-lowest (record { p = pos 0; q = over_value minus a }) (under_value a.under) (under_positive a.under d) (omega arith)
value_lowest text (Both minus a minus' b) s narrow d =
    let runs = All-suffix (λ run. length run ≤ 18) (numerators (Both minus a minus' b)) (under_runs a.under ++ under_runs b.under) narrow in
    let one = under_below a.under (All-prefix _ (under_runs a.under) (under_runs b.under) s.under) (All-prefix _ (under_runs a.under) (under_runs b.under) runs) in
    let other = under_below b.under (All-suffix _ (under_runs a.under) (under_runs b.under) s.under) (All-suffix _ (under_runs a.under) (under_runs b.under) runs) in
    reduced-lowest
    (record { p = over_value minus a *ℤ pos (under_value b.under); q = over_value minus' b *ℤ pos (under_value a.under) })
    (under_value a.under * under_value b.under)
    (product_positive (under_value a.under) (under_value b.under)
    (under_positive a.under (All-prefix _ (under_runs a.under) (under_runs b.under) d))
    (under_positive b.under (All-suffix _ (under_runs a.under) (under_runs b.under) d)))
    (product_below (under_value a.under) (under_value b.under) one other)

reads_lowest : (text : List ℕ) (x : Fraction) → Reads text (Ok x) → IsLowest x.num x.den
reads_lowest text x (number w spells narrow defined is) = subst (λ (y : Fraction). IsLowest y.num y.den) (sym (ok_equal x (value w) is)) (value_lowest text w spells narrow defined)
reads_lowest text x (wide_number w spells wide is) = absurd (ok_not_err x _ is)
reads_lowest text x (zero_denominator w spells narrow not is) = absurd (ok_not_err x _ is)
reads_lowest text x (no_number none is) = absurd (ok_not_err x _ is)

-- both coordinates are in lowest terms
abbrev pub HasLowestTerms : Point → Type 0
HasLowestTerms point = IsLowest point.x.num point.x.den × IsLowest point.y.num point.y.den

points_lowest : (pairs : List Pair) (points : List Point) → ArePoints pairs points → AllByRecursion HasLowestTerms points
points_lowest [] [] a = tt
points_lowest [] (point ∷ points) a = absurd a
points_lowest (pair ∷ pairs) [] a = absurd a
points_lowest (pair ∷ pairs) (point ∷ points) a = ((reads_lowest pair.x point.x a.0.0, reads_lowest pair.y point.y a.0.1), points_lowest pairs points a.1)

points_positive : (pairs : List Pair) (points : List Point) → ArePoints pairs points → AllByRecursion HasDenominators points
points_positive pairs points a = All-weaker points (λ point lowest. (lowest.0.positive, lowest.1.positive)) (points_lowest pairs points a)

-- ---- line by line

-- d is the d of a field, the limits are kept, all denominators are above 0, those of a table in lowest terms, and no direction is 0,0
pub record IsSound (draft : Draft) : Type 0 where
  pub radicand : IsRadicand draft.d
  pub few_in_table : (table : List Point) → draft.table ≡ Some table → length table ≤ most_table_sides
  pub table_points : (table : List Point) → draft.table ≡ Some table → AllByRecursion HasLowestTerms table
  pub polygons : length draft.polygons ≤ most_polygons
  pub sides : sum_by length draft.polygons ≤ most_sides
  pub points : AllByRecursion (AllByRecursion HasDenominators) draft.polygons
  pub directions : AllByRecursion HasDirection draft.commands

-- the draft so far is sound, and one that ended describes a surface
abbrev pub IsSoundSoFar : Progress → Type 0
IsSoundSoFar nothing = Unit {0}
IsSoundSoFar headed = Unit {0}
IsSoundSoFar (drafted draft) = IsSound draft
IsSoundSoFar (ended draft) = IsSound draft × DescribesSurface draft

polygon_added : (draft : Draft) (pairs : List Pair) (points : List Point) → IsSound draft → HasRoom draft (polygon_line pairs) → ArePoints pairs points
    → IsSound (record draft { polygons = draft.polygons ++ points ∷ [] })
polygon_added draft pairs points sound room are = record {
  radicand = sound.radicand;
  few_in_table = sound.few_in_table;
  table_points = sound.table_points;
  polygons = let few = room.0 in omega (arith, length-append draft.polygons (points ∷ []));
  sides = let few = room.1 in let same = length-points pairs points are in omega (arith, lengths-append_one draft.polygons points);
  points = All-append (AllByRecursion HasDenominators) draft.polygons (points ∷ []) sound.points (points_positive pairs points are, tt);
  directions = sound.directions;
}

some_equal : (a b : List Point) → Some a ≡ Some b → a ≡ b
some_equal a b e = cc

none_not_some : (table : List Point) → None ≡ Some table → ⊥
none_not_some table e = cc

table_added : (draft : Draft) (pairs : List Pair) (points : List Point) → IsSound draft → HasRoom draft (table_line pairs) → ArePoints pairs points → IsSound (record draft { table = Some points })
table_added draft pairs points sound room are = record {
  radicand = sound.radicand;
  few_in_table = λ table e. let same = ap length (some_equal points table e) in omega (arith, length-points pairs points are);
  table_points = λ table e. subst (AllByRecursion HasLowestTerms) (some_equal points table e) (points_lowest pairs points are);
  polygons = sound.polygons;
  sides = sound.sides;
  points = sound.points;
  directions = sound.directions;
}

command_added : (n : ℕ) (draft : Draft) (stated : StatedCommand) (command : Command) → IsSound draft → IsCommand n stated command → ((fault : Fault) → ¬ IsSenseless n (command_line stated) fault)
    → IsSound (record draft { commands = draft.commands ++ command ∷ [] })
command_added n draft stated command sound is sense = record {
  radicand = sound.radicand;
  few_in_table = sound.few_in_table;
  table_points = sound.table_points;
  polygons = sound.polygons;
  sides = sound.sides;
  points = sound.points;
  directions = All-append HasDirection draft.commands (command ∷ []) sound.directions (has_direction n stated command is (λ zero. sense _ (zero, refl)), tt);
}

-- a d that isn't refused is the d of a field
radicand_stable : (d : ℕ) → ¬ (¬ IsRadicand d) → IsRadicand d
radicand_stable d twice = record {
  least = let least : 1 < d = lt_of_not-le (λ few. twice (λ is. let least = is.least in omega arith)) in omega arith;
  greatest = let greatest : d < 1000 = lt_of_not-le (λ many. twice (λ is. let greatest = is.greatest in omega arith)) in omega arith;
  squarefree = λ k least divides. twice (λ is. is.squarefree k least divides);
}

adds_sound : (n : ℕ) (before : Progress) (s : Statement) (after : Progress) → IsSoundSoFar before → IsAllowed before s → HasRoom (draft_of before) s → ((fault : Fault) → ¬ IsSenseless n s fault) → Adds n (draft_of before) s after → IsSoundSoFar after
adds_sound n nothing s after sound may room sense adds = absurd may
adds_sound n headed (field_line d) after sound may room sense adds =
    subst IsSoundSoFar (sym adds) (record { radicand = radicand_stable d (λ none. sense _ (none, refl)); few_in_table = λ table e. absurd (none_not_some table e); table_points = λ table e. absurd (none_not_some table e); polygons = omega arith; sides = omega arith; points = tt; directions = tt })
adds_sound n headed (polygon_line pairs) after sound may room sense adds = absurd may
adds_sound n headed (table_line pairs) after sound may room sense adds = absurd may
adds_sound n headed (glue_line one two) after sound may room sense adds = absurd may
adds_sound n headed (command_line command) after sound may room sense adds = absurd may
adds_sound n headed end_line after sound may room sense adds = absurd may
adds_sound n (drafted draft) (field_line d) after sound may room sense adds = absurd may
adds_sound n (drafted draft) (polygon_line pairs) after sound may room sense adds = subst IsSoundSoFar (sym adds.2) (polygon_added draft pairs adds.0 sound room adds.1)
adds_sound n (drafted draft) (table_line pairs) after sound may room sense adds = subst IsSoundSoFar (sym adds.2) (table_added draft pairs adds.0 sound room adds.1)
adds_sound n (drafted draft) (glue_line one two) after sound may room sense adds =
    subst IsSoundSoFar (sym adds) (record { radicand = sound.radicand; few_in_table = sound.few_in_table; table_points = sound.table_points; polygons = sound.polygons; sides = sound.sides; points = sound.points; directions = sound.directions })
adds_sound n (drafted draft) (command_line stated) after sound may room sense adds = subst IsSoundSoFar (sym adds.2) (command_added n draft stated adds.0 sound adds.1 sense)
adds_sound n (drafted draft) end_line after sound may room sense adds = subst IsSoundSoFar (sym adds) (sound, may)
adds_sound n (ended draft) s after sound may room sense adds = absurd may

leads_sound : (n : ℕ) (before : Progress) (line : List ℕ) (after : Progress) → IsSoundSoFar before → Leads n before line (to_progress after) → IsSoundSoFar after
leads_sound n before line after sound leads = line_keeps n before line IsSoundSoFar tt (λ s next may room sense adds. adds_sound n before s next sound may room sense adds) sound after leads

lines_lead_sound : (n : ℕ) (before : Progress) (lines : List (List ℕ)) (after : Progress) → IsSoundSoFar before → LinesLead n before lines after → IsSoundSoFar after
lines_lead_sound n before [] after sound p = subst IsSoundSoFar p sound
lines_lead_sound n before (line ∷ lines) after sound p = lines_lead_sound (n + 1) p.0 lines after (leads_sound n before line p.0 sound p.1) p.2

-- a job is sound and describes a surface
pub job_sound : (bytes : List ℕ) (draft : Draft) → IsJob bytes draft → IsSound draft × DescribesSurface draft
job_sound bytes draft reads = lines_lead_sound 1 nothing (lines_of bytes) (ended draft) tt reads

-- a job that is read has directions other than 0,0
pub directions_read : (bytes : List ℕ) (result : Result Job JobStop) → IfOk result (λ job. IsJob bytes (job_draft job)) → IfOk result (λ job. AllByRecursion HasDirection job.commands)
directions_read bytes (Ok job) reads = (job_sound bytes (job_draft job) reads).0.directions
directions_read bytes (Err e) reads = tt
