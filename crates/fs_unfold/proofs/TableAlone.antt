-- A table that is built as a shape without glue lines: what the result says of its own tests.
use Rattle.std.proofs.Common.{◌≡◌, ◌⊎◌, ℕ, ◌+◌, ◌≤◌, Result, Ok, Err, List, [], ◌∷◌, ◌++◌, length, map, refl, sym, ap, subst, inl, inr, append_assoc}
use Rattle.std.specs.List.{AllByRecursion}
use Rattle.std.specs.Result.{IfErr, OnOk}
use Rattle.fs_lists.specs.First.{IsFirstWithout}
use Rattle.fs_lists.specs.Members.{IsIn}
use Rattle.fs_lists.proofs.All.{All-prefix, All-append, All-map}
use Rattle.fs_lists.proofs.Members.{All-member, in_map_cases, in_append_cases}
use Rattle.fs_quadratic.specs.Radicand.{IsRadicand}
use Rattle.fs_plane.specs.Vector.{PlaneVector}
use Rattle.fs_gluing.specs.declared.faults.BuildStop.{BuildStop}
use Rattle.fs_gluing.specs.declared.faults.BuildStop.TheVariants as stops
use Rattle.fs_gluing.specs.declared.shapes.Point.{Point}
use Rattle.fs_gluing.specs.FirstFault.{PolygonTest, Test, of_scaling, of_polygon, side_glued, polygon_reached, three_sides, x_fits, y_fits, polygon_closes, corner_fits, corner_convex, turning_number_one, polygon_tests, PassesOf, tests_from, stop_of, tests_of, IsFirstFailure, IsBuildResult}
use Rattle.fs_gluing.specs.Polygons.{all_sides}
use Rattle.fs_gluing.specs.Scaling.{ScaleTest, common_fits, part_fits, scale_tests}
use Rattle.fs_gluing.specs.Shape.{polygons_of}
use Rattle.fs_unfold.specs.InPlace.{StopsAtTable, LacksGlue, OrNoMemory}
use Rattle.fs_unfold.specs.Tables.{HasLowest, IsTable}
use Rattle.fs_unfold.specs.Unfolding.{alone, table_tests, table_stop, PassesAlone}

-- ---- lists of two parts

at_split : {X : Type 0} (x : X) (zs after : List X) → IsIn x (zs ++ x ∷ after)
at_split x [] after = inl refl
at_split x (z ∷ zs) after = inr (at_split x zs after)

-- the first item without P is that of the first part, or that part has P and the item is in the second
first_of_parts : {X : Type 0} (P : X → Type 0) (xs ys : List X) (x : X) → IsFirstWithout P (xs ++ ys) x → IsFirstWithout P xs x ⊎ (AllByRecursion P xs × IsIn x ys)
first_of_parts {X} P xs ys x f = by xs f.before f.whole f.passed
  where
    by : (xs before : List X) → xs ++ ys ≡ before ++ x ∷ f.after → AllByRecursion P before → IsFirstWithout P xs x ⊎ (AllByRecursion P xs × IsIn x ys)
    by [] before e all = inr (tt, subst (IsIn x) (sym e) (at_split x before f.after))
    by (z ∷ xs) [] e all = inl (record { before = []; after = xs; whole = (let h : z ≡ x = cc in ap (λ y. y ∷ xs) h); passed = tt; fails = f.fails })
    by (z ∷ xs) (w ∷ before) e all =
        let head : z ≡ w = cc in
        let rest : xs ++ ys ≡ before ++ x ∷ f.after = cc in
        longer z (subst P (sym head) all.0) (by xs before rest all.1)
      where
        longer : (z : X) → P z → {xs : List X} → IsFirstWithout P xs x ⊎ (AllByRecursion P xs × IsIn x ys) → IsFirstWithout P (z ∷ xs) x ⊎ (AllByRecursion P (z ∷ xs) × IsIn x ys)
        longer z p (inl g) = inl (record { before = z ∷ g.before; after = g.after; whole = ap (λ ws. z ∷ ws) g.whole; passed = (p, g.passed); fails = g.fails })
        longer z p (inr h) = inr ((p, h.0), h.1)

-- ---- the tests of the table alone

-- a failed test of scaling or of a polygon doesn't say that a side isn't on a glue line
abbrev HasOwnStop : Test → Type 0
HasOwnStop test = ¬ LacksGlue (stop_of test)

own_scaling : (tests : List ScaleTest) → AllByRecursion (λ test. HasOwnStop (of_scaling test)) tests
own_scaling [] = tt
own_scaling (common_fits i j p m n ∷ tests) = ((λ h. let e = h.1 in cc), own_scaling tests)
own_scaling (part_fits i j p k z ∷ tests) = ((λ h. let e = h.1 in cc), own_scaling tests)

own_polygon : (i : ℕ) (polygon : List PlaneVector) (tests : List PolygonTest) → AllByRecursion (λ test. HasOwnStop (of_polygon i polygon test)) tests
own_polygon i polygon [] = tt
own_polygon i polygon (test ∷ tests) = (by test, own_polygon i polygon tests)
  where
    by : (test : PolygonTest) → HasOwnStop (of_polygon i polygon test)
    by three_sides h = let e = h.1 in cc
    by (x_fits j) h = let e = h.1 in cc
    by (y_fits j) h = let e = h.1 in cc
    by polygon_closes h = let e = h.1 in cc
    by (corner_fits j corner p) h = let e = h.1 in cc
    by (corner_convex j corner) h = let e = h.1 in cc
    by turning_number_one h = let e = h.1 in cc

own_tests : (table : List Point) → AllByRecursion HasOwnStop (table_tests table)
own_tests table =
    All-append HasOwnStop (map of_scaling (scale_tests (table ∷ []))) (tests_from 0 (polygons_of (alone table)))
    (All-map of_scaling HasOwnStop (scale_tests (table ∷ [])) (own_scaling (scale_tests (table ∷ [])))) (polygons 0 (polygons_of (alone table)))
  where
    polygons : (i : ℕ) (ps : List (List PlaneVector)) → AllByRecursion HasOwnStop (tests_from i ps)
    polygons i [] = tt
    polygons i (p ∷ ps) =
        All-append HasOwnStop (map (of_polygon i p) (polygon_tests p)) (tests_from (i + 1) ps)
        (All-map (of_polygon i p) HasOwnStop (polygon_tests p) (own_polygon i p (polygon_tests p))) (polygons (i + 1) ps)

-- the other tests
abbrev others : List Point → List Test
others table = map side_glued (all_sides (polygons_of (alone table))) ++ polygon_reached 0 ∷ []

all_tests : (table : List Point) → tests_of (alone table) ≡ table_tests table ++ others table
all_tests table = sym (append_assoc (map of_scaling (scale_tests (table ∷ []))) (tests_from 0 (polygons_of (alone table))) (others table))

module _ (d : ℕ) (table : List Point) where
  -- a side that isn't on a glue line is all that the others tell
  other_stops : (test : Test) → IsIn test (others table) → ¬ PassesOf d (alone table) test → LacksGlue (stop_of test)
  other_stops test h fails = by (in_append_cases test (map side_glued (all_sides (polygons_of (alone table)))) (polygon_reached 0 ∷ []) h)
    where
      by : IsIn test (map side_glued (all_sides (polygons_of (alone table)))) ⊎ IsIn test (polygon_reached 0 ∷ []) → LacksGlue (stop_of test)
      by (inl glued) = let c = in_map_cases side_glued test (all_sides (polygons_of (alone table))) glued in (c.0, ap stop_of c.2)
      by (inr (inl e)) = absurd (fails (subst (PassesOf d (alone table)) (sym e) (λ held at_first step. at_first)))
      by (inr (inr none)) = absurd none

  parts : (test : Test) → IsFirstFailure d (alone table) test → IsFirstWithout (PassesOf d (alone table)) (table_tests table) test ⊎ (PassesAlone d table × IsIn test (others table))
  parts test first = first_of_parts (PassesOf d (alone table)) (table_tests table) (others table) test (subst (λ ts. IsFirstWithout (PassesOf d (alone table)) ts test) (all_tests table) first)

  first_in : (tests : List Test) (test : Test) → IsFirstWithout (PassesOf d (alone table)) tests test → IsIn test tests
  first_in tests test first = subst (IsIn test) (sym first.whole) (at_split test first.before first.after)

  -- a table that is built passes its tests
  pub passes_of_surface : AllByRecursion (PassesOf d (alone table)) (tests_of (alone table)) → PassesAlone d table
  passes_of_surface all = All-prefix (PassesOf d (alone table)) (table_tests table) (others table) (subst (AllByRecursion (PassesOf d (alone table))) (all_tests table) all)

  -- and so does one where only a side isn't on a glue line
  passes_of_stop : (stop : BuildStop) → IsBuildResult d (alone table) (Err stop) → LacksGlue stop → PassesAlone d table
  passes_of_stop stop (inl e) lacks = absurd (let f = e in let g = lacks.1 in cc)
  passes_of_stop stop (inr h) lacks = by (parts h.0 h.1)
    where
      by : IsFirstWithout (PassesOf d (alone table)) (table_tests table) h.0 ⊎ (PassesAlone d table × IsIn h.0 (others table)) → PassesAlone d table
      by (inl first) = absurd (All-member HasOwnStop (table_tests table) h.0 (own_tests table) (first_in (table_tests table) h.0 first) (subst LacksGlue h.2 lacks))
      by (inr passes) = passes.0

  -- all other stops are those of the table
  table_stops : (stop : BuildStop) → IsBuildResult d (alone table) (Err stop) → ¬ LacksGlue stop → OrNoMemory (StopsAtTable d table) (table_stop stop)
  table_stops stop (inl e) own = subst (λ s. OrNoMemory (StopsAtTable d table) (table_stop s)) (sym e) tt
  table_stops stop (inr h) own = by (parts h.0 h.1)
    where
      stopped : (s : BuildStop) → StopsAtTable d table s → OrNoMemory (StopsAtTable d table) s
      stopped stops.NoMemory at = tt
      stopped (stops.Fault fault) at = at
      stopped (stops.Overflow site) at = at

      by : IsFirstWithout (PassesOf d (alone table)) (table_tests table) h.0 ⊎ (PassesAlone d table × IsIn h.0 (others table)) → OrNoMemory (StopsAtTable d table) (table_stop stop)
      by (inl first) = stopped (table_stop stop) (record { test = h.0; first = first; at = ap table_stop h.2 })
      by (inr passes) = absurd (own (subst LacksGlue (sym h.2) (other_stops h.0 passes.1 h.1.fails)))

  -- so it is a table where the check of the stop passes
  pub table_checked : (stop : BuildStop) → IsRadicand d → AllByRecursion HasLowest table → length table ≤ 42 → IsBuildResult d (alone table) (Err stop) → (result : Result (Unit {0}) BuildStop)
      → OnOk result (LacksGlue stop) → OnOk result (IsTable d table)
  table_checked stop radicand lowest few built (Ok done) lacks = record { radicand = radicand; passes = passes_of_stop stop built lacks; lowest = lowest; few = few }
  table_checked stop radicand lowest few built (Err e) lacks = tt

  -- or that is the stop
  pub table_stopped : (stop : BuildStop) → IsBuildResult d (alone table) (Err stop) → (result : Result (Unit {0}) BuildStop) → IfErr result (λ e. (e ≡ table_stop stop) × (¬ LacksGlue stop))
      → IfErr result (OrNoMemory (StopsAtTable d table))
  table_stopped stop built (Ok done) fails = tt
  table_stopped stop built (Err e) fails = subst (OrNoMemory (StopsAtTable d table)) (sym fails.0) (table_stops stop built fails.1)
