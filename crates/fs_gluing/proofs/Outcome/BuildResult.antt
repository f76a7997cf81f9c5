-- The result of building a shape: the stop of the first failed test, or the surface.
use Rattle.std.proofs.Common.{◌≡◌, ◌⊎◌, inl, inr, ℕ, ◌<◌, ◌≤◌, ℤ, pos, ◌+◌, Option, Some, Result, Ok, Err, List, [], ◌++◌, length, sum_by, sym, ap, ◌∙◌, refl, subst, map, arith}
use Rattle.std.proofs.lemmas.Int.{ints}
use Rattle.std.specs.Option.{IsSome}
use Rattle.std.specs.List.{AllByRecursion, Contains, range_with_len}
use Rattle.fs_lists.proofs.All.{All-append, All-map, All-weaker, All-range}
use Rattle.fs_lists.proofs.First.{first_of_prefix, first_of_suffix, first_not_all, first_unique}
use Rattle.fs_quadratic.specs.Radicand.{IsRadicand}
use Rattle.fs_plane.specs.Vector.{PlaneVector}
use Rattle.fs_plane.specs.declared.corners.Corner.{Corner}
use Rattle.fs_gluing.specs.declared.shapes.Glue.{Glue}
use Rattle.fs_gluing.specs.declared.shapes.Shape.{Shape}
use Rattle.fs_gluing.specs.declared.surfaces.Side.{Side}
use Rattle.fs_gluing.specs.declared.faults.BuildStop.{BuildStop}
use Rattle.fs_gluing.specs.declared.faults.BuildStop.TheVariants.{NoMemory}
use Rattle.fs_gluing.specs.Limits.{most_polygons, most_sides}
use Rattle.fs_gluing.specs.Positions.{all_positions}
use Rattle.fs_gluing.specs.Polygons.{at_side, all_sides}
use Rattle.fs_gluing.specs.Reached.{IsReached}
use Rattle.fs_gluing.specs.Scaling.{PassesScale, scale_tests, common_den, IsLeastCommonMultiple}
use Rattle.fs_gluing.specs.Shape.{IsWithinLimits, polygons_of, glued_sides, IsScaledVector}
use Rattle.fs_gluing.specs.Surface.{GluedPolygons, side_vectors, AreNeighbours, IsGlued, IsSurface}
use Rattle.fs_gluing.specs.FirstFault.{Passes, PassesOf, PassesLine, line_tests, of_scaling, of_line, side_glued, polygon_reached, Joins, tests_from, tests, tests_of, Test, stop_of, IsFirstFailure, IsBuildResult}
use Rattle.fs_gluing.specs.Gluing.{ArePartners, glued_polygons}
use Rattle.fs_gluing.specs.TestsInOrder.{IsFirstStop}
use Rattle.fs_gluing.proofs.Base.TestsInOrder.{first_stop_of_map, first_stop_of_same}
use Rattle.fs_gluing.proofs.Polygon.PolygonsInTurn.{shape_count, shape_sides, short_polygons}
use Rattle.fs_gluing.proofs.Scale.ScalingInTurn.{scale_stop}
use Rattle.fs_gluing.proofs.Scale.ScaledVectors.{vectors_scaled}
use Rattle.fs_gluing.proofs.Scale.CommonDenominator.{common_den_least}
use Rattle.fs_gluing.proofs.Gluing.GluedPolygons.{IsPaired, rows_vectors, rows_length, rows_are_glued, neighbours_joined, joined_neighbours, lines_are_glued, is_surface}
use Rattle.fs_gluing.proofs.Gluing.GlueLines.{line_stop}
use Rattle.fs_gluing.proofs.Gluing.Partners.{listed_has_partner, listed_from_partner}

-- with more steps at least as much is reached
pub reached_along : (A B : ℕ → ℕ → Type 0) → ((i j : ℕ) → A i j → B i j) → (k : ℕ) → IsReached A k → IsReached B k
reached_along A B along k r = λ held start next. r held start (λ i j a. next i j (along i j a))

-- scaling stops: the result is the stop of its first failed test
pub outcome_at_scaling : (d : ℕ) (shape : Shape) (e : BuildStop) → (e ≡ NoMemory) ⊎ IsFirstStop PassesScale (scale_tests shape.polygons) scale_stop e → IsBuildResult d shape (Err e)
outcome_at_scaling d shape e h = elim h [
  | inl memory ↦ inl memory
  | inr a ↦
      let b = first_stop_of_map of_scaling (PassesOf d shape) (scale_tests shape.polygons) stop_of e a in
      inr (b.test, first_of_prefix (PassesOf d shape) (map of_scaling (scale_tests shape.polygons)) (tests (polygons_of shape) shape.glues) b.test b.first, b.is)
]

-- a shape within the limits and its polygons times its denominator, where all tests of scaling pass
pub record ScaledShape : Type 0 where
  pub d : ℕ
  pub shape : Shape
  pub den : ℕ
  pub polygons : List (List PlaneVector)
  pub limits : IsWithinLimits shape
  pub passed : AllByRecursion PassesScale (scale_tests shape.polygons)
  pub denominator : den ≡ common_den shape.polygons
  pub taken : polygons ≡ polygons_of shape
  pub positive : 0 < den

-- a scaled shape from the clauses of `scale`
abbrev pub scaled_shape : (d : ℕ) (shape : Shape) (den : ℕ) (polygons : List (List PlaneVector)) → IsWithinLimits shape → AllByRecursion PassesScale (scale_tests shape.polygons)
    → den ≡ common_den shape.polygons → polygons ≡ polygons_of shape → 0 < den → ScaledShape
scaled_shape d shape den polygons limits passed denominator taken positive = record {
  d = d;
  shape = shape;
  den = den;
  polygons = polygons;
  limits = limits;
  passed = passed;
  denominator = denominator;
  taken = taken;
  positive = positive;
}

-- the glued polygons of a scaled shape, where the polygons and the lines pass their tests and each side has a partner
pub record GluedShape (s : ScaledShape) : Type 0 where
  pub partner : Corner → Option Corner
  pub rows : List (List Side)
  pub paired : IsPaired s.shape.straight s.d s.polygons s.shape.glues partner
  pub rows_are : rows ≡ glued_polygons partner 0 s.polygons

module _ (s : ScaledShape) where
  -- what the polygons and the lines of the shape pass
  abbrev P : Test → Type 0
  P = Passes s.shape.straight s.d s.polygons s.shape.glues

  -- e is the stop of the first of these tests that fails
  abbrev StopsIn : List Test → BuildStop → Type 0
  StopsIn ts e = IsFirstStop P ts stop_of e

  scale_passes : AllByRecursion (PassesOf s.d s.shape) (map of_scaling (scale_tests s.shape.polygons))
  scale_passes = All-map of_scaling (PassesOf s.d s.shape) (scale_tests s.shape.polygons) s.passed

  outcome_by : (e : BuildStop) → StopsIn (tests s.polygons s.shape.glues) e → IsBuildResult s.d s.shape (Err e)
  outcome_by e f =
      let a = subst (λ ps. IsFirstStop (Passes s.shape.straight s.d ps s.shape.glues) (tests ps s.shape.glues) stop_of e) s.taken f in
      inr (a.test, first_of_suffix (PassesOf s.d s.shape) (map of_scaling (scale_tests s.shape.polygons)) (tests (polygons_of s.shape) s.shape.glues) a.test scale_passes a.first, a.is)

  of_prefix : (xs ys : List Test) (e : BuildStop) → StopsIn xs e → StopsIn (xs ++ ys) e
  of_prefix xs ys e a = record { test = a.test; first = first_of_prefix P xs ys a.test a.first; is = a.is }

  of_suffix : (xs ys : List Test) (e : BuildStop) → AllByRecursion P xs → StopsIn ys e → StopsIn (xs ++ ys) e
  of_suffix xs ys e passed a = record { test = a.test; first = first_of_suffix P xs ys a.test passed a.first; is = a.is }

  -- a polygon fails: the result is the stop of its first failed test
  pub outcome_at_polygons : (e : BuildStop) → (e ≡ NoMemory) ⊎ ((glues : List Glue) → IsFirstStop (Passes s.shape.straight s.d s.polygons glues) (tests_from 0 s.polygons) stop_of e) → IsBuildResult s.d s.shape (Err e)
  outcome_at_polygons e h = elim h [ inl memory ↦ inl memory | inr a ↦ outcome_by e (of_prefix _ _ e (a s.shape.glues)) ]

  -- a glue line fails: the result is the stop of its first failed test
  pub outcome_at_lines : (e : BuildStop) → AllByRecursion P (tests_from 0 s.polygons)
      → (e ≡ NoMemory) ⊎ IsFirstStop (PassesLine s.polygons) (line_tests [] s.shape.glues) line_stop e → IsBuildResult s.d s.shape (Err e)
  outcome_at_lines e each h = elim h [
    | inl memory ↦ inl memory
    | inr a ↦ outcome_by e (of_suffix _ _ e each (of_prefix _ _ e (first_stop_of_map of_line P (line_tests [] s.shape.glues) stop_of e a)))
  ]

  lines_pass : AllByRecursion (PassesLine s.polygons) (line_tests [] s.shape.glues) → AllByRecursion P (map of_line (line_tests [] s.shape.glues))
  lines_pass lines = All-map of_line P (line_tests [] s.shape.glues) lines

  -- a side has no partner: the result is `Unglued`
  pub outcome_at_sides : (p : Corner → Option Corner) (e : BuildStop) → AllByRecursion P (tests_from 0 s.polygons) → AllByRecursion (PassesLine s.polygons) (line_tests [] s.shape.glues)
      → ArePartners s.shape.glues p → (e ≡ NoMemory) ⊎ IsFirstStop (λ c. IsSome (p c)) (all_sides s.polygons) (λ c. stop_of (side_glued c)) e → IsBuildResult s.d s.shape (Err e)
  outcome_at_sides p e each lines partners h = elim h [
    | inl memory ↦ inl memory
    | inr a ↦ outcome_by e (of_suffix _ _ e each (of_suffix _ _ e (lines_pass lines) (of_prefix _ _ e (first_stop_of_map side_glued P (all_sides s.polygons) stop_of e
        (first_stop_of_same (λ c. IsSome (p c)) (Contains (glued_sides s.shape.glues)) (all_sides s.polygons) (λ c. stop_of (side_glued c)) e
        (λ c. listed_from_partner s.shape.glues p c partners) (λ c. listed_has_partner s.shape.glues p c partners) a)))))
  ]

  counted : length s.polygons ≡ length s.shape.polygons
  counted = ap length s.taken ∙ shape_count s.shape

  summed : sum_by length s.polygons ≡ sum_by length s.shape.polygons
  summed = ap (sum_by length) s.taken ∙ shape_sides s.shape

  -- each polygon has at most 1,024 sides
  pub short : AllByRecursion (λ polygon. length polygon ≤ most_sides) s.polygons
  short = subst (AllByRecursion (λ polygon. length polygon ≤ most_sides)) (sym s.taken) (short_polygons s.shape s.limits)

  module _ (p : Corner → Option Corner) (h : IsPaired s.shape.straight s.d s.polygons s.shape.glues p) where
    -- the glued polygons
    abbrev glued : List (List Side)
    glued = glued_polygons p 0 s.polygons

    -- polygon k is reached through glued sides
    abbrev IsNear : ℕ → Type 0
    IsNear = IsReached (AreNeighbours glued)

    near_joined : (k : ℕ) → IsNear k → IsReached (Joins s.shape.glues) k
    near_joined = reached_along (AreNeighbours glued) (Joins s.shape.glues) (neighbours_joined s.shape.straight s.d s.polygons s.shape.glues p h)

    joined_near : (k : ℕ) → IsReached (Joins s.shape.glues) k → IsNear k
    joined_near = reached_along (Joins s.shape.glues) (AreNeighbours glued) (joined_neighbours s.shape.straight s.d s.polygons s.shape.glues p h)

    sides_pass : AllByRecursion P (map side_glued (all_sides s.polygons))
    sides_pass = All-map side_glued P (all_sides s.polygons) (All-weaker (all_sides s.polygons) (λ c. listed_from_partner s.shape.glues p c h.partners) h.sides)

    -- the numbers of the glued polygons
    abbrev numbers : List ℕ
    numbers = range_with_len 0 (length glued)

    apart : (e : BuildStop) → (e ≡ NoMemory) ⊎ IsFirstStop IsNear numbers (λ i. stop_of (polygon_reached i)) e → IsBuildResult s.d s.shape (Err e)
    apart e k = elim k [
      | inl memory ↦ inl memory
      | inr a ↦
          let joined : IsFirstStop (IsReached (Joins s.shape.glues)) numbers (λ i. stop_of (polygon_reached i)) e =
          first_stop_of_same IsNear (IsReached (Joins s.shape.glues)) numbers (λ i. stop_of (polygon_reached i)) e near_joined joined_near a in
          outcome_by e (of_suffix _ _ e h.each (of_suffix _ _ e (lines_pass h.lines) (of_suffix _ _ e sides_pass
          (subst (λ n. StopsIn (map polygon_reached (range_with_len 0 n)) e) (rows_length p 0 s.polygons) (first_stop_of_map polygon_reached P numbers stop_of e joined)))))
    ]

    all_pass : AllByRecursion IsNear numbers → AllByRecursion (PassesOf s.d s.shape) (tests_of s.shape)
    all_pass near = All-append (PassesOf s.d s.shape) (map of_scaling (scale_tests s.shape.polygons)) (tests (polygons_of s.shape) s.shape.glues) scale_passes
        (subst (λ ps. AllByRecursion (Passes s.shape.straight s.d ps s.shape.glues) (tests ps s.shape.glues)) s.taken (All-append P _ _ h.each (All-append P _ _ (lines_pass h.lines) (All-append P _ _ sides_pass
        (subst (λ n. AllByRecursion P (map polygon_reached (range_with_len 0 n))) (rows_length p 0 s.polygons)
        (All-map polygon_reached P numbers (All-weaker numbers near_joined near)))))))

    surface : IsRadicand s.d → AllByRecursion IsNear numbers → IsSurface (record { d = s.d; straight = s.shape.straight; den = pos s.den; polygons = glued })
    surface radicand near = is_surface s.shape.straight s.d s.polygons s.shape.glues p h (pos s.den) radicand (let up = s.positive in omega (arith, ints))
        (subst (λ n. 0 < n) (sym counted) s.limits.some_polygon)
        (subst (λ n. n ≤ most_polygons) (sym counted) s.limits.polygons)
        (subst (λ n. n ≤ most_sides) (sym summed) s.limits.sides)
        (λ k l. let same : 0 + k ≡ k = omega arith in subst IsNear same (All-range IsNear 0 (length glued) k near l))

    has_surface : IsRadicand s.d → AllByRecursion IsNear numbers → IsBuildResult s.d s.shape (Ok (record { d = s.d; straight = s.shape.straight; den = pos s.den; polygons = glued }))
    has_surface radicand near = (
      surface radicand near,
      record {
        field = refl;
        straight = refl;
        denominator = ap pos s.denominator;
        least = subst (IsLeastCommonMultiple s.shape.polygons) (sym s.denominator) (common_den_least s.shape.polygons);
        same_vectors = rows_vectors p 0 s.polygons ∙ s.taken;
        each_scaled = λ c point side there here. subst (λ n. IsScaledVector n point side.vector) (sym s.denominator)
            (vectors_scaled s.shape glued (rows_vectors p 0 s.polygons ∙ s.taken) c point side there here);
        as_the_lines = lines_are_glued s.shape.straight s.d s.polygons s.shape.glues p h;
      },
      all_pass near,
    )

  -- ---- the polygons that are kept

  module _ (g : GluedShape s) where
    -- there is at least one polygon
    pub some_rows : 0 < length g.rows
    some_rows = subst (λ n. 0 < n) (sym (ap length g.rows_are ∙ rows_length g.partner 0 s.polygons ∙ counted)) s.limits.some_polygon

    -- there are at most 256 polygons
    pub few_rows : length g.rows ≤ most_polygons
    few_rows = subst (λ n. n ≤ most_polygons) (sym (ap length g.rows_are ∙ rows_length g.partner 0 s.polygons ∙ counted)) s.limits.polygons

    -- every side is glued
    pub rows_glued : (c : Corner) (side : Side) → at_side g.rows c ≡ Some side → IsGlued g.rows c side
    rows_glued = subst (λ (ps : List (List Side)). (c : Corner) (side : Side) → at_side ps c ≡ Some side → IsGlued ps c side) (sym g.rows_are)
        (rows_are_glued s.shape.straight s.d s.polygons s.shape.glues g.partner g.paired)

    -- a polygon isn't reached: the result is `Apart`
    pub outcome_at_reaching : (e : BuildStop) → (e ≡ NoMemory) ⊎ IsFirstStop (IsReached (AreNeighbours g.rows)) (range_with_len 0 (length g.rows)) (λ i. stop_of (polygon_reached i)) e
        → IsBuildResult s.d s.shape (Err e)
    outcome_at_reaching e k = apart g.partner g.paired e
        (subst (λ (ps : List (List Side)). (e ≡ NoMemory) ⊎ IsFirstStop (IsReached (AreNeighbours ps)) (range_with_len 0 (length ps)) (λ i. stop_of (polygon_reached i)) e) g.rows_are k)

    -- the positions are those of the glued polygons
    pub rows_positions : (positions : List (List PlaneVector)) → positions ≡ all_positions s.polygons → positions ≡ all_positions (map side_vectors g.rows)
    rows_positions positions is =
        is ∙ ap all_positions (sym (rows_vectors g.partner 0 s.polygons)) ∙ ap (λ (ps : List (List Side)). all_positions (map side_vectors ps)) (sym g.rows_are)

    module _ (radicand : IsRadicand s.d) (near : AllByRecursion (IsReached (AreNeighbours g.rows)) (range_with_len 0 (length g.rows))) where
      near_glued : AllByRecursion (IsNear g.partner g.paired) (numbers g.partner g.paired)
      near_glued = subst (λ (ps : List (List Side)). AllByRecursion (IsReached (AreNeighbours ps)) (range_with_len 0 (length ps))) g.rows_are near

      -- they are a surface
      pub rows_surface : (n : ℤ) → n ≡ pos s.den → IsSurface (record { d = s.d; straight = s.shape.straight; den = n; polygons = g.rows })
      rows_surface n is =
          subst (λ ps. IsSurface (record { d = s.d; straight = s.shape.straight; den = n; polygons = ps })) (sym g.rows_are)
          (subst (λ m. IsSurface (record { d = s.d; straight = s.shape.straight; den = m; polygons = glued g.partner g.paired })) (sym is) (surface g.partner g.paired radicand near_glued))

      -- all tests pass: the result is the surface of the shape
      pub outcome_of_all_passed : (t : GluedPolygons) (n : ℤ) → n ≡ pos s.den → t ≡ record { d = s.d; straight = s.shape.straight; den = n; polygons = g.rows } → IsBuildResult s.d s.shape (Ok t)
      outcome_of_all_passed t n is same =
          subst (λ u. IsBuildResult s.d s.shape (Ok u))
          (sym (same ∙ ap (λ ps. record { d = s.d; straight = s.shape.straight; den = n; polygons = ps }) g.rows_are ∙ ap (λ m. record { d = s.d; straight = s.shape.straight; den = m; polygons = glued g.partner g.paired }) is))
          (has_surface g.partner g.paired radicand near_glued)

-- a test that is the first to fail gives the result
pub first_failure_of_outcome : (d : ℕ) (shape : Shape) (r : Result GluedPolygons BuildStop) → IsBuildResult d shape r → (test : Test) → IsFirstFailure d shape test
    → (r ≡ Err NoMemory) ⊎ (r ≡ Err (stop_of test))
first_failure_of_outcome d shape (Ok s) j test f = absurd (first_not_all (PassesOf d shape) (tests_of shape) test f j.2)
first_failure_of_outcome d shape (Err e) j test f = elim j [
  | inl memory ↦ inl (ap (λ x. Err x) memory)
  | inr h ↦ inr (ap (λ x. Err x) (h.2 ∙ ap stop_of (first_unique (PassesOf d shape) (tests_of shape) h.0 test h.1 f)))
]
