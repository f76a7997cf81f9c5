-- Each shape within the limits that passes all tests has a surface.
use Rattle.std.proofs.Common.{ℕ, ◌<◌, pos, Option, Some, None, cond, List, [], ◌∷◌, ◌++◌, length, map, refl, sym, subst, arith, append-nil, append_assoc}
use Rattle.std.specs.BTreeMap.{is_at}
use Rattle.std.specs.List.{AllByRecursion, Contains, range_with_len}
use Rattle.fs_lists.proofs.All.{All-prefix, All-suffix, All-weaker, All-of_map}
use Rattle.fs_quadratic.specs.Radicand.{IsRadicand}
use Rattle.fs_fraction.proofs.Divisors.{multiple_positive}
use Rattle.fs_plane.specs.Vector.{PlaneVector}
use Rattle.fs_plane.specs.declared.corners.Corner.{Corner}
use Rattle.fs_gluing.specs.declared.shapes.Glue.{Glue}
use Rattle.fs_gluing.specs.declared.shapes.Point.{Point}
use Rattle.fs_gluing.specs.declared.shapes.Shape.{Shape}
use Rattle.fs_gluing.specs.declared.surfaces.Side.{Side}
use Rattle.fs_gluing.specs.FirstFault.{Test, of_scaling, of_line, side_glued, polygon_reached, PassesOf, PassesLine, Joins, tests, tests_of, tests_from, line_tests}
use Rattle.fs_gluing.specs.Gluing.{ArePartners, corner_cmp, glued_polygons}
use Rattle.fs_gluing.specs.Polygons.{all_sides}
use Rattle.fs_gluing.specs.Reached.{IsReached}
use Rattle.fs_gluing.specs.Scaling.{NumberedSide, all_numbered, common_from, common_multiple, common_den, scale_tests, PassesScale}
use Rattle.fs_gluing.specs.Shape.{IsWithinLimits, HasShape, glued_sides, polygons_of}
use Rattle.fs_gluing.specs.Surface.{GluedPolygons, IsSurface, AreNeighbours}
use Rattle.fs_gluing.proofs.Gluing.GluedPolygons.{IsPaired, rows_length, joined_neighbours}
use Rattle.fs_gluing.proofs.Outcome.BuildResult.{ScaledShape, GluedShape, scaled_shape, reached_along, outcome_of_all_passed}
use Rattle.fs_gluing.proofs.Scale.CommonDenominator.{numbered_all}
use Rattle.fs_gluing.proofs.Gluing.Partners.{partners_more, listed_has_partner}

-- both denominators are above 0
abbrev pub HasDenominators : Point → Type 0
HasDenominators point = (0 < point.x.den) × (0 < point.y.den)

-- ---- the common denominator

common_positive : (m : ℕ) (sides : List NumberedSide) → 0 < m → AllByRecursion (λ s. HasDenominators s.vector) sides → 0 < common_from m sides
common_positive m [] h a = h
common_positive m (s ∷ sides) h a =
    common_positive (common_multiple (common_multiple m s.vector.x.den) s.vector.y.den) sides
    (multiple_positive (common_multiple m s.vector.x.den) s.vector.y.den (multiple_positive m s.vector.x.den h a.0.0) a.0.1) a.1

-- ---- the partners of the sides

-- p with the partner v put at k
abbrev put : (Corner → Option Corner) → Corner → Corner → Corner → Option Corner
put p k v c = cond (is_at (corner_cmp k) c) (Some v) (p c)

no_partners : ArePartners [] (λ c. None)
no_partners = record { of_lines = tt; only = λ c e is. absurd (cc is) }

partners_of : (polygons : List (List PlaneVector)) (earlier glues : List Glue) (p : Corner → Option Corner) → ArePartners earlier p → AllByRecursion (PassesLine polygons) (line_tests earlier glues)
    → (q : Corner → Option Corner) × ArePartners (earlier ++ glues) q
partners_of polygons earlier [] p a lines = (p, subst (λ (gs : List Glue). ArePartners gs p) (sym (append-nil earlier)) a)
partners_of polygons earlier (g ∷ glues) p a lines =
    let more = partners_more polygons earlier g p (put p g.one g.two) (put (put p g.one g.two) g.two g.one) a lines.1.0 (record { at = λ c. refl }) (record { at = λ c. refl }) in
    let found = partners_of polygons (earlier ++ g ∷ []) glues (put (put p g.one g.two) g.two g.one) more lines.1.1.1 in
    (found.0, subst (λ (gs : List Glue). ArePartners gs found.0) (append_assoc earlier (g ∷ []) glues) found.1)

-- ---- the surface

module _ (d : ℕ) (shape : Shape) (passed : AllByRecursion (PassesOf d shape) (tests_of shape)) where
  -- what the shape passes
  abbrev P : Test → Type 0
  P = PassesOf d shape

  -- the scaled polygons
  abbrev polygons : List (List PlaneVector)
  polygons = polygons_of shape

  -- the glue lines
  abbrev glues : List Glue
  glues = shape.glues

  scales : AllByRecursion PassesScale (scale_tests shape.polygons)
  scales = All-of_map of_scaling P (scale_tests shape.polygons) (All-prefix P (map of_scaling (scale_tests shape.polygons)) (tests polygons glues) passed)

  -- the tests that come last: each polygon is reached
  abbrev of_reach : List Test
  of_reach = map polygon_reached (range_with_len 0 (length polygons))

  -- the tests after those of the lines
  abbrev of_sides : List Test
  of_sides = map side_glued (all_sides polygons) ++ of_reach

  -- the tests after those of the polygons
  abbrev of_lines : List Test
  of_lines = map of_line (line_tests [] glues) ++ of_sides

  scaled_pass : AllByRecursion P (tests polygons glues)
  scaled_pass = All-suffix P (map of_scaling (scale_tests shape.polygons)) (tests polygons glues) passed

  each : AllByRecursion P (tests_from 0 polygons)
  each = All-prefix P (tests_from 0 polygons) of_lines scaled_pass

  polygons_then : AllByRecursion P of_lines
  polygons_then = All-suffix P (tests_from 0 polygons) of_lines scaled_pass

  lines : AllByRecursion (PassesLine polygons) (line_tests [] glues)
  lines = All-of_map of_line P (line_tests [] glues) (All-prefix P (map of_line (line_tests [] glues)) of_sides polygons_then)

  lines_then : AllByRecursion P of_sides
  lines_then = All-suffix P (map of_line (line_tests [] glues)) of_sides polygons_then

  -- each side is on a glue line
  pub listed : AllByRecursion (Contains (glued_sides glues)) (all_sides polygons)
  listed = All-of_map side_glued P (all_sides polygons) (All-prefix P (map side_glued (all_sides polygons)) of_reach lines_then)

  reached : AllByRecursion (IsReached (Joins glues)) (range_with_len 0 (length polygons))
  reached = All-of_map polygon_reached P (range_with_len 0 (length polygons)) (All-suffix P (map side_glued (all_sides polygons)) of_reach lines_then)

  -- the scaled shape
  abbrev scaled : IsWithinLimits shape → AllByRecursion (AllByRecursion HasDenominators) shape.polygons → ScaledShape
  scaled limits points = scaled_shape d shape (common_den shape.polygons) polygons limits scales refl refl (common_positive 1 (all_numbered shape.polygons) (omega arith) (numbered_all HasDenominators 0 shape.polygons points))

  module _ (p : Corner → Option Corner) (partners : ArePartners glues p) where
    paired : IsPaired shape.straight d polygons glues p
    paired = record {
      each = each;
      lines = lines;
      partners = partners;
      sides = All-weaker (all_sides polygons) (λ c. listed_has_partner glues p c partners) listed;
    }

    -- the glued polygons
    abbrev rows : List (List Side)
    rows = glued_polygons p 0 polygons

    near : AllByRecursion (IsReached (AreNeighbours rows)) (range_with_len 0 (length rows))
    near = subst (λ n. AllByRecursion (IsReached (AreNeighbours rows)) (range_with_len 0 n)) (sym (rows_length p 0 polygons))
        (All-weaker (range_with_len 0 (length polygons)) (reached_along (Joins glues) (AreNeighbours rows) (joined_neighbours shape.straight d polygons glues p paired)) reached)

    with_partners : IsRadicand d → IsWithinLimits shape → AllByRecursion (AllByRecursion HasDenominators) shape.polygons → (s : GluedPolygons) × IsSurface s × HasShape d shape s
    with_partners radicand limits points =
        let s = scaled limits points in
        let g : GluedShape s = record { partner = p; rows = rows; paired = paired; rows_are = refl } in
        let t : GluedPolygons = record { d = d; straight = shape.straight; den = pos s.den; polygons = rows } in
        let outcome = outcome_of_all_passed s g radicand near t (pos s.den) refl refl in
        (t, outcome.0, outcome.1)

  pub surface_exists : IsRadicand d → IsWithinLimits shape → AllByRecursion (AllByRecursion HasDenominators) shape.polygons → (s : GluedPolygons) × IsSurface s × HasShape d shape s
  surface_exists radicand limits points =
      let found = partners_of polygons [] glues (λ c. None) no_partners lines in
      with_partners found.0 found.1 radicand limits points
