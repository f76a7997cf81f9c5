-- Polygons of a surface without straight corners: their corners by numbers, and which corners are left of which sides.
use Rattle.std.proofs.Common.{◌≡◌, ℕ, zero, suc, ◌+◌, ◌-◌, ◌<◌, ◌≤◌, false, Option, List, [], ◌∷◌, refl, sym, ap, ◌∙◌, subst, arith}
use Rattle.std.proofs.lemmas.Bool.Decides.{nat_tests}
use Rattle.std.proofs.lemmas.Option.{unwrap_or-slice_get}
use Rattle.std.specs.Option.{option_and_then}
use Rattle.std.specs.List.{slice_get, AllByRecursion}
use Rattle.fs_lists.proofs.All.{All-slice_get}
use Rattle.fs_cycles.specs.Cycles.{iterate}
use Rattle.fs_cycles.proofs.Iterates.{iterate_after}
use Rattle.fs_ring.specs.Vector.{add_vector, sub_vector, cross}
use Rattle.fs_ring.proofs.Signs as signs
use Rattle.fs_ring.proofs.Solver.{expressions as E, ◌≐◌}
use Rattle.fs_ring.proofs.PlaneSolver.{plane_identity, vector_identity, ◌≐ᵥ◌}
use Rattle.fs_quadratic.specs.Ring.{Quadratic, quadratic, IsPositive}
use Rattle.fs_plane.specs.declared.corners.Corner.{Corner}
use Rattle.fs_plane.specs.Vector.{PlaneVector, IsStrictlyConvex, IsAllowedCorner}
use Rattle.fs_convex.specs.Polygon.{position}
use Rattle.fs_convex.proofs.Corners.{corner_left_of_side}
use Rattle.fs_paths.specs.SideGluing.{SideGluing, nth_side, sides_from}
use Rattle.fs_paths.proofs.Developments.{put_polygon, nth_side_is_side}
use Rattle.fs_gluing.specs.declared.surfaces.Side.{Side}
use Rattle.fs_gluing.specs.Convex.{corners_of, corner_position}
use Rattle.fs_gluing.specs.Polygons.{HasSide}
use Rattle.fs_gluing.specs.Surface.{GluedPolygons, IsTranslationSurface, IsPolygon, side_vectors}
use Rattle.fs_gluing.specs.NextCorner.{side_count, length_or_0, corner_after, side_before}
use Rattle.fs_gluing.specs.SurfaceSides.{vector_or, vector_of, polygon_sides}
use Rattle.fs_gluing.specs.FirstCut.{position_in}
use Rattle.fs_gluing.proofs.SurfaceCalls.NextCorner.{in_polygon, before, has_after, before-after_corner}
use Rattle.fs_gluing.proofs.Sides.AllSides.{corner}
use Rattle.fs_gluing.proofs.Sides.CornerRays.{rays, corner_in}
use Rattle.fs_gluing.proofs.Sides.SidesInTurn.{position_of, position_after}
use Rattle.fs_gluing.proofs.Sides.GluedSurface.{path_laws}
use Rattle.fs_triangulate.proofs.GluedWays.{has_corner}

-- ---- corners by their numbers

module _ (polygons : List (List Side)) (i : ℕ) where
  -- the corner after one that isn't the last
  pub corner_after-next : (j : ℕ) → j + 1 < side_count polygons i → corner_after polygons (corner i j) ≡ corner i (j + 1)
  corner_after-next j l = ap (corner i) (grind (arith, nat_tests))

  -- the corner after the last one
  pub corner_after-last : (j : ℕ) → j + 1 ≡ side_count polygons i → corner_after polygons (corner i j) ≡ corner i 0
  corner_after-last j e = ap (corner i) (grind (arith, nat_tests))

  -- from a corner on, as long as corner 0 isn't passed
  pub nth_on : (k j : ℕ) → j + k < side_count polygons i → nth_side (polygon_sides polygons) (corner i j) k ≡ corner i (j + k)
  nth_on zero j l = ap (corner i) (omega arith)
  nth_on (suc k) j l =
      ap (iterate (corner_after polygons) k) (corner_after-next j (omega arith)) ∙ nth_on k (j + 1) (omega arith) ∙ ap (corner i) (omega arith)

  -- from a corner on to corner 0
  nth_to_first : (k j : ℕ) → j + k + 1 ≡ side_count polygons i → nth_side (polygon_sides polygons) (corner i j) (suc k) ≡ corner i 0
  nth_to_first k j e =
      iterate_after (corner_after polygons) k (corner i j) ∙ ap (corner_after polygons) (nth_on k j (omega arith)) ∙ corner_after-last (j + k) e

  -- from the last corner on, across corner 0
  nth_from_last : (k j : ℕ) → j + 1 ≡ side_count polygons i → k < side_count polygons i → nth_side (polygon_sides polygons) (corner i j) (suc k) ≡ corner i k
  nth_from_last k j e l =
      let same : 0 + k ≡ k = omega arith in
      ap (iterate (corner_after polygons) k) (corner_after-last j e) ∙ nth_on k 0 (omega arith) ∙ ap (corner i) same

-- the position of a corner is that of the definition of the first cut
pub position_in_is : (s : GluedPolygons) (i j : ℕ) → position_in s i j ≡ position_of s.polygons (corner i j)
position_in_is s i j = ap (λ polygon. corner_position (side_vectors polygon) j) (sym (unwrap_or-slice_get s.polygons i []))

-- ---- strictly convex polygons

module _ (s : GluedPolygons) (surface : IsTranslationSurface s) where
  abbrev polygons : List (List Side)
  polygons = s.polygons

  abbrev G : SideGluing Corner Quadratic
  G = polygon_sides polygons

  polygon_at : (c : Corner) (h : HasSide polygons c) → IsPolygon s.straight s.d (side_vectors (in_polygon polygons c h).polygon)
  polygon_at c h =
      let there = in_polygon polygons c h in
      All-slice_get (λ polygon. IsPolygon s.straight s.d (side_vectors polygon)) polygons c.polygon there.polygon surface.each there.is

  -- a side leads from the position of its corner to that of the next one
  pub position_next : (c : Corner) → HasSide polygons c → position_of polygons (corner_after polygons c) ≡ add_vector (quadratic s.d) (position_of polygons c) (vector_of polygons c)
  position_next c h = position_after polygons c h (polygon_at c h)

  position_nth : (c : Corner) → HasSide polygons c → (k : ℕ) → position (quadratic s.d) (position_of polygons c) (sides_from G c) k ≡ position_of polygons (nth_side G c k)
  position_nth c h zero = refl
  position_nth c h (suc k) =
      let laws = path_laws s surface in
      let x = nth_side G c k in
      ap (λ w. add_vector (quadratic s.d) w (vector_of polygons x)) (position_nth c h k)
      ∙ sym (position_next x (nth_side_is_side laws.order laws.test laws.glued c h k))
      ∙ ap (position_of polygons) (sym (iterate_after (corner_after polygons) k c))

  module _ (strict : s.straight ≡ false) where
    convex_at : (c : Corner) → HasSide polygons c → IsStrictlyConvex s.d (vector_of polygons (side_before polygons c)) (vector_of polygons c)
    convex_at c h =
        let there = in_polygon polygons c h in
        let r = rays s surface c h in
        let all : AllByRecursion (λ e. IsStrictlyConvex s.d e.before e.after) (corners_of (side_vectors there.polygon))
        = subst (λ straight. AllByRecursion (λ e. IsAllowedCorner straight s.d e.before e.after) (corners_of (side_vectors there.polygon))) strict (polygon_at c h).convex in
        subst (λ o. IsStrictlyConvex s.d (vector_or o) (vector_of polygons c)) (sym r.ends)
        (subst (λ o. IsStrictlyConvex s.d r.before.vector (vector_or o)) (sym r.begins)
        (corner_in (λ e. IsStrictlyConvex s.d e.before e.after) there.polygon c.side r.before r.after all
        (ap (λ n. slice_get there.polygon (before n c.side)) (sym (ap length_or_0 there.is))
        ∙ sym (ap (λ (o : Option (List Side)). option_and_then (λ p. slice_get p (before (side_count polygons c.polygon) c.side)) o) there.is) ∙ r.ends)
        (sym (ap (λ (o : Option (List Side)). option_and_then (λ p. slice_get p c.side) o) there.is) ∙ r.begins)))

    -- each side and the next one turn left
    pub convex_after : (c : Corner) → HasSide polygons c → IsStrictlyConvex s.d (vector_of polygons c) (vector_of polygons (corner_after polygons c))
    convex_after c h =
        subst (λ e. IsStrictlyConvex s.d (vector_of polygons e) (vector_of polygons (corner_after polygons c))) (before-after_corner polygons c h)
        (convex_at (corner_after polygons c) (has_after polygons c h))

    -- a corner of its polygon that is no end of a side is to the left of the side
    pub left_of_side : (c : Corner) → HasSide polygons c → (k : ℕ) → 2 ≤ k → k < side_count polygons c.polygon
        → IsPositive s.d (cross (quadratic s.d) (vector_of polygons c) (sub_vector (quadratic s.d) (position_of polygons (nth_side G c k)) (position_of polygons c)))
    left_of_side c h k l m =
        let laws = path_laws s surface in
        let polygon = put_polygon laws.order laws.test laws.glued c (position_of polygons c) h in
        subst (λ w. IsPositive s.d (cross (quadratic s.d) (vector_of polygons c) (sub_vector (quadratic s.d) w (position_of polygons c)))) (position_nth c h k)
        (corner_left_of_side laws.order laws.test polygon
        (λ j. subst (λ x. IsPositive s.d (cross (quadratic s.d) (vector_of polygons (nth_side G c j)) (vector_of polygons x))) (sym (iterate_after (corner_after polygons) j c))
        (convex_after (nth_side G c j) (nth_side_is_side laws.order laws.test laws.glued c h j)))
        k l (subst (λ n. k < n) (sym (laws.counted c)) m))

    module _ (i : ℕ) where
      abbrev n : ℕ
      n = side_count polygons i

      abbrev at : ℕ → PlaneVector
      at j = position_of polygons (corner i j)

      -- the vector of a side other than the last
      pub side_between : (j : ℕ) → j + 1 < n → vector_of polygons (corner i j) ≡ sub_vector (quadratic s.d) (at (j + 1)) (at j)
      side_between j l =
          let laws = path_laws s surface in
          vector_identity laws.order.ring [] (at j ∷ vector_of polygons (corner i j) ∷ []) (λ p v. v ≐ᵥ sub_vector E (add_vector E p v) p) refl
          ∙ ap (λ w. sub_vector (quadratic s.d) w (at j)) (sym (position_next (corner i j) (has_corner polygons (corner i j) (omega arith))) ∙ ap (position_of polygons) (corner_after-next polygons i j l))

      -- the vector of the last side
      pub side_to_first : (j : ℕ) → j + 1 ≡ n → vector_of polygons (corner i j) ≡ sub_vector (quadratic s.d) (at 0) (at j)
      side_to_first j e =
          let laws = path_laws s surface in
          vector_identity laws.order.ring [] (at j ∷ vector_of polygons (corner i j) ∷ []) (λ p v. v ≐ᵥ sub_vector E (add_vector E p v) p) refl
          ∙ ap (λ w. sub_vector (quadratic s.d) w (at j)) (sym (position_next (corner i j) (has_corner polygons (corner i j) (omega arith))) ∙ ap (position_of polygons) (corner_after-last polygons i j e))

      -- corner 0, and the next two corners of a triangle of the fan, are counterclockwise
      pub fan_left : (t : ℕ) → t + 3 ≤ n
          → IsPositive s.d (cross (quadratic s.d) (sub_vector (quadratic s.d) (at (t + 1)) (at 0)) (sub_vector (quadratic s.d) (at (t + 2)) (at (t + 1))))
      fan_left t l =
          let laws = path_laws s surface in
          let c = corner i (t + 1) in
          let h = has_corner polygons (corner i (t + 1)) (omega arith) in
          let there : t + 1 + 1 ≡ t + 2 = omega arith in
          let back = nth_to_first polygons i (n - t - 2) (t + 1) (omega arith) in
          signs.positive_of_eq laws.order
          (plane_identity laws.order.ring [] (at (t + 1) ∷ at 0 ∷ at (t + 2) ∷ []) (λ a b c. cross E (sub_vector E a b) (sub_vector E c a) ≐ cross E (sub_vector E c a) (sub_vector E b a)) refl)
          (subst (λ v. IsPositive s.d (cross (quadratic s.d) v (sub_vector (quadratic s.d) (at 0) (at (t + 1)))))
          (side_between (t + 1) (omega arith) ∙ ap (λ j. sub_vector (quadratic s.d) (at j) (at (t + 1))) there)
          (subst (λ x. IsPositive s.d (cross (quadratic s.d) (vector_of polygons c) (sub_vector (quadratic s.d) (position_of polygons x) (at (t + 1))))) back
          (left_of_side c h (suc (n - t - 2)) (omega arith) (omega arith))))

      -- a corner between is left of the last side
      pub left_of_last : (t : ℕ) → t + 3 < n
          → IsPositive s.d (cross (quadratic s.d) (vector_of polygons (corner i (n - 1))) (sub_vector (quadratic s.d) (at (t + 2)) (at 0)))
      left_of_last t l =
          let laws = path_laws s surface in
          let c = corner i (n - 1) in
          let v = vector_of polygons c in
          let end : n - 1 + 1 ≡ n = omega arith in
          let there = nth_from_last polygons i (t + 2) (n - 1) end (omega arith) in
          signs.positive_of_eq laws.order
          (ap (λ w. cross (quadratic s.d) w (sub_vector (quadratic s.d) (at (t + 2)) (at 0))) (side_to_first (n - 1) end)
          ∙ plane_identity laws.order.ring [] (at (n - 1) ∷ at 0 ∷ at (t + 2) ∷ [])
          (λ p o x. cross E (sub_vector E o p) (sub_vector E x o) ≐ cross E (sub_vector E o p) (sub_vector E x p)) refl
          ∙ ap (λ w. cross (quadratic s.d) w (sub_vector (quadratic s.d) (at (t + 2)) (at (n - 1)))) (sym (side_to_first (n - 1) end)))
          (subst (λ x. IsPositive s.d (cross (quadratic s.d) v (sub_vector (quadratic s.d) (position_of polygons x) (at (n - 1))))) there
          (left_of_side c (has_corner polygons (corner i (n - 1)) (omega arith)) (suc (t + 2)) (omega arith) (omega arith)))
