-- The area of polygons as a sum over their sides: what a side adds is told by its ends' positions across a flow and along it.
use Rattle.std.proofs.Common.{◌≡◌, ℕ, Bool, suc, ◌+◌, Some, List, [], ◌∷◌, length, map, take, refl, sym, ap, ◌∙◌, arith, add-zero}
use Rattle.std.proofs.lemmas.List.{map-append}
use Rattle.std.proofs.lemmas.Option.{get_or_from_slice_get}
use Rattle.std.proofs.lemmas.Simd.{map-map}
use Rattle.std.specs.List.{slice_get, range_with_len, AllByRecursion}
use Rattle.std.specs.Option.{option_and_then}
use Rattle.fs_ring.specs.CommutativeRing.{IsCommutativeRing}
use Rattle.fs_ring.specs.Operations.{Operations, sub}
use Rattle.fs_ring.specs.Vector as plane
use Rattle.fs_ring.specs.Vector.{Vector}
use Rattle.fs_ring.proofs.PlaneSolver.{plane_identity}
use Rattle.fs_ring.proofs.RingLaws.{mul_zero}
use Rattle.fs_ring.proofs.Solver.{expressions as E, numeral, ◌⊕◌, ◌⊖◌, ◌⊗◌, ◌≐◌}
use Rattle.fs_quadratic.specs.Ring.{Quadratic, quadratic, add, mul, total, zero as nil}
use Rattle.fs_quadratic.proofs.Laws.{quadratic_ring}
use Rattle.fs_plane.specs.declared.corners.Corner.{Corner}
use Rattle.fs_plane.specs.Vector.{PlaneVector, vector_zero, vector_add, vector_total_from, norm}
use Rattle.fs_gluing.specs.declared.surfaces.Side.{Side}
use Rattle.fs_gluing.specs.Area.{triangles_from, triangles_of, all_triangles, twice_triangle, twice_area}
use Rattle.fs_gluing.specs.Convex.{IsClosed, corner_position}
use Rattle.fs_gluing.specs.FirstCut.{position_in}
use Rattle.fs_gluing.specs.Gluing.{sides_between}
use Rattle.fs_gluing.specs.Polygons.{sides_from, all_sides}
use Rattle.fs_gluing.specs.Positions.{positions_from}
use Rattle.fs_gluing.specs.Surface.{GluedPolygons, IsTranslationSurface, IsPolygon, side_vectors}
use Rattle.fs_gluing.specs.SurfaceSides.{vector_or, vector_of}
use Rattle.fs_gluing.proofs.Sides.AllSides.{corner}
use Rattle.fs_quadratic.proofs.Totals.{total-append}

-- ---- one side

module _ {A : Type 0} (R : Operations A) where
  -- how far a point is across the flow of v, times how far it is along it
  abbrev pub moment : Vector A → Vector A → A
  moment v p = R.mul (plane.cross R p v) (plane.dot R v p)

  -- what a side u that begins at p adds to the area, scaled by the squared length of v
  abbrev pub share : Vector A → Vector A → Vector A → A
  share v p u = R.mul (R.neg (plane.cross R u v)) (R.add (plane.dot R v p) (plane.dot R v (plane.add_vector R p u)))

module _ {A : Type 0} {R : Operations A} (L : IsCommutativeRing R) where
  share_is : (v p u : Vector A) → share R v p u
      ≡ R.add (R.mul (plane.norm R v) (plane.twice_area R (plane.zero_vector R) p (plane.add_vector R p u))) (sub R (moment R v p) (moment R v (plane.add_vector R p u)))
  share_is v p u =
      plane_identity L [] (v ∷ p ∷ u ∷ [])
      (λ v p u. share E v p u ≐ plane.norm E v ⊗ plane.twice_area E (plane.zero_vector E) p (plane.add_vector E p u) ⊕ (moment E v p ⊖ moment E v (plane.add_vector E p u))) refl

  -- the last side ends at (0,0)
  share_last : (v p u : Vector A) → plane.add_vector R p u ≡ plane.zero_vector R → R.add (share R v p u) R.zero ≡ R.add (R.mul (plane.norm R v) R.zero) (moment R v p)
  share_last v p u e =
      ap (λ x. R.add x R.zero)
      (share_is v p u
      ∙ ap (λ q. R.add (R.mul (plane.norm R v) (plane.twice_area R (plane.zero_vector R) p q)) (sub R (moment R v p) (moment R v q))) e)
      ∙ plane_identity L [] (v ∷ p ∷ [])
      (λ v p.
      (plane.norm E v ⊗ plane.twice_area E (plane.zero_vector E) p (plane.zero_vector E) ⊕ (moment E v p ⊖ moment E v (plane.zero_vector E))) ⊕ numeral 0
      ≐ plane.norm E v ⊗ numeral 0 ⊕ moment E v p) refl

  -- a side adds the triangle of its ends and (0,0), and what the moments of its ends differ by
  share_next : (v p u : Vector A) (t : A)
      → R.add (share R v p u) (R.add (R.mul (plane.norm R v) t) (moment R v (plane.add_vector R p u)))
      ≡ R.add (R.mul (plane.norm R v) (R.add (plane.twice_area R (plane.zero_vector R) p (plane.add_vector R p u)) t)) (moment R v p)
  share_next v p u t =
      plane_identity L (t ∷ []) (v ∷ p ∷ u ∷ [])
      (λ t v p u.
      share E v p u ⊕ (plane.norm E v ⊗ t ⊕ moment E v (plane.add_vector E p u))
      ≐ plane.norm E v ⊗ (plane.twice_area E (plane.zero_vector E) p (plane.add_vector E p u) ⊕ t) ⊕ moment E v p) refl

  -- the first side begins at (0,0)
  share_first : (v u : Vector A) (t : A)
      → R.add (share R v (plane.zero_vector R) u) (R.add (R.mul (plane.norm R v) t) (moment R v (plane.add_vector R (plane.zero_vector R) u))) ≡ R.mul (plane.norm R v) t
  share_first v u t =
      plane_identity L (t ∷ []) (v ∷ u ∷ [])
      (λ t v u. share E v (plane.zero_vector E) u ⊕ (plane.norm E v ⊗ t ⊕ moment E v (plane.add_vector E (plane.zero_vector E) u)) ≐ plane.norm E v ⊗ t) refl

  moment_zero : (v : Vector A) → R.zero ≡ R.add (R.mul (plane.norm R v) R.zero) (moment R v (plane.zero_vector R))
  moment_zero v = plane_identity L [] (v ∷ []) (λ v. numeral 0 ≐ plane.norm E v ⊗ numeral 0 ⊕ moment E v (plane.zero_vector E)) refl

-- ---- the sides of a polygon

module _ (d : ℕ) (v : PlaneVector) where
  -- the sum of the shares of these sides, the first of which begins at p
  abbrev pub shares : PlaneVector → List PlaneVector → Quadratic
  shares p [] = nil
  shares p (u ∷ us) = add (share (quadratic d) v p u) (shares (vector_add p u) us)

  -- sides that end at (0,0) add their triangles, and the moment of where they begin
  shares_from : (i j : ℕ) (p : PlaneVector) (us : List PlaneVector) → vector_total_from p us ≡ vector_zero
      → shares p us ≡ add (mul d (norm d v) (total (map (twice_triangle d) (triangles_from i j (positions_from p us))))) (moment (quadratic d) v p)
  shares_from i j p [] e =
      moment_zero (quadratic_ring d) v ∙ ap (λ q. add (mul d (norm d v) nil) (moment (quadratic d) v q)) (sym e)
  shares_from i j p (u ∷ []) e = share_last (quadratic_ring d) v p u e
  shares_from i j p (u ∷ (w ∷ us)) e =
      ap (add (share (quadratic d) v p u)) (shares_from i (j + 1) (vector_add p u) (w ∷ us) e)
      ∙ share_next (quadratic_ring d) v p u (total (map (twice_triangle d) (triangles_from i (j + 1) (positions_from (vector_add p u) (w ∷ us)))))

  -- the shares of the sides of a closed polygon sum to twice its area, scaled by the squared length of v
  pub polygon_area : (i : ℕ) (us : List PlaneVector) → IsClosed us → shares vector_zero us ≡ mul d (norm d v) (total (map (twice_triangle d) (triangles_of i us)))
  polygon_area i [] e = sym (mul_zero (quadratic_ring d) (norm d v))
  polygon_area i (u ∷ us) e =
      ap (add (share (quadratic d) v vector_zero u)) (shares_from i 1 (vector_add vector_zero u) us e)
      ∙ share_first (quadratic_ring d) v u (total (map (twice_triangle d) (triangles_from i 1 (positions_from (vector_add vector_zero u) us))))

  -- those of several polygons sum to twice their area, scaled
  polygons_area : (straight : Bool) (i : ℕ) (polygons : List (List Side)) → AllByRecursion (λ polygon. IsPolygon straight d (side_vectors polygon)) polygons
      → total (map (λ polygon. shares vector_zero (side_vectors polygon)) polygons) ≡ mul d (norm d v) (total (map (twice_triangle d) (all_triangles i (map side_vectors polygons))))
  polygons_area straight i [] h = sym (mul_zero (quadratic_ring d) (norm d v))
  polygons_area straight i (polygon ∷ polygons) h =
      let here = triangles_of i (side_vectors polygon) in
      let rest = all_triangles (i + 1) (map side_vectors polygons) in
      (λ k. add (polygon_area i (side_vectors polygon) h.0.closed k) (polygons_area straight (i + 1) polygons h.1 k))
      ∙ sym ((quadratic_ring d).mul_add (norm d v) (total (map (twice_triangle d) here)) (total (map (twice_triangle d) rest)))
      ∙ ap (mul d (norm d v)) (sym (total-append (map (twice_triangle d) here) (map (twice_triangle d) rest)))
      ∙ ap (λ xs. mul d (norm d v) (total xs)) (sym (map-append (twice_triangle d) here rest))

  -- the shares by the numbers of the sides
  shares_by_numbers : (k : ℕ → Quadratic) (p : PlaneVector) (b : ℕ) (polygon : List Side)
      → ((j m : ℕ) (side : Side) → b + j ≡ m → slice_get polygon j ≡ Some side → k m ≡ share (quadratic d) v (vector_total_from p (take j (side_vectors polygon))) side.vector)
      → total (map k (range_with_len b (length polygon))) ≡ shares p (side_vectors polygon)
  shares_by_numbers k p b [] h = refl
  shares_by_numbers k p b (side ∷ polygon) h =
      λ i. add (h 0 b side (add-zero b) refl i) (shares_by_numbers k (vector_add p side.vector) (b + 1) polygon (λ j m other e there. h (suc j) m other (omega arith) there) i)

-- ---- all sides

module _ (s : GluedPolygons) (v : PlaneVector) where
  -- the share of a side of the surface
  abbrev pub side_share : Corner → Quadratic
  side_share c = share (quadratic s.d) v (position_in s c.polygon c.side) (vector_of s.polygons c)

  shares_of_polygon : (i : ℕ) (polygon : List Side) → slice_get s.polygons i ≡ Some polygon
      → total (map side_share (sides_between i 0 (length polygon))) ≡ shares s.d v vector_zero (side_vectors polygon)
  shares_of_polygon i polygon there =
      ap total (map-map side_share (corner i) (range_with_len 0 (length polygon)))
      ∙ shares_by_numbers s.d v (λ j. side_share (corner i j)) vector_zero 0 polygon
      (λ j m side e at.
      let same : m ≡ j = omega arith in
      ap (λ (n : ℕ). side_share (corner i n)) same
      ∙ (λ t.
      share (quadratic s.d) v (corner_position (side_vectors (get_or_from_slice_get s.polygons i polygon [] there t)) j)
      ((ap (λ o. vector_or (option_and_then (λ row. slice_get row j) o)) there ∙ ap vector_or at) t)))

  shares_of_polygons : (i : ℕ) (rest : List (List Side)) → ((k : ℕ) → slice_get s.polygons (i + k) ≡ slice_get rest k)
      → total (map side_share (sides_from i rest)) ≡ total (map (λ polygon. shares s.d v vector_zero (side_vectors polygon)) rest)
  shares_of_polygons i [] same = refl
  shares_of_polygons i (polygon ∷ rest) same =
      let here : slice_get s.polygons i ≡ Some polygon = ap (slice_get s.polygons) (let e : i ≡ i + 0 = omega arith in e) ∙ same 0 in
      ap total (map-append side_share (sides_between i 0 (length polygon)) (sides_from (i + 1) rest))
      ∙ total-append (map side_share (sides_between i 0 (length polygon))) (map side_share (sides_from (i + 1) rest))
      ∙ (λ t. add (shares_of_polygon i polygon here t) (shares_of_polygons (i + 1) rest (λ k. ap (slice_get s.polygons) (let e : i + 1 + k ≡ i + suc k = omega arith in e) ∙ same (suc k)) t))

  -- the shares of all sides sum to twice the area of the surface, scaled by the squared length of v
  pub sides_area : IsTranslationSurface s → total (map side_share (all_sides s.polygons)) ≡ mul s.d (norm s.d v) (twice_area s)
  sides_area surface =
      shares_of_polygons 0 s.polygons (λ k. ap (slice_get s.polygons) (let e : 0 + k ≡ k = omega arith in e))
      ∙ polygons_area s.d v s.straight 0 s.polygons surface.each
