-- The first cut of a surface without straight corners is a triangulation.
use Rattle.std.proofs.Common.{◌≡◌, ℕ, zero, suc, ◌+◌, ◌*◌, ◌<◌, ◌≤◌, Bool, false, List, [], ◌∷◌, length, sum_by, refl, sym, ap, ◌∙◌, subst, inl, inr, arith}
use Rattle.std.specs.Prelude.{IsTrue, slice_index_or, Some}
use Rattle.std.specs.List.{slice_get}
use Rattle.std.specs.Option.{IsSome}
use Rattle.std.proofs.lemmas.Bool.{lt-ltb, ltb-true}
use Rattle.std.proofs.lemmas.Option.{get_or_from_slice_get}
use Rattle.std.proofs.lemmas.List.Sums.{sum_by-cons}
use Rattle.fs_ring.specs.OrderedRing.{IsOrderedRing}
use Rattle.fs_ring.specs.Vector.{zero_vector, add_vector, sub_vector, neg_vector, cross}
use Rattle.fs_ring.proofs.Plane as plane
use Rattle.fs_ring.proofs.Solver.{expressions as E}
use Rattle.fs_ring.proofs.PlaneSolver.{vector_identity, ◌≐ᵥ◌}
use Rattle.fs_quadratic.specs.Ring.{Quadratic, quadratic, IsPositive}
use Rattle.fs_quadratic.proofs.Laws.{field_order}
use Rattle.fs_plane.specs.declared.corners.Corner.{Corner}
use Rattle.fs_plane.specs.Vector.{PlaneVector}
use Rattle.fs_paths.specs.SideGluing.{SideGluing, IsSide, AreGluedPolygons}
use Rattle.fs_triangles.specs.Triangles.{AreTriangles}
use Rattle.fs_triangles.proofs.TriangleSides.{counterclockwise_next, closed_next, glued_triangles}
use Rattle.fs_gluing.specs.declared.surfaces.Side.{Side}
use Rattle.fs_gluing.specs.declared.triangulations.Triangles.{Triangles}
use Rattle.fs_gluing.specs.Limits.{most_sides}
use Rattle.fs_gluing.specs.Polygons.{HasSide}
use Rattle.fs_gluing.specs.Surface.{GluedPolygons, IsTranslationSurface, AreNeighbours}
use Rattle.fs_gluing.specs.SurfaceSides.{partner, partner_or, is_ahead}
use Rattle.fs_gluing.specs.FirstCut.{fans_from, position_in}
use Rattle.fs_gluing.specs.NextCorner.{side_count}
use Rattle.fs_gluing.specs.Triangulation.{Triangulation, IsTriangulation, triangulation_of, edge_vector, edge_twin, face_sides, next_in_face, prev_in_face}
use Rattle.fs_gluing.proofs.Sides.AllSides.{corner}
use Rattle.fs_gluing.proofs.Sides.HalfPlaneTests.{decides_half_planes}
use Rattle.fs_gluing.proofs.Sides.PartnerSides.{has_partner, partner-partner, vector-partner}
use Rattle.fs_triangulate.specs.Fans.{HasTriangles, faces_before}
use Rattle.fs_triangulate.proofs.FaceNumbers.{next_first, next_second, next_third, prev_first, prev_second, prev_third, side_of_face, is_first, is_second, is_third}
use Rattle.fs_triangulate.proofs.FaceCounts.{all_faces, triangle_of, face_below}
use Rattle.fs_triangulate.proofs.GluedWays.{three_sides_of}
use Rattle.fs_triangulate.proofs.FaceBases.{no_faces}
use Rattle.fs_triangulate.proofs.SideNumbers.{half_edge, half_first, half_between, half_last, side_cases}
use Rattle.fs_triangulate.proofs.FanHalfEdges as fan
use Rattle.fs_triangulate.proofs.FanHalfEdges.{along_side, to_first, from_first}
use Rattle.fs_triangulate.proofs.StrictPolygons.{fan_left, position_in_is}

-- ---- what holds of each half-edge with the next two

by_three : (P : ℕ → ℕ → ℕ → Type 0) {a b c x y z : ℕ} → x ≡ a → y ≡ b → z ≡ c → P a b c → P x y z
by_three P {a} {b} {c} {x} {y} {z} e f g p = subst (λ w. P w y z) (sym e) (subst (λ w. P a w z) (sym f) (subst (P a b) (sym g) p))

-- what holds of the half-edges of each face in order, from whichever of them on, holds of each half-edge and the next two
by_face : (P : ℕ → ℕ → ℕ → Type 0) (faces : ℕ) → ((a b c : ℕ) → P a b c → P b c a) → ((f : ℕ) → f < faces → P (3 * f + 0) (3 * f + 1) (3 * f + 2))
    → (h : ℕ) → h < 3 * faces → P h (next_in_face h) (next_in_face (next_in_face h))
by_face P faces turn each h l = elim (side_of_face h) [
  | is_first f e ↦
      by_three P e (ap next_in_face e ∙ next_first f) (ap (λ x. next_in_face (next_in_face x)) e ∙ ap next_in_face (next_first f) ∙ next_second f) (each f (omega arith))
  | is_second f e ↦
      by_three P e (ap next_in_face e ∙ next_second f) (ap (λ x. next_in_face (next_in_face x)) e ∙ ap next_in_face (next_second f) ∙ next_third f) (turn _ _ _ (each f (omega arith)))
  | is_third f e ↦
      by_three P e (ap next_in_face e ∙ next_third f) (ap (λ x. next_in_face (next_in_face x)) e ∙ ap next_in_face (next_third f) ∙ next_first f)
      (turn _ _ _ (turn _ _ _ (each f (omega arith))))
]

-- ---- how many faces

faces_of_sides : (polygons : List (List Side)) → ((i : ℕ) → i < length polygons → 3 ≤ side_count polygons i) → all_faces polygons + 2 * length polygons ≡ sum_by length polygons
faces_of_sides [] three = omega arith
faces_of_sides (polygon ∷ polygons) three =
    let rest = faces_of_sides polygons (λ i l. three (suc i) (omega arith)) in
    let first = three 0 (omega arith) in
    let sum = sum_by-cons length polygon polygons in
    omega arith

module _ (s : GluedPolygons) (surface : IsTranslationSurface s) (triangles : Triangles) (cut : HasTriangles s (fans_from 0 s.polygons) triangles) where
  abbrev polygons : List (List Side)
  polygons = s.polygons

  abbrev T : Triangulation
  T = triangulation_of triangles

  abbrev G : SideGluing ℕ Quadratic
  G = face_sides T

  abbrev order : IsOrderedRing (quadratic s.d) (IsPositive s.d)
  order = field_order surface.radicand

  side_is : (h : ℕ) → h < length T.vectors → IsSide G h
  side_is h l = lt-ltb h (length T.vectors) l

  below : (h : ℕ) → IsSide G h → h < length T.vectors
  below h t = ltb-true h (length T.vectors) t

  pub in_faces : (h : ℕ) → IsSide G h → h < 3 * all_faces polygons
  in_faces h t = subst (λ n. h < n) (fan.vectors_length s triangles cut) (below h t)

  pub of_faces : (h : ℕ) → h < 3 * all_faces polygons → IsSide G h
  of_faces h l = side_is h (subst (λ n. h < n) (sym (fan.vectors_length s triangles cut)) l)

  -- the half-edges of a face are those of a triangle of a polygon
  by_triangle : (P : ℕ → Type 0) → ((i t : ℕ) → i < length polygons → t + 3 ≤ side_count polygons i → P (faces_before polygons i + t)) → (f : ℕ) → f < all_faces polygons → P f
  by_triangle P each f l =
      let k = triangle_of polygons f l in
      subst P (sym k.is) (each k.polygon k.triangle k.there (omega (arith, k.inside)))

  -- ---- positions and vectors

  -- the position of the corner at which a half-edge begins, in its polygon
  abbrev start_of : ℕ → PlaneVector
  start_of h = let c = slice_index_or triangles.homes h (corner 0 0) in position_in s c.polygon c.side

  start_is : (h : ℕ) (c : Corner) → slice_get triangles.homes h ≡ Some c → start_of h ≡ position_in s c.polygon c.side
  start_is h c e = ap (λ (c : Corner). position_in s c.polygon c.side) (get_or_from_slice_get triangles.homes h c (corner 0 0) e)

  -- a half-edge leads from its start to the start of the next one
  abbrev LeadsOn : ℕ → ℕ → Type 0
  LeadsOn h g = edge_vector T h ≡ sub_vector (quadratic s.d) (start_of g) (start_of h)

  face_leads : (f : ℕ) → f < all_faces polygons → LeadsOn (3 * f + 0) (3 * f + 1) × LeadsOn (3 * f + 1) (3 * f + 2) × LeadsOn (3 * f + 2) (3 * f + 0)
  face_leads = by_triangle (λ f. LeadsOn (3 * f + 0) (3 * f + 1) × LeadsOn (3 * f + 1) (3 * f + 2) × LeadsOn (3 * f + 2) (3 * f + 0)) (λ i t there l.
      let one = fan.first_runs s triangles cut i t (omega arith) in
      let two = fan.second_runs s triangles cut i t (omega arith) in
      let three = fan.third_runs s triangles cut i t (omega arith) in
      let from_one = start_is _ _ one.home in
      let from_two = start_is _ _ two.home in
      let from_three = start_is _ _ three.home in (
        one.vector ∙ (λ k. sub_vector (quadratic s.d) (sym from_two k) (sym from_one k)),
        two.vector ∙ (λ k. sub_vector (quadratic s.d) (sym from_three k) (sym from_two k)),
        three.vector ∙ (λ k. sub_vector (quadratic s.d) (sym from_one k) (sym from_three k)),
      ))

  leads_on : (h : ℕ) → h < 3 * all_faces polygons → LeadsOn h (next_in_face h) × LeadsOn (next_in_face h) (next_in_face (next_in_face h)) × LeadsOn (next_in_face (next_in_face h)) h
  leads_on = by_face (λ a b c. LeadsOn a b × LeadsOn b c × LeadsOn c a) (all_faces polygons) (λ a b c p. (p.1, p.2, p.0)) face_leads

  start_next : (h : ℕ) → IsSide G h → start_of (next_in_face h) ≡ add_vector (quadratic s.d) (start_of h) (edge_vector T h)
  start_next h t =
      sym (ap (add_vector (quadratic s.d) (start_of h)) ((leads_on h (in_faces h t)).0)
      ∙ vector_identity order.ring [] (start_of (next_in_face h) ∷ start_of h ∷ []) (λ q p. add_vector E p (sub_vector E q p) ≐ᵥ q) refl)

  closes : (h : ℕ) → h < 3 * all_faces polygons
      → add_vector (quadratic s.d) (add_vector (quadratic s.d) (edge_vector T h) (edge_vector T (next_in_face h))) (edge_vector T (next_in_face (next_in_face h))) ≡ zero_vector (quadratic s.d)
  closes h l =
      let leads = leads_on h l in
      let p = start_of h in
      let q = start_of (next_in_face h) in
      let r = start_of (next_in_face (next_in_face h)) in
      (λ k. add_vector (quadratic s.d) (add_vector (quadratic s.d) (leads.0 k) (leads.1 k)) (leads.2 k))
      ∙ vector_identity order.ring [] (p ∷ q ∷ r ∷ []) (λ p q r. add_vector E (add_vector E (sub_vector E q p) (sub_vector E r q)) (sub_vector E p r) ≐ᵥ zero_vector E) refl

  module _ (strict : s.straight ≡ false) where
    pub face_left : (f : ℕ) → f < all_faces polygons → IsPositive s.d (cross (quadratic s.d) (edge_vector T (3 * f + 0)) (edge_vector T (3 * f + 1)))
    face_left = by_triangle (λ f. IsPositive s.d (cross (quadratic s.d) (edge_vector T (3 * f + 0)) (edge_vector T (3 * f + 1)))) (λ i t there l.
        let one = (fan.first_runs s triangles cut i t (omega arith)).vector in
        let two = (fan.second_runs s triangles cut i t (omega arith)).vector in
        subst (IsPositive s.d) (sym ((λ k. cross (quadratic s.d) (one k) (two k))
        ∙ (λ k. cross (quadratic s.d) (sub_vector (quadratic s.d) (position_in_is s i (t + 1) k) (position_in_is s i 0 k)) (sub_vector (quadratic s.d) (position_in_is s i (t + 2) k) (position_in_is s i (t + 1) k)))))
        (fan_left s surface strict i t l))

    abbrev Left : ℕ → ℕ → ℕ → Type 0
    Left a b c = (add_vector (quadratic s.d) (add_vector (quadratic s.d) (edge_vector T a) (edge_vector T b)) (edge_vector T c) ≡ zero_vector (quadratic s.d))
        × IsPositive s.d (cross (quadratic s.d) (edge_vector T a) (edge_vector T b))

    -- each half-edge and the next one turn left
    lefts : (h : ℕ) → h < 3 * all_faces polygons → IsPositive s.d (cross (quadratic s.d) (edge_vector T h) (edge_vector T (next_in_face h)))
    lefts h l = (by_face Left (all_faces polygons)
        (λ a b c p. (closed_next order {u = edge_vector T a} {v = edge_vector T b} {w = edge_vector T c} p.0, counterclockwise_next order {u = edge_vector T a} {v = edge_vector T b} {w = edge_vector T c} p.0 p.1))
        (λ f m. (face_closes f m, face_left f m)) h l).1
      where
        face_closes : (f : ℕ) → f < all_faces polygons
            → add_vector (quadratic s.d) (add_vector (quadratic s.d) (edge_vector T (3 * f + 0)) (edge_vector T (3 * f + 1))) (edge_vector T (3 * f + 2)) ≡ zero_vector (quadratic s.d)
        face_closes f m =
            let second = next_first f in
            let third = ap next_in_face (next_first f) ∙ next_second f in
            (λ k. add_vector (quadratic s.d) (add_vector (quadratic s.d) (edge_vector T (3 * f + 0)) (edge_vector T (sym second k))) (edge_vector T (sym third k)))
            ∙ closes (3 * f + 0) (omega arith)

    -- ---- twins

    twin_below : (h : ℕ) → IsSide G h → IsSide G (edge_twin T h)
    twin_below h t = elim (fan.fan_kind s triangles cut surface h (below h t)) [
      | along_side c has e ↦
          side_is (edge_twin T h) (subst (λ x. x < length T.vectors) (sym (ap (edge_twin T) e ∙ fan.twin_half s triangles cut surface c has))
          (fan.half_inside s triangles cut surface (partner polygons c) (has_partner polygons surface.glued c has)))
      | to_first i t there l e ↦
          side_is (edge_twin T h) (subst (λ x. x < length T.vectors) (sym (ap (edge_twin T) e ∙ fan.twin_third s triangles cut i t l)) (fan.first_runs s triangles cut i (t + 1) (omega arith)).inside)
      | from_first i t there l e ↦
          side_is (edge_twin T h) (subst (λ x. x < length T.vectors) (sym (ap (edge_twin T) e ∙ fan.twin_first s triangles cut i t l)) (fan.third_runs s triangles cut i t (omega arith)).inside)
    ]

    twin_back : (h : ℕ) → IsSide G h → edge_twin T (edge_twin T h) ≡ h
    twin_back h t = elim (fan.fan_kind s triangles cut surface h (below h t)) [
      | along_side c has e ↦
          ap (λ x. edge_twin T (edge_twin T x)) e
          ∙ ap (edge_twin T) (fan.twin_half s triangles cut surface c has)
          ∙ fan.twin_half s triangles cut surface (partner polygons c) (has_partner polygons surface.glued c has)
          ∙ ap (half_edge polygons) (partner-partner polygons surface.glued c has)
          ∙ sym e
      | to_first i t there l e ↦ ap (λ x. edge_twin T (edge_twin T x)) e ∙ ap (edge_twin T) (fan.twin_third s triangles cut i t l) ∙ fan.twin_first s triangles cut i t l ∙ sym e
      | from_first i t there l e ↦ ap (λ x. edge_twin T (edge_twin T x)) e ∙ ap (edge_twin T) (fan.twin_first s triangles cut i t l) ∙ fan.twin_third s triangles cut i t l ∙ sym e
    ]

    -- the two diagonals of a pair have opposite vectors
    diagonals_opposite : (i t : ℕ) → t + 3 < side_count polygons i
        → edge_vector T (3 * (faces_before polygons i + (t + 1)) + 0) ≡ neg_vector (quadratic s.d) (edge_vector T (3 * (faces_before polygons i + t) + 2))
    diagonals_opposite i t l =
        let same : t + 1 + 1 ≡ t + 2 = omega arith in
        (fan.first_runs s triangles cut i (t + 1) (omega arith)).vector
        ∙ ap (λ j. sub_vector (quadratic s.d) (position_in s i j) (position_in s i 0)) same
        ∙ vector_identity order.ring [] (position_in s i (t + 2) ∷ position_in s i 0 ∷ []) (λ p o. sub_vector E p o ≐ᵥ neg_vector E (sub_vector E o p)) refl
        ∙ ap (neg_vector (quadratic s.d)) (sym (fan.third_runs s triangles cut i t (omega arith)).vector)

    opposite : (h : ℕ) → IsSide G h → edge_vector T (edge_twin T h) ≡ neg_vector (quadratic s.d) (edge_vector T h)
    opposite h t = elim (fan.fan_kind s triangles cut surface h (below h t)) [
      | along_side c has e ↦
          ap (λ x. edge_vector T (edge_twin T x)) e
          ∙ ap (edge_vector T) (fan.twin_half s triangles cut surface c has)
          ∙ fan.vector_half s triangles cut surface (partner polygons c) (has_partner polygons surface.glued c has)
          ∙ vector-partner polygons surface.glued c has
          ∙ ap (neg_vector (quadratic s.d)) (sym (ap (edge_vector T) e ∙ fan.vector_half s triangles cut surface c has))
      | to_first i t there l e ↦
          ap (λ x. edge_vector T (edge_twin T x)) e ∙ ap (edge_vector T) (fan.twin_third s triangles cut i t l) ∙ diagonals_opposite i t l ∙ ap (λ x. neg_vector (quadratic s.d) (edge_vector T x)) (sym e)
      | from_first i t there l e ↦
          ap (λ x. edge_vector T (edge_twin T x)) e
          ∙ ap (edge_vector T) (fan.twin_first s triangles cut i t l)
          ∙ sym (plane.neg_vector-neg order.ring (edge_vector T (3 * (faces_before polygons i + t) + 2)))
          ∙ ap (neg_vector (quadratic s.d)) (sym (diagonals_opposite i t l))
          ∙ ap (λ x. neg_vector (quadratic s.d) (edge_vector T x)) (sym e)
    ]

    -- ---- the faces are triangles

    abbrev Turns : ℕ → ℕ → ℕ → Type 0
    Turns a b c = (next_in_face a ≡ b) × (next_in_face b ≡ c) × (next_in_face c ≡ a) × (prev_in_face a ≡ c) × (prev_in_face b ≡ a) × (prev_in_face c ≡ b)
        × (a < 3 * all_faces polygons) × (b < 3 * all_faces polygons) × (c < 3 * all_faces polygons)

    numbers : (h : ℕ) → h < 3 * all_faces polygons → (next_in_face (next_in_face (next_in_face h)) ≡ h) × (prev_in_face h ≡ next_in_face (next_in_face h)) × (next_in_face h < 3 * all_faces polygons)
    numbers h l =
        let n = by_face Turns (all_faces polygons) (λ a b c p. (p.1, p.2, p.0, p.4, p.5, p.3, p.7, p.8, p.6))
        (λ f m. (next_first f, next_second f, next_third f, prev_first f, prev_second f, prev_third f, omega arith, omega arith, omega arith)) h l in
        (n.2, n.3, n.7)

    pub fan_triangles : AreTriangles (quadratic s.d) (IsPositive s.d) G
    fan_triangles = record {
      next_side = λ h t. of_faces (next_in_face h) (numbers h (in_faces h t)).2;
      twin_side = twin_below;
      three_sides = λ h t. (numbers h (in_faces h t)).0;
      prev = λ h t. (numbers h (in_faces h t)).1;
      closed = λ h t. closes h (in_faces h t);
      counterclockwise = λ h t. lefts h (in_faces h t);
      twin_twin = twin_back;
      twin_opposite = opposite;
    }

    -- the faces are glued polygons
    pub fan_glued : AreGluedPolygons (quadratic s.d) (IsPositive s.d) (is_ahead s.d) G
    fan_glued = glued_triangles order fan_triangles (decides_half_planes surface.radicand) start_of start_next

    -- ---- the faces are connected

    module _ (held : ℕ → Bool) (first : IsTrue (held 0)) (closed : (y : ℕ) → IsSide G y → IsTrue (held y) → IsTrue (held (next_in_face y)) × IsTrue (held (edge_twin T y))) where
      abbrev Held : ℕ → Type 0
      Held h = IsTrue (held h)

      on_next : (h g : ℕ) → h < 3 * all_faces polygons → next_in_face h ≡ g → Held h → Held g
      on_next h g l e m = subst Held e (closed h (of_faces h l) m).0

      on_twin : (h g : ℕ) → h < 3 * all_faces polygons → edge_twin T h ≡ g → Held h → Held g
      on_twin h g l e m = subst Held e (closed h (of_faces h l) m).1

      to_second : (f : ℕ) → f < all_faces polygons → Held (3 * f + 0) → Held (3 * f + 1)
      to_second f l m = on_next (3 * f + 0) (3 * f + 1) (omega arith) (next_first f) m

      to_third : (f : ℕ) → f < all_faces polygons → Held (3 * f + 0) → Held (3 * f + 2)
      to_third f l m = on_next (3 * f + 1) (3 * f + 2) (omega arith) (next_second f) (to_second f l m)

      of_third : (f : ℕ) → f < all_faces polygons → Held (3 * f + 2) → Held (3 * f + 0)
      of_third f l m = on_next (3 * f + 2) (3 * f + 0) (omega arith) (next_third f) m

      of_second : (f : ℕ) → f < all_faces polygons → Held (3 * f + 1) → Held (3 * f + 0)
      of_second f l m = of_third f l (on_next (3 * f + 1) (3 * f + 2) (omega arith) (next_second f) m)

      -- the first half-edge of polygon i is in the set
      abbrev HeldPolygon : ℕ → Type 0
      HeldPolygon i = Held (3 * (faces_before polygons i + 0) + 0)

      -- across the diagonals of a polygon, and back
      across : (i t : ℕ) → t + 3 ≤ side_count polygons i → HeldPolygon i → Held (3 * (faces_before polygons i + t) + 0)
      across i zero l m = m
      across i (suc t) l m =
          let same : t + 1 ≡ suc t = omega arith in
          let here = face_below polygons i t (omega arith) in
          subst (λ t. Held (3 * (faces_before polygons i + t) + 0)) same
          (on_twin (3 * (faces_before polygons i + t) + 2) (3 * (faces_before polygons i + (t + 1)) + 0) (omega arith) (fan.twin_third s triangles cut i t (omega arith))
          (to_third (faces_before polygons i + t) here (across i t (omega arith) m)))

      back : (i t : ℕ) → t + 3 ≤ side_count polygons i → Held (3 * (faces_before polygons i + t) + 0) → HeldPolygon i
      back i zero l m = m
      back i (suc t) l m =
          let same : suc t ≡ t + 1 = omega arith in
          let here = face_below polygons i t (omega arith) in
          let more = face_below polygons i (t + 1) (omega arith) in
          back i t (omega arith) (of_third (faces_before polygons i + t) here
          (on_twin (3 * (faces_before polygons i + (t + 1)) + 0) (3 * (faces_before polygons i + t) + 2) (omega arith) (fan.twin_first s triangles cut i t (omega arith))
          (subst (λ t. Held (3 * (faces_before polygons i + t) + 0)) same m)))

      held_half : (i j : ℕ) → 3 ≤ side_count polygons i → j < side_count polygons i → HeldPolygon i → Held (half_edge polygons (corner i j))
      held_half i j three l m = elim (side_cases j (side_count polygons i) three l) [
        | inl e ↦ subst Held (sym (ap (λ j. half_edge polygons (corner i j)) e ∙ half_first polygons i three)) m
        | inr (inl (t, e, k)) ↦
            subst Held (sym (ap (λ j. half_edge polygons (corner i j)) e ∙ half_between polygons i t k))
            (to_second (faces_before polygons i + t) (face_below polygons i t (omega (arith, k))) (across i t (omega (arith, k)) m))
        | inr (inr (t, e, k)) ↦
            subst Held (sym (ap (λ j. half_edge polygons (corner i j)) e ∙ half_last polygons i t k))
            (to_third (faces_before polygons i + t) (face_below polygons i t (omega (arith, k))) (across i t (omega (arith, k)) m))
      ]

      of_half : (i j : ℕ) → 3 ≤ side_count polygons i → j < side_count polygons i → Held (half_edge polygons (corner i j)) → HeldPolygon i
      of_half i j three l m = elim (side_cases j (side_count polygons i) three l) [
        | inl e ↦ subst Held (ap (λ j. half_edge polygons (corner i j)) e ∙ half_first polygons i three) m
        | inr (inl (t, e, k)) ↦
            back i t (omega (arith, k)) (of_second (faces_before polygons i + t) (face_below polygons i t (omega (arith, k)))
            (subst Held (ap (λ j. half_edge polygons (corner i j)) e ∙ half_between polygons i t k) m))
        | inr (inr (t, e, k)) ↦
            back i t (omega (arith, k)) (of_third (faces_before polygons i + t) (face_below polygons i t (omega (arith, k)))
            (subst Held (ap (λ j. half_edge polygons (corner i j)) e ∙ half_last polygons i t k) m))
      ]

      held_neighbour : (i j : ℕ) → AreNeighbours polygons i j → HeldPolygon i → HeldPolygon j
      held_neighbour i j next m =
          let c = next.corner in
          let has : HasSide polygons c = subst IsSome (sym next.there) refl in
          let p = partner polygons c in
          let has_p = has_partner polygons surface.glued c has in
          let here = fan.polygon_below s triangles cut surface c has in
          let there = fan.polygon_below s triangles cut surface p has_p in
          subst HeldPolygon (ap (λ o. (partner_or c o).polygon) next.there ∙ next.to)
          (of_half p.polygon p.side (three_sides_of s surface p.polygon there) (fan.side_below s triangles cut surface p has_p)
          (on_twin (half_edge polygons c) (half_edge polygons p)
          (subst (λ n. half_edge polygons c < n) (fan.vectors_length s triangles cut) (fan.half_inside s triangles cut surface c has))
          (fan.twin_half s triangles cut surface c has)
          (held_half c.polygon c.side (three_sides_of s surface c.polygon here) (fan.side_below s triangles cut surface c has) (subst HeldPolygon (sym next.from) m))))

      all_held : (y : ℕ) → IsSide G y → Held y
      all_held y t = elim (side_of_face y) [
        | is_first f e ↦ subst Held (sym e) (face_held f (let l = in_faces y t in omega arith))
        | is_second f e ↦ let l : f < all_faces polygons = (let k = in_faces y t in omega arith) in subst Held (sym e) (to_second f l (face_held f l))
        | is_third f e ↦ let l : f < all_faces polygons = (let k = in_faces y t in omega arith) in subst Held (sym e) (to_third f l (face_held f l))
      ]
        where
          zero_is : 0 ≡ 3 * (faces_before polygons 0 + 0) + 0
          zero_is = let e = no_faces polygons in omega arith

          face_held : (f : ℕ) → f < all_faces polygons → Held (3 * f + 0)
          face_held = by_triangle (λ f. Held (3 * f + 0)) (λ i t there l.
              across i t l (surface.connected i there (λ i. held (3 * (faces_before polygons i + 0) + 0)) (subst Held zero_is first) held_neighbour))

    -- the first cut is a triangulation
    pub fan_is_triangulation : sum_by length polygons ≤ most_sides → IsTriangulation s.d T
    fan_is_triangulation few =
        let three = three_sides_of s surface in
        let count = faces_of_sides polygons three in
        let some = surface.some_polygon in
        let one = face_below polygons 0 0 (let l = three 0 some in omega arith) in
        record {
          faces = all_faces polygons;
          some_face = omega arith;
          few_faces = omega arith;
          vectors = fan.vectors_length s triangles cut;
          twins = fan.twins_length s triangles cut;
          triangles = fan_triangles;
          connected = all_held;
        }
