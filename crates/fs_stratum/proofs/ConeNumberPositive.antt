-- Round a vertex at least one corner holds (1,0): else all of its rays are on one side of the line of (1,0), each to the left of the one before.
use Rattle.std.proofs.Common.{◌≡◌, inl, inr, ℕ, zero, suc, ◌+◌, ◌-◌, ◌≤◌, Bool, true, false, not, ◌&&◌, List, [], ◌∷◌, sym, ap, ◌∙◌, refl, subst, arith}
use Rattle.std.proofs.lemmas.Bool.{cases_Bool, cases_eq}
use Rattle.std.specs.declared.cmp.Ordering.{Ordering}
use Rattle.std.specs.declared.cmp.Ordering.TheVariants.{Less, Equal, Greater}
use Rattle.fs_ring.specs.Vector.{unit_vector, neg_vector, cross as cross_over}
use Rattle.fs_ring.specs.Direction.{at_start, inside}
use Rattle.fs_ring.proofs.Signs as signs
use Rattle.fs_ring.proofs.Directions as directions
use Rattle.fs_ring.proofs.Solver.{expressions as E, ◌≐◌}
use Rattle.fs_ring.proofs.Plane.{cross_self}
use Rattle.fs_quadratic.specs.Radicand.{IsRadicand}
use Rattle.fs_quadratic.specs.Ring.{neg, quadratic, IsPositive, sign}
use Rattle.fs_quadratic.proofs.Laws.{field_order, quadratic_ring}
use Rattle.fs_quadratic.proofs.SquareRoot.{radicand_no_square}
use Rattle.fs_quadratic.proofs.Signs.{positive_of_sign, negative_of_sign}
use Rattle.fs_cycles.proofs.Iterates.{iterate_after}
use Rattle.fs_plane.specs.declared.corners.Corner.{Corner}
use Rattle.fs_plane.specs.Vector.{vector_neg, cross, is_raised, raised_by_signs, PlaneVector, east}
use Rattle.fs_gluing.specs.declared.surfaces.Side.{Side}
use Rattle.fs_gluing.specs.Polygons.{HasSide, all_sides}
use Rattle.fs_gluing.specs.Surface.{GluedPolygons, IsTranslationSurface}
use Rattle.fs_gluing.specs.Vertices.{AreOneVertex, HoldsEast, IsConeNumber}
use Rattle.fs_ring.proofs.AxisSigns as axis
use Rattle.fs_stratum.proofs.SectorOfEast.{HasConvexSigns, convex_signs, raised-along}
use Rattle.fs_stratum.proofs.CornerCounts.{count_zero}
use Rattle.fs_gluing.proofs.Sides.AllSides.{in_all_sides}
use Rattle.fs_gluing.proofs.Sides.VertexOrbits.{next, ahead, has_ahead, has_one_vertex, is_nth_next_ahead, comes_back}
use Rattle.fs_gluing.proofs.Sides.CornerRays.{rays, next_ray}
use Rattle.fs_gluing.specs.SurfaceSides.{vector_or, vector_of}
use Rattle.fs_stratum.proofs.RaisedRays.{raised_or, is_ray_raised, raised-here, raised-next, holds_from_rays}

-- ---- vectors, each to the left of the one before

-- where a vector and the one to its left are both raised, or both not, it isn't on the line of (1,0)
module _ {d : ℕ} (radicand : IsRadicand d) (v w : PlaneVector) (left : IsPositive d (cross d v w)) where
  -- both are raised: v points up
  above : is_raised d v ≡ true → is_raised d w ≡ true → IsPositive d v.y
  above e f = go (sign d v.y) (sign d v.x) (sign d w.y) refl (convex_signs radicand v w left) e f
    where
      go : (bv bh av : Ordering) → sign d v.y ≡ bv → HasConvexSigns bv bh av (sign d w.x) → raised_by_signs bv bh ≡ true → raised_by_signs av (sign d w.x) ≡ true → IsPositive d v.y
      go Greater bh av is t e f = positive_of_sign (radicand_no_square radicand) v.y is
      go Less bh av is t e f = cc
      go Equal Less av is t e f = let down = ap (λ o. raised_by_signs o (sign d w.x)) (t.from_west refl refl) in cc
      go Equal Equal av is t e f = absurd (t.from_zero refl refl)
      go Equal Greater av is t e f = cc

  -- neither is raised: v points down
  below : is_raised d v ≡ false → is_raised d w ≡ false → IsPositive d (neg v.y)
  below e f = go (sign d v.y) (sign d v.x) (sign d w.y) refl (convex_signs radicand v w left) e f
    where
      go : (bv bh av : Ordering) → sign d v.y ≡ bv → HasConvexSigns bv bh av (sign d w.x) → raised_by_signs bv bh ≡ false → raised_by_signs av (sign d w.x) ≡ false → IsPositive d (neg v.y)
      go Less bh av is t e f = negative_of_sign (radicand_no_square radicand) v.y is
      go Greater bh av is t e f = cc
      go Equal Less av is t e f = cc
      go Equal Equal av is t e f = absurd (t.from_zero refl refl)
      go Equal Greater av is t e f = let up = ap (λ o. raised_by_signs o (sign d w.x)) (t.from_east refl refl) in cc

module _ {d : ℕ} (radicand : IsRadicand d) where
  left_of_east : (v : PlaneVector) → IsPositive d v.y → IsPositive d (cross d east v)
  left_of_east v p = axis.left_of_axis (field_order radicand) (unit_vector (quadratic d)) refl (field_order radicand).one_positive v p

  left_of_west : (v : PlaneVector) → IsPositive d (neg v.y) → IsPositive d (cross d (vector_neg east) v)
  left_of_west v p =
      directions.positive_by_plane (field_order radicand) [] (unit_vector (quadratic d) ∷ v ∷ []) (λ u a. cross_over E (neg_vector E u) a ≐ cross_over E a u) refl
      (axis.right_of_axis (field_order radicand) (unit_vector (quadratic d)) refl (field_order radicand).one_positive v p)

  -- ---- on one side of a line such vectors don't return to the first
  onwards : (w : PlaneVector) (f : ℕ → PlaneVector) (m : ℕ) → ((i : ℕ) → i ≤ suc m → IsPositive d (cross d w (f i))) → ((i : ℕ) → i ≤ m → IsPositive d (cross d (f i) (f (suc i))))
      → (i : ℕ) → i ≤ m → IsPositive d (cross d (f 0) (f (suc i)))
  onwards w f m side left zero l = left 0 (omega arith)
  onwards w f m side left (suc i) l =
      directions.cross_trans (field_order radicand) w (f 0) (f (suc i)) (f (suc (suc i))) (signs.non_negative_of_positive (field_order radicand) (side 0 (omega arith))) (side (suc i) (omega arith)) (side (suc (suc i)) (omega arith))
      (onwards w f m side left i (omega arith)) (left (suc i) l)

  never_back : (w : PlaneVector) (f : ℕ → PlaneVector) (m : ℕ) → ((i : ℕ) → i ≤ suc m → IsPositive d (cross d w (f i))) → ((i : ℕ) → i ≤ m → IsPositive d (cross d (f i) (f (suc i))))
      → f (suc m) ≡ f 0 → ⊥
  never_back w f m side left same =
      signs.positive-ne-zero (field_order radicand) (subst (λ v. IsPositive d (cross d (f 0) v)) same (onwards w f m side left m (omega arith))) (cross_self (quadratic_ring d) (f 0))

-- ---- the rays of a vertex

-- the ray of a corner: the vector of the side that begins there
abbrev ray : GluedPolygons → Corner → PlaneVector
ray s c = vector_of s.polygons c

ahead-next : (polygons : List (List Side)) (i : ℕ) (c : Corner) → ahead polygons (suc i) c ≡ next polygons (ahead polygons i c)
ahead-next polygons i c = iterate_after (next polygons) i c

module _ (s : GluedPolygons) (surface : IsTranslationSurface s) where
  ray_raised : (c : Corner) → HasSide s.polygons c → is_raised s.d (ray s c) ≡ is_ray_raised s c
  ray_raised c h = let r = rays s surface c h in ap (λ o. is_raised s.d (vector_or o)) r.begins ∙ sym (ap (raised_or s.d) r.begins)

  not_own : (b : Bool) → not b ≡ b → ⊥
  not_own true e = cc
  not_own false e = cc

  -- where a ray and the next one are both raised, or neither is, the corner isn't straight, and the next ray is left of the first
  ray_left : (c : Corner) → HasSide s.polygons c → is_ray_raised s (next s.polygons c) ≡ is_ray_raised s c → IsPositive s.d (cross s.d (ray s c) (ray s (next s.polygons c)))
  ray_left c h same =
      let r = rays s surface c h in
      subst (λ o. IsPositive s.d (cross s.d (vector_or o) (ray s (next s.polygons c)))) (sym r.begins)
      (subst (λ o. IsPositive s.d (cross s.d r.after.vector (vector_or o))) (sym (next_ray s surface c h r))
      (directions.positive_by_plane (field_order surface.radicand) [] (r.before.vector ∷ r.after.vector ∷ []) (λ b a. cross_over E a (neg_vector E b) ≐ cross_over E b a) refl
      (elim r.bends [
        | inside p ↦ p
        | at_start along ↦ absurd (not_own (is_raised s.d r.before.vector)
            (sym (raised-next s surface c h r) ∙ same ∙ raised-here s surface c h r ∙ raised-along surface.radicand r.before.vector r.after.vector along))
      ])))

  module _ (c : Corner) (h : HasSide s.polygons c) (none : (e : Corner) → AreOneVertex s.polygons c e → ¬ HoldsEast s e) where
    -- the i-th corner after c
    abbrev at : ℕ → Corner
    at i = ahead s.polygons i c

    has : (i : ℕ) → HasSide s.polygons (at i)
    has i = has_ahead s.polygons surface.glued i c h

    -- the ray before a raised one is raised
    raised_before : (i : ℕ) → is_ray_raised s (at (suc i)) ≡ true → is_ray_raised s (at i) ≡ true
    raised_before i e = elim (cases_Bool (is_ray_raised s (at i))) [
      | inl f ↦ f
      | inr f ↦ absurd (none (at i) (i, is_nth_next_ahead s.polygons surface.glued i c h)
          (holds_from_rays s surface (at i) (has i)
          ((λ j. not (f j) && is_ray_raised s (sym (ahead-next s.polygons i c) j)) ∙ e)))
    ]

    raised_down : (k i : ℕ) → is_ray_raised s (at (k + i)) ≡ true → is_ray_raised s (at i) ≡ true
    raised_down zero i e = let same : 0 + i ≡ i = omega arith in subst (λ n. is_ray_raised s (at n) ≡ true) same e
    raised_down (suc k) i e = let same : suc k + i ≡ suc (k + i) = omega arith in raised_down k i (raised_before (k + i) (subst (λ n. is_ray_raised s (at n) ≡ true) same e))

    lowered_after : (i : ℕ) → is_ray_raised s c ≡ false → is_ray_raised s (at i) ≡ false
    lowered_after i e = elim (cases_Bool (is_ray_raised s (at i))) [
      | inl f ↦ let same : i ≡ i + 0 = omega arith in let up = raised_down i 0 (subst (λ n. is_ray_raised s (at n) ≡ true) same f) in cc
      | inr f ↦ f
    ]

    left_at : (i : ℕ) → is_ray_raised s (at (suc i)) ≡ is_ray_raised s (at i) → IsPositive s.d (cross s.d (ray s (at i)) (ray s (at (suc i))))
    left_at i same =
        subst (λ e. IsPositive s.d (cross s.d (ray s (at i)) (ray s e))) (sym (ahead-next s.polygons i c))
        (ray_left (at i) (has i) (ap (is_ray_raised s) (sym (ahead-next s.polygons i c)) ∙ same))

    module _ (m : ℕ) (back : at (suc m) ≡ c) where
      around_raised : is_ray_raised s c ≡ true → ⊥
      around_raised e =
          let up : (i : ℕ) → i ≤ suc m → is_ray_raised s (at i) ≡ true =
          λ i l. raised_down (suc m - i) i (let same : suc m ≡ suc m - i + i = omega arith in subst (λ n. is_ray_raised s (at n) ≡ true) same (ap (is_ray_raised s) back ∙ e)) in
          let raised : (i : ℕ) → i ≤ suc m → is_raised s.d (ray s (at i)) ≡ true = λ i l. ray_raised (at i) (has i) ∙ up i l in
          let left : (i : ℕ) → i ≤ m → IsPositive s.d (cross s.d (ray s (at i)) (ray s (at (suc i)))) = λ i l. left_at i (up (suc i) (omega arith) ∙ sym (up i (omega arith))) in
          let inner : (i : ℕ) → i ≤ m → IsPositive s.d (cross s.d east (ray s (at i))) =
          λ i l. left_of_east surface.radicand (ray s (at i)) (above surface.radicand (ray s (at i)) (ray s (at (suc i))) (left i l) (raised i (omega arith)) (raised (suc i) (omega arith))) in
          never_back surface.radicand east (λ i. ray s (at i)) m
          (λ i l. elim (cases_eq i (suc m)) [ inl f ↦ subst (λ e. IsPositive s.d (cross s.d east (ray s e))) (sym (ap at f ∙ back)) (inner 0 (omega arith)) | inr n ↦ inner i (omega arith) ])
          left (ap (ray s) back)

      around_lowered : is_ray_raised s c ≡ false → ⊥
      around_lowered e =
          let down : (i : ℕ) → is_ray_raised s (at i) ≡ false = λ i. lowered_after i e in
          let lowered : (i : ℕ) → is_raised s.d (ray s (at i)) ≡ false = λ i. ray_raised (at i) (has i) ∙ down i in
          let left : (i : ℕ) → IsPositive s.d (cross s.d (ray s (at i)) (ray s (at (suc i)))) = λ i. left_at i (down (suc i) ∙ sym (down i)) in
          never_back surface.radicand (vector_neg east) (λ i. ray s (at i)) m
          (λ i l. left_of_west surface.radicand (ray s (at i)) (below surface.radicand (ray s (at i)) (ray s (at (suc i))) (left i) (lowered i) (lowered (suc i))))
          (λ i l. left i) (ap (ray s) back)

  -- a cone number is at least 1
  pub cone_number_positive : (c : Corner) (k : ℕ) → HasSide s.polygons c → IsConeNumber s c k → 1 ≤ k
  cone_number_positive c zero h number =
      let none : (e : Corner) → AreOneVertex s.polygons c e → ¬ HoldsEast s e =
      λ e o held. count_zero (λ e. AreOneVertex s.polygons c e × HoldsEast s e) (all_sides s.polygons) e number (in_all_sides s.polygons e (has_one_vertex s.polygons surface.glued c e h o)) (o, held) in
      let r = comes_back s.polygons surface.glued c h in
      absurd (elim (cases_Bool (is_ray_raised s c)) [ inl e ↦ around_raised c h none r.0 r.1 e | inr e ↦ around_lowered c h none r.0 r.1 e ])
  cone_number_positive c (suc k) h number = omega arith
