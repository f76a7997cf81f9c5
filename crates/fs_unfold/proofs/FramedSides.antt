-- What a frame does to vectors: sums stay sums, cross products get a positive factor, and are negated where the orientation is turned; and images have the signs of what the frame takes the vectors to.
use Rattle.std.proofs.Common.{◌≡◌, ◌≢◌, Bool, true, false, ℕ, List, [], ◌∷◌, refl, sym, ap, ◌∙◌}
use Rattle.std.specs.Ordering.{ordering_reverse}
use Rattle.fs_ring.specs.OrderedRing.{IsOrderedRing, Sign, positive, null, negative}
use Rattle.fs_ring.specs.Vector as plane
use Rattle.fs_ring.proofs.Directions as directions
use Rattle.fs_ring.proofs.RingLaws as ring
use Rattle.fs_ring.proofs.Signs as signs
use Rattle.fs_ring.proofs.Solver.{expressions as E, numeral, ◌⊕◌, ◌⊖◌, ◌⊗◌, ◌≐◌, ◌from◌}
use Rattle.fs_ring.proofs.PlaneSolver.{plane_identity, plane_derived, vector_eq}
use Rattle.fs_quadratic.specs.Radicand.{IsNoSquare}
use Rattle.fs_quadratic.specs.Ring.{Quadratic, quadratic, IsPositive, neg, mul, sign, zero as nil}
use Rattle.fs_quadratic.proofs.Laws.{quadratic_ring, quadratic_order}
use Rattle.fs_quadratic.proofs.Signs.{sign-positive, sign-zero, sign-negative, sign-neg}
use Rattle.fs_plane.specs.Vector.{PlaneVector, vector_zero, vector_add, vector_neg, vector_total, vector_total_from, cross, dot, norm, is_upper, upper_by_signs}
use Rattle.fs_unfold.proofs.Images.{framed, IsImage, AreImages}

-- ---- sums

module _ (d : ℕ) (f : PlaneVector) (turned : Bool) (α β : Quadratic) where
  image_zero : IsImage d f turned α β vector_zero vector_zero
  image_zero = (
    plane_identity (quadratic_ring d) (α ∷ β ∷ []) (f ∷ []) (λ α β f. α ⊗ numeral 0 ≐ β ⊗ plane.dot E f (plane.zero_vector E)) refl,
    by turned,
  )
    where
      by : (t : Bool) → mul d α nil ≡ mul d β (framed d f t vector_zero).y
      by true = plane_identity (quadratic_ring d) (α ∷ β ∷ []) (f ∷ []) (λ α β f. α ⊗ numeral 0 ≐ β ⊗ E.neg (plane.cross E f (plane.zero_vector E))) refl
      by false = plane_identity (quadratic_ring d) (α ∷ β ∷ []) (f ∷ []) (λ α β f. α ⊗ numeral 0 ≐ β ⊗ plane.cross E f (plane.zero_vector E)) refl

  image_sum : (v w q r : PlaneVector) → IsImage d f turned α β v q → IsImage d f turned α β w r → IsImage d f turned α β (vector_add v w) (vector_add q r)
  image_sum v w q r (first, second) (first', second') = (
    plane_derived (quadratic_ring d) (α ∷ β ∷ []) (f ∷ v ∷ w ∷ q ∷ r ∷ [])
        (λ α β f v w q r. α ⊗ (q.x ⊕ r.x) ≐ β ⊗ plane.dot E f (plane.add_vector E v w) from
        (numeral 1, α ⊗ q.x ≐ β ⊗ plane.dot E f v) ∷ (numeral 1, α ⊗ r.x ≐ β ⊗ plane.dot E f w) ∷ []) refl (first, (first', tt)),
    by turned second second',
  )
    where
      by : (t : Bool) → mul d α q.y ≡ mul d β (framed d f t v).y → mul d α r.y ≡ mul d β (framed d f t w).y → mul d α (vector_add q r).y ≡ mul d β (framed d f t (vector_add v w)).y
      by true e e' =
          plane_derived (quadratic_ring d) (α ∷ β ∷ []) (f ∷ v ∷ w ∷ q ∷ r ∷ [])
          (λ α β f v w q r. α ⊗ (q.y ⊕ r.y) ≐ β ⊗ E.neg (plane.cross E f (plane.add_vector E v w)) from
          (numeral 1, α ⊗ q.y ≐ β ⊗ E.neg (plane.cross E f v)) ∷ (numeral 1, α ⊗ r.y ≐ β ⊗ E.neg (plane.cross E f w)) ∷ []) refl (e, (e', tt))
      by false e e' =
          plane_derived (quadratic_ring d) (α ∷ β ∷ []) (f ∷ v ∷ w ∷ q ∷ r ∷ [])
          (λ α β f v w q r. α ⊗ (q.y ⊕ r.y) ≐ β ⊗ plane.cross E f (plane.add_vector E v w) from
          (numeral 1, α ⊗ q.y ≐ β ⊗ plane.cross E f v) ∷ (numeral 1, α ⊗ r.y ≐ β ⊗ plane.cross E f w) ∷ []) refl (e, (e', tt))

  -- the sum of images is the image of the sum
  image_totals : (v q : PlaneVector) (vs qs : List PlaneVector) → IsImage d f turned α β v q → AreImages d f turned α β vs qs
      → IsImage d f turned α β (vector_total_from v vs) (vector_total_from q qs)
  image_totals v q [] [] i h = i
  image_totals v q [] (r ∷ qs) i h = absurd h
  image_totals v q (w ∷ vs) [] i h = absurd h
  image_totals v q (w ∷ vs) (r ∷ qs) i h = image_totals (vector_add v w) (vector_add q r) vs qs (image_sum v w q r i h.0) h.1

-- ---- cross products

module _ (d : ℕ) (f : PlaneVector) where
  -- the cross product of what the frame takes two vectors to
  cross_framed : (v w : PlaneVector) → cross d (framed d f false v) (framed d f false w) ≡ mul d (norm d f) (cross d v w)
  cross_framed v w =
      plane_identity (quadratic_ring d) [] (f ∷ v ∷ w ∷ [])
      (λ f v w. (plane.dot E f v ⊗ plane.cross E f w) ⊖ (plane.cross E f v ⊗ plane.dot E f w) ≐ plane.norm E f ⊗ plane.cross E v w) refl

  cross_framed_turned : (v w : PlaneVector) → cross d (framed d f true v) (framed d f true w) ≡ mul d (norm d f) (cross d w v)
  cross_framed_turned v w =
      plane_identity (quadratic_ring d) [] (f ∷ v ∷ w ∷ [])
      (λ f v w. (plane.dot E f v ⊗ E.neg (plane.cross E f w)) ⊖ (E.neg (plane.cross E f v) ⊗ plane.dot E f w) ≐ plane.norm E f ⊗ plane.cross E w v) refl

-- the cross product of multiples of two vectors
cross_multiples : (d : ℕ) (α β : Quadratic) (u w q r : PlaneVector)
    → mul d α q.x ≡ mul d β u.x → mul d α q.y ≡ mul d β u.y → mul d α r.x ≡ mul d β w.x → mul d α r.y ≡ mul d β w.y
    → mul d (mul d α α) (cross d q r) ≡ mul d (mul d β β) (cross d u w)
cross_multiples d α β u w q r qx qy rx ry =
    plane_derived (quadratic_ring d) (α ∷ β ∷ []) (u ∷ w ∷ q ∷ r ∷ [])
    (λ α β u w q r. (α ⊗ α) ⊗ plane.cross E q r ≐ (β ⊗ β) ⊗ plane.cross E u w from
    (α ⊗ r.y, α ⊗ q.x ≐ β ⊗ u.x) ∷ (E.neg (α ⊗ r.x), α ⊗ q.y ≐ β ⊗ u.y) ∷ (E.neg (β ⊗ u.y), α ⊗ r.x ≐ β ⊗ w.x) ∷ (β ⊗ u.x, α ⊗ r.y ≐ β ⊗ w.y) ∷ []) refl
    (qx, (qy, (rx, (ry, tt))))

module _ {d : ℕ} (no_square : IsNoSquare d) (f : PlaneVector) (some : f ≢ vector_zero) (α β : Quadratic) (α_up : IsPositive d α) (β_up : IsPositive d β) where
  not_zero : {x : Quadratic} → IsPositive d x → x ≢ nil
  not_zero up = signs.positive-ne-zero (quadratic_order no_square) up

  -- the images of vectors that sum to (0,0) do so too
  pub closed_images : (turned : Bool) (vs qs : List PlaneVector) → AreImages d f turned α β vs qs → vector_total vs ≡ vector_zero → vector_total qs ≡ vector_zero
  closed_images turned vs qs h closed =
      vector_eq (zero_by (vector_total qs).x (framed d f turned (vector_total vs)).x total.0 (zero_x (vector_total vs) closed))
      (zero_by (vector_total qs).y (framed d f turned (vector_total vs)).y total.1 (zero_y turned (vector_total vs) closed))
    where
      total : IsImage d f turned α β (vector_total vs) (vector_total qs)
      total = image_totals d f turned α β vector_zero vector_zero vs qs (image_zero d f turned α β) h

      zero_by : (a b : Quadratic) → mul d α a ≡ mul d β b → b ≡ nil → a ≡ nil
      zero_by a b e z = signs.zero_of_mul_left (quadratic_order no_square) (not_zero α_up) (e ∙ ap (mul d β) z ∙ ring.mul_zero (quadratic_ring d) β)

      zero_x : (v : PlaneVector) → v ≡ vector_zero → dot d f v ≡ nil
      zero_x v e = ap (dot d f) e ∙ plane_identity (quadratic_ring d) [] (f ∷ []) (λ f. plane.dot E f (plane.zero_vector E) ≐ numeral 0) refl

      zero_y : (t : Bool) (v : PlaneVector) → v ≡ vector_zero → (framed d f t v).y ≡ nil
      zero_y true v e = ap (λ w. neg (cross d f w)) e ∙ plane_identity (quadratic_ring d) [] (f ∷ []) (λ f. E.neg (plane.cross E f (plane.zero_vector E)) ≐ numeral 0) refl
      zero_y false v e = ap (cross d f) e ∙ plane_identity (quadratic_ring d) [] (f ∷ []) (λ f. plane.cross E f (plane.zero_vector E) ≐ numeral 0) refl

  left_by : (q r u w v v' : PlaneVector) → mul d (mul d α α) (cross d q r) ≡ mul d (mul d β β) (cross d u w) → cross d u w ≡ mul d (norm d f) (cross d v v')
      → IsPositive d (cross d v v') → IsPositive d (cross d q r)
  left_by q r u w v v' e c up =
      let L = quadratic_order no_square in
      signs.positive_of_mul_left L (L.mul_positive α_up α_up)
      (signs.positive_of_eq L (e ∙ ap (mul d (mul d β β)) c) (L.mul_positive (L.mul_positive β_up β_up) (L.mul_positive (directions.norm_positive L f some) up)))

  -- a left turn stays one
  pub left_of_images : (v w q r : PlaneVector) → IsImage d f false α β v q → IsImage d f false α β w r → IsPositive d (cross d v w) → IsPositive d (cross d q r)
  left_of_images v w q r i j = left_by q r _ _ v w (cross_multiples d α β (framed d f false v) (framed d f false w) q r i.0 i.1 j.0 j.1) (cross_framed d f v w)

  -- and becomes a right one where the orientation is turned
  pub right_of_turned_images : (v w q r : PlaneVector) → IsImage d f true α β v q → IsImage d f true α β w r → IsPositive d (cross d v w) → IsPositive d (cross d r q)
  right_of_turned_images v w q r i j = left_by r q _ _ v w (cross_multiples d α β (framed d f true w) (framed d f true v) r q j.0 j.1 i.0 i.1) (cross_framed_turned d f w v)

  -- ---- signs

  sign_of_multiple : (a b : Quadratic) → mul d α a ≡ mul d β b → sign d a ≡ sign d b
  sign_of_multiple a b e = by (L.trichotomy b)
    where
      L : IsOrderedRing (quadratic d) (IsPositive d)
      L = quadratic_order no_square

      by : Sign (quadratic d) (IsPositive d) b → sign d a ≡ sign d b
      by (positive up) = sign-positive d a (signs.positive_of_mul_left L α_up (signs.positive_of_eq L e (L.mul_positive β_up up))) ∙ sym (sign-positive d b up)
      by (null z) = sign-zero d a (signs.zero_of_mul_left L (not_zero α_up) (e ∙ ap (mul d β) z ∙ ring.mul_zero L.ring β)) ∙ sym (sign-zero d b z)
      by (negative down) =
          sign-negative d a (signs.negative_of_mul_left L α_up (signs.positive_of_eq L (ap neg e) (signs.mul_positive_negative L β_up down))) ∙ sym (sign-negative d b down)

  opposite_sign : (a b : Quadratic) → sign d a ≡ sign d b → sign d (neg a) ≡ sign d (neg b)
  opposite_sign a b e = sign-neg d a ∙ ap ordering_reverse e ∙ sym (sign-neg d b)

  module _ (turned : Bool) (v q : PlaneVector) (i : IsImage d f turned α β v q) where
    -- an image points into the upper half where what the frame takes the vector to does
    pub upper_of_image : is_upper d q ≡ is_upper d (framed d f turned v)
    upper_of_image = λ k. upper_by_signs (sign_of_multiple q.y (framed d f turned v).y i.1 k) (sign_of_multiple q.x (framed d f turned v).x i.0 k)

    -- and so with the opposites
    pub upper_of_opposite_image : is_upper d (vector_neg q) ≡ is_upper d (vector_neg (framed d f turned v))
    upper_of_opposite_image =
        λ k. upper_by_signs (opposite_sign q.y (framed d f turned v).y (sign_of_multiple q.y (framed d f turned v).y i.1) k)
        (opposite_sign q.x (framed d f turned v).x (sign_of_multiple q.x (framed d f turned v).x i.0) k)
