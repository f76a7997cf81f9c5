-- The circle value of a hinge: its sign says whether the fourth vertex is inside the circle of the other three, and a flip negates it. A library for crates to come.
use Rattle.std.proofs.Common.{◌≡◌, ◌↔◌, [], ◌∷◌, refl, sym, subst}
use Rattle.fs_ring.specs.Operations.{Operations, sub, square}
use Rattle.fs_ring.specs.OrderedRing.{IsOrderedRing}
use Rattle.fs_ring.specs.Vector.{Vector, zero_vector, add_vector, sub_vector, neg_vector, scale, cross, norm, circle}
use Rattle.fs_ring.specs.Circle.{QuotientPoint, distance, IsCentre, IsInsideCircle}
use Rattle.fs_ring.proofs.Signs as signs
use Rattle.fs_ring.proofs.Hinges.{closing, closes}
use Rattle.fs_ring.proofs.Solver.{expressions as E, ◌⊕◌, ◌⊖◌, ◌⊗◌, ◌≐◌, ◌from◌}
use Rattle.fs_ring.proofs.PlaneSolver.{plane_identity, plane_derived}

module _ {A : Type 0} (R : Operations A) where
  -- the second and the third vertex of the face of a and b, whose first one is at (0, 0)
  abbrev pub second : Vector A → Vector A → Vector A
  second a b = neg_vector R (add_vector R a b)

  abbrev pub third : Vector A → Vector A
  third b = neg_vector R b

  -- v turned right by a quarter
  abbrev turned_right : Vector A → Vector A
  turned_right v = record { x = v.y; y = R.neg v.x }

  -- where a circle through (0, 0), q and r has its centre
  abbrev centre_weight : Vector A → Vector A → A
  centre_weight q r = R.add (cross R q r) (cross R q r)

  abbrev centre_multiple : Vector A → Vector A → Vector A
  centre_multiple q r = sub_vector R (scale R (norm R q) (turned_right r)) (scale R (norm R r) (turned_right q))

  -- `distance`, with weight and multiple apart
  abbrev distance_from : A → Vector A → Vector A → A
  distance_from m z p = norm R (sub_vector R (scale R m p) z)

module _ {A : Type 0} {R : Operations A} {IsPositive : A → Type 0} (L : IsOrderedRing R IsPositive) where
  open R use {mul as ◌*◌, neg}

  infixl 70 ◌*◌
  -- what a centre tells of the distance of the fourth vertex
  pub distance-circle : (a b c : Vector A) (m : QuotientPoint A) → IsCentre R IsPositive (zero_vector R) (second R a b) (third R b) m
      → cross R a b * sub R (distance R IsPositive m (zero_vector R)) (distance R IsPositive m c) ≡ square R m.weight * circle R a b c (closing R a b c)
  distance-circle a b c m centre =
      plane_derived L.ring (m.weight ∷ []) (m.multiple ∷ a ∷ b ∷ c ∷ [])
      (λ m z a b c. cross E a b ⊗ (distance_from E m z (zero_vector E) ⊖ distance_from E m z c) ≐ square E m ⊗ circle E a b c (closing E a b c)
      from (E.neg (cross E c (third E b)), distance_from E m z (second E a b) ≐ distance_from E m z (zero_vector E))
      ∷ (E.neg (cross E (second E a b) c), distance_from E m z (third E b) ≐ distance_from E m z (zero_vector E)) ∷ []) refl
      (centre.as_far_second, (centre.as_far_third, tt))

  -- a circle through three vertices that turn left has a centre
  centre : (a b : Vector A) → QuotientPoint A
  centre a b = record { weight = centre_weight R (second R a b) (third R b); multiple = centre_multiple R (second R a b) (third R b) }

  is_centre : (a b : Vector A) → IsPositive (cross R a b) → IsCentre R IsPositive (zero_vector R) (second R a b) (third R b) (centre a b)
  unfolding centre
  is_centre a b ab = record {
    weight_positive = signs.positive_of_eq L
        (plane_identity L.ring [] (a ∷ b ∷ []) (λ a b. centre_weight E (second E a b) (third E b) ≐ cross E a b ⊕ cross E a b) refl) (L.add_positive ab ab);
    as_far_second = plane_identity L.ring [] (a ∷ b ∷ [])
        (λ a b. let q = second E a b in let r = third E b in
        distance_from E (centre_weight E q r) (centre_multiple E q r) q ≐ distance_from E (centre_weight E q r) (centre_multiple E q r) (zero_vector E)) refl;
    as_far_third = plane_identity L.ring [] (a ∷ b ∷ [])
        (λ a b. let q = second E a b in let r = third E b in
        distance_from E (centre_weight E q r) (centre_multiple E q r) r ≐ distance_from E (centre_weight E q r) (centre_multiple E q r) (zero_vector E)) refl;
  }

  inside_closing : (a b c : Vector A) → IsPositive (cross R a b)
      → IsPositive (circle R a b c (closing R a b c)) ↔ IsInsideCircle R IsPositive (zero_vector R) (second R a b) (third R b) c
  inside_closing a b c ab = (
    (λ p.
        let m = centre a b in
        let is = is_centre a b ab in
        let square_positive : IsPositive (square R m.weight) = L.mul_positive is.weight_positive is.weight_positive in
        (m, is, signs.positive_of_mul_left L ab (signs.positive_of_eq L (distance-circle a b c m is) (L.mul_positive square_positive p)))),
    (λ (m, is, nearer).
        signs.positive_of_mul_left L (L.mul_positive is.weight_positive is.weight_positive)
        (signs.positive_of_eq L (sym (distance-circle a b c m is)) (L.mul_positive ab nearer))),
  )

  -- the circle value is positive exactly where the fourth vertex is strictly inside the circle through the vertices of the face of a and b
  pub circle_positive-inside : (a b c g : Vector A) → add_vector R (add_vector R a b) (add_vector R c g) ≡ zero_vector R → IsPositive (cross R a b)
      → IsPositive (circle R a b c g) ↔ IsInsideCircle R IsPositive (zero_vector R) (second R a b) (third R b) c
  circle_positive-inside a b c g e ab =
      subst (λ v. IsPositive (circle R a b c v) ↔ IsInsideCircle R IsPositive (zero_vector R) (second R a b) (third R b) c) (sym (closes L a b c g e)) (inside_closing a b c ab)

  -- the flipped edge has the negation of the edge's circle value
  pub circle_flipped : (a b c g : Vector A) → add_vector R (add_vector R a b) (add_vector R c g) ≡ zero_vector R → circle R b c g a ≡ neg (circle R a b c g)
  circle_flipped a b c g e =
      subst (λ v. circle R b c v a ≡ neg (circle R a b c v)) (sym (closes L a b c g e))
      (plane_identity L.ring [] (a ∷ b ∷ c ∷ []) (λ a b c. circle E b c (closing E a b c) a ≐ E.neg (circle E a b c (closing E a b c))) refl)
