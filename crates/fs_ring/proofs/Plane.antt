-- Identities of plane geometry over a commutative ring: a library for crates to come.
use Rattle.std.proofs.Common.{◌≡◌, [], ◌∷◌, refl}
use Rattle.fs_ring.specs.Operations.{Operations, sub, square}
use Rattle.fs_ring.specs.CommutativeRing.{IsCommutativeRing}
use Rattle.fs_ring.specs.Vector.{Vector, zero_vector, add_vector, sub_vector, neg_vector, scale, cross, dot, norm, twice_area, circle}
use Rattle.fs_ring.proofs.Solver.{expressions as E, numeral, ◌⊕◌, ◌⊖◌, ◌⊗◌, ◌≐◌}
use Rattle.fs_ring.proofs.PlaneSolver.{plane_identity, vector_identity, ◌≐ᵥ◌}

module _ {A : Type 0} {R : Operations A} (L : IsCommutativeRing R) where
  open R use {add as ◌+◌, mul as ◌*◌, neg, zero as 𝟘}

  infixl 60 ◌+◌ ◌-◌
  infixl 70 ◌*◌
  abbrev ◌-◌ : A → A → A
  x - y = sub R x y

  -- ---- sums of vectors

  pub add_vector_comm : (a b : Vector A) → add_vector R a b ≡ add_vector R b a
  add_vector_comm a b = vector_identity L [] (a ∷ b ∷ []) (λ a b. add_vector E a b ≐ᵥ add_vector E b a) refl

  pub add_vector_assoc : (a b c : Vector A) → add_vector R (add_vector R a b) c ≡ add_vector R a (add_vector R b c)
  add_vector_assoc a b c = vector_identity L [] (a ∷ b ∷ c ∷ []) (λ a b c. add_vector E (add_vector E a b) c ≐ᵥ add_vector E a (add_vector E b c)) refl

  pub add_vector_zero : (a : Vector A) → add_vector R a (zero_vector R) ≡ a
  add_vector_zero a = vector_identity L [] (a ∷ []) (λ a. add_vector E a (zero_vector E) ≐ᵥ a) refl

  pub add_vector_neg : (a : Vector A) → add_vector R a (neg_vector R a) ≡ zero_vector R
  add_vector_neg a = vector_identity L [] (a ∷ []) (λ a. add_vector E a (neg_vector E a) ≐ᵥ zero_vector E) refl

  pub neg_vector-neg : (a : Vector A) → neg_vector R (neg_vector R a) ≡ a
  neg_vector-neg a = vector_identity L [] (a ∷ []) (λ a. neg_vector E (neg_vector E a) ≐ᵥ a) refl

  -- ---- the cross product

  pub cross_antisymm : (a b : Vector A) → cross R b a ≡ neg (cross R a b)
  cross_antisymm a b = plane_identity L [] (a ∷ b ∷ []) (λ a b. cross E b a ≐ E.neg (cross E a b)) refl

  pub cross_self : (a : Vector A) → cross R a a ≡ 𝟘
  cross_self a = plane_identity L [] (a ∷ []) (λ a. cross E a a ≐ numeral 0) refl

  pub cross-add_left : (a b c : Vector A) → cross R (add_vector R a b) c ≡ cross R a c + cross R b c
  cross-add_left a b c = plane_identity L [] (a ∷ b ∷ c ∷ []) (λ a b c. cross E (add_vector E a b) c ≐ cross E a c ⊕ cross E b c) refl

  pub cross-add_right : (a b c : Vector A) → cross R a (add_vector R b c) ≡ cross R a b + cross R a c
  cross-add_right a b c = plane_identity L [] (a ∷ b ∷ c ∷ []) (λ a b c. cross E a (add_vector E b c) ≐ cross E a b ⊕ cross E a c) refl

  pub cross-sub_left : (a b c : Vector A) → cross R (sub_vector R a b) c ≡ cross R a c - cross R b c
  cross-sub_left a b c = plane_identity L [] (a ∷ b ∷ c ∷ []) (λ a b c. cross E (sub_vector E a b) c ≐ cross E a c ⊖ cross E b c) refl

  pub cross-sub_right : (a b c : Vector A) → cross R a (sub_vector R b c) ≡ cross R a b - cross R a c
  cross-sub_right a b c = plane_identity L [] (a ∷ b ∷ c ∷ []) (λ a b c. cross E a (sub_vector E b c) ≐ cross E a b ⊖ cross E a c) refl

  pub cross-neg_left : (a b : Vector A) → cross R (neg_vector R a) b ≡ neg (cross R a b)
  cross-neg_left a b = plane_identity L [] (a ∷ b ∷ []) (λ a b. cross E (neg_vector E a) b ≐ E.neg (cross E a b)) refl

  pub cross-neg_right : (a b : Vector A) → cross R a (neg_vector R b) ≡ neg (cross R a b)
  cross-neg_right a b = plane_identity L [] (a ∷ b ∷ []) (λ a b. cross E a (neg_vector E b) ≐ E.neg (cross E a b)) refl

  pub cross-scale_left : (k : A) (a b : Vector A) → cross R (scale R k a) b ≡ k * cross R a b
  cross-scale_left k a b = plane_identity L (k ∷ []) (a ∷ b ∷ []) (λ k a b. cross E (scale E k a) b ≐ k ⊗ cross E a b) refl

  pub cross-scale_right : (k : A) (a b : Vector A) → cross R a (scale R k b) ≡ k * cross R a b
  cross-scale_right k a b = plane_identity L (k ∷ []) (a ∷ b ∷ []) (λ k a b. cross E a (scale E k b) ≐ k ⊗ cross E a b) refl

  pub cross-zero_left : (a : Vector A) → cross R (zero_vector R) a ≡ 𝟘
  cross-zero_left a = plane_identity L [] (a ∷ []) (λ a. cross E (zero_vector E) a ≐ numeral 0) refl

  pub cross-zero_right : (a : Vector A) → cross R a (zero_vector R) ≡ 𝟘
  cross-zero_right a = plane_identity L [] (a ∷ []) (λ a. cross E a (zero_vector E) ≐ numeral 0) refl

  -- ---- the dot product and the norm

  pub dot_comm : (a b : Vector A) → dot R a b ≡ dot R b a
  dot_comm a b = plane_identity L [] (a ∷ b ∷ []) (λ a b. dot E a b ≐ dot E b a) refl

  pub dot-add_left : (a b c : Vector A) → dot R (add_vector R a b) c ≡ dot R a c + dot R b c
  dot-add_left a b c = plane_identity L [] (a ∷ b ∷ c ∷ []) (λ a b c. dot E (add_vector E a b) c ≐ dot E a c ⊕ dot E b c) refl

  pub dot-add_right : (a b c : Vector A) → dot R a (add_vector R b c) ≡ dot R a b + dot R a c
  dot-add_right a b c = plane_identity L [] (a ∷ b ∷ c ∷ []) (λ a b c. dot E a (add_vector E b c) ≐ dot E a b ⊕ dot E a c) refl

  pub dot-sub_left : (a b c : Vector A) → dot R (sub_vector R a b) c ≡ dot R a c - dot R b c
  dot-sub_left a b c = plane_identity L [] (a ∷ b ∷ c ∷ []) (λ a b c. dot E (sub_vector E a b) c ≐ dot E a c ⊖ dot E b c) refl

  pub dot-sub_right : (a b c : Vector A) → dot R a (sub_vector R b c) ≡ dot R a b - dot R a c
  dot-sub_right a b c = plane_identity L [] (a ∷ b ∷ c ∷ []) (λ a b c. dot E a (sub_vector E b c) ≐ dot E a b ⊖ dot E a c) refl

  pub dot-neg_left : (a b : Vector A) → dot R (neg_vector R a) b ≡ neg (dot R a b)
  dot-neg_left a b = plane_identity L [] (a ∷ b ∷ []) (λ a b. dot E (neg_vector E a) b ≐ E.neg (dot E a b)) refl

  pub dot-neg_right : (a b : Vector A) → dot R a (neg_vector R b) ≡ neg (dot R a b)
  dot-neg_right a b = plane_identity L [] (a ∷ b ∷ []) (λ a b. dot E a (neg_vector E b) ≐ E.neg (dot E a b)) refl

  pub dot-scale_left : (k : A) (a b : Vector A) → dot R (scale R k a) b ≡ k * dot R a b
  dot-scale_left k a b = plane_identity L (k ∷ []) (a ∷ b ∷ []) (λ k a b. dot E (scale E k a) b ≐ k ⊗ dot E a b) refl

  pub dot-scale_right : (k : A) (a b : Vector A) → dot R a (scale R k b) ≡ k * dot R a b
  dot-scale_right k a b = plane_identity L (k ∷ []) (a ∷ b ∷ []) (λ k a b. dot E a (scale E k b) ≐ k ⊗ dot E a b) refl

  pub dot-zero_left : (a : Vector A) → dot R (zero_vector R) a ≡ 𝟘
  dot-zero_left a = plane_identity L [] (a ∷ []) (λ a. dot E (zero_vector E) a ≐ numeral 0) refl

  pub dot-zero_right : (a : Vector A) → dot R a (zero_vector R) ≡ 𝟘
  dot-zero_right a = plane_identity L [] (a ∷ []) (λ a. dot E a (zero_vector E) ≐ numeral 0) refl

  pub norm-neg : (a : Vector A) → norm R (neg_vector R a) ≡ norm R a
  norm-neg a = plane_identity L [] (a ∷ []) (λ a. norm E (neg_vector E a) ≐ norm E a) refl

  pub norm-scale : (k : A) (a : Vector A) → norm R (scale R k a) ≡ square R k * norm R a
  norm-scale k a = plane_identity L (k ∷ []) (a ∷ []) (λ k a. norm E (scale E k a) ≐ square E k ⊗ norm E a) refl

  pub norm-add : (a b : Vector A) → norm R (add_vector R a b) ≡ norm R a + (dot R a b + dot R a b) + norm R b
  norm-add a b = plane_identity L [] (a ∷ b ∷ []) (λ a b. norm E (add_vector E a b) ≐ norm E a ⊕ (dot E a b ⊕ dot E a b) ⊕ norm E b) refl

  pub norm-sub : (a b : Vector A) → norm R (sub_vector R a b) ≡ norm R a - (dot R a b + dot R a b) + norm R b
  norm-sub a b = plane_identity L [] (a ∷ b ∷ []) (λ a b. norm E (sub_vector E a b) ≐ norm E a ⊖ (dot E a b ⊕ dot E a b) ⊕ norm E b) refl

  -- ---- products of two products

  -- Lagrange's identity
  pub lagrange : (a b : Vector A) → square R (cross R a b) + square R (dot R a b) ≡ norm R a * norm R b
  lagrange a b = plane_identity L [] (a ∷ b ∷ []) (λ a b. square E (cross E a b) ⊕ square E (dot E a b) ≐ norm E a ⊗ norm E b) refl

  -- the Plücker identity of three vectors
  pub plucker : (a b c : Vector A)
      → add_vector R (add_vector R (scale R (cross R a b) c) (scale R (cross R b c) a)) (scale R (cross R c a) b) ≡ zero_vector R
  plucker a b c =
      vector_identity L [] (a ∷ b ∷ c ∷ [])
      (λ a b c. add_vector E (add_vector E (scale E (cross E a b) c) (scale E (cross E b c) a)) (scale E (cross E c a) b) ≐ᵥ zero_vector E) refl

  pub plucker_x : (a b c : Vector A) → cross R a b * c.x + cross R b c * a.x + cross R c a * b.x ≡ 𝟘
  plucker_x a b c = plane_identity L [] (a ∷ b ∷ c ∷ []) (λ a b c. cross E a b ⊗ c.x ⊕ cross E b c ⊗ a.x ⊕ cross E c a ⊗ b.x ≐ numeral 0) refl

  pub plucker_y : (a b c : Vector A) → cross R a b * c.y + cross R b c * a.y + cross R c a * b.y ≡ 𝟘
  plucker_y a b c = plane_identity L [] (a ∷ b ∷ c ∷ []) (λ a b c. cross E a b ⊗ c.y ⊕ cross E b c ⊗ a.y ⊕ cross E c a ⊗ b.y ≐ numeral 0) refl

  -- a middle vector as a combination of the outer ones
  pub middle_combination : (a b c : Vector A) → scale R (cross R a c) b ≡ add_vector R (scale R (cross R b c) a) (scale R (cross R a b) c)
  middle_combination a b c =
      vector_identity L [] (a ∷ b ∷ c ∷ []) (λ a b c. scale E (cross E a c) b ≐ᵥ add_vector E (scale E (cross E b c) a) (scale E (cross E a b) c)) refl

  -- the same, crossed with a fourth vector
  pub cross-cross_middle : (w a b c : Vector A) → cross R w b * cross R a c ≡ cross R w a * cross R b c + cross R w c * cross R a b
  cross-cross_middle w a b c =
      plane_identity L [] (w ∷ a ∷ b ∷ c ∷ []) (λ w a b c. cross E w b ⊗ cross E a c ≐ cross E w a ⊗ cross E b c ⊕ cross E w c ⊗ cross E a b) refl

  pub dot-cross_middle : (w a b c : Vector A) → dot R w b * cross R a c ≡ dot R w a * cross R b c + dot R w c * cross R a b
  dot-cross_middle w a b c =
      plane_identity L [] (w ∷ a ∷ b ∷ c ∷ []) (λ w a b c. dot E w b ⊗ cross E a c ≐ dot E w a ⊗ cross E b c ⊕ dot E w c ⊗ cross E a b) refl

  -- two cross products as dot products
  pub cross-mul-cross : (a b c e : Vector A) → cross R a b * cross R c e ≡ dot R a c * dot R b e - dot R a e * dot R b c
  cross-mul-cross a b c e =
      plane_identity L [] (a ∷ b ∷ c ∷ e ∷ []) (λ a b c e. cross E a b ⊗ cross E c e ≐ dot E a c ⊗ dot E b e ⊖ dot E a e ⊗ dot E b c) refl

  -- the cross and the dot product of two vectors from those with a third: as the sine and the cosine of a sum of angles
  pub norm-mul-cross : (a b c : Vector A) → norm R a * cross R b c ≡ dot R a b * cross R a c - cross R a b * dot R a c
  norm-mul-cross a b c =
      plane_identity L [] (a ∷ b ∷ c ∷ []) (λ a b c. norm E a ⊗ cross E b c ≐ dot E a b ⊗ cross E a c ⊖ cross E a b ⊗ dot E a c) refl

  pub norm-mul-dot : (a b c : Vector A) → norm R a * dot R b c ≡ dot R a b * dot R a c + cross R a b * cross R a c
  norm-mul-dot a b c =
      plane_identity L [] (a ∷ b ∷ c ∷ []) (λ a b c. norm E a ⊗ dot E b c ≐ dot E a b ⊗ dot E a c ⊕ cross E a b ⊗ cross E a c) refl

  -- ---- triangles

  pub twice_area-cross : (a b c : Vector A) → twice_area R a b c ≡ cross R a b + cross R b c + cross R c a
  twice_area-cross a b c = plane_identity L [] (a ∷ b ∷ c ∷ []) (λ a b c. twice_area E a b c ≐ cross E a b ⊕ cross E b c ⊕ cross E c a) refl

  pub twice_area-rotate : (a b c : Vector A) → twice_area R b c a ≡ twice_area R a b c
  twice_area-rotate a b c = plane_identity L [] (a ∷ b ∷ c ∷ []) (λ a b c. twice_area E b c a ≐ twice_area E a b c) refl

  pub twice_area-swap : (a b c : Vector A) → twice_area R a c b ≡ neg (twice_area R a b c)
  twice_area-swap a b c = plane_identity L [] (a ∷ b ∷ c ∷ []) (λ a b c. twice_area E a c b ≐ E.neg (twice_area E a b c)) refl

  pub twice_area-translate : (t a b c : Vector A)
      → twice_area R (add_vector R t a) (add_vector R t b) (add_vector R t c) ≡ twice_area R a b c
  twice_area-translate t a b c =
      plane_identity L [] (t ∷ a ∷ b ∷ c ∷ []) (λ t a b c. twice_area E (add_vector E t a) (add_vector E t b) (add_vector E t c) ≐ twice_area E a b c) refl

  -- a point cuts a triangle into three
  pub twice_area-split : (p a b c : Vector A) → twice_area R a b c ≡ twice_area R p a b + twice_area R p b c + twice_area R p c a
  twice_area-split p a b c =
      plane_identity L [] (p ∷ a ∷ b ∷ c ∷ []) (λ p a b c. twice_area E a b c ≐ twice_area E p a b ⊕ twice_area E p b c ⊕ twice_area E p c a) refl

  -- in a closed triangle each two sides in turn have one cross product
  pub cross_closed : (a b : Vector A) → cross R b (neg_vector R (add_vector R a b)) ≡ cross R a b
  cross_closed a b = plane_identity L [] (a ∷ b ∷ []) (λ a b. cross E b (neg_vector E (add_vector E a b)) ≐ cross E a b) refl

  pub circle_swap : (a b c g : Vector A) → circle R c g a b ≡ circle R a b c g
  circle_swap a b c g = plane_identity L [] (a ∷ b ∷ c ∷ g ∷ []) (λ a b c g. circle E c g a b ≐ circle E a b c g) refl
