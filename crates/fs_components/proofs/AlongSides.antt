-- Whether a vector that is parallel to a direction is along it, by the signs of its coordinates.
use Rattle.std.proofs.Common.{◌≡◌, ◌≢◌, ◌⊎◌, ◌↔◌, ℕ, Bool, true, false, IsTrue, inl, inr, refl, sym, ap, ◌∙◌, subst}
use Rattle.std.specs.Prelude.{◌==◌}
use Rattle.std.specs.Ordering.{ordering_index}
use Rattle.std.specs.declared.cmp.Ordering.{Ordering}
use Rattle.std.specs.declared.cmp.Ordering.TheVariants.{Less, Equal, Greater}
use Rattle.fs_ring.specs.Direction.{IsAlong}
use Rattle.fs_ring.specs.Operations.{Operations}
use Rattle.fs_ring.specs.OrderedRing.{IsOrderedRing, positive, null, negative}
use Rattle.fs_ring.specs.Vector.{Vector, zero_vector, cross, dot}
use Rattle.fs_ring.proofs.Directions.{parallel_comm, norm_positive}
use Rattle.fs_ring.proofs.AxisSigns.{along_x, along_y, along_norm}
use Rattle.fs_ring.proofs.PlaneSolver.{vector_eq}
use Rattle.fs_ring.proofs.RingLaws as ring
use Rattle.fs_ring.proofs.Signs as signs
use Rattle.fs_quadratic.specs.Radicand.{IsRadicand, IsNoSquare}
use Rattle.fs_quadratic.specs.Ring as quadratics
use Rattle.fs_quadratic.specs.Ring.{Quadratic, quadratic, sign}
use Rattle.fs_quadratic.proofs.Laws.{field_order}
use Rattle.fs_quadratic.proofs.SquareRoot.{radicand_no_square}
use Rattle.fs_quadratic.proofs.Signs.{sign-positive, sign-zero, sign-negative, positive_of_sign, zero_of_sign, negative_of_sign}
use Rattle.fs_plane.specs.Vector.{PlaneVector, vector_zero, norm}

module _ {A : Type 0} {R : Operations A} {IsPositive : A → Type 0} (L : IsOrderedRing R IsPositive) where
  open R use {add as ◌+◌, mul as ◌*◌, neg, zero as 𝟘}

  infixl 60 ◌+◌
  infixl 70 ◌*◌
  -- both are above zero, both are zero, or both are below
  data HaveSameSign (x y : A) : Type 0 where
    above : IsPositive x → IsPositive y → HaveSameSign x y
    zeros : x ≡ 𝟘 → y ≡ 𝟘 → HaveSameSign x y
    below : IsPositive (neg x) → IsPositive (neg y) → HaveSameSign x y

  -- multiples of one number by positive factors have its sign
  same_by_factors : (m n x y : A) → IsPositive m → IsPositive n → n * x ≡ m * y → HaveSameSign x y
  same_by_factors m n x y p q e = elim (L.trichotomy x) [
    | positive h ↦ above h (signs.positive_of_mul_left L p (subst IsPositive e (L.mul_positive q h)))
    | null h ↦ zeros h (signs.zero_of_mul_left L (signs.positive-ne-zero L p) (sym e ∙ ap (λ z. n * z) h ∙ ring.mul_zero L.ring n))
    | negative h ↦ below h (signs.negative_of_mul_left L p (subst (λ z. IsPositive (neg z)) e (signs.mul_positive_negative L q h)))
  ]

  -- the product of two numbers of one sign is above zero, or both are zero
  product_of_same : (x y : A) → HaveSameSign x y → IsPositive (y * x) ⊎ ((y ≡ 𝟘) × (y * x ≡ 𝟘))
  product_of_same x y (above p q) = inl (L.mul_positive q p)
  product_of_same x y (zeros e f) = inr (f, ap (λ z. y * z) e ∙ ring.mul_zero L.ring y)
  product_of_same x y (below p q) = inl (signs.mul_negative_negative L q p)

  along_same : (v a : Vector A) → IsAlong R IsPositive v a → HaveSameSign a.x v.x × HaveSameSign a.y v.y
  along_same v a h = (
    same_by_factors (dot R v a) (dot R v v) a.x v.x h.same_way (along_norm L v a h) (along_x L v a h),
    same_by_factors (dot R v a) (dot R v v) a.y v.y h.same_way (along_norm L v a h) (along_y L v a h),
  )

  same_along : (v a : Vector A) → v ≢ zero_vector R → cross R v a ≡ 𝟘 → HaveSameSign a.x v.x → HaveSameSign a.y v.y → IsAlong R IsPositive v a
  same_along v a some parallel x y = record { parallel = parallel; same_way = way (product_of_same a.x v.x x) (product_of_same a.y v.y y) }
    where
      way : IsPositive (v.x * a.x) ⊎ ((v.x ≡ 𝟘) × (v.x * a.x ≡ 𝟘)) → IsPositive (v.y * a.y) ⊎ ((v.y ≡ 𝟘) × (v.y * a.y ≡ 𝟘)) → IsPositive (dot R v a)
      way (inl p) (inl q) = L.add_positive p q
      way (inl p) (inr q) = signs.add_positive_non_negative L p (signs.non_negative_of_zero L q.1)
      way (inr p) (inl q) = signs.add_non_negative_positive L (signs.non_negative_of_zero L p.1) q
      way (inr p) (inr q) = absurd (some (vector_eq p.0 q.0))

module _ {d : ℕ} (radicand : IsRadicand d) where
  L : IsOrderedRing (quadratic d) (quadratics.IsPositive d)
  L = field_order radicand

  no_square : IsNoSquare d
  no_square = radicand_no_square radicand

  signs_equal : (x y : Quadratic) → HaveSameSign L x y → sign d x ≡ sign d y
  signs_equal x y (above p q) = sign-positive d x p ∙ sym (sign-positive d y q)
  signs_equal x y (zeros p q) = sign-zero d x p ∙ sym (sign-zero d y q)
  signs_equal x y (below p q) = sign-negative d x p ∙ sym (sign-negative d y q)

  signs_same : (x y : Quadratic) → sign d x ≡ sign d y → HaveSameSign L x y
  signs_same x y e = elim (L.trichotomy x) [
    | positive h ↦ above h (positive_of_sign no_square y (sym e ∙ sign-positive d x h))
    | null h ↦ zeros h (zero_of_sign no_square y (sym e ∙ sign-zero d x h))
    | negative h ↦ below h (negative_of_sign no_square y (sym e ∙ sign-negative d x h))
  ]

  -- a vector that is parallel to the direction is along it where their coordinates have the same signs
  along_by_signs : (v a : PlaneVector) → v ≢ vector_zero → cross (quadratic d) a v ≡ quadratics.zero → sign d a.x ≡ sign d v.x → sign d a.y ≡ sign d v.y → IsAlong (quadratic d) (quadratics.IsPositive d) v a
  along_by_signs v a some parallel x y = same_along L v a some (parallel_comm L a v parallel) (signs_same a.x v.x x) (signs_same a.y v.y y)

  -- and of a vector along the direction they do
  signs_of_along : (v a : PlaneVector) → IsAlong (quadratic d) (quadratics.IsPositive d) v a → (cross (quadratic d) a v ≡ quadratics.zero) × (sign d a.x ≡ sign d v.x) × (sign d a.y ≡ sign d v.y)
  signs_of_along v a h =
      let same = along_same L v a h in
      (parallel_comm L v a h.parallel, signs_equal a.x v.x same.0, signs_equal a.y v.y same.1)

  -- the squared length of a direction isn't 0
  pub norm-ne-zero : (v : PlaneVector) → v ≢ vector_zero → norm d v ≢ quadratics.zero
  norm-ne-zero v some = signs.positive-ne-zero L (norm_positive L v some)

-- ---- tests

same_ordering : (a b : Ordering) → (ordering_index a == ordering_index b) ≡ true → a ≡ b
same_ordering Less Less e = refl
same_ordering Less Equal e = absurd cc
same_ordering Less Greater e = absurd cc
same_ordering Equal Less e = absurd cc
same_ordering Equal Equal e = refl
same_ordering Equal Greater e = absurd cc
same_ordering Greater Less e = absurd cc
same_ordering Greater Equal e = absurd cc
same_ordering Greater Greater e = refl

index_same : (a : Ordering) → (ordering_index a == ordering_index a) ≡ true
index_same Less = refl
index_same Equal = refl
index_same Greater = refl

-- the test whether two signs are equal
pub equal_signs : (d : ℕ) (x y : Quadratic) (a b : Ordering) (test : Bool) → a ≡ sign d x → b ≡ sign d y → test ≡ (ordering_index a == ordering_index b) → IsTrue test ↔ (sign d x ≡ sign d y)
equal_signs d x y a b test is it t = (
  λ h. sym is ∙ same_ordering a b (sym t ∙ h) ∙ it,
  λ e. t ∙ ap (λ r. ordering_index r == ordering_index b) (is ∙ e ∙ sym it) ∙ index_same b,
)

-- whether a parallel vector is along the direction, by the test of the signs
pub along_parallel : {d : ℕ} (radicand : IsRadicand d) (v a : PlaneVector) → v ≢ vector_zero → cross (quadratic d) a v ≡ quadratics.zero → (test : Bool)
    → IsTrue test ↔ ((sign d a.x ≡ sign d v.x) × (sign d a.y ≡ sign d v.y)) → IsTrue test ↔ IsAlong (quadratic d) (quadratics.IsPositive d) v a
along_parallel radicand v a some parallel test t = (
  λ h. let both = t.0 h in along_by_signs radicand v a some parallel both.0 both.1,
  λ h. let both = signs_of_along radicand v a h in t.1 (both.1, both.2),
)

-- any other one isn't
pub along_across : {d : ℕ} (radicand : IsRadicand d) (v a : PlaneVector) (test : Bool) → test ≡ false → IsTrue test ↔ (cross (quadratic d) a v ≡ quadratics.zero) → IsTrue test ↔ IsAlong (quadratic d) (quadratics.IsPositive d) v a
along_across radicand v a test fails t = (λ h. let e = sym h ∙ fails in absurd cc, λ h. t.1 (signs_of_along radicand v a h).0)
