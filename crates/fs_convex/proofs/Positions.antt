-- How far the corners of a path are left of a line, from the directions of its sides. A library for crates to come.
use Rattle.std.proofs.Common.{◌≡◌, ℕ, zero, suc, ◌+◌, ◌<◌, ◌≤◌, ◌⊎◌, [], ◌∷◌, refl, sym, ap, ◌∙◌, subst, inl, inr, arith, add-zero, add-suc}
use Rattle.fs_ring.specs.Operations.{Operations}
use Rattle.fs_ring.specs.OrderedRing.{IsOrderedRing, IsNonNegative}
use Rattle.fs_ring.specs.Vector.{Vector, add_vector, sub_vector, cross, dot}
use Rattle.fs_ring.proofs.Signs as signs
use Rattle.fs_ring.proofs.Solver.{expressions as E, numeral, ◌⊕◌, ◌≐◌}
use Rattle.fs_ring.proofs.PlaneSolver.{plane_identity}
use Rattle.fs_convex.specs.Polygon.{HasSides}

-- P holds of the k numbers from a on
abbrev pub HoldsFrom : (ℕ → Type 0) → ℕ → ℕ → Type 0
HoldsFrom P a k = (j : ℕ) → a ≤ j → j < a + k → P j

-- what holds of k + 1 numbers from a on holds of the first k
pub from_fewer : (P : ℕ → Type 0) (a k : ℕ) → HoldsFrom P a (suc k) → HoldsFrom P a k
from_fewer P a k h j l m = h j l (omega arith)

-- what holds of k + 1 numbers from a on holds of the last
pub from_last : (P : ℕ → Type 0) (a k : ℕ) → HoldsFrom P a (suc k) → P (a + k)
from_last P a k h = h (a + k) (omega arith) (omega arith)

-- what holds of k numbers from a on, and of the next, holds of k + 1
pub from_more : (P : ℕ → Type 0) (a k : ℕ) → HoldsFrom P a k → P (a + k) → HoldsFrom P a (suc k)
from_more P a k h last j l m = go (split j (a + k) (omega arith))
  where
    split : (j b : ℕ) → j < suc b → (j < b) ⊎ (j ≡ b)
    split j b l = grind arith

    go : (j < a + k) ⊎ (j ≡ a + k) → P j
    go (inl n) = h j l n
    go (inr e) = subst P (sym e) last

module _ {A : Type 0} {R : Operations A} {IsPositive : A → Type 0} (L : IsOrderedRing R IsPositive) where
  open R use {add as ◌⊞◌, zero as 𝟘}

  infixl 60 ◌⊞◌
  -- the way from a point to itself has no part left of v
  pub cross_to_same : {a b : Vector A} (v : Vector A) → a ≡ b → cross R v (sub_vector R a b) ≡ 𝟘
  cross_to_same {a} {b} v e =
      ap (λ w. cross R v (sub_vector R w b)) e ∙ plane_identity L.ring [] (v ∷ b ∷ []) (λ v b. cross E v (sub_vector E b b) ≐ numeral 0) refl

  -- and no part along v
  pub dot_to_same : {a b : Vector A} (v : Vector A) → a ≡ b → dot R v (sub_vector R a b) ≡ 𝟘
  dot_to_same {a} {b} v e =
      ap (λ w. dot R v (sub_vector R w b)) e ∙ plane_identity L.ring [] (v ∷ b ∷ []) (λ v b. dot E v (sub_vector E b b) ≐ numeral 0) refl

  module _ {q s : ℕ → Vector A} (sides : HasSides R q s) where
    -- one side more
    cross_step : (v : Vector A) (a k : ℕ) → cross R v (sub_vector R (q (a + suc k)) (q a)) ≡ cross R v (sub_vector R (q (a + k)) (q a)) ⊞ cross R v (s (a + k))
    cross_step v a k =
        ap (λ w. cross R v (sub_vector R w (q a))) (ap q (add-suc a k) ∙ sides (a + k))
        ∙ plane_identity L.ring [] (v ∷ q a ∷ q (a + k) ∷ s (a + k) ∷ []) (λ v a b s. cross E v (sub_vector E (add_vector E b s) a) ≐ cross E v (sub_vector E b a) ⊕ cross E v s) refl

    dot_step : (v : Vector A) (a k : ℕ) → dot R v (sub_vector R (q (a + suc k)) (q a)) ≡ dot R v (sub_vector R (q (a + k)) (q a)) ⊞ dot R v (s (a + k))
    dot_step v a k =
        ap (λ w. dot R v (sub_vector R w (q a))) (ap q (add-suc a k) ∙ sides (a + k))
        ∙ plane_identity L.ring [] (v ∷ q a ∷ q (a + k) ∷ s (a + k) ∷ []) (λ v a b s. dot E v (sub_vector E (add_vector E b s) a) ≐ dot E v (sub_vector E b a) ⊕ dot E v s) refl

    cross_none : (v : Vector A) (a : ℕ) → cross R v (sub_vector R (q (a + 0)) (q a)) ≡ 𝟘
    cross_none v a = cross_to_same v (ap q (add-zero a))

    dot_none : (v : Vector A) (a : ℕ) → dot R v (sub_vector R (q (a + 0)) (q a)) ≡ 𝟘
    dot_none v a = dot_to_same v (ap q (add-zero a))

    -- where no side points right of v, no corner is further right than an earlier one
    pub never_right : (v : Vector A) (a k : ℕ) → HoldsFrom (λ j. IsNonNegative R IsPositive (cross R v (s j))) a k
        → IsNonNegative R IsPositive (cross R v (sub_vector R (q (a + k)) (q a)))
    never_right v a zero h = signs.non_negative_of_zero L (cross_none v a)
    never_right v a (suc k) h =
        subst (IsNonNegative R IsPositive) (sym (cross_step v a k))
        (signs.add_non_negative L (never_right v a k (from_fewer _ a k h)) (from_last (λ j. IsNonNegative R IsPositive (cross R v (s j))) a k h))

    -- where the last corner is no further left than the first, each side is parallel to v
    pub all_parallel : (v : Vector A) (a k : ℕ) → HoldsFrom (λ j. IsNonNegative R IsPositive (cross R v (s j))) a k
        → cross R v (sub_vector R (q (a + k)) (q a)) ≡ 𝟘 → HoldsFrom (λ j. cross R v (s j) ≡ 𝟘) a k
    all_parallel v a zero h e = λ j l m. absurd (let n = add-zero a in omega arith)
    all_parallel v a (suc k) h e =
        let before : HoldsFrom (λ j. IsNonNegative R IsPositive (cross R v (s j))) a k = from_fewer (λ j. IsNonNegative R IsPositive (cross R v (s j))) a k h in
        let both = signs.both_zero L (never_right v a k before) (from_last (λ j. IsNonNegative R IsPositive (cross R v (s j))) a k h) (sym (cross_step v a k) ∙ e) in
        from_more (λ j. cross R v (s j) ≡ 𝟘) a k (all_parallel v a k before both.0) both.1

    -- where some side points left of v and none right, the last corner is further left than the first
    pub further_left : (v : Vector A) (a k i : ℕ) → HoldsFrom (λ j. IsNonNegative R IsPositive (cross R v (s j))) a k
        → a ≤ i → i < a + k → IsPositive (cross R v (s i)) → IsPositive (cross R v (sub_vector R (q (a + k)) (q a)))
    further_left v a k i h l m p =
        elim (signs.non_negative_cases L _ (never_right v a k h)) [ inl r ↦ r | inr e ↦ absurd (signs.positive-ne-zero L p (all_parallel v a k h e i l m)) ]

    -- sides that are parallel to v lead along its line
    pub stays_parallel : (v : Vector A) (a k : ℕ) → HoldsFrom (λ j. cross R v (s j) ≡ 𝟘) a k → cross R v (sub_vector R (q (a + k)) (q a)) ≡ 𝟘
    stays_parallel v a zero h = cross_none v a
    stays_parallel v a (suc k) h =
        cross_step v a k
        ∙ (λ i. stays_parallel v a k (from_fewer (λ j. cross R v (s j) ≡ 𝟘) a k h) i ⊞ from_last (λ j. cross R v (s j) ≡ 𝟘) a k h i)
        ∙ L.add_zero 𝟘

    further_or_same : (v : Vector A) (a k : ℕ) → HoldsFrom (λ j. IsPositive (dot R v (s j))) a k → IsNonNegative R IsPositive (dot R v (sub_vector R (q (a + k)) (q a)))
    further_or_same v a zero h = signs.non_negative_of_zero L (dot_none v a)
    further_or_same v a (suc k) h =
        subst (IsNonNegative R IsPositive) (sym (dot_step v a k))
        (signs.add_non_negative L (further_or_same v a k (from_fewer (λ j. IsPositive (dot R v (s j))) a k h))
        (signs.non_negative_of_positive L (from_last (λ j. IsPositive (dot R v (s j))) a k h)))

    -- sides that make acute angles with v lead further along v
    pub further_along : (v : Vector A) (a k : ℕ) → HoldsFrom (λ j. IsPositive (dot R v (s j))) a k → 0 < k → IsPositive (dot R v (sub_vector R (q (a + k)) (q a)))
    further_along v a zero h l = absurd (omega arith)
    further_along v a (suc k) h l =
        signs.positive_of_eq L (dot_step v a k)
        (signs.add_non_negative_positive L (further_or_same v a k (from_fewer (λ j. IsPositive (dot R v (s j))) a k h)) (from_last (λ j. IsPositive (dot R v (s j))) a k h))
