-- The sides of a convex polygon by how a direction crosses them, in four runs: parallel ones, those that it enters by, parallel ones, those that it leaves by. And how far right of the direction the corners are. A library for crates to come.
use Rattle.std.proofs.Common.{◌≡◌, ◌≢◌, ◌⊎◌, Bool, ℕ, zero, suc, ◌+◌, ◌-◌, ◌<◌, ◌≤◌, [], ◌∷◌, refl, sym, ap, ◌∙◌, subst, inl, inr, arith}
use Rattle.fs_ring.specs.Operations.{Operations}
use Rattle.fs_ring.specs.OrderedRing.{IsOrderedRing}
use Rattle.fs_ring.specs.Vector.{Vector, zero_vector, neg_vector, cross}
use Rattle.fs_ring.specs.Direction.{IsAlong, InHalfPlane, at_start, inside}
use Rattle.fs_ring.proofs.Signs as signs
use Rattle.fs_ring.proofs.RingLaws as ring_laws
use Rattle.fs_ring.proofs.Plane as plane
use Rattle.fs_ring.proofs.Solver.{expressions as E, ◌≐◌}
use Rattle.fs_ring.proofs.PlaneSolver.{plane_identity, vector_identity, ◌≐ᵥ◌}
use Rattle.fs_convex.specs.Turning.{DecidesHalfPlanes}
use Rattle.fs_convex.specs.Polygon.{IsConvexPolygon}
use Rattle.fs_convex.proofs.Boundary as boundary
use Rattle.fs_convex.proofs.Chains as chains

-- ---- two runs of numbers

-- P holds of the first a of h numbers, and Q of the others, of which there are some
pub record IsTwoRuns (P Q : ℕ → Type 0) (h a : ℕ) : Type 0 where
  pub some_second : a < h
  pub first : (j : ℕ) → j < a → P j
  pub second : (j : ℕ) → a ≤ j → j < h → Q j

up_to : (j k : ℕ) → j < suc k → (j < k) ⊎ (k ≡ j)
up_to j k l = grind arith

two_runs_or_one : (P Q : ℕ → Type 0) (h : ℕ) → ((j : ℕ) → j < h → P j ⊎ Q j) → ((j : ℕ) → P j → Q j → ⊥) → ((i j : ℕ) → i ≤ j → j < h → P j → P i)
    → ((j : ℕ) → j < h → P j) ⊎ ((a : ℕ) × IsTwoRuns P Q h a)
two_runs_or_one P Q zero each apart closed = inl (λ j l. absurd (omega arith))
two_runs_or_one P Q (suc h) each apart closed =
    go (two_runs_or_one P Q h (λ j l. each j (omega arith)) apart (λ i j m l. closed i j m (omega arith))) (each h (omega arith))
  where
    go : ((j : ℕ) → j < h → P j) ⊎ ((a : ℕ) × IsTwoRuns P Q h a) → P h ⊎ Q h → ((j : ℕ) → j < suc h → P j) ⊎ ((a : ℕ) × IsTwoRuns P Q (suc h) a)
    go (inl all) (inl p) = inl (λ j l. elim (up_to j h l) [ inl m ↦ all j m | inr e ↦ subst P e p ])
    go (inl all) (inr q) = inr (h, record { some_second = omega arith; first = all; second = λ j l m. let e : h ≡ j = omega arith in subst Q e q })
    go (inr c) (inr q) =
        let some = c.1.some_second in
        inr (c.0, record { some_second = omega arith; first = c.1.first; second = λ j l m. elim (up_to j h m) [ inl n ↦ c.1.second j l n | inr e ↦ subst Q e q ] })
    go (inr c) (inl p) =
        let some = c.1.some_second in
        absurd (apart c.0 (closed c.0 h (omega arith) (omega arith) p) (c.1.second c.0 (omega arith) some))

-- of h numbers each has P or Q, not both, those before one with P have P, and the last one has Q
two_runs : (P Q : ℕ → Type 0) (h : ℕ) → 0 < h → ((j : ℕ) → j < h → P j ⊎ Q j) → ((j : ℕ) → P j → Q j → ⊥) → ((i j : ℕ) → i ≤ j → j < h → P j → P i)
    → Q (h - 1) → (a : ℕ) × IsTwoRuns P Q h a
two_runs P Q h some each apart closed last =
    elim (two_runs_or_one P Q h each apart closed) [ inl all ↦ absurd (apart (h - 1) (all (h - 1) (omega arith)) last) | inr c ↦ c ]

module _ {A : Type 0} (R : Operations A) (IsPositive : A → Type 0) where
  -- of n numbers from number r on the first a are 0, those from there up to h are above 0, those up to p are 0 again, and the others are below 0
  pub record IsFourRuns (w : ℕ → A) (n r a h p : ℕ) : Type 0 where
    pub some_positive : a < h
    pub in_order : h ≤ p
    pub some_negative : p < n
    pub first_zeros : (j : ℕ) → j < a → w (r + j) ≡ R.zero
    pub positive : (j : ℕ) → a ≤ j → j < h → IsPositive (w (r + j))
    pub second_zeros : (j : ℕ) → h ≤ j → j < p → w (r + j) ≡ R.zero
    pub negative : (j : ℕ) → p ≤ j → j < n → IsPositive (R.neg (w (r + j)))

module _ {A : Type 0} {R : Operations A} {IsPositive : A → Type 0} (L : IsOrderedRing R IsPositive) where
  open R use {add as ◌⊞◌, neg, zero as 𝟘}

  infixl 60 ◌⊞◌
  -- ---- the four runs of a polygon

  along_or_inside : {u x : Vector A} → InHalfPlane R IsPositive u x → IsAlong R IsPositive u x ⊎ IsPositive (cross R u x)
  along_or_inside (at_start along) = inl along
  along_or_inside (inside left) = inr left

  not_along_and_inside : {u x : Vector A} → IsAlong R IsPositive u x → IsPositive (cross R u x) → ⊥
  not_along_and_inside a p = signs.positive-ne-zero L p a.parallel

  module _ {is_ahead : Vector A → Vector A → Bool} (test : DecidesHalfPlanes R IsPositive is_ahead) where
    -- seen from a direction, the sides of a polygon are four such runs of numbers
    pub four_runs : {n : ℕ} {s q : ℕ → Vector A} {v : Vector A} → IsConvexPolygon R IsPositive is_ahead n s q → v ≢ zero_vector R
        → (r a h p : ℕ) × IsFourRuns R IsPositive (λ j. cross R (s j) v) n r a h p
    four_runs {n} {s} {q} {v} polygon some =
        let u = neg_vector R v in
        let u-ne-zero : u ≢ zero_vector R = λ e. some (sym (plane.neg_vector-neg L.ring v) ∙ ap (neg_vector R) e ∙ neg_zero) in
        let two = chains.two_chains L test u-ne-zero polygon.convex n polygon.repeats (boundary.turning_number_of_any L test polygon u-ne-zero) in
        let r = two.0 in
        let h = two.1 in
        let c = two.2 in
        let some_ahead = c.some_ahead in
        let some_back = c.some_back in
        let first = two_runs (λ j. IsAlong R IsPositive u (s (r + j))) (λ j. IsPositive (cross R u (s (r + j)))) h some_ahead (λ j l. along_or_inside (c.ahead j l)) (λ j. not_along_and_inside)
        (chains.first_chain_along L test polygon.convex c) (chains.first_chain_ends_left L test polygon.convex c) in
        let last : h + (n - h - 1) ≡ n - 1 = omega arith in
        let second = two_runs (λ j. IsAlong R IsPositive (neg_vector R u) (s (r + (h + j)))) (λ j. IsPositive (cross R (neg_vector R u) (s (r + (h + j))))) (n - h) (omega arith)
        (λ j l. along_or_inside (c.back (h + j) (omega arith) (omega arith))) (λ j. not_along_and_inside)
        (λ i j l m. chains.second_chain_along L test polygon.convex c (h + i) (h + j) (omega arith) (omega arith) (omega arith))
        (subst (λ (k : ℕ). IsPositive (cross R (neg_vector R u) (s (r + k)))) (sym last) (chains.second_chain_ends_right L test polygon.convex c polygon.repeats)) in
        let first_some = first.1.some_second in
        let second_some = second.1.some_second in
        let back : (j : ℕ) → h ≤ j → h + (j - h) ≡ j = λ j l. omega arith in (
          r,
          first.0,
          h,
          h + second.0,
          record {
            some_positive = first_some;
            in_order = omega arith;
            some_negative = omega arith;
            first_zeros = λ j l. zero_of_along (first.1.first j l).parallel;
            positive = λ j l m. signs.positive_of_eq L (plane_identity L.ring [] (s (r + j) ∷ v ∷ []) (λ x v. cross E x v ≐ cross E (neg_vector E v) x) refl) (first.1.second j l m);
            second_zeros = λ j l m.
                subst (λ (k : ℕ). cross R (s (r + k)) v ≡ 𝟘) (back j l) (zero_of_along_back (second.1.first (j - h) (omega arith)).parallel);
            negative = λ j l m.
                subst (λ (k : ℕ). IsPositive (neg (cross R (s (r + k)) v))) (back j (omega arith))
                (signs.positive_of_eq L (plane_identity L.ring [] (s (r + (h + (j - h))) ∷ v ∷ []) (λ x v. E.neg (cross E x v) ≐ cross E (neg_vector E (neg_vector E v)) x) refl)
                (second.1.second (j - h) (omega arith) (omega arith)));
          },
        )
      where
        neg_zero : neg_vector R (zero_vector R) ≡ zero_vector R
        neg_zero = vector_identity L.ring [] [] (neg_vector E (zero_vector E) ≐ᵥ zero_vector E) refl

        zero_of_along : {x : Vector A} → cross R (neg_vector R v) x ≡ 𝟘 → cross R x v ≡ 𝟘
        zero_of_along {x} e = plane_identity L.ring [] (x ∷ v ∷ []) (λ x v. cross E x v ≐ cross E (neg_vector E v) x) refl ∙ e

        zero_of_along_back : {x : Vector A} → cross R (neg_vector R (neg_vector R v)) x ≡ 𝟘 → cross R x v ≡ 𝟘
        zero_of_along_back {x} e = plane_identity L.ring [] (x ∷ v ∷ []) (λ x v. cross E x v ≐ E.neg (cross E (neg_vector E (neg_vector E v)) x)) refl ∙ ap neg e ∙ ring_laws.neg_zero L.ring
