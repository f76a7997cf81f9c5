-- The numbers p + q·√d are an ordered ring, for every d that isn't a square.
use Rattle.std.proofs.Common.{◌≡◌, ℕ, zero, suc, ℤ, pos, ◌*ℤ◌, [], ◌∷◌, refl, sym, ap, inl, inr, arith}
use Rattle.std.proofs.lemmas.Int.{ints, by_lt_z}
use Rattle.fs_ring.specs.Operations.{Operations}
use Rattle.fs_ring.specs.CommutativeRing.{IsCommutativeRing}
use Rattle.fs_ring.specs.OrderedRing.{IsOrderedRing, Sign, positive, null, negative}
use Rattle.fs_ring.specs.Vector.{Vector}
use Rattle.fs_ring.specs.Integers.{integers, IsPositiveInteger}
use Rattle.fs_ring.proofs.RingLaws as ring
use Rattle.fs_ring.proofs.Signs as signs
use Rattle.fs_ring.proofs.Integers.{integer_ring, integer_order, less-is, non_negative-is}
use Rattle.fs_ring.proofs.Solver.{expressions as E, numeral}
use Rattle.fs_ring.proofs.PlaneSolver.{vector_identity, ◌≐ᵥ◌}
use Rattle.fs_quadratic.specs.Radicand.{IsRadicand, IsNoSquare}
use Rattle.fs_quadratic.specs.Ring.{Quadratic, zero as nil, rational_part, r_part, mul, quadratic, IsPositive, both, by_p, by_q}
use Rattle.fs_quadratic.proofs.NormForm as form
use Rattle.fs_quadratic.proofs.NormForm.{norm_form, IsAbove, p_leads, q_leads}
use Rattle.fs_quadratic.proofs.SquareRoot.{irrational, radicand_no_square}

pub quadratic_eq : {x y : Quadratic} → x.p ≡ y.p → x.q ≡ y.q → x ≡ y
quadratic_eq e f = λ i. record { p = e i; q = f i }

-- the product by its parts
pub mul-is : (d : ℕ) (x y : Quadratic) → mul d x y ≡ record { p = rational_part d x y; q = r_part x y }
unfolding mul
mul-is d x y = refl

-- ---- the laws of the product, over pairs of elements of any ring

abbrev product : {A : Type 0} → Operations A → A → Vector A → Vector A → Vector A
product R c a b = record { x = R.add (R.mul a.x b.x) (R.mul c (R.mul a.y b.y)); y = R.add (R.mul a.x b.y) (R.mul a.y b.x) }

abbrev pair : Quadratic → Vector ℤ
pair x = record { x = x.p; y = x.q }

abbrev number : Vector ℤ → Quadratic
number v = record { p = v.x; q = v.y }

pub quadratic_ring : (d : ℕ) → IsCommutativeRing (quadratic d)
unfolding mul
quadratic_ring d = record {
  add_assoc = λ x y z. quadratic_eq (integer_ring.add_assoc x.p y.p z.p) (integer_ring.add_assoc x.q y.q z.q);
  add_comm = λ x y. quadratic_eq (integer_ring.add_comm x.p y.p) (integer_ring.add_comm x.q y.q);
  add_zero = λ x. quadratic_eq (integer_ring.add_zero x.p) (integer_ring.add_zero x.q);
  add_neg = λ x. quadratic_eq (integer_ring.add_neg x.p) (integer_ring.add_neg x.q);
  mul_assoc = λ x y z. ap number (vector_identity integer_ring (pos d ∷ []) (pair x ∷ pair y ∷ pair z ∷ []) (λ c a b e. product E c (product E c a b) e ≐ᵥ product E c a (product E c b e)) refl);
  mul_comm = λ x y. ap number (vector_identity integer_ring (pos d ∷ []) (pair x ∷ pair y ∷ []) (λ c a b. product E c a b ≐ᵥ product E c b a) refl);
  mul_one = λ x. ap number (vector_identity integer_ring (pos d ∷ []) (pair x ∷ []) (λ c a. product E c a (record { x = numeral 1; y = numeral 0 }) ≐ᵥ a) refl);
  mul_add = λ x y z. ap number (vector_identity integer_ring (pos d ∷ []) (pair x ∷ pair y ∷ pair z ∷ [])
      (λ c a b e. product E c a (record { x = E.add b.x e.x; y = E.add b.y e.y }) ≐ᵥ (let l = product E c a b in let r = product E c a e in record { x = E.add l.x r.x; y = E.add l.y r.y })) refl);
}

-- ---- the order

-- a number that isn't a square is above 0
positive_radicand : {d : ℕ} → IsNoSquare d → IsPositiveInteger (pos d)
positive_radicand {d = zero} no_square = absurd (no_square 0 refl)
positive_radicand {d = suc d} no_square = omega (arith, ints)

above_of_positive : {d : ℕ} {x : Quadratic} → IsNoSquare d → IsPositive d x → IsAbove integers (pos d) IsPositiveInteger x.p x.q
above_of_positive {d} {x} no_square (both hp hq n) =
    form.above_of_non_negative integer_order (pos d) (positive_radicand no_square) (irrational no_square) x.p x.q ((non_negative-is x.p).0 hp) ((non_negative-is x.q).0 hq) n
above_of_positive {d} {x} no_square (by_p hp hq h) = p_leads ((less-is (pos d *ℤ (x.q *ℤ x.q)) (x.p *ℤ x.p)).0 h) hp
above_of_positive {d} {x} no_square (by_q hp hq h) =
    q_leads (signs.positive_of_eq integer_order (ring.neg-sub integer_ring (x.p *ℤ x.p) (pos d *ℤ (x.q *ℤ x.q))) ((less-is (x.p *ℤ x.p) (pos d *ℤ (x.q *ℤ x.q))).0 h)) hq

positive_of_above : {d : ℕ} {x : Quadratic} → IsAbove integers (pos d) IsPositiveInteger x.p x.q → IsPositive d x
positive_of_above {d} {x} (p_leads f h) =
    by_lt_z x.q (pos 0)
    (λ k. by_p h k ((less-is (pos d *ℤ (x.q *ℤ x.q)) (x.p *ℤ x.p)).1 f))
    (λ k. both (omega (arith, ints)) k (λ zeros. signs.positive-ne-zero integer_order h zeros.0))
positive_of_above {d} {x} (q_leads f h) =
    by_lt_z x.p (pos 0)
    (λ k. by_q k h ((less-is (x.p *ℤ x.p) (pos d *ℤ (x.q *ℤ x.q))).1 (signs.positive_of_eq integer_order (sym (ring.neg-sub integer_ring (x.p *ℤ x.p) (pos d *ℤ (x.q *ℤ x.q)))) f)))
    (λ k. both k (omega (arith, ints)) (λ zeros. signs.positive-ne-zero integer_order h zeros.1))

quadratic_sign : {d : ℕ} → IsNoSquare d → (x : Quadratic) → Sign (quadratic d) (IsPositive d) x
quadratic_sign {d} no_square x =
    elim (form.above_cases integer_order (pos d) (positive_radicand no_square) (irrational no_square) x.p x.q) [
      | inl h ↦ positive (positive_of_above h)
      | inr c ↦ elim c [ inl zeros ↦ null (quadratic_eq zeros.0 zeros.1) | inr h ↦ negative (positive_of_above h) ]
    ]

-- p + q·√d is an ordered ring where d isn't a square
pub quadratic_order : {d : ℕ} → IsNoSquare d → IsOrderedRing (quadratic d) (IsPositive d)
unfolding mul
quadratic_order {d} no_square = record {
  ring = quadratic_ring d;
  one_positive = both (omega (arith, ints)) (omega (arith, ints)) (λ zeros. signs.positive-ne-zero integer_order integer_order.one_positive zeros.0);
  zero_not_positive = λ h. form.not_above_zero integer_order (pos d) (positive_radicand no_square) (above_of_positive no_square h);
  add_positive = λ h k. positive_of_above (form.above_add integer_order (pos d) (positive_radicand no_square) (irrational no_square) (above_of_positive no_square h) (above_of_positive no_square k));
  mul_positive = λ h k. positive_of_above (form.above_mul integer_order (pos d) (positive_radicand no_square) (above_of_positive no_square h) (above_of_positive no_square k));
  trichotomy = quadratic_sign no_square;
}

-- the numbers of each field are an ordered ring
pub field_order : {d : ℕ} → IsRadicand d → IsOrderedRing (quadratic d) (IsPositive d)
field_order h = quadratic_order (radicand_no_square h)

-- p² = d·q² only at zero: √d is no fraction
pub zero_of_squares : {d : ℕ} → IsNoSquare d → (x : Quadratic) → x.p *ℤ x.p ≡ pos d *ℤ (x.q *ℤ x.q) → x ≡ nil
zero_of_squares {d} no_square x e =
    let zeros = form.zero_of_norm_form-zero integer_order (pos d) (positive_radicand no_square) (irrational no_square) x.p x.q (ring.sub-zero_of_eq integer_ring (x.p *ℤ x.p) (pos d *ℤ (x.q *ℤ x.q)) e) in
    quadratic_eq zeros.0 zeros.1
