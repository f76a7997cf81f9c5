-- The boundary of a convex polygon: where it begins doesn't matter, and each direction is passed once. A library for crates to come.
use Rattle.std.proofs.Common.{◌≡◌, ◌≢◌, ℕ, zero, suc, ◌+◌, ◌*◌, ◌/◌, ◌%◌, ◌<◌, Bool, refl, sym, ap, ◌∙◌, subst, arith, add-zero, add-suc, zero-add, zero-mul, suc-mul, div-add-mod', mod-lt}
use Rattle.fs_ring.specs.Operations.{Operations}
use Rattle.fs_ring.specs.OrderedRing.{IsOrderedRing}
use Rattle.fs_ring.specs.Vector.{Vector, zero_vector, unit_vector, add_vector}
use Rattle.fs_ring.specs.Direction.{InHalfPlane}
use Rattle.fs_ring.proofs.Signs as signs
use Rattle.fs_convex.specs.Turning.{DecidesHalfPlanes, is_rise, rises, IsRiseAt}
use Rattle.fs_convex.specs.Polygon.{position, HasSides, IsConvexPolygon}
use Rattle.fs_convex.proofs.Counts.{count_below-agree, count_below-shift}
use Rattle.fs_convex.proofs.Winding as winding

module _ {A : Type 0} (R : Operations A) where
  -- the sides lead from each position to the next, where the positions are computed from them
  pub position_sides : (p : Vector A) (s : ℕ → Vector A) → HasSides R (position R p s) s
  position_sides p s j = refl

  -- the rises of a boundary that repeats, from wherever it begins
  pub rises-shift : (is_ahead : Vector A → Vector A → Bool) (v : Vector A) (s : ℕ → Vector A) (n a : ℕ) → ((j : ℕ) → s (n + j) ≡ s j)
      → rises R is_ahead v (λ j. s (a + j)) n ≡ rises R is_ahead v s n
  rises-shift is_ahead v s n a h =
      count_below-agree _ _ n (λ j l. ap (λ (m : ℕ). is_rise R is_ahead v (s (a + j)) (s m)) (add-suc a j))
      ∙ count_below-shift (λ j. is_rise R is_ahead v (s j) (s (suc j))) n a
      (λ j. λ i. is_rise R is_ahead v (h j i) ((ap s (sym (add-suc n j)) ∙ h (suc j)) i))

module _ {A : Type 0} {R : Operations A} {IsPositive : A → Type 0} (L : IsOrderedRing R IsPositive)
    {is_ahead : Vector A → Vector A → Bool} (test : DecidesHalfPlanes R IsPositive is_ahead) where
  abbrev Polygon : ℕ → (ℕ → Vector A) → (ℕ → Vector A) → Type 0
  Polygon n s q = IsConvexPolygon R IsPositive is_ahead n s q

  unit-ne-zero : unit_vector R ≢ zero_vector R
  unit-ne-zero e = signs.positive-ne-zero L L.one_positive (ap (λ v. v.x) e)

  module _ {n : ℕ} {s q : ℕ → Vector A} (p : Polygon n s q) where
    -- a polygon has sides
    pub some_side : 0 < n
    some_side = go n p.turning_number
      where
        go : (n : ℕ) → rises R is_ahead (unit_vector R) s n ≡ 1 → 0 < n
        go zero e = absurd (omega arith)
        go (suc n) e = omega arith

    -- after its last side the first one comes again
    pub sides_return : s n ≡ s 0
    sides_return = ap s (sym (add-zero n)) ∙ p.repeats 0

    -- the positions come again after n
    pub positions_repeat : (j : ℕ) → q (n + j) ≡ q j
    positions_repeat zero = ap q (add-zero n) ∙ p.closed
    positions_repeat (suc j) =
        ap q (add-suc n j) ∙ p.sides (n + j) ∙ (λ i. add_vector R (positions_repeat j i) (p.repeats j i)) ∙ sym (p.sides j)

    -- the positions come again after any multiple of n
    pub positions_repeat_often : (t j : ℕ) → q (t * n + j) ≡ q j
    positions_repeat_often zero j = ap q (let e = zero-mul n in let z : 0 * n + j ≡ j = omega (arith, zero-add j) in z)
    positions_repeat_often (suc t) j =
        ap q (let e = suc-mul t n in let z : suc t * n + j ≡ n + (t * n + j) = omega arith in z) ∙ positions_repeat (t * n + j) ∙ positions_repeat_often t j

    -- each position is that of one of the first n corners
    pub position_below : (k : ℕ) → (m : ℕ) × (m < n) × (q k ≡ q m)
    position_below k = (k % n, mod-lt k some_side, ap q (sym (div-add-mod' k n)) ∙ positions_repeat_often (k / n) (k % n))

    -- each position is that of some corner from corner j on
    pub position_after : (j k : ℕ) → (m : ℕ) × (q (j + m) ≡ q k)
    position_after j k = go n refl
      where
        go : (m : ℕ) → n ≡ m → (m : ℕ) × (q (j + m) ≡ q k)
        go zero e = absurd (let l = some_side in omega arith)
        go (suc m) e =
            let size : j * n ≡ j * suc m = ap (λ (i : ℕ). j * i) e in
            let sum : j + (j * m + k) ≡ j * n + k = omega arith in
            (j * m + k, ap q sum ∙ positions_repeat_often j k)

    -- seen from any direction the turning number is the same
    pub turning_number_of_any : {v : Vector A} → v ≢ zero_vector R → rises R is_ahead v s n ≡ 1
    turning_number_of_any {v} m = winding.rises_of_any L test p.convex v (unit_vector R) n sides_return m unit-ne-zero ∙ p.turning_number

    -- two rises of a direction are one corner
    pub one_rise : {v : Vector A} → v ≢ zero_vector R → (i j : ℕ) → i < n → j < n → IsRiseAt R is_ahead v s i → IsRiseAt R is_ahead v s j → i ≡ j
    one_rise {v} m i j li lj = winding.one_rise L test p.convex v i j n (turning_number_of_any m) li lj

  -- a polygon from wherever its boundary begins
  pub polygon_from : {n : ℕ} {s q : ℕ → Vector A} (a : ℕ) → Polygon n s q → Polygon n (λ j. s (a + j)) (λ j. q (a + j))
  polygon_from {n} {s} {q} a p = record {
    convex = λ j. subst (λ (m : ℕ). InHalfPlane R IsPositive (s (a + j)) (s m)) (sym (add-suc a j)) (p.convex (a + j));
    repeats = λ j. ap s (let z : a + (n + j) ≡ n + (a + j) = omega arith in z) ∙ p.repeats (a + j);
    sides = λ j. ap q (add-suc a j) ∙ p.sides (a + j);
    closed = ap q (let z : a + n ≡ n + a = omega arith in z) ∙ positions_repeat p a ∙ ap q (sym (add-zero a));
    turning_number = rises-shift R is_ahead (unit_vector R) s n a p.repeats ∙ p.turning_number;
  }
