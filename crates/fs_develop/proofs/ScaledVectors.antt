-- Vectors of a job times a multiple of their denominators.
use Rattle.std.proofs.Common.{◌≡◌, ◌↔◌, ℕ, pos, ◌+◌, ◌*ℤ◌, ◌%◌, ◌/◌, ◌==◌, Result, Ok, Err, IsTrue, None, Some, ℤ, unsigned_abs, refl, sym, ap, ◌∙◌, subst, inl, inr, ◌<◌, ◌<ℤ◌, arith}
use Rattle.std.proofs.lemmas.Int.{ints}
use Rattle.fs_ring.proofs.Integers.{integer_order}
use Rattle.fs_ring.proofs.Signs as signs
use Rattle.fs_quadratic.specs.Ring as ring
use Rattle.fs_fraction.proofs.Divisors.{quotient_positive}
use Rattle.std.specs.Int.{◌∣◌}
use Rattle.std.proofs.lemmas.Nat.Gcd.{dvd_of_mod-eq-zero, mod-eq-zero_of_dvd}
use Rattle.std.proofs.lemmas.Bool.Decides.{Decides-eqb}
use Rattle.fs_quadratic.specs.Ring.{Quadratic}
use Rattle.fs_quadratic.specs.Checked.{step, ◌>>=◌}
use Rattle.fs_quadratic.specs.Width.{is_in_width}
use Rattle.fs_quadratic.specs.declared.steps.Place.{Place}
use Rattle.fs_fraction.specs.Fraction.{scale}
use Rattle.fs_plane.specs.Vector.{PlaneVector, vector_zero}
use Rattle.fs_plane.proofs.ComputedSigns.{after_value}
use Rattle.fs_gluing.specs.declared.shapes.Point.{Point}
use Rattle.fs_plane.specs.declared.sites.Site.TheVariants as sites
use Rattle.fs_gluing.specs.Scaling.{IsMultipleOf, scaled_vector}
use Rattle.fs_gluing.specs.Surface.{GluedPolygons}
use Rattle.fs_develop.specs.Grid.{multiple_after, scale_to, GivesScaled}
use Rattle.fs_quadratic.proofs.StepChains.{step_value}

-- the test of the remainder tells whether m divides n
pub divides_by_rest : (m n : ℕ) → IsTrue (n % m == 0) ↔ (m ∣ n)
divides_by_rest m n = (
  (λ h. dvd_of_mod-eq-zero m ((Decides-eqb (n % m) 0).0 h)),
  (λ h. (Decides-eqb (n % m) 0).1 (mod-eq-zero_of_dvd m h)),
)

multiple_value : (before k : ℕ) (x y : Quadratic) → multiple_after before k x ≡ Ok y → y ≡ scale k x
unfolding multiple_after
multiple_value before k x y e =
    let first = after_value (step (before + 1) (is_in_width (pos k *ℤ x.p)) (pos k *ℤ x.p)) (λ p. step (before + 2) (is_in_width (pos k *ℤ x.q)) (pos k *ℤ x.q) >>= (λ q. Ok (record { p = p; q = q }))) y e in
    let second = after_value (step (before + 2) (is_in_width (pos k *ℤ x.q)) (pos k *ℤ x.q)) (λ q. Ok (record { p = first.0; q = q })) y first.2 in
    let p = step_value (before + 1) (is_in_width (pos k *ℤ x.p)) (pos k *ℤ x.p) first.0 first.1 in
    let q = step_value (before + 2) (is_in_width (pos k *ℤ x.q)) (pos k *ℤ x.q) second.0 second.1 in
    same second.2 ∙ ap (λ z. record { p = z; q = second.0 }) p ∙ ap (λ z. record { p = pos k *ℤ x.p; q = z }) q
  where
    same : {a b : Quadratic} → ◌≡◌ {A = Result Quadratic Place} (Ok a) (Ok b) → b ≡ a
    same f = cc

-- a scaled vector that is given is the scaled vector
pub scaled_value : (den : ℕ) (v : Point) (w : PlaneVector) → scale_to den v ≡ Ok w → w ≡ scaled_vector den v
unfolding scale_to
scaled_value den v w e =
    let first = after_value (multiple_after 0 (den / v.x.den) v.x.num) (λ x. multiple_after 2 (den / v.y.den) v.y.num >>= (λ y. Ok (record { x = x; y = y }))) w e in
    let second = after_value (multiple_after 2 (den / v.y.den) v.y.num) (λ y. Ok (record { x = first.0; y = y })) w first.2 in
    let x = multiple_value 0 (den / v.x.den) v.x.num first.0 first.1 in
    let y = multiple_value 2 (den / v.y.den) v.y.num second.0 second.1 in
    same second.2 ∙ ap (λ z. record { x = z; y = second.0 }) x ∙ ap (λ z. record { x = scale (den / v.x.den) v.x.num; y = z }) y
  where
    same : {a b : PlaneVector} → ◌≡◌ {A = Result PlaneVector Place} (Ok a) (Ok b) → b ≡ a
    same f = cc

-- ---- what is returned, where the denominator is read as a natural number

module _ (s : GluedPolygons) (v : Point) (den : ℕ) (z : ℤ) (value : den ≡ unsigned_abs z) (read : z ≡ s.den) where
  same_den : den ≡ unsigned_abs s.den
  same_den = value ∙ ap unsigned_abs read

  pub off_grid : ¬ IsMultipleOf den v → GivesScaled s v (Ok None)
  off_grid h = subst (λ n. ¬ IsMultipleOf n v) same_den h

  pub on_grid : (w : PlaneVector) → IsMultipleOf den v → scale_to den v ≡ Ok w → GivesScaled s v (Ok (Some w))
  on_grid w h e =
      let there = subst (λ n. scale_to n v ≡ Ok w) same_den e in
      (subst (λ n. IsMultipleOf n v) same_den h, there, scaled_value (unsigned_abs s.den) v w there)

  pub grid_overflows : (stop : Place) → IsMultipleOf den v → scale_to den v ≡ Err stop → GivesScaled s v (Err (sites.Grid stop.0))
  grid_overflows stop h e = (subst (λ n. IsMultipleOf n v) same_den h, (stop, subst (λ n. scale_to n v ≡ Err stop) same_den e, refl))

-- ---- a vector that isn't 0,0 isn't so scaled

part_zero : (k : ℕ) (z : ℤ) → 0 < k → pos k *ℤ z ≡ pos 0 → z ≡ pos 0
part_zero k z some e = elim (signs.no_zero_divisors integer_order (pos k) z e) [
  | inl none ↦ absurd (omega (arith, ints))
  | inr zero ↦ zero
]

number_zero : (k : ℕ) (x : Quadratic) → 0 < k → scale k x ≡ ring.zero → x ≡ ring.zero
number_zero k x some e =
    let p = part_zero k x.p some (ap (λ (y : Quadratic). y.p) e) in
    let q = part_zero k x.q some (ap (λ (y : Quadratic). y.q) e) in
    λ i. record { p = p i; q = q i }

-- the parts of a vector are 0, where its scaled vector is (0, 0)
pub origin_of_scaled : (s : GluedPolygons) (v : Point) (w : PlaneVector) → pos 0 <ℤ s.den → GivesScaled s v (Ok (Some w)) → w ≡ vector_zero → (v.x.num ≡ ring.zero) × (v.y.num ≡ ring.zero)
origin_of_scaled s v w positive given e =
    let some : 0 < unsigned_abs s.den = above s.den positive in
    let scaled = sym given.2 ∙ e in (
      number_zero (unsigned_abs s.den / v.x.den) v.x.num (quotient_positive v.x.den (unsigned_abs s.den) given.0.0 some) (ap (λ (u : PlaneVector). u.x) scaled),
      number_zero (unsigned_abs s.den / v.y.den) v.y.num (quotient_positive v.y.den (unsigned_abs s.den) given.0.1 some) (ap (λ (u : PlaneVector). u.y) scaled),
    )
  where
    above : (z : ℤ) → pos 0 <ℤ z → 0 < unsigned_abs z
    above z h = omega (arith, ints)
