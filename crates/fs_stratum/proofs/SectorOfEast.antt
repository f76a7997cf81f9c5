-- Which corners of a polygon hold (1,0), by the signs of the sides before and after them.
use Rattle.std.proofs.Common.{◌≡◌, ℕ, ◌+◌, Bool, true, false, not, ◌&&◌, refl, sym, ap, ◌∙◌}
use Rattle.std.specs.Ordering.{is_gt, ordering_reverse}
use Rattle.std.specs.declared.cmp.Ordering.{Ordering}
use Rattle.std.specs.declared.cmp.Ordering.TheVariants.{Less, Equal, Greater}
use Rattle.fs_lists.proofs.Counts.{one_if}
use Rattle.fs_ring.specs.Vector.{unit_vector}
use Rattle.fs_ring.specs.Direction.{IsAlong, InHalfPlane, InSector, at_start, inside}
use Rattle.fs_ring.proofs.Directions as directions
use Rattle.fs_ring.proofs.Turns as turns
use Rattle.fs_ring.proofs.PlaneSolver.{vector_eq}
use Rattle.fs_quadratic.specs.Radicand.{IsRadicand}
use Rattle.fs_quadratic.specs.Ring.{zero as nil, quadratic, IsPositive, sign}
use Rattle.fs_quadratic.proofs.Excess.{sign-positive_mul}
use Rattle.fs_quadratic.proofs.Laws.{field_order}
use Rattle.fs_quadratic.proofs.SquareRoot.{radicand_no_square}
use Rattle.fs_quadratic.proofs.Signs.{sign-positive, sign-negative, sign-zero, sign-neg, positive_of_sign, zero_of_sign, negative_of_sign}
use Rattle.fs_plane.specs.Vector.{vector_neg, cross, dot, norm, is_upper, upper_by_signs, is_raised, raised_by_signs, BendsNoRight, PlaneVector}
use Rattle.fs_gluing.specs.Convex.{is_rise}
use Rattle.fs_ring.proofs.AxisSigns as axis

-- ---- two vectors by the signs of y and of x, the second left of the first

-- which signs two vectors have, the second left of the first, where one of them is along the first axis
pub record HasConvexSigns (bv bh av ah : Ordering) : Type 0 where
  pub from_east : bv ≡ Equal → bh ≡ Greater → av ≡ Greater
  pub from_west : bv ≡ Equal → bh ≡ Less → av ≡ Less
  pub from_zero : bv ≡ Equal → bh ≡ Equal → ⊥
  pub to_east : av ≡ Equal → ah ≡ Greater → bv ≡ Less
  pub to_west : av ≡ Equal → ah ≡ Less → bv ≡ Greater
  pub to_zero : av ≡ Equal → ah ≡ Equal → ⊥

-- the vector is along (1,0), by the signs of y and x
abbrev pub east_by_signs : Ordering → Ordering → Bool
east_by_signs Greater h = false
east_by_signs Equal h = is_gt h
east_by_signs Less h = false

-- neither side is raised, by the signs of y and x of both
abbrev pub held_by_signs : Ordering → Ordering → Ordering → Ordering → Bool
held_by_signs bv bh av ah = not (raised_by_signs bv bh) && not (raised_by_signs av ah)

-- the boundary passes from the lower half to the upper, by the signs of y and x of both sides
abbrev pub rise_by_signs : Ordering → Ordering → Ordering → Ordering → Bool
rise_by_signs bv bh av ah = upper_by_signs (ordering_reverse bv) (ordering_reverse bh) && upper_by_signs av ah

counted_by_signs : (bv bh av ah : Ordering) → HasConvexSigns bv bh av ah
    → one_if (held_by_signs bv bh av ah) + one_if (rise_by_signs bv bh av ah) + one_if (east_by_signs bv bh) ≡ one_if (not (raised_by_signs bv bh)) + one_if (east_by_signs av ah)
counted_by_signs Greater bh Greater ah t = refl
counted_by_signs Greater bh Less ah t = refl
counted_by_signs Greater bh Equal Greater t = let wrong = t.to_east refl refl in cc
counted_by_signs Greater bh Equal Equal t = absurd (t.to_zero refl refl)
counted_by_signs Greater bh Equal Less t = refl
counted_by_signs Less bh Greater ah t = refl
counted_by_signs Less bh Less ah t = refl
counted_by_signs Less bh Equal Greater t = refl
counted_by_signs Less bh Equal Equal t = absurd (t.to_zero refl refl)
counted_by_signs Less bh Equal Less t = let wrong = t.to_west refl refl in cc
counted_by_signs Equal Greater Greater ah t = refl
counted_by_signs Equal Greater Less ah t = let wrong = t.from_east refl refl in cc
counted_by_signs Equal Greater Equal ah t = let wrong = t.from_east refl refl in cc
counted_by_signs Equal Equal av ah t = absurd (t.from_zero refl refl)
counted_by_signs Equal Less Greater ah t = let wrong = t.from_west refl refl in cc
counted_by_signs Equal Less Less ah t = refl
counted_by_signs Equal Less Equal ah t = let wrong = t.from_west refl refl in cc

-- the same count at a straight corner
counted_straight : (v h : Ordering) → one_if (held_by_signs v h v h) + one_if (rise_by_signs v h v h) + one_if (east_by_signs v h) ≡ one_if (not (raised_by_signs v h)) + one_if (east_by_signs v h)
counted_straight Greater h = refl
counted_straight Less h = refl
counted_straight Equal Greater = refl
counted_straight Equal Equal = refl
counted_straight Equal Less = refl

-- ---- the same for vectors

-- the vector is along (1,0)
abbrev pub is_east : ℕ → PlaneVector → Bool
is_east d v = east_by_signs (sign d v.y) (sign d v.x)

-- neither the side before nor the side after is raised
abbrev pub is_held : ℕ → PlaneVector → PlaneVector → Bool
is_held d before after = not (is_raised d before) && not (is_raised d after)

module _ {d : ℕ} (radicand : IsRadicand d) where
  -- a vector other than (0,0) is raised exactly where its opposite isn't
  pub raised-neg : (v : PlaneVector) → ¬ ((v.y ≡ nil) × (v.x ≡ nil)) → is_raised d (vector_neg v) ≡ not (is_raised d v)
  raised-neg v n =
      (λ i. raised_by_signs (sign-neg d v.y i) (sign-neg d v.x i)) ∙ go (sign d v.y) (sign d v.x) (λ e f. n (zero_of_sign (radicand_no_square radicand) v.y e, zero_of_sign (radicand_no_square radicand) v.x f))
    where
      go : (y x : Ordering) → (y ≡ Equal → x ≡ Equal → ⊥) → raised_by_signs (ordering_reverse y) (ordering_reverse x) ≡ not (raised_by_signs y x)
      go Less x h = refl
      go Greater x h = refl
      go Equal Less h = refl
      go Equal Equal h = absurd (h refl refl)
      go Equal Greater h = refl

  -- neither side of a corner that doesn't bend right is (0,0)
  pub before-ne-zero : {before after : PlaneVector} → BendsNoRight d before after → ¬ ((before.y ≡ nil) × (before.x ≡ nil))
  before-ne-zero (at_start h) z = directions.dot_positive-ne-zero_left (field_order radicand) h.same_way (vector_eq z.1 z.0)
  before-ne-zero (inside p) z = directions.cross_positive-ne-zero_left (field_order radicand) p (vector_eq z.1 z.0)

  pub after-ne-zero : {before after : PlaneVector} → BendsNoRight d before after → ¬ ((after.y ≡ nil) × (after.x ≡ nil))
  after-ne-zero (at_start h) z = directions.dot_positive-ne-zero_right (field_order radicand) h.same_way (vector_eq z.1 z.0)
  after-ne-zero (inside p) z = directions.cross_positive-ne-zero_right (field_order radicand) p (vector_eq z.1 z.0)

  -- the sides at a straight corner have the same signs
  along_signs : (before after : PlaneVector) → IsAlong (quadratic d) (IsPositive d) before after → (sign d after.y ≡ sign d before.y) × (sign d after.x ≡ sign d before.x)
  along_signs before after along =
      let n = radicand_no_square radicand in
      let L = field_order radicand in
      let up = axis.along_norm L before after along in (
        sym (sign-positive_mul n (norm d before) after.y up) ∙ (ap (sign d) (axis.along_y L before after along) ∙ sign-positive_mul n (dot d before after) before.y along.same_way),
        sym (sign-positive_mul n (norm d before) after.x up) ∙ (ap (sign d) (axis.along_x L before after along) ∙ sign-positive_mul n (dot d before after) before.x along.same_way),
      )

  -- both are raised, or neither is
  pub raised-along : (before after : PlaneVector) → IsAlong (quadratic d) (IsPositive d) before after → is_raised d after ≡ is_raised d before
  raised-along before after along = let same = along_signs before after along in λ i. raised_by_signs (same.0 i) (same.1 i)

  module _ (before after : PlaneVector) (convex : IsPositive d (cross d before after)) where
    -- vectors of which the second is left of the first have such signs
    pub convex_signs : HasConvexSigns (sign d before.y) (sign d before.x) (sign d after.y) (sign d after.x)
    convex_signs =
        let n = radicand_no_square radicand in
        let L = field_order radicand in
        record {
          from_east = λ e f. sign-positive d after.y (axis.from_east L before after convex (zero_of_sign n before.y e) (positive_of_sign n before.x f));
          from_west = λ e f. sign-negative d after.y (axis.from_west L before after convex (zero_of_sign n before.y e) (negative_of_sign n before.x f));
          from_zero = λ e f. axis.before-ne-zero L before after convex (zero_of_sign n before.y e) (zero_of_sign n before.x f);
          to_east = λ e f. sign-negative d before.y (axis.to_east L before after convex (zero_of_sign n after.y e) (positive_of_sign n after.x f));
          to_west = λ e f. sign-positive d before.y (axis.to_west L before after convex (zero_of_sign n after.y e) (negative_of_sign n after.x f));
          to_zero = λ e f. axis.after-ne-zero L before after convex (zero_of_sign n after.y e) (zero_of_sign n after.x f);
        }

  -- ---- from side to side: held corners, rises, and the sides that aren't raised

  -- the count at a corner that doesn't bend right
  pub counted : (before after : PlaneVector) → BendsNoRight d before after
      → one_if (is_held d before after) + one_if (is_rise d (record { before = before; after = after })) + one_if (is_east d before) ≡ one_if (not (is_raised d before)) + one_if (is_east d after)
  counted before after bends =
      (λ i. one_if (is_held d before after) + one_if (upper_by_signs (sign-neg d before.y i) (sign-neg d before.x i) && is_upper d after) + one_if (is_east d before))
      ∙ elim bends [
        | inside convex ↦ counted_by_signs (sign d before.y) (sign d before.x) (sign d after.y) (sign d after.x) (convex_signs before after convex)
        | at_start along ↦ straight along
      ]
    where
      straight : IsAlong (quadratic d) (IsPositive d) before after
          → one_if (is_held d before after) + one_if (rise_by_signs (sign d before.y) (sign d before.x) (sign d after.y) (sign d after.x)) + one_if (is_east d before)
          ≡ one_if (not (is_raised d before)) + one_if (is_east d after)
      straight along =
          let same = along_signs before after along in
          (λ i. one_if (held_by_signs (sign d before.y) (sign d before.x) (same.0 i) (same.1 i))
          + one_if (rise_by_signs (sign d before.y) (sign d before.x) (same.0 i) (same.1 i)) + one_if (is_east d before))
          ∙ (counted_straight (sign d before.y) (sign d before.x)
          ∙ (λ i. one_if (not (is_raised d before)) + one_if (east_by_signs (sym same.0 i) (sym same.1 i))))

  -- ---- the corner's sector as the half planes of its two sides

  -- (1,0)
  abbrev e1 : PlaneVector
  e1 = unit_vector (quadratic d)

  -- (1,0) is in the half plane of a vector that isn't raised
  east_of_low : (v : PlaneVector) → ¬ ((v.y ≡ nil) × (v.x ≡ nil)) → is_raised d v ≡ false → InHalfPlane (quadratic d) (IsPositive d) v e1
  east_of_low v nonzero low = go (sign d v.y) (sign d v.x) refl refl low
    where
      go : (y x : Ordering) → sign d v.y ≡ y → sign d v.x ≡ x → raised_by_signs y x ≡ false → InHalfPlane (quadratic d) (IsPositive d) v e1
      go Greater x p q h = cc
      go Less x p q h =
          inside (axis.right_of_axis (field_order radicand) e1 refl (field_order radicand).one_positive v (negative_of_sign (radicand_no_square radicand) v.y p))
      go Equal Less p q h = cc
      go Equal Equal p q h = absurd (nonzero (zero_of_sign (radicand_no_square radicand) v.y p, zero_of_sign (radicand_no_square radicand) v.x q))
      go Equal Greater p q h =
          at_start (axis.along_axis (field_order radicand) e1 refl (field_order radicand).one_positive v (zero_of_sign (radicand_no_square radicand) v.y p) (positive_of_sign (radicand_no_square radicand) v.x q))

  -- the converse
  low_of_east : (v : PlaneVector) → InHalfPlane (quadratic d) (IsPositive d) v e1 → is_raised d v ≡ false
  low_of_east v (at_start h) =
      let L = field_order radicand in
      let flat = sign-zero d v.y (axis.along_axis_flat L e1 refl L.one_positive v h) in
      let ahead = sign-positive d v.x (axis.along_axis_ahead L e1 refl L.one_positive v h) in
      λ i. raised_by_signs (flat i) (ahead i)
  low_of_east v (inside p) =
      let L = field_order radicand in
      let down = sign-negative d v.y (axis.right_of_axis_back L e1 refl L.one_positive v p) in
      λ i. raised_by_signs (down i) (sign d v.x)

  both_low : (a b : Bool) → not a && not b ≡ true → (a ≡ false) × (b ≡ false)
  both_low true b h = cc
  both_low false true h = cc
  both_low false false h = (refl, refl)

  module _ (before after : PlaneVector) (bends : BendsNoRight d before after) where
    -- the sector of the corner holds (1,0)
    abbrev Holds : Type 0
    Holds = InSector (quadratic d) (IsPositive d) after (vector_neg before) e1

    -- the corner holds (1,0) where neither is raised
    pub holds_from_test : is_held d before after ≡ true → Holds
    holds_from_test h =
        let low = both_low (is_raised d before) (is_raised d after) h in
        turns.sector_of_half_planes (field_order radicand) bends (east_of_low after (after-ne-zero bends) low.1) (east_of_low before (before-ne-zero bends) low.0)

    -- neither is raised where the corner holds (1,0)
    pub test_from_holds : Holds → is_held d before after ≡ true
    test_from_holds h =
        let both = turns.half_planes_of_sector (field_order radicand) bends h in
        let first = low_of_east before both.1 in
        let second = low_of_east after both.0 in
        λ i. not (first i) && not (second i)
