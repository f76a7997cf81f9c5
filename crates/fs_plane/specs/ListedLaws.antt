-- Proofs that the order of listed vectors is lawful, which its `impl` names. A reader of contracts needn't read them.
use Rattle.std.specs.Prelude.{◌≡◌, ℕ, Bool, ◌&&◌, ◌==◌, refl}
use Rattle.std.proofs.Common.{sym, ap, ◌∙◌, subst}
use Rattle.std.proofs.lemmas.Bool.Decides.{Decides-eqb, Decides-and}
use Rattle.std.specs.Bool.{Decides, one_answer}
use Rattle.std.specs.Ordering.{nat_cmp, ordering_then, eq_by_cmp, as_partial_cmp, MatchOrdering}
use Rattle.std.specs.Cmp.{IsTotalOrder, IsPartialOrder, nat_cmp_total, on_total, then_total, tied_itself, Equal-is, po}
use Rattle.std.specs.declared.cmp.Ordering.{Ordering}
use Rattle.std.specs.declared.cmp.Ordering.TheVariants.{Equal}
use Rattle.fs_ring.proofs.VectorOrder.{IsVectorLess}
use Rattle.fs_ring.proofs.VectorComparison as comparison
use Rattle.fs_ring.proofs.VectorComparison.{TestsUpper}
use Rattle.fs_ring.proofs.LedOrders.{led_total, eq_of_nat_cmp, then_equal_first, then_equal_second}
use Rattle.fs_quadratic.specs.Radicand.{IsRadicand}
use Rattle.fs_quadratic.specs.Ring.{quadratic, IsPositive, sign, compare}
use Rattle.fs_quadratic.proofs.Laws.{field_order}
use Rattle.fs_quadratic.proofs.SquareRoot.{radicand_no_square}
use Rattle.fs_quadratic.proofs.Signs.{sign_ranks}
use Rattle.fs_plane.specs.declared.corners.Corner.{Corner}
use Rattle.fs_plane.specs.declared.listing.Listed.{Listed}
use Rattle.fs_plane.specs.Vector.{PlaneVector, upper_by_signs, is_same_vector}
use Rattle.fs_plane.specs.Listing.{vector_cmp, corner_cmp}
use Rattle.fs_plane.specs.ListedOrder.{listed_cmp}
use Rattle.fs_plane.specs.EqualVectors.{Decides-is_same_vector}

-- the test of the upper half is one
pub tests_upper : TestsUpper upper_by_signs
tests_upper = record { above = λ x. refl; right = refl; nowhere = refl; left = refl; below = λ x. refl }

-- what a comparison of vectors says
pub vector_ranks : {d : ℕ} → IsRadicand d → (v w : PlaneVector)
    → MatchOrdering (vector_cmp d v w) (IsVectorLess (quadratic d) (IsPositive d) v w) (v ≡ w) (IsVectorLess (quadratic d) (IsPositive d) w v)
unfolding compare
vector_ranks {d} radicand = comparison.vector_ranks (field_order radicand) (sign d) (sign_ranks (radicand_no_square radicand)) upper_by_signs tests_upper

-- vectors of one field are in a total order, (0,0) included
vector_cmp_total : {d : ℕ} → IsRadicand d → IsTotalOrder (vector_cmp d)
unfolding compare
vector_cmp_total {d} radicand = comparison.vector_cmp_total (field_order radicand) (sign d) (sign_ranks (radicand_no_square radicand)) upper_by_signs tests_upper

corner_cmp_total : IsTotalOrder corner_cmp
corner_cmp_total = then_total (on_total (λ (c : Corner). c.polygon) nat_cmp_total) (on_total (λ (c : Corner). c.side) nat_cmp_total)

-- listed vectors of one field
abbrev field_cmp : ℕ → Listed → Listed → Ordering
field_cmp d a b = ordering_then (vector_cmp d a.v b.v) (corner_cmp a.start b.start)

field_cmp_total : {d : ℕ} → IsRadicand d → IsTotalOrder (field_cmp d)
field_cmp_total {d} radicand = then_total (on_total (λ (a : Listed). a.v) (vector_cmp_total radicand)) (on_total (λ (a : Listed). a.start) corner_cmp_total)

-- all listed vectors
pub listed_total : IsTotalOrder listed_cmp
listed_total = led_total (λ (a : Listed). a.field.d) field_cmp (λ a. field_cmp_total a.field.radicand)

-- ---- `==` and the order agree

-- whether the field, the vector and the corner are equal, as `==` tests it
abbrev is_same_listed : Listed → Listed → Bool
is_same_listed a b = (a.field.d == b.field.d) && (is_same_vector a.v b.v && ((a.start.polygon == b.start.polygon) && (a.start.side == b.start.side)))

abbrev AreSame : Listed → Listed → Type 0
AreSame a b = (a.field.d ≡ b.field.d) × ((a.v ≡ b.v) × ((a.start.polygon ≡ b.start.polygon) × (a.start.side ≡ b.start.side)))

is_same_decides : (a b : Listed) → Decides (is_same_listed a b) (AreSame a b)
is_same_decides a b =
    Decides-and _ _ (Decides-eqb a.field.d b.field.d) (Decides-and _ _ (Decides-is_same_vector a.v b.v)
    (Decides-and _ _ (Decides-eqb a.start.polygon b.start.polygon) (Decides-eqb a.start.side b.start.side)))

vector_cmp_exact : {d : ℕ} → IsRadicand d → (v w : PlaneVector) → vector_cmp d v w ≡ Equal → v ≡ w
vector_cmp_exact {d} radicand v w e =
    subst (λ r. MatchOrdering r (IsVectorLess (quadratic d) (IsPositive d) v w) (v ≡ w) (IsVectorLess (quadratic d) (IsPositive d) w v)) e (vector_ranks radicand v w)

same_of_equal : (a b : Listed) → listed_cmp a b ≡ Equal → AreSame a b
same_of_equal a b e =
    let d = nat_cmp a.field.d b.field.d in
    let v = vector_cmp a.field.d a.v b.v in
    let polygon = nat_cmp a.start.polygon b.start.polygon in
    let side = nat_cmp a.start.side b.start.side in
    let after_d = then_equal_second d (ordering_then v (ordering_then polygon side)) e in
    let after_v = then_equal_second v (ordering_then polygon side) after_d in (
      eq_of_nat_cmp a.field.d b.field.d (then_equal_first d (ordering_then v (ordering_then polygon side)) e),
      (
        vector_cmp_exact a.field.radicand a.v b.v (then_equal_first v (ordering_then polygon side) after_d),
        (
          eq_of_nat_cmp a.start.polygon b.start.polygon (then_equal_first polygon side after_v),
          eq_of_nat_cmp a.start.side b.start.side (then_equal_second polygon side after_v),
        ),
      ),
    )

equal_numbers : (m n : ℕ) → m ≡ n → nat_cmp m n ≡ Equal
equal_numbers m n e = ap (nat_cmp m) (sym e) ∙ tied_itself nat_cmp_total m

equal_of_same : (a b : Listed) → AreSame a b → listed_cmp a b ≡ Equal
equal_of_same a b h =
    let d = equal_numbers a.field.d b.field.d h.0 in
    let v = ap (vector_cmp a.field.d a.v) (sym h.1.0) ∙ tied_itself (vector_cmp_total a.field.radicand) a.v in
    let polygon = equal_numbers a.start.polygon b.start.polygon h.1.1.0 in
    let side = equal_numbers a.start.side b.start.side h.1.1.1 in
    λ i. ordering_then (d i) (ordering_then (v i) (ordering_then (polygon i) (side i)))

-- they are equal exactly where they compare as equal
pub same_listed : (a b : Listed) → is_same_listed a b ≡ eq_by_cmp listed_cmp a b
same_listed a b =
    let ties = Equal-is (listed_cmp a b) in
    one_answer (is_same_listed a b) (eq_by_cmp listed_cmp a b) (is_same_decides a b)
    ((λ e. same_of_equal a b (ties.0 e)), (λ h. ties.1 (equal_of_same a b h)))

-- so the order is a partial order beside `==`
pub listed_partial_order : IsPartialOrder is_same_listed (as_partial_cmp listed_cmp)
listed_partial_order = po listed_total same_listed
