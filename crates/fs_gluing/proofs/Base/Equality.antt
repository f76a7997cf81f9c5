-- Tests for equal vectors and equal corners, and the opposite of the opposite.
use Rattle.std.proofs.Common.{◌≡◌, ◌≢◌, Bool, true, false, not, ◌&&◌, sym, ap, ◌∙◌, refl, inl, inr}
use Rattle.std.proofs.Math.IntN.{neg_ℤ, neg_ℤ-neg_ℤ}
use Rattle.std.specs.Bool.{Decides, ◌==◌}
use Rattle.std.proofs.lemmas.Bool.Decides.{Decides-eqb, Decides-and, Decides-like, Decides-not}
use Rattle.std.proofs.lemmas.Bool.{cases_eq}
use Rattle.fs_lists.specs.Members.{IsDecidable}
use Rattle.fs_quadratic.specs.Ring.{Quadratic, neg}
use Rattle.fs_plane.specs.declared.corners.Corner.{Corner}
use Rattle.fs_plane.specs.Vector.{vector_neg, is_same_vector, PlaneVector}
use Rattle.fs_plane.proofs.EqualVectors.{Decides-is_same_vector}

true_from_not_false : (b : Bool) → not b ≡ false → b ≡ true
true_from_not_false true e = refl
true_from_not_false false e = cc

-- `!=` is true of different vectors, and false of equal ones
pub differ_from_ne : (a b : PlaneVector) (r : Bool) → r ≡ not (is_same_vector a b) → r ≡ true → a ≢ b
differ_from_ne a b r is e = (Decides-not _ (Decides-is_same_vector a b)).0 (sym is ∙ e)

-- where `!=` is false, the vectors are equal
pub same_from_ne : (a b : PlaneVector) (r : Bool) → r ≡ not (is_same_vector a b) → r ≡ false → a ≡ b
same_from_ne a b r is e = (Decides-is_same_vector a b).0 (true_from_not_false _ (sym is ∙ e))

neg-neg : (a : Quadratic) → neg (neg a) ≡ a
neg-neg a = ap (λ z. record { p = z; q = neg_ℤ (neg_ℤ a.q) }) (neg_ℤ-neg_ℤ a.p) ∙ ap (λ z. record { p = a.p; q = z }) (neg_ℤ-neg_ℤ a.q)

-- the opposite of the opposite is the vector
pub vector_neg-vector_neg : (a : PlaneVector) → vector_neg (vector_neg a) ≡ a
vector_neg-vector_neg a = ap (λ x. record { x = x; y = neg (neg a.y) }) (neg-neg a.x) ∙ ap (λ y. record { x = a.x; y = y }) (neg-neg a.y)

-- the value of `==` for corners
abbrev pub is_same_corner : Corner → Corner → Bool
is_same_corner a b = a.polygon == b.polygon && a.side == b.side

Decides-is_same_corner : (a b : Corner) → Decides (is_same_corner a b) (a ≡ b)
Decides-is_same_corner a b = Decides-like _
    (λ e. ap (λ i. record { polygon = i; side = a.side }) e.0 ∙ ap (λ j. record { polygon = b.polygon; side = j }) e.1)
    (λ e. (ap (λ (c : Corner). c.polygon) e, ap (λ (c : Corner). c.side) e))
    (Decides-and _ _ (Decides-eqb a.polygon b.polygon) (Decides-eqb a.side b.side))

-- where `==` is true, the corners are equal
pub same_from_eq : (a b : Corner) (r : Bool) → r ≡ is_same_corner a b → r ≡ true → a ≡ b
same_from_eq a b r is e = (Decides-is_same_corner a b).0 (sym is ∙ e)

-- false isn't true
pub false_not_true : false ≡ true → ⊥
false_not_true e = cc

-- where `==` is false, the corners differ
pub differ_from_eq : (a b : Corner) (r : Bool) → r ≡ is_same_corner a b → r ≡ false → a ≢ b
differ_from_eq a b r is e same = false_not_true (sym e ∙ is ∙ (Decides-is_same_corner a b).1 same)

-- corners with the same numbers are equal
pub corner_eq : {a b : Corner} → a.polygon ≡ b.polygon → a.side ≡ b.side → a ≡ b
corner_eq e f = λ i. record { polygon = e i; side = f i }

-- equality of corners is decidable
pub same_corner : IsDecidable Corner
same_corner a b = elim (cases_eq a.polygon b.polygon) [
  | inl e ↦ elim (cases_eq a.side b.side) [ inl f ↦ inl (corner_eq e f) | inr n ↦ inr (λ (h : a ≡ b). n (ap (λ (c : Corner). c.side) h)) ]
  | inr n ↦ inr (λ (h : a ≡ b). n (ap (λ (c : Corner). c.polygon) h))
]
