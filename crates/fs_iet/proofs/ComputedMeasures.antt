-- What the tests and least numbers that measures are computed with say.
use Rattle.std.proofs.Common.{◌≡◌, ◌⊎◌, ℕ, false, if◌then◌else◌, List, [], ◌∷◌, refl, sym, ap, ◌∙◌, subst, inl, inr}
use Rattle.std.specs.Ordering.{is_gt, is_lt}
use Rattle.std.specs.declared.cmp.Ordering.{Ordering}
use Rattle.std.specs.declared.cmp.Ordering.TheVariants.{Less, Equal, Greater}
use Rattle.fs_lists.specs.Members.{IsIn}
use Rattle.fs_ring.specs.OrderedRing.{IsOrderedRing, IsAtMost, positive, null, negative}
use Rattle.fs_ring.proofs.Order as order
use Rattle.fs_quadratic.specs.Radicand.{IsNoSquare}
use Rattle.fs_quadratic.specs.Ring.{Quadratic, quadratic, IsPositive, IsLess, neg, zero as nil, sign, compare}
use Rattle.fs_quadratic.proofs.Laws.{quadratic_order}
use Rattle.fs_quadratic.proofs.Signs.{sign-positive, sign-negative, sign-zero, less_iff_less}
use Rattle.fs_gluing.specs.CrossingMap.{positive_part, least, least_from}

less_or_not : (o : Ordering) → (o ≡ Less) ⊎ ((is_lt o ≡ false) × ¬ (o ≡ Less))
less_or_not Less = inl refl
less_or_not Equal = inr (refl, λ e. cc)
less_or_not Greater = inr (refl, λ e. cc)

-- a choice by a test for Less is made one way where it passes, and the other way where it doesn't
pub choice_by_less : {X : Type 0} (o : Ordering) (x y : X) → ((o ≡ Less) × ((if is_lt o then x else y) ≡ x)) ⊎ (¬ (o ≡ Less) × ((if is_lt o then x else y) ≡ y))
choice_by_less o x y = elim (less_or_not o) [
  | inl e ↦ inl (e, ap (λ o. if is_lt o then x else y) e)
  | inr n ↦ inr (n.1, ap (λ t. if t then x else y) n.0)
]

module _ {d : ℕ} (no_square : IsNoSquare d) where
  abbrev L : IsOrderedRing (quadratic d) (IsPositive d)
  L = quadratic_order no_square

  -- of a choice by the comparison of two numbers
  pub choice_by_comparison : {X : Type 0} (a b : Quadratic) (x y : X)
      → (IsLess d a b × ((if is_lt (compare d a b) then x else y) ≡ x)) ⊎ (IsAtMost (quadratic d) (IsPositive d) b a × ((if is_lt (compare d a b) then x else y) ≡ y))
  choice_by_comparison a b x y = elim (choice_by_less (compare d a b) x y) [
    | inl h ↦ inl ((less_iff_less no_square (compare d a b) a b refl).0 h.0, h.1)
    | inr h ↦ inr ((λ l. h.0 ((less_iff_less no_square (compare d a b) a b refl).1 l)), h.1)
  ]

  -- ---- positive parts and sizes

  -- a positive number is its positive part
  pub positive_part_of_positive : (x : Quadratic) → IsPositive d x → positive_part d x ≡ x
  positive_part_of_positive x h = ap (λ o. if is_gt o then x else nil) (sign-positive d x h)

  -- of another number it is 0
  pub positive_part_of_other : (x : Quadratic) → ¬ IsPositive d x → positive_part d x ≡ nil
  positive_part_of_other x n = elim (L.trichotomy x) [
    | positive h ↦ absurd (n h)
    | null e ↦ ap (λ o. if is_gt o then x else nil) (sign-zero d x e)
    | negative h ↦ ap (λ o. if is_gt o then x else nil) (sign-negative d x h)
  ]

  -- the size of a number above 0 is the number
  pub size_of_positive : (x : Quadratic) → IsPositive d x → (if is_gt (sign d x) then x else neg x) ≡ x
  size_of_positive x h = ap (λ o. if is_gt o then x else neg x) (sign-positive d x h)

  -- of one below 0 its negation
  pub size_of_negative : (x : Quadratic) → IsPositive d (neg x) → (if is_gt (sign d x) then x else neg x) ≡ neg x
  size_of_negative x h = ap (λ o. if is_gt o then x else neg x) (sign-negative d x h)

  -- ---- the least of a list

  abbrev AtMost : Quadratic → Quadratic → Type 0
  AtMost x y = IsAtMost (quadratic d) (IsPositive d) x y

  least_from_is : (x : Quadratic) (ys : List Quadratic)
      → ((least_from d x ys ≡ x) ⊎ IsIn (least_from d x ys) ys) × AtMost (least_from d x ys) x × ((y : Quadratic) → IsIn y ys → AtMost (least_from d x ys) y)
  least_from_is x [] = (inl refl, order.at_most_refl L x, λ y h. absurd h)
  least_from_is x (y ∷ ys) =
      let z : Quadratic = if is_lt (compare d y x) then y else x in
      let rest = least_from_is z ys in
      elim (choice_by_comparison y x y x) [
        | inl h ↦
            let to_y : AtMost (least_from d z ys) y = subst (AtMost (least_from d z ys)) h.1 rest.1 in (
              elim rest.0 [ inl e ↦ inr (inl (e ∙ h.1)) | inr k ↦ inr (inr k) ],
              order.at_most_trans L (least_from d z ys) y x to_y (order.at_most_of_less L y x h.0),
              λ w k. elim k [ inl e ↦ subst (AtMost (least_from d z ys)) (sym e) to_y | inr m ↦ rest.2 w m ],
            )
        | inr h ↦
            let to_x : AtMost (least_from d z ys) x = subst (AtMost (least_from d z ys)) h.1 rest.1 in (
              elim rest.0 [ inl e ↦ inl (e ∙ h.1) | inr k ↦ inr (inr k) ],
              to_x,
              λ w k. elim k [
                | inl e ↦ order.at_most_trans L (least_from d z ys) x w to_x (subst (AtMost x) (sym e) h.0)
                | inr m ↦ rest.2 w m
              ],
            )
      ]

  -- a member of a list that is at most each of its members is the least
  pub least_is : (xs : List Quadratic) (x : Quadratic) → IsIn x xs → ((y : Quadratic) → IsIn y xs → AtMost x y) → least d xs ≡ x
  least_is [] x h low = absurd h
  least_is (y ∷ ys) x h low =
      let z = least_from d y ys in
      let rest = least_from_is y ys in
      order.at_most_antisymm L z x
      (elim h [ inl e ↦ subst (AtMost z) (sym e) rest.1 | inr k ↦ rest.2 x k ])
      (elim rest.0 [ inl e ↦ subst (AtMost x) (sym e) (low y (inl refl)) | inr k ↦ low z (inr k) ])
