-- The opposites of a polygon's sides in the reverse order: their corners are the polygon's with the sides before and after exchanged and opposite, and they close where the polygon does.
use Rattle.std.proofs.ByRecursion.{all_shuffled}
use Rattle.std.proofs.Common.{◌≡◌, ℕ, ◌+◌, Bool, List, [], ◌∷◌, ◌++◌, map, reverse, fold, cond, count_by, refl, sym, ap, ◌∙◌, subst}
use Rattle.std.proofs.lemmas.List.Sorted.{IsPermutation-refl, IsPermutation-cons, IsPermutation-reverse, sum_by-IsPermutation}
use Rattle.std.specs.Prelude.{IsPermutation}
use Rattle.std.specs.List.{AllByRecursion}
use Rattle.fs_lists.proofs.All.{All-map}
use Rattle.fs_ring.proofs.Solver.{derived, numeral, negative, ◌⊕◌, ◌≐◌, ◌from◌}
use Rattle.fs_ring.proofs.PlaneSolver.{vector_eq}
use Rattle.fs_quadratic.specs.Ring.{Quadratic, add, neg, zero as nil}
use Rattle.fs_quadratic.proofs.Laws.{quadratic_ring}
use Rattle.fs_plane.specs.Vector.{PlaneVector, vector_zero, vector_add, vector_neg, vector_total_from}
use Rattle.fs_unfold.proofs.ReversedLists.{reverse_cons}
use Rattle.fs_gluing.specs.Convex.{CornerSides, IsClosed, corners_from, corners_of, last_side}

-- ---- the last side

-- the last of these sides, or the one before them where there are none
abbrev pub last_from : PlaneVector → List PlaneVector → PlaneVector
last_from b [] = b
last_from b (side ∷ sides) = last_from side sides

pub last_side-cons : (side : PlaneVector) (sides : List PlaneVector) → last_side (side ∷ sides) ≡ last_from side sides
last_side-cons side [] = refl
last_side-cons side (next ∷ sides) = last_side-cons next sides

last_from-push : (b : PlaneVector) (sides : List PlaneVector) (side : PlaneVector) → last_from b (sides ++ side ∷ []) ≡ side
last_from-push b [] side = refl
last_from-push b (first ∷ sides) side = last_from-push first sides side

last_side-push : (sides : List PlaneVector) (side : PlaneVector) → last_side (sides ++ side ∷ []) ≡ side
last_side-push [] side = refl
last_side-push (first ∷ sides) side = last_side-cons first (sides ++ side ∷ []) ∙ last_from-push first sides side

-- ---- corners

-- the corner that the opposites of the two sides make in the reverse order
abbrev pub opposite_corner : CornerSides → CornerSides
opposite_corner corner = record { before = vector_neg corner.after; after = vector_neg corner.before }

-- one side more has one corner more
corners_from-push : (b : PlaneVector) (sides : List PlaneVector) (side : PlaneVector)
    → corners_from b (sides ++ side ∷ []) ≡ corners_from b sides ++ (record { before = last_from b sides; after = side }) ∷ []
corners_from-push b [] side = refl
corners_from-push b (first ∷ sides) side = ap (λ corners. record { before = b; after = first } ∷ corners) (corners_from-push first sides side)

reversed_corners : (z b : PlaneVector) (sides : List PlaneVector)
    → corners_from z (reverse (map vector_neg sides) ++ vector_neg b ∷ [])
    ≡ record { before = z; after = vector_neg (last_from b sides) } ∷ reverse (map opposite_corner (corners_from b sides))
reversed_corners z b [] = refl
reversed_corners z b (side ∷ sides) =
    let rest = reverse (map vector_neg sides) ++ vector_neg side ∷ [] in
    let corner : CornerSides = record { before = b; after = side } in
    ap (λ (ss : List PlaneVector). corners_from z (ss ++ vector_neg b ∷ [])) (reverse_cons (vector_neg side) (map vector_neg sides))
    ∙ corners_from-push z rest (vector_neg b)
    ∙ ap (λ l. corners_from z rest ++ record { before = l; after = vector_neg b } ∷ []) (last_from-push z (reverse (map vector_neg sides)) (vector_neg side))
    ∙ ap (λ corners. corners ++ opposite_corner corner ∷ []) (reversed_corners z side sides)
    ∙ ap (λ corners. record { before = z; after = vector_neg (last_from side sides) } ∷ corners) (sym (reverse_cons (opposite_corner corner) (map opposite_corner (corners_from side sides))))

-- the corners of the reversed sides are the opposites of the corners, in some order
corners_of_reversed : (sides : List PlaneVector) → IsPermutation (map opposite_corner (corners_of sides)) (corners_of (reverse (map vector_neg sides)))
corners_of_reversed [] = IsPermutation-refl []
corners_of_reversed (side ∷ sides) =
    subst (IsPermutation (map opposite_corner (corners_of (side ∷ sides)))) (sym (all_corners ∙ first_corner))
    (IsPermutation-cons (opposite_corner (record { before = last_side (side ∷ sides); after = side })) _ _ (IsPermutation-reverse (map opposite_corner (corners_from side sides))))
  where
    all_corners : corners_of (reverse (map vector_neg (side ∷ sides)))
        ≡ opposite_corner (record { before = last_from side sides; after = side }) ∷ reverse (map opposite_corner (corners_from side sides))
    all_corners =
        ap corners_of (reverse_cons (vector_neg side) (map vector_neg sides))
        ∙ ap (λ l. corners_from l (reverse (map vector_neg sides) ++ vector_neg side ∷ [])) (last_side-push (reverse (map vector_neg sides)) (vector_neg side))
        ∙ reversed_corners (vector_neg side) side sides

    first_corner : opposite_corner (record { before = last_from side sides; after = side }) ∷ reverse (map opposite_corner (corners_from side sides))
        ≡ opposite_corner (record { before = last_side (side ∷ sides); after = side }) ∷ reverse (map opposite_corner (corners_from side sides))
    first_corner = ap (λ l. opposite_corner (record { before = l; after = side }) ∷ reverse (map opposite_corner (corners_from side sides))) (sym (last_side-cons side sides))

-- what holds of the opposite of each corner holds of each corner of the reversed sides
pub all_of_reversed : (P : CornerSides → Type 0) (sides : List PlaneVector) → AllByRecursion (λ corner. P (opposite_corner corner)) (corners_of sides)
    → AllByRecursion P (corners_of (reverse (map vector_neg sides)))
all_of_reversed P sides h = all_shuffled P _ _ (corners_of_reversed sides) (All-map opposite_corner P (corners_of sides) h)

count-map : {X Y : Type 0} (p : Y → Bool) (f : X → Y) (a : ℕ) (xs : List X) → fold (λ s y. s + cond (p y) 1 0) a (map f xs) ≡ fold (λ s x. s + cond (p (f x)) 1 0) a xs
count-map p f a [] = refl
count-map p f a (x ∷ xs) = count-map p f (a + cond (p (f x)) 1 0) xs

-- as many corners of the reversed sides pass a test as opposites of the corners do
pub count_of_reversed : (p : CornerSides → Bool) (sides : List PlaneVector)
    → count_by p (corners_of (reverse (map vector_neg sides))) ≡ count_by (λ corner. p (opposite_corner corner)) (corners_of sides)
count_of_reversed p sides =
    sum_by-IsPermutation (λ corner. cond (p corner) 1 0) _ _ (corners_of_reversed sides)
    ∙ count-map p opposite_corner 0 (corners_of sides)

-- ---- sums

vector_total_from-push : (a : PlaneVector) (sides : List PlaneVector) (side : PlaneVector) → vector_total_from a (sides ++ side ∷ []) ≡ vector_add (vector_total_from a sides) side
vector_total_from-push a [] side = refl
vector_total_from-push a (first ∷ sides) side = vector_total_from-push (vector_add a first) sides side

-- a number moved to the other sum
moved : (a b s u v : Quadratic) → add u v ≡ add a (add b s) → add (add u (neg s)) v ≡ add a b
moved a b s u v e =
    derived (quadratic_ring 0) (a ∷ b ∷ s ∷ u ∷ v ∷ []) (λ a b s u v. (u ⊕ negative s) ⊕ v ≐ a ⊕ b from (numeral 1, u ⊕ v ≐ a ⊕ (b ⊕ s)) ∷ []) refl (e, tt)

-- the sums of the reversed sides and of the sides cancel
totals_cancel : (a b : PlaneVector) (sides : List PlaneVector) → vector_add (vector_total_from a (reverse (map vector_neg sides))) (vector_total_from b sides) ≡ vector_add a b
totals_cancel a b [] = refl
totals_cancel a b (side ∷ sides) =
    let turned = vector_total_from a (reverse (map vector_neg sides)) in
    let rest = vector_total_from (vector_add b side) sides in
    let before = totals_cancel a (vector_add b side) sides in
    ap (λ (ss : List PlaneVector). vector_add (vector_total_from a ss) rest) (reverse_cons (vector_neg side) (map vector_neg sides))
    ∙ ap (λ v. vector_add v rest) (vector_total_from-push a (reverse (map vector_neg sides)) (vector_neg side))
    ∙ vector_eq (moved a.x b.x side.x turned.x rest.x (ap (λ v. v.x) before)) (moved a.y b.y side.y turned.y rest.y (ap (λ v. v.y) before))

-- the reversed sides of what closes close
pub closed_of_reversed : (sides : List PlaneVector) → IsClosed sides → IsClosed (reverse (map vector_neg sides))
closed_of_reversed sides closed =
    vector_eq (without nil (ap (λ v. v.x) both)) (without nil (ap (λ v. v.y) both))
  where
    turned : PlaneVector
    turned = vector_total_from vector_zero (reverse (map vector_neg sides))

    both : vector_add turned vector_zero ≡ vector_add vector_zero vector_zero
    both = ap (vector_add turned) (sym closed) ∙ totals_cancel vector_zero vector_zero sides

    without : {x : Quadratic} (z : Quadratic) → add x z ≡ add z z → x ≡ z
    without {x} z e = derived (quadratic_ring 0) (x ∷ z ∷ []) (λ x z. x ≐ z from (numeral 1, x ⊕ z ≐ z ⊕ z) ∷ []) refl (e, tt)
