-- Counts of the corners around a boundary, by tests that agree but for what changes from side to side; and the corners of images.
use Rattle.std.proofs.Common.{◌≡◌, ℕ, suc, ◌+◌, Bool, cond, List, [], ◌∷◌, length, count_by, refl, sym, ap, ◌∙◌, subst, arith}
use Rattle.std.proofs.lemmas.List.Sums.{sum_by-cons}
use Rattle.std.specs.List.{AllByRecursion}
use Rattle.fs_lists.proofs.Counts.{one_if}
use Rattle.fs_quadratic.specs.Ring.{Quadratic}
use Rattle.fs_plane.specs.Vector.{PlaneVector}
use Rattle.fs_gluing.specs.Convex.{CornerSides, corners_from, corners_of, last_side}
use Rattle.fs_unfold.proofs.Images.{IsImage, AreImages}
use Rattle.fs_unfold.proofs.ReversedSides.{last_from, last_side-cons}

count_by-cons : {X : Type 0} (p : X → Bool) (x : X) (xs : List X) → count_by p (x ∷ xs) ≡ one_if (p x) + count_by p xs
count_by-cons p x xs = sum_by-cons (λ y. cond (p y) 1 0) x xs

-- ---- counts around a boundary

counts_along : (g : PlaneVector → ℕ) (p q : CornerSides → Bool) (b : PlaneVector) (sides : List PlaneVector)
    → AllByRecursion (λ corner. g corner.after + one_if (p corner) ≡ g corner.before + one_if (q corner)) (corners_from b sides)
    → g (last_from b sides) + count_by p (corners_from b sides) ≡ g b + count_by q (corners_from b sides)
counts_along g p q b [] h = refl
counts_along g p q b (side ∷ sides) h =
    let rest = counts_along g p q side sides h.1 in
    let here = h.0 in
    let first = count_by-cons p (record { before = b; after = side }) (corners_from side sides) in
    let second = count_by-cons q (record { before = b; after = side }) (corners_from side sides) in
    omega arith

-- two tests count the same around a boundary, where at each corner they differ by what a number of its two sides differs
pub counts_around : (g : PlaneVector → ℕ) (p q : CornerSides → Bool) (sides : List PlaneVector)
    → AllByRecursion (λ corner. g corner.after + one_if (p corner) ≡ g corner.before + one_if (q corner)) (corners_of sides)
    → count_by p (corners_of sides) ≡ count_by q (corners_of sides)
counts_around g p q [] h = refl
counts_around g p q (side ∷ sides) h =
    let all = counts_along g p q (last_side (side ∷ sides)) (side ∷ sides) h in
    let last = ap g (last_side-cons side sides) in
    omega arith

-- ---- the corners of images

module _ (d : ℕ) (f : PlaneVector) (turned : Bool) (α β : Quadratic) where
  abbrev Image : PlaneVector → PlaneVector → Type 0
  Image v q = IsImage d f turned α β v q

  abbrev Images : List PlaneVector → List PlaneVector → Type 0
  Images vs qs = AreImages d f turned α β vs qs

  -- there are as many images
  pub images_length : (vs qs : List PlaneVector) → Images vs qs → length qs ≡ length vs
  images_length [] [] h = refl
  images_length [] (q ∷ qs) h = absurd h
  images_length (v ∷ vs) [] h = absurd h
  images_length (v ∷ vs) (q ∷ qs) h = ap (λ (n : ℕ). suc n) (images_length vs qs h.1)

  last_image : (v q : PlaneVector) (vs qs : List PlaneVector) → Image v q → Images vs qs → Image (last_from v vs) (last_from q qs)
  last_image v q [] [] i h = i
  last_image v q [] (r ∷ qs) i h = absurd h
  last_image v q (w ∷ vs) [] i h = absurd h
  last_image v q (w ∷ vs) (r ∷ qs) i h = last_image w r vs qs h.0 h.1

  last_side_image : (v q : PlaneVector) (vs qs : List PlaneVector) → Images (v ∷ vs) (q ∷ qs) → Image (last_side (v ∷ vs)) (last_side (q ∷ qs))
  last_side_image v q vs qs h =
      subst (λ l. Image l (last_side (q ∷ qs))) (sym (last_side-cons v vs))
      (subst (Image (last_from v vs)) (sym (last_side-cons q qs)) (last_image v q vs qs h.0 h.1))

  module _ (P Q : CornerSides → Type 0)
      (carry : (v w q r : PlaneVector) → Image v q → Image w r → P (record { before = v; after = w }) → Q (record { before = q; after = r })) where
    all_along : (v q : PlaneVector) (vs qs : List PlaneVector) → Image v q → Images vs qs → AllByRecursion P (corners_from v vs) → AllByRecursion Q (corners_from q qs)
    all_along v q [] [] i h a = tt
    all_along v q [] (r ∷ qs) i h a = absurd h
    all_along v q (w ∷ vs) [] i h a = absurd h
    all_along v q (w ∷ vs) (r ∷ qs) i h a = (carry v w q r i h.0 a.0, all_along w r vs qs h.0 h.1 a.1)

    -- what holds of each corner, and is carried over to images, holds of each corner of the images
    pub all_of_images : (vs qs : List PlaneVector) → Images vs qs → AllByRecursion P (corners_of vs) → AllByRecursion Q (corners_of qs)
    all_of_images [] [] h a = tt
    all_of_images [] (q ∷ qs) h a = absurd h
    all_of_images (v ∷ vs) [] h a = absurd h
    all_of_images (v ∷ vs) (q ∷ qs) h a = all_along (last_side (v ∷ vs)) (last_side (q ∷ qs)) (v ∷ vs) (q ∷ qs) (last_side_image v q vs qs h) h a

  module _ (p q : CornerSides → Bool)
      (agree : (v w r s : PlaneVector) → Image v r → Image w s → q (record { before = r; after = s }) ≡ p (record { before = v; after = w })) where
    count_along : (v r : PlaneVector) (vs rs : List PlaneVector) → Image v r → Images vs rs → count_by q (corners_from r rs) ≡ count_by p (corners_from v vs)
    count_along v r [] [] i h = refl
    count_along v r [] (s ∷ rs) i h = absurd h
    count_along v r (w ∷ vs) [] i h = absurd h
    count_along v r (w ∷ vs) (s ∷ rs) i h =
        count_by-cons q (record { before = r; after = s }) (corners_from s rs)
        ∙ (λ j. one_if (agree v w r s i h.0 j) + count_along w s vs rs h.0 h.1 j)
        ∙ sym (count_by-cons p (record { before = v; after = w }) (corners_from w vs))

    -- a test counts as many corners of the images as another one, with which it agrees at images, counts corners
    pub count_of_images : (vs rs : List PlaneVector) → Images vs rs → count_by q (corners_of rs) ≡ count_by p (corners_of vs)
    count_of_images [] [] h = refl
    count_of_images [] (r ∷ rs) h = absurd h
    count_of_images (v ∷ vs) [] h = absurd h
    count_of_images (v ∷ vs) (r ∷ rs) h = count_along (last_side (v ∷ vs)) (last_side (r ∷ rs)) (v ∷ vs) (r ∷ rs) (last_side_image v r vs rs h) h
