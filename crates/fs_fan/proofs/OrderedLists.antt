-- Lists in an order: they go on, they are determined by their items, and no item is in one twice.
use Rattle.std.proofs.Common.{◌≡◌, ◌⊎◌, ◌≤◌, Bool, true, false, List, [], ◌∷◌, ◌++◌, length, map, refl, sym, ap, ◌∙◌, subst, inl, inr, append-nil}
use Rattle.fs_lists.specs.Members.{IsIn, IsDistinct}
use Rattle.fs_lists.proofs.Equal.{cons_equal, heads_equal, tails_equal, nil_not_around}
use Rattle.fs_lists.proofs.Members.{in_append_left, in_append_right, in_append_cases}
use Rattle.fs_lists.proofs.Removal.{at_most_partners}
use Rattle.fs_fan.specs.Search.{IsInOrder}
use Rattle.fs_fan.specs.Entries.{optional}

-- ---- one item or none

module _ {X : Type 0} where
  -- the item that there may be is there where the test holds
  pub in_optional : (test : Bool) (x : X) → test ≡ true → IsIn x (optional test x)
  in_optional true x h = inl refl
  in_optional false x h = cc

  -- and only there
  pub in_optional_cases : (test : Bool) (x y : X) → IsIn y (optional test x) → (y ≡ x) × (test ≡ true)
  in_optional_cases true x y (inl e) = (e, refl)
  in_optional_cases true x y (inr h) = absurd h
  in_optional_cases false x y h = absurd h

  -- the last item of a list is in it
  pub in_last : (xs : List X) (x : X) → IsIn x (xs ++ x ∷ [])
  in_last xs x = in_append_right x xs (x ∷ []) (inl refl)

  -- the items of a list with one more
  pub in_more_cases : (xs : List X) (x y : X) → IsIn y (xs ++ x ∷ []) → IsIn y xs ⊎ (y ≡ x)
  in_more_cases xs x y h = elim (in_append_cases y xs (x ∷ []) h) [ inl m ↦ inl m | inr m ↦ elim m [ inl e ↦ inr e | inr n ↦ absurd n ] ]

-- a map of one item or none
pub map-optional : {X Y : Type 0} (f : X → Y) (test : Bool) (x : X) → map f (optional test x) ≡ optional test (f x)
map-optional f true x = refl
map-optional f false x = refl

-- a list that is mapped to one with a last item has a last item
pub record HasLast {X Y : Type 0} (f : X → Y) (ys : List Y) (y : Y) (xs : List X) : Type 0 where
  pub before : List X
  pub last : X
  pub whole : xs ≡ before ++ last ∷ []
  pub before_mapped : ys ≡ map f before
  pub last_mapped : y ≡ f last

-- and what its last item is mapped to
pub last_of_map : {X Y : Type 0} (f : X → Y) (ys : List Y) (y : Y) (xs : List X) → ys ++ y ∷ [] ≡ map f xs → HasLast f ys y xs
last_of_map f ys y [] e = absurd (nil_not_around y ys [] (sym e))
last_of_map f [] y (x ∷ []) e = record { before = []; last = x; whole = refl; before_mapped = refl; last_mapped = heads_equal y (f x) [] [] e }
last_of_map f [] y (x ∷ (z ∷ zs)) e = absurd (nil_not_around (f z) [] (map f zs) (tails_equal y (f x) [] (f z ∷ map f zs) e))
last_of_map f (w ∷ ys) y (x ∷ xs) e =
    let rest = last_of_map f ys y xs (tails_equal w (f x) (ys ++ y ∷ []) (map f xs) e) in
    record {
      before = x ∷ rest.before;
      last = rest.last;
      whole = ap (λ l. x ∷ l) rest.whole;
      before_mapped = cons_equal w (f x) ys (map f rest.before) (heads_equal w (f x) (ys ++ y ∷ []) (map f xs) e) rest.before_mapped;
      last_mapped = rest.last_mapped;
    }

-- ---- in order

module _ {X : Type 0} (Before : X → X → Type 0) where
  -- an item after all others
  pub in_order-more : (xs : List X) (x : X) → IsInOrder Before xs → ((y : X) → IsIn y xs → Before y x) → IsInOrder Before (xs ++ x ∷ [])
  in_order-more [] x p before = ((λ y m. absurd m), tt)
  in_order-more (z ∷ zs) x p before = (
    (λ y m. elim (in_more_cases zs x y m) [ inl k ↦ p.0 y k | inr e ↦ subst (Before z) (sym e) (before z (inl refl)) ]),
    in_order-more zs x p.1 (λ y m. before y (inr m)),
  )

  -- likewise where there may be none
  pub in_order-optional : (xs : List X) (test : Bool) (x : X) → IsInOrder Before xs → ((y : X) → IsIn y xs → Before y x) → IsInOrder Before (xs ++ optional test x)
  in_order-optional xs true x p before = in_order-more xs x p before
  in_order-optional xs false x p before = subst (IsInOrder Before) (sym (append-nil xs)) p

  -- a prefix of a list in order is in order
  pub in_order-prefix : (xs ys : List X) → IsInOrder Before (xs ++ ys) → IsInOrder Before xs
  in_order-prefix [] ys p = tt
  in_order-prefix (z ∷ zs) ys p = ((λ y m. p.0 y (in_append_left y zs ys m)), in_order-prefix zs ys p.1)

  -- all items are before the last
  pub before_last : (xs : List X) (x : X) → IsInOrder Before (xs ++ x ∷ []) → (y : X) → IsIn y xs → Before y x
  before_last [] x p y m = absurd m
  before_last (z ∷ zs) x p y (inl e) = subst (λ w. Before w x) (sym e) (p.0 x (in_last zs x))
  before_last (z ∷ zs) x p y (inr m) = before_last zs x p.1 y m

  module _ (irrefl : (x : X) → ¬ Before x x) where
    -- no item is in it twice
    pub in_order_distinct : (xs : List X) → IsInOrder Before xs → IsDistinct xs
    in_order_distinct [] p = tt
    in_order_distinct (x ∷ xs) p = ((λ y m e. irrefl x (subst (Before x) (sym e) (p.0 y m))), in_order_distinct xs p.1)

    -- it is no longer than a list that has all its items
    pub in_order-at_most : (xs ys : List X) → IsInOrder Before xs → ((x : X) → IsIn x xs → IsIn x ys) → length xs ≤ length ys
    in_order-at_most xs ys p to = at_most_partners (λ x y. x ≡ y) (λ x y. x ≡ y) xs ys (λ x m. (x, to x m, refl)) (λ x w y m n e f. e ∙ sym f) (in_order_distinct xs p)

    module _ (trans : (x y z : X) → Before x y → Before y z → Before x z) where
      -- its items determine it
      pub in_order_unique : (xs ys : List X) → IsInOrder Before xs → IsInOrder Before ys → ((x : X) → IsIn x xs → IsIn x ys) → ((x : X) → IsIn x ys → IsIn x xs) → xs ≡ ys
      in_order_unique [] [] p q to back = refl
      in_order_unique [] (y ∷ ys) p q to back = absurd (back y (inl refl))
      in_order_unique (x ∷ xs) [] p q to back = absurd (to x (inl refl))
      in_order_unique (x ∷ xs) (y ∷ ys) p q to back =
          let same : x ≡ y =
          elim (to x (inl refl)) [
            | inl e ↦ e
            | inr m ↦ elim (back y (inl refl)) [ inl e ↦ sym e | inr n ↦ absurd (irrefl x (trans x y x (p.0 y n) (q.0 x m))) ]
          ] in
          cons_equal x y xs ys same
          (in_order_unique xs ys p.1 q.1
          (λ z m. elim (to z (inr m)) [ inl e ↦ absurd (irrefl z (subst (λ w. Before w z) (same ∙ sym e) (p.0 z m))) | inr n ↦ n ])
          (λ z m. elim (back z (inr m)) [ inl e ↦ absurd (irrefl z (subst (λ w. Before w z) (sym same ∙ sym e) (q.0 z m))) | inr n ↦ n ]))
