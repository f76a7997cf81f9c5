-- Rows cut around one of their items and before their last one, and what moves there within a longer row.
use Rattle.std.proofs.Common.{◌≡◌, ◌≢◌, ℕ, suc, ◌≤◌, List, [], ◌∷◌, ◌++◌, length, take, drop, refl, sym, ap, ◌∙◌, subst, inl, inr}
use Rattle.std.proofs.Math.Seq.{length-take-le, take_at, drop_at}
use Rattle.std.proofs.lemmas.List.{append_assoc, take-append-drop}
use Rattle.std.specs.List.{AllByRecursion}
use Rattle.fs_lists.specs.Members.{IsIn, IsDistinct}
use Rattle.fs_lists.proofs.All.{All-prefix, All-suffix}
use Rattle.fs_lists.proofs.Equal.{tails_equal}
use Rattle.fs_lists.proofs.Members.{in_append_cases, in_append_right}

module _ {X : Type 0} where
  -- x is in the row, and y is its last item
  pub record IsAround (x y : X) (row : List X) : Type 0 where
    pub left : List X
    pub right : List X
    pub was : row ≡ left ++ x ∷ (right ++ y ∷ [])

  -- the parts of a list before and after a member
  found_in : (x : X) (xs : List X) → IsIn x xs → (left : List X) × (right : List X) × (xs ≡ left ++ x ∷ right)
  found_in x [] h = absurd h
  found_in x (y ∷ ys) (inl e) = ([], ys, ap (λ u. u ∷ ys) (sym e))
  found_in x (y ∷ ys) (inr h) = let r = found_in x ys h in (y ∷ r.0, r.1, ap (λ us. y ∷ us) r.2)

  -- another member stands before the last item
  in_before : (x y : X) (before : List X) → x ≢ y → IsIn x (before ++ y ∷ []) → IsIn x before
  in_before x y before differ h = elim (in_append_cases x before (y ∷ []) h) [ inl k ↦ k | inr k ↦ elim k [ inl e ↦ absurd (differ e) | inr n ↦ absurd n ] ]

  pub around : (x y : X) (row before : List X) → row ≡ before ++ y ∷ [] → x ≢ y → IsIn x row → IsAround x y row
  around x y row before e differ h =
      let r = found_in x before (in_before x y before differ (subst (IsIn x) e h)) in
      record { left = r.0; right = r.1; was = e ∙ ap (λ us. us ++ y ∷ []) r.2 ∙ append_assoc r.0 (x ∷ r.1) (y ∷ []) }

  -- an item of a list of different items isn't after itself
  pub not_after : (x : X) (left right : List X) → IsDistinct (left ++ x ∷ right) → ¬ IsIn x right
  not_after x [] right p h = p.0 x h refl
  not_after x (y ∷ left) right p h = not_after x left right p.1 h

  -- a list is cut in one way only around the last place of an item
  pub same_place : (x : X) (left right before after : List X) → left ++ x ∷ right ≡ before ++ x ∷ after → ¬ IsIn x right → ¬ IsIn x after → length left ≡ length before
  same_place x [] right [] after e n m = refl
  same_place x [] right (z ∷ before) after e n m =
      absurd (n (subst (IsIn x) (sym (tails_equal x z right (before ++ x ∷ after) e)) (in_append_right x before (x ∷ after) (inl refl))))
  same_place x (z ∷ left) right [] after e n m =
      absurd (m (subst (IsIn x) (tails_equal z x (left ++ x ∷ right) after e) (in_append_right x left (x ∷ right) (inl refl))))
  same_place x (z ∷ left) right (w ∷ before) after e n m =
      ap suc (same_place x left right before after (tails_equal z w (left ++ x ∷ right) (before ++ x ∷ after) e) n m)

  -- parts of lists of different items
  pub distinct_suffix : (xs ys : List X) → IsDistinct (xs ++ ys) → IsDistinct ys
  distinct_suffix [] ys p = p
  distinct_suffix (x ∷ xs) ys p = distinct_suffix xs ys p.1

  pub distinct_across : (x : X) (xs ys : List X) → IsDistinct (xs ++ ys) → IsIn x ys → ¬ IsIn x xs
  distinct_across x [] ys p h m = m
  distinct_across x (z ∷ xs) ys p h (inl e) = p.0 x (in_append_right x xs ys h) (sym e)
  distinct_across x (z ∷ xs) ys p h (inr m) = distinct_across x xs ys p.1 h m

  pub distinct_drop : (k : ℕ) (xs : List X) → IsDistinct xs → IsDistinct (drop k xs)
  distinct_drop k xs p = distinct_suffix (take k xs) (drop k xs) (subst IsDistinct (sym (take-append-drop k xs)) p)

  -- an item after the first k isn't among them
  pub not_in_take : (x : X) (k : ℕ) (xs : List X) → IsDistinct xs → IsIn x (drop k xs) → ¬ IsIn x (take k xs)
  not_in_take x k xs p h = distinct_across x (take k xs) (drop k xs) (subst IsDistinct (sym (take-append-drop k xs)) p) h

  pub All-drop : (P : X → Type 0) (k : ℕ) (xs : List X) → AllByRecursion P xs → AllByRecursion P (drop k xs)
  All-drop P k xs a = All-suffix P (take k xs) (drop k xs) (subst (AllByRecursion P) (sym (take-append-drop k xs)) a)

  pub All-take : (P : X → Type 0) (k : ℕ) (xs : List X) → AllByRecursion P xs → AllByRecursion P (take k xs)
  All-take P k xs a = All-prefix P (take k xs) (drop k xs) (subst (AllByRecursion P) (sym (take-append-drop k xs)) a)

  -- ---- the end of a longer row

  -- the row after the first k items
  pub whole_row : (k : ℕ) (row left end : List X) → drop k row ≡ left ++ end → row ≡ (take k row ++ left) ++ end
  whole_row k row left end e = sym (take-append-drop k row) ∙ ap (λ us. take k row ++ us) e ∙ sym (append_assoc (take k row) left end)

  -- a row that begins with the same k items
  pub same_front : (k : ℕ) (row after left end : List X) → k ≤ length row → after ≡ (take k row ++ left) ++ end → (take k after ≡ take k row) × (drop k after ≡ left ++ end)
  same_front k row after left end l e =
      let is : after ≡ take k row ++ (left ++ end) = e ∙ append_assoc (take k row) left end in
      let long = length-take-le k row l in
      (ap (take k) is ∙ take_at (take k row) (left ++ end) k long, ap (drop k) is ∙ drop_at (take k row) (left ++ end) k long)
