-- The last item of a row, what stands around an item that is there once, and the rows after an item has moved. A library for crates to come.
use Rattle.std.proofs.Common.{◌≡◌, ℕ, zero, suc, ◌<◌, List, [], ◌∷◌, ◌++◌, length, take, IsPermutation, refl, sym, ap, ◌∙◌, subst, inl, inr, arith}
use Rattle.std.proofs.lemmas.List.{map-append, same_from_push}
use Rattle.std.proofs.lemmas.List.Sorted.{IsPermutation-trans, IsPermutation-middle, IsPermutation-append_right, IsPermutation-append_comm, IsPermutation-cons}
use Rattle.std.specs.List.{AllByRecursion}
use Rattle.fs_lists.specs.Members.{IsIn, IsDistinct}
use Rattle.fs_lists.proofs.Members.{in_append_left, in_append_right}
use Rattle.fs_gluing.specs.Exchanges.{Letter, names_of}
use Rattle.fs_rauzy.specs.Events.{IsMovedBehind, IsPutInPlace}

-- an item and those before it
pub record EndsWith {X : Type 0} (xs : List X) : Type 0 where
  pub front : List X
  pub last : X
  pub is : xs ≡ front ++ last ∷ []

module _ {X : Type 0} where
  -- a list that isn't empty has a last item
  pub ends_with : (xs : List X) → 0 < length xs → EndsWith xs
  ends_with [] l = absurd (omega arith)
  ends_with (x ∷ []) l = record { front = []; last = x; is = refl }
  ends_with (x ∷ (y ∷ ys)) l =
      let r = ends_with (y ∷ ys) (omega arith) in
      record { front = x ∷ r.front; last = r.last; is = ap (λ zs. x ∷ zs) r.is }

  -- ---- where an item stands once

  -- parts of a list with different items have different items
  pub distinct_left : (xs ys : List X) → IsDistinct (xs ++ ys) → IsDistinct xs
  distinct_left [] ys p = tt
  distinct_left (x ∷ xs) ys p = ((λ y h. p.0 y (in_append_left y xs ys h)), distinct_left xs ys p.1)

  pub distinct_right : (xs ys : List X) → IsDistinct (xs ++ ys) → IsDistinct ys
  distinct_right [] ys p = p
  distinct_right (x ∷ xs) ys p = distinct_right xs ys p.1

  -- and none of the one part is in the other
  pub distinct_across : (xs ys : List X) (x : X) → IsDistinct (xs ++ ys) → IsIn x xs → ¬ IsIn x ys
  distinct_across [] ys x p h k = h
  distinct_across (y ∷ xs) ys x p (inl e) k = p.0 x (in_append_right x xs ys k) (sym e)
  distinct_across (y ∷ xs) ys x p (inr h) k = distinct_across xs ys x p.1 h k

  -- what stands before and after an item that is there once
  pub same_around : (x : X) (ls rs ms ss : List X) → IsDistinct (ls ++ x ∷ rs) → ls ++ x ∷ rs ≡ ms ++ x ∷ ss → (ls ≡ ms) × (rs ≡ ss)
  same_around x [] rs [] ss p e = (refl, cc)
  same_around x [] rs (m ∷ ms) ss p e =
      let rest : rs ≡ ms ++ x ∷ ss = cc in
      absurd (p.0 x (subst (IsIn x) (sym rest) (in_append_right x ms (x ∷ ss) (inl refl))) refl)
  same_around x (l ∷ ls) rs [] ss p e =
      let same : l ≡ x = cc in
      absurd (p.0 x (in_append_right x ls (x ∷ rs) (inl refl)) same)
  same_around x (l ∷ ls) rs (m ∷ ms) ss p e =
      let first : l ≡ m = cc in
      let rest : ls ++ x ∷ rs ≡ ms ++ x ∷ ss = cc in
      let r = same_around x ls rs ms ss p.1 rest in
      ((λ i. first i ∷ r.0 i), r.1)

  -- the last item, where it is there once, isn't among the first k, unless these are all
  pub last_not_in_take : (front : List X) (x : X) (k : ℕ) → IsDistinct (front ++ x ∷ []) → k < length (front ++ x ∷ []) → ¬ IsIn x (take k (front ++ x ∷ []))
  last_not_in_take [] x zero p l h = h
  last_not_in_take [] x (suc k) p l h = omega arith
  last_not_in_take (y ∷ front) x zero p l h = h
  last_not_in_take (y ∷ front) x (suc k) p l (inl e) = p.0 x (in_append_right x front (x ∷ []) (inl refl)) (sym e)
  last_not_in_take (y ∷ front) x (suc k) p l (inr h) = last_not_in_take front x k p.1 (omega arith) h

  -- the first k items are those of a front, or an item after it is among them
  pub take_front : (front : List X) (x : X) (rest : List X) (k : ℕ) → ¬ IsIn x (take k (front ++ x ∷ rest)) → (others : List X) → take k (front ++ x ∷ rest) ≡ take k (front ++ x ∷ others)
  take_front [] x rest zero n others = refl
  take_front [] x rest (suc k) n others = absurd (n (inl refl))
  take_front (y ∷ front) x rest zero n others = refl
  take_front (y ∷ front) x rest (suc k) n others = ap (λ zs. y ∷ zs) (take_front front x rest k (λ h. n (inr h)) others)

  -- ---- after an item has moved

  -- an item that moves behind another leaves one row
  pub moved_unique : {w l : X} {before a b : List X} → IsDistinct before → IsMovedBehind w l before a → IsMovedBehind w l before b → a ≡ b
  moved_unique {w} {l} {before} {a} {b} p m n =
      let r = same_around w m.left (m.right ++ l ∷ []) n.left (n.right ++ l ∷ []) (subst (λ (zs : List X). IsDistinct zs) m.was p) (sym m.was ∙ n.was) in
      let s = same_from_push m.right n.right l l r.1 in
      m.becomes ∙ (λ i. r.0 i ++ w ∷ (l ∷ s.0 i)) ∙ sym n.becomes

  -- and so does one that takes another's place
  pub put_unique : {x y : X} {before a b : List X} → IsDistinct before → IsPutInPlace x y before a → IsPutInPlace x y before b → a ≡ b
  put_unique {x} {y} {before} {a} {b} p m n =
      let r = same_around x m.left (m.right ++ y ∷ []) n.left (n.right ++ y ∷ []) (subst (λ (zs : List X). IsDistinct zs) m.was p) (sym m.was ∙ n.was) in
      let s = same_from_push m.right n.right y y r.1 in
      m.becomes ∙ (λ i. r.0 i ++ y ∷ s.0 i) ∙ sym n.becomes

  -- the row is a permutation of the one before
  pub moved_permutation : {w l : X} {before after : List X} → IsMovedBehind w l before after → IsPermutation before after
  moved_permutation {w} {l} {before} {after} m =
      subst (λ zs. IsPermutation zs after) (sym m.was)
      (subst (IsPermutation (m.left ++ w ∷ (m.right ++ l ∷ []))) (sym m.becomes)
      (IsPermutation-append_right m.left (w ∷ (m.right ++ l ∷ [])) (w ∷ (l ∷ m.right))
      (IsPermutation-cons w (m.right ++ l ∷ []) (l ∷ m.right) (IsPermutation-append_comm m.right (l ∷ [])))))

  -- the row before is a permutation of the one after, and the item whose place was taken
  pub put_permutation : {x y : X} {before after : List X} → IsPutInPlace x y before after → IsPermutation before (x ∷ after)
  put_permutation {x} {y} {before} {after} m =
      subst (λ zs. IsPermutation zs (x ∷ after)) (sym m.was)
      (subst (λ zs. IsPermutation (m.left ++ x ∷ (m.right ++ y ∷ [])) (x ∷ zs)) (sym m.becomes)
      (IsPermutation-trans (m.left ++ x ∷ (m.right ++ y ∷ [])) (x ∷ (m.left ++ (m.right ++ y ∷ []))) (x ∷ (m.left ++ y ∷ m.right))
      (IsPermutation-middle m.left x (m.right ++ y ∷ []))
      (IsPermutation-cons x (m.left ++ (m.right ++ y ∷ [])) (m.left ++ y ∷ m.right)
      (IsPermutation-append_right m.left (m.right ++ y ∷ []) (y ∷ m.right) (IsPermutation-append_comm m.right (y ∷ []))))))

  -- the first k items before which the winner doesn't stand are those of the row before
  pub moved_take : {w l : X} {before after : List X} (k : ℕ) → IsMovedBehind w l before after → ¬ IsIn w (take k after) → take k after ≡ take k before
  moved_take {w} {l} {before} {after} k m n =
      ap (take k) m.becomes
      ∙ take_front m.left w (l ∷ m.right) k (λ h. n (subst (λ zs. IsIn w (take k zs)) (sym m.becomes) h)) (m.right ++ l ∷ [])
      ∙ ap (take k) (sym m.was)

-- names move as letters do
pub moved_names : {w l : Letter} {before after : List Letter} → IsMovedBehind w l before after → IsMovedBehind w.name l.name (names_of before) (names_of after)
moved_names {w} {l} m = record {
  left = names_of m.left;
  right = names_of m.right;
  was = ap names_of m.was ∙ map-append (λ (l : Letter). l.name) m.left (w ∷ (m.right ++ l ∷ [])) ∙ ap (λ ns. names_of m.left ++ w.name ∷ ns) (map-append (λ (l : Letter). l.name) m.right (l ∷ []));
  becomes = ap names_of m.becomes ∙ map-append (λ (l : Letter). l.name) m.left (w ∷ (l ∷ m.right));
}

-- what holds of each member holds of each item
pub All_of_members : {X : Type 0} (P : X → Type 0) (xs : List X) → ((x : X) → IsIn x xs → P x) → AllByRecursion P xs
All_of_members P [] h = tt
All_of_members P (x ∷ xs) h = (h x (inl refl), All_of_members P xs (λ y k. h y (inr k)))
