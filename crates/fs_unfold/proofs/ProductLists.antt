-- The list of products: each item is a product of reflections, none is in it twice, and it holds all of them once it is whole.
use Rattle.std.proofs.Common.{◌≡◌, ◌⊎◌, ◌↔◌, ℕ, zero, suc, ◌+◌, ◌<◌, ◌≤◌, IsTrue, Option, Some, List, [], ◌∷◌, ◌++◌, length, refl, sym, ap, ◌∙◌, subst, inl, inr, arith, length-append}
use Rattle.std.proofs.lemmas.Bool.{cases_lt}
use Rattle.std.specs.List.{AllByRecursion, slice_get}
use Rattle.fs_lists.specs.Members.{IsIn, IsDistinct}
use Rattle.fs_lists.proofs.Members.{All-member, in_append_left, in_append_right, apart_append}
use Rattle.fs_lists.proofs.All.{All-append}
use Rattle.fs_unfold.specs.declared.matrices.Matrix.{Matrix}
use Rattle.fs_unfold.specs.declared.matrices.Mirror.{Mirror}
use Rattle.fs_unfold.specs.Matrices.{identity, times}
use Rattle.fs_unfold.specs.Products.{most_products, IsProduct, AreListed, first, known, added, next_product, AreProducts}
use Rattle.fs_unfold.proofs.ComputedMatrices.{times_is}
use Rattle.fs_unfold.proofs.EqualMatrices.{is_listed, Decides-is_listed}

-- ---- items of lists

module _ {X : Type 0} where
  pub get_in : (xs : List X) (k : ℕ) (x : X) → slice_get xs k ≡ Some x → IsIn x xs
  get_in [] k x e = absurd cc
  get_in (y ∷ ys) zero x e = inl (some_equal e)
    where
      some_equal : Some y ≡ Some x → x ≡ y
      some_equal e = cc
  get_in (y ∷ ys) (suc k) x e = inr (get_in ys k x e)

  pub get_append : (xs ys : List X) (k : ℕ) (x : X) → slice_get xs k ≡ Some x → slice_get (xs ++ ys) k ≡ Some x
  get_append [] ys k x e = absurd cc
  get_append (y ∷ xs) ys zero x e = e
  get_append (y ∷ xs) ys (suc k) x e = get_append xs ys k x e

  pub get_inside : (xs : List X) (k : ℕ) (x : X) → slice_get xs k ≡ Some x → k < length xs
  get_inside [] k x e = absurd cc
  get_inside (y ∷ xs) zero x e = let l : 0 < suc (length xs) = omega arith in l
  get_inside (y ∷ xs) (suc k) x e = let l = get_inside xs k x e in omega arith

  pub in_get : (x : X) (xs : List X) → IsIn x xs → (k : ℕ) × (slice_get xs k ≡ Some x)
  in_get x [] h = absurd h
  in_get x (y ∷ xs) (inl e) = (0, ap Some (sym e))
  in_get x (y ∷ xs) (inr h) = let r = in_get x xs h in (suc r.0, r.1)

  -- an item before the last one
  pub earlier_inside : (list : List X) (h : ℕ) (n m : X) → h < length list → slice_get (list ++ n ∷ []) h ≡ Some m → slice_get list h ≡ Some m
  earlier_inside [] h n m l e = absurd (let none : h < 0 = l in omega (arith, none))
  earlier_inside (x ∷ xs) zero n m l e = e
  earlier_inside (x ∷ xs) (suc h) n m l e = earlier_inside xs h n m (let below : suc h < suc (length xs) = l in omega (arith, below)) e

  pub same_some : (o : Option X) (x y : X) → o ≡ Some x → o ≡ Some y → x ≡ y
  same_some o x y p q = cc

-- the products before product g, and that up to reflection i, times the reflections are in the list
abbrev IsMultipliedUpTo : ℕ → List Mirror → List Matrix → ℕ → ℕ → Type 0
IsMultipliedUpTo d rs list g i = (h j : ℕ) (m : Matrix) (r : Mirror) → (h < g) ⊎ ((h ≡ g) × (j < i)) → slice_get list h ≡ Some m → slice_get rs j ≡ Some r → IsIn (times d m r) list

pub up_to : (g i h j : ℕ) → (h < g) ⊎ ((h ≡ g) × (j < i + 1)) → ((h < g) ⊎ ((h ≡ g) × (j < i))) ⊎ ((h ≡ g) × (j ≡ i))
up_to g i h j (inl l) = inl (inl l)
up_to g i h j (inr p) = elim (below_or_last j i p.1) [ inl l ↦ inl (inr (p.0, l)) | inr e ↦ inr (p.0, e) ]
  where
    below_or_last : (j i : ℕ) → j < i + 1 → (j < i) ⊎ (j ≡ i)
    below_or_last j i l = elim (cases_lt j i) [ inl m ↦ inl m | inr m ↦ inr (omega arith) ]

module _ {d : ℕ} {rs : List Mirror} where
  -- ---- what is in the list

  -- each item is a product of reflections
  pub listed_products : (list : List Matrix) (g i : ℕ) → AreListed d rs list g i → AllByRecursion (IsProduct d rs) list
  listed_products _ _ _ first = ((λ held one closed. one), tt)
  listed_products _ _ _ (known list g i m n r before at_g at_i made there) = listed_products list g i before
  listed_products _ _ _ (added list g i m n r before at_g at_i made new room) =
      All-append (IsProduct d rs) list (n ∷ []) (listed_products list g i before)
      ((λ held one closed. subst (λ x. IsTrue (held x)) (sym (times_is d m r n made)) (closed m r (get_in rs i r at_i) (member list m (listed_products list g i before) (get_in list g m at_g) held one closed))), tt)
    where
      member : (xs : List Matrix) (m : Matrix) → AllByRecursion (IsProduct d rs) xs → IsIn m xs → IsProduct d rs m
      member [] m all h = absurd h
      member (x ∷ xs) m all (inl e) = subst (IsProduct d rs) (sym e) all.0
      member (x ∷ xs) m all (inr h) = member xs m all.1 h
  listed_products _ _ _ (next_product list g before) = listed_products list g (length rs) before

  -- no item is in it twice
  pub listed_once : (list : List Matrix) (g i : ℕ) → AreListed d rs list g i → IsDistinct list
  listed_once _ _ _ first = ((λ y h. absurd h), tt)
  listed_once _ _ _ (known list g i m n r before at_g at_i made there) = listed_once list g i before
  listed_once _ _ _ (added list g i m n r before at_g at_i made new room) =
      apart_append (λ x y. x ≡ y) list (n ∷ []) (listed_once list g i before) ((λ y h. absurd h), tt) (λ x y x_in y_in e. new (subst (λ z. IsIn z list) (e ∙ only y y_in) x_in))
    where
      only : (y : Matrix) → IsIn y (n ∷ []) → y ≡ n
      only y (inl e) = e
      only y (inr h) = absurd h
  listed_once _ _ _ (next_product list g before) = listed_once list g (length rs) before

  -- it has 1 to 24 items
  pub listed_some : (list : List Matrix) (g i : ℕ) → AreListed d rs list g i → 0 < length list
  listed_some _ _ _ first = let l : 0 < 1 = omega arith in l
  listed_some _ _ _ (known list g i m n r before at_g at_i made there) = listed_some list g i before
  listed_some _ _ _ (added list g i m n r before at_g at_i made new room) = let e = length-append list (n ∷ []) in let l : 0 < length list + 1 = omega arith in subst (λ k. 0 < k) (sym e) l
  listed_some _ _ _ (next_product list g before) = listed_some list g (length rs) before

  pub listed_few : (list : List Matrix) (g i : ℕ) → AreListed d rs list g i → length list ≤ most_products
  listed_few _ _ _ first = let l : 1 ≤ 24 = omega arith in l
  listed_few _ _ _ (known list g i m n r before at_g at_i made there) = listed_few list g i before
  listed_few _ _ _ (added list g i m n r before at_g at_i made new room) = let e = length-append list (n ∷ []) in let l : length list + 1 ≤ 24 = omega (arith, room) in subst (λ k. k ≤ 24) (sym e) l
  listed_few _ _ _ (next_product list g before) = listed_few list g (length rs) before

  -- the identity is its first item
  listed_identity : (list : List Matrix) (g i : ℕ) → AreListed d rs list g i → slice_get list 0 ≡ Some identity
  listed_identity _ _ _ first = refl
  listed_identity _ _ _ (known list g i m n r before at_g at_i made there) = listed_identity list g i before
  listed_identity _ _ _ (added list g i m n r before at_g at_i made new room) = get_append list (n ∷ []) 0 identity (listed_identity list g i before)
  listed_identity _ _ _ (next_product list g before) = listed_identity list g (length rs) before

  -- ---- what is multiplied

  multiplied : (list : List Matrix) (g i : ℕ) → AreListed d rs list g i → IsMultipliedUpTo d rs list g i
  multiplied _ _ _ first = λ h j m r l at_h at_j. absurd (none h j l)
    where
      none : (h j : ℕ) → (h < 0) ⊎ ((h ≡ 0) × (j < 0)) → ⊥
      none h j (inl l) = omega arith
      none h j (inr l) = let k = l.1 in omega arith
  multiplied _ _ _ (known list g i m n r before at_g at_i made there) = λ h j k s l at_h at_j. elim (up_to g i h j l) [
    | inl low ↦ multiplied list g i before h j k s low at_h at_j
    | inr last ↦
        let e : k ≡ m = same_some (slice_get list g) k m (ap (slice_get list) (sym last.0) ∙ at_h) at_g in
        let f : s ≡ r = same_some (slice_get rs i) s r (ap (slice_get rs) (sym last.1) ∙ at_j) at_i in
        subst (λ x. IsIn x list) (times_is d m r n made ∙ (λ a. times d (sym e a) (sym f a))) there
  ]
  multiplied _ _ _ (added list g i m n r before at_g at_i made new room) = λ h j k s l at_h at_j.
      let inside : h < length list = low_inside h j l in
      let at : slice_get list h ≡ Some k = earlier_inside list h n k inside at_h in
      elim (up_to g i h j l) [
        | inl low ↦ in_append_left (times d k s) list (n ∷ []) (multiplied list g i before h j k s low at at_j)
        | inr last ↦
            let e : k ≡ m = same_some (slice_get list g) k m (ap (slice_get list) (sym last.0) ∙ at) at_g in
            let f : s ≡ r = same_some (slice_get rs i) s r (ap (slice_get rs) (sym last.1) ∙ at_j) at_i in
            in_append_right (times d k s) list (n ∷ []) (inl ((λ a. times d (e a) (f a)) ∙ sym (times_is d m r n made)))
      ]
    where
      low_inside : (h j : ℕ) → (h < g) ⊎ ((h ≡ g) × (j < i + 1)) → h < length list
      low_inside h j (inl l) = let m_in = get_inside list g m at_g in omega arith
      low_inside h j (inr p) = let m_in = get_inside list g m at_g in let e = p.0 in omega arith
  multiplied _ _ _ (next_product list g before) = λ h j k s l at_h at_j. multiplied list g (length rs) before h j k s (row h j l (get_inside rs j s at_j)) at_h at_j
    where
      row : (h j : ℕ) → (h < g + 1) ⊎ ((h ≡ g + 1) × (j < 0)) → j < length rs → (h < g) ⊎ ((h ≡ g) × (j < length rs))
      row h j (inl l) in_row = elim (cases_lt h g) [ inl m ↦ inl m | inr m ↦ inr ((let e : h ≡ g = omega arith in e), in_row) ]
      row h j (inr p) in_row = absurd (let k = p.1 in omega arith)

  -- the whole list holds the product of each item and each reflection
  pub products_closed : (list : List Matrix) → AreProducts d rs list → (m : Matrix) (r : Mirror) → IsIn m list → IsIn r rs → IsIn (times d m r) list
  products_closed list are m r m_in r_in =
      let h = in_get m list m_in in
      let j = in_get r rs r_in in
      multiplied list (length list) 0 are h.0 j.0 m r (inl (get_inside list h.0 m h.1)) h.1 j.1

  -- so its items are the products of reflections
  pub products_least : (list : List Matrix) → AreProducts d rs list → (m : Matrix) → IsIn m list ↔ IsProduct d rs m
  products_least list are m = (
    (λ h. All-member (IsProduct d rs) list m (listed_products list (length list) 0 are) h),
    (λ h. (Decides-is_listed m list).0 (h (λ x. is_listed x list) ((Decides-is_listed identity list).1 (get_in list 0 identity (listed_identity list (length list) 0 are)))
        (λ g r r_in g_in. (Decides-is_listed (times d g r) list).1 (products_closed list are g r ((Decides-is_listed g list).0 g_in) r_in)))),
  )
