-- The products are listed in one way: at each place there is one list, and what comes next was decided.
use Rattle.std.proofs.Common.{◌≡◌, ◌⊎◌, ℕ, ◌+◌, ◌<◌, Result, Ok, Err, Some, List, [], ◌∷◌, ◌++◌, length, refl, sym, ap, ◌∙◌, subst, inl, inr, arith}
use Rattle.std.proofs.lemmas.Bool.{cases_lt}
use Rattle.std.specs.List.{slice_get}
use Rattle.fs_lists.specs.Members.{IsIn}
use Rattle.fs_lists.proofs.Results.{ok_equal, ok_not_err}
use Rattle.fs_quadratic.specs.declared.steps.Place.{Place}
use Rattle.fs_unfold.specs.declared.matrices.Matrix.{Matrix}
use Rattle.fs_unfold.specs.declared.matrices.Mirror.{Mirror}
use Rattle.fs_unfold.specs.Matrices.{checked_times}
use Rattle.fs_unfold.specs.Products.{most_products, AreListed, first, known, added, next_product, AreProducts}
use Rattle.fs_unfold.specs.Unfolding.{IsNextProduct}
use Rattle.fs_unfold.proofs.ProductLists.{same_some, get_inside, up_to}

-- a place before another one, in the order in which products are multiplied
abbrev IsBefore : ℕ → ℕ → ℕ → ℕ → Type 0
IsBefore h j g i = (h < g) ⊎ ((h ≡ g) × (j < i))

-- of two places one is before the other, or they are the same
pub places : (h j g i : ℕ) → IsBefore h j g i ⊎ (((h ≡ g) × (j ≡ i)) ⊎ IsBefore g i h j)
places h j g i = elim (cases_lt h g) [
  | inl l ↦ inl (inl l)
  | inr m ↦ elim (cases_lt g h) [
    | inl l ↦ inr (inr (inl l))
    | inr n ↦ row (let e : h ≡ g = omega arith in e)
  ]
]
  where
    row : h ≡ g → IsBefore h j g i ⊎ (((h ≡ g) × (j ≡ i)) ⊎ IsBefore g i h j)
    row e = elim (cases_lt j i) [
      | inl l ↦ inl (inr (e, l))
      | inr m ↦ elim (cases_lt i j) [
        | inl l ↦ inr (inr (inr (sym e, l)))
        | inr n ↦ inr (inl (e, (let f : j ≡ i = omega arith in f)))
      ]
    ]

-- a product that stops: it overflows, or is to be added to a full list
pub data IsStop (list : List Matrix) : Result Matrix Place → Type 0 where
  overflow : (stop : Place) → IsStop list (Err stop)
  full : (n : Matrix) → ¬ IsIn n list → length list ≡ most_products → IsStop list (Ok n)

module _ (d : ℕ) (rs : List Mirror) where
  same_product : (m n : Matrix) (r s : Mirror) (k l : Matrix) → m ≡ n → r ≡ s → checked_times d m r ≡ Ok k → checked_times d n s ≡ Ok l → k ≡ l
  same_product m n r s k l e f p q = ok_equal k l (sym p ∙ (λ a. checked_times d (e a) (f a)) ∙ q)

  -- one list at each place
  list_unique : (xs ys : List Matrix) (g i h j : ℕ) → AreListed d rs xs g i → AreListed d rs ys h j → g ≡ h → i ≡ j → xs ≡ ys
  list_unique _ _ _ _ _ _ first first p q = refl
  list_unique _ _ _ _ _ _ first (known ys h j m n r before a b made there) p q = absurd (omega (arith, q))
  list_unique _ _ _ _ _ _ first (added ys h j m n r before a b made new room) p q = absurd (omega (arith, q))
  list_unique _ _ _ _ _ _ first (next_product ys h before) p q = absurd (omega (arith, p))
  list_unique _ _ _ _ _ _ (known xs g i m n r before a b made there) first p q = absurd (omega (arith, q))
  list_unique _ _ _ _ _ _ (known xs g i m n r before a b made there) (known ys h j m' n' r' before' a' b' made' there') p q =
      list_unique xs ys g i h j before before' p (let e : i ≡ j = omega arith in e)
  list_unique _ _ _ _ _ _ (known xs g i m n r before a b made there) (added ys h j m' n' r' before' a' b' made' new' room') p q =
      let same = list_unique xs ys g i h j before before' p (let e : i ≡ j = omega arith in e) in
      let ri : i ≡ j = omega arith in
      let em = same_some (slice_get ys h) m m' ((λ t. slice_get (sym same t) (sym p t)) ∙ a) a' in
      let er = same_some (slice_get rs j) r r' (ap (slice_get rs) (sym ri) ∙ b) b' in
      absurd (new' (subst (λ z. IsIn z ys) (same_product m m' r r' n n' em er made made') (subst (IsIn n) same there)))
  list_unique _ _ _ _ _ _ (known xs g i m n r before a b made there) (next_product ys h before') p q = absurd (omega (arith, q))
  list_unique _ _ _ _ _ _ (added xs g i m n r before a b made new room) first p q = absurd (omega (arith, q))
  list_unique _ _ _ _ _ _ (added xs g i m n r before a b made new room) (known ys h j m' n' r' before' a' b' made' there') p q =
      let same = list_unique xs ys g i h j before before' p (let e : i ≡ j = omega arith in e) in
      let ri : i ≡ j = omega arith in
      let em = same_some (slice_get ys h) m m' ((λ t. slice_get (sym same t) (sym p t)) ∙ a) a' in
      let er = same_some (slice_get rs j) r r' (ap (slice_get rs) (sym ri) ∙ b) b' in
      absurd (new (subst (λ z. IsIn z xs) (sym (same_product m m' r r' n n' em er made made')) (subst (IsIn n') (sym same) there')))
  list_unique _ _ _ _ _ _ (added xs g i m n r before a b made new room) (added ys h j m' n' r' before' a' b' made' new' room') p q =
      let same = list_unique xs ys g i h j before before' p (let e : i ≡ j = omega arith in e) in
      let ri : i ≡ j = omega arith in
      let em = same_some (slice_get ys h) m m' ((λ t. slice_get (sym same t) (sym p t)) ∙ a) a' in
      let er = same_some (slice_get rs j) r r' (ap (slice_get rs) (sym ri) ∙ b) b' in
      λ t. same t ++ same_product m m' r r' n n' em er made made' t ∷ []
  list_unique _ _ _ _ _ _ (added xs g i m n r before a b made new room) (next_product ys h before') p q = absurd (omega (arith, q))
  list_unique _ _ _ _ _ _ (next_product xs g before) first p q = absurd (omega (arith, p))
  list_unique _ _ _ _ _ _ (next_product xs g before) (known ys h j m' n' r' before' a' b' made' there') p q = absurd (omega (arith, q))
  list_unique _ _ _ _ _ _ (next_product xs g before) (added ys h j m' n' r' before' a' b' made' new' room') p q = absurd (omega (arith, q))
  list_unique _ _ _ _ _ _ (next_product xs g before) (next_product ys h before') p q = list_unique xs ys g (length rs) h (length rs) before before' (let e : g ≡ h = omega arith in e) refl

  -- at this place a product was computed, and was known or had room
  record HasPassed (h j : ℕ) : Type 0 where
    pub list : List Matrix
    pub listed : AreListed d rs list h j
    pub product : Matrix
    pub mirror : Mirror
    pub of_product : slice_get list h ≡ Some product
    pub of_side : slice_get rs j ≡ Some mirror
    pub next : Matrix
    pub made : checked_times d product mirror ≡ Ok next
    pub room : IsIn next list ⊎ (length list < most_products)

  -- so it was at each place before
  passed : (list : List Matrix) (g i : ℕ) → AreListed d rs list g i → (h j : ℕ) → j < length rs → IsBefore h j g i → HasPassed h j
  passed _ _ _ first h j in_row (inl l) = absurd (omega (arith, l))
  passed _ _ _ first h j in_row (inr l) = absurd (let k = l.1 in omega (arith, k))
  passed _ _ _ (known list g i m n r before a b made there) h j in_row l = elim (up_to g i h j l) [
    | inl low ↦ passed list g i before h j in_row low
    | inr last ↦ at_last last.0 last.1
  ]
    where
      at_last : h ≡ g → j ≡ i → HasPassed h j
      at_last e f = subst (λ x. HasPassed x j) (sym e) (subst (HasPassed g) (sym f)
          (record { list = list; listed = before; product = m; mirror = r; of_product = a; of_side = b; next = n; made = made; room = inl there }))
  passed _ _ _ (added list g i m n r before a b made new room) h j in_row l = elim (up_to g i h j l) [
    | inl low ↦ passed list g i before h j in_row low
    | inr last ↦ at_last last.0 last.1
  ]
    where
      at_last : h ≡ g → j ≡ i → HasPassed h j
      at_last e f = subst (λ x. HasPassed x j) (sym e) (subst (HasPassed g) (sym f)
          (record { list = list; listed = before; product = m; mirror = r; of_product = a; of_side = b; next = n; made = made; room = inr room }))
  passed _ _ _ (next_product list g before) h j in_row l = passed list g (length rs) before h j in_row (row l)
    where
      row : IsBefore h j (g + 1) 0 → IsBefore h j g (length rs)
      row (inl l) = elim (cases_lt h g) [ inl m ↦ inl m | inr m ↦ inr ((let e : h ≡ g = omega arith in e), in_row) ]
      row (inr p) = absurd (let k = p.1 in omega (arith, k))

  -- what comes next at a place is what was passed there
  passed_next : (h j : ℕ) (list : List Matrix) (result : Result Matrix Place) → HasPassed h j → IsNextProduct d rs list h j result
      → (n : Matrix) × (result ≡ Ok n) × (IsIn n list ⊎ (length list < most_products))
  passed_next h j list result p s =
      let same = list_unique p.list list h j h j p.listed s.listed refl refl in
      let em = same_some (slice_get list h) p.product s.product (ap (λ xs. slice_get xs h) (sym same) ∙ p.of_product) s.of_product in
      let er = same_some (slice_get rs j) p.mirror s.mirror p.of_side s.of_side in
      (p.next, s.is ∙ (λ a. checked_times d (sym em a) (sym er a)) ∙ p.made, room same p.room)
    where
      room : p.list ≡ list → IsIn p.next p.list ⊎ (length p.list < most_products) → IsIn p.next list ⊎ (length list < most_products)
      room e (inl h) = inl (subst (IsIn p.next) e h)
      room e (inr l) = inr (subst (λ xs. length xs < most_products) e l)

  no_stop : (list : List Matrix) (result : Result Matrix Place) (n : Matrix) → result ≡ Ok n → IsIn n list ⊎ (length list < most_products) → IsStop list result → ⊥
  no_stop list _ n e room (overflow stop) = ok_not_err n stop (sym e)
  no_stop list _ n e (inl there) (full m new all) = new (subst (λ z. IsIn z list) (sym (ok_equal m n e)) there)
  no_stop list _ n e (inr room) (full m new all) = let l = room in omega (arith, l, all)

  in_row : (j : ℕ) (r : Mirror) → slice_get rs j ≡ Some r → j < length rs
  in_row j r e = get_inside rs j r e

  not_passed : (xs : List Matrix) (g i : ℕ) (r : Result Matrix Place) → IsNextProduct d rs xs g i r → IsStop xs r → HasPassed g i → ⊥
  not_passed xs g i r s stop p = let n = passed_next g i xs r p s in no_stop xs r n.0 n.1 n.2 stop

  -- there is one stop at most
  pub stop_unique : (xs ys : List Matrix) (g i h j : ℕ) (r s : Result Matrix Place) → IsNextProduct d rs xs g i r → IsNextProduct d rs ys h j s → IsStop xs r → IsStop ys s
      → (g ≡ h) × (i ≡ j) × (xs ≡ ys) × (r ≡ s)
  stop_unique xs ys g i h j r s a b x y = elim (places g i h j) [
    | inl before ↦ absurd (not_passed xs g i r a x (passed ys h j b.listed g i (in_row i a.mirror a.of_side) before))
    | inr (inl same) ↦ equal same.0 same.1
    | inr (inr after) ↦ absurd (not_passed ys h j s b y (passed xs g i a.listed h j (in_row j b.mirror b.of_side) after))
  ]
    where
      equal : g ≡ h → i ≡ j → (g ≡ h) × (i ≡ j) × (xs ≡ ys) × (r ≡ s)
      equal p q =
          let same = list_unique xs ys g i h j a.listed b.listed p q in
          let em = same_some (slice_get ys h) a.product b.product ((λ t. slice_get (sym same t) (sym p t)) ∙ a.of_product) b.of_product in
          let er = same_some (slice_get rs j) a.mirror b.mirror (ap (slice_get rs) (sym q) ∙ a.of_side) b.of_side in
          (p, q, same, a.is ∙ (λ t. checked_times d (em t) (er t)) ∙ sym b.is)

  -- nothing follows a whole list
  after_whole : (list : List Matrix) → AreProducts d rs list → HasPassed (length list) 0 → ⊥
  after_whole list are p =
      let same = list_unique p.list list (length list) 0 (length list) 0 p.listed are refl refl in
      let inside = get_inside list (length list) p.product (ap (λ xs. slice_get xs (length list)) (sym same) ∙ p.of_product) in
      omega (arith, inside)

  -- there is none where the list is whole
  pub no_stop_when_whole : 0 < length rs → (list xs : List Matrix) (g i : ℕ) (r : Result Matrix Place) → AreProducts d rs list → IsNextProduct d rs xs g i r → IsStop xs r → ⊥
  no_stop_when_whole some list xs g i r are a x = elim (places g i (length list) 0) [
    | inl before ↦ not_passed xs g i r a x (passed list (length list) 0 are g i (in_row i a.mirror a.of_side) before)
    | inr (inl same) ↦
        let e = list_unique xs list g i (length list) 0 a.listed are same.0 same.1 in
        let inside = get_inside list (length list) a.product ((λ t. slice_get (sym e t) (sym same.0 t)) ∙ a.of_product) in
        omega (arith, inside)
    | inr (inr after) ↦ after_whole list are (passed xs g i a.listed (length list) 0 some after)
  ]

  -- there is one whole list
  pub products_unique : 0 < length rs → (xs ys : List Matrix) → AreProducts d rs xs → AreProducts d rs ys → xs ≡ ys
  products_unique some xs ys a b = elim (places (length xs) 0 (length ys) 0) [
    | inl before ↦ absurd (after_whole xs a (passed ys (length ys) 0 b (length xs) 0 some before))
    | inr (inl same) ↦ list_unique xs ys (length xs) 0 (length ys) 0 a b same.0 same.1
    | inr (inr after) ↦ absurd (after_whole ys b (passed xs (length xs) 0 a (length ys) 0 some after))
  ]
