-- Lists with the same members, each once: they are as long, sum to the same, and each is a permutation of the other. A library for crates to come.
use Rattle.std.proofs.Common.{◌≡◌, ◌≢◌, eqb, false, ℕ, suc, List, [], ◌∷◌, map, Contains, IsPermutation, refl, sym, ap, ◌∙◌, subst, inl, inr, arith}
use Rattle.std.proofs.lemmas.List.Sorted.{IsPermutation-refl, IsPermutation-cons, IsPermutation-trans, Contains-permutation}
use Rattle.std.proofs.lemmas.Map.Keys.{IsDistinct-IsPermutation}
use Rattle.std.proofs.lemmas.Bool.{eq-eqb}
use Rattle.std.proofs.lemmas.Bool.Decides.{eqb_tells}
use Rattle.std.specs.List as by_test
use Rattle.std.specs.List.{AllByRecursion}
use Rattle.fs_lists.specs.Members.{IsIn, IsDistinct}
use Rattle.fs_lists.proofs.Members.{in_of_contains, All-member, in_map, in_map_cases, apart_map}
use Rattle.fs_lists.proofs.Removal.{without, in_without, without_or, apart_without}
use Rattle.fs_ring.proofs.RingLaws as ring_laws
use Rattle.fs_quadratic.specs.Ring.{Quadratic, add, total}
use Rattle.fs_quadratic.proofs.Laws.{quadratic_ring}

module _ {X : Type 0} where
  -- what is in a list is what std's word says
  pub contains_of_in : (x : X) (xs : List X) → IsIn x xs → Contains xs x
  contains_of_in x [] h = absurd h
  contains_of_in x (y ∷ ys) (inl e) = (0, omega arith, sym e)
  contains_of_in x (y ∷ ys) (inr h) = let r = contains_of_in x ys h in (suc r.0, omega (arith, r.1), r.2)

  -- a permutation has the same members
  pub in_permutation : (x : X) (xs ys : List X) → IsPermutation xs ys → IsIn x xs → IsIn x ys
  in_permutation x xs ys p h = in_of_contains x ys (Contains-permutation xs ys x p (contains_of_in x xs h))

  -- a member of a list of different items isn't in what is left without it
  pub not_in_without : (x : X) (xs : List X) (h : IsIn x xs) → IsDistinct xs → ¬ IsIn x (without x xs h)
  not_in_without x [] h p m = h
  not_in_without x (y ∷ ys) (inl e) p m = p.0 x m (sym e)
  not_in_without x (y ∷ ys) (inr h) p (inl e) = p.0 x h (sym e)
  not_in_without x (y ∷ ys) (inr h) p (inr m) = not_in_without x ys h p.1 m

  -- a list is a permutation of a member and the rest
  pub without_permutation : (x : X) (xs : List X) (h : IsIn x xs) → IsPermutation (x ∷ without x xs h) xs
  without_permutation x [] h = absurd h
  without_permutation x (y ∷ ys) (inl e) = subst (λ u. IsPermutation (u ∷ ys) (y ∷ ys)) (sym e) (IsPermutation-refl (y ∷ ys))
  without_permutation x (y ∷ ys) (inr h) =
      IsPermutation-trans (x ∷ y ∷ without x ys h) (y ∷ x ∷ without x ys h) (y ∷ ys) (swap_first x y (without x ys h))
      (IsPermutation-cons y (x ∷ without x ys h) ys (without_permutation x ys h))
    where
      swap_first : (a b : X) (zs : List X) → IsPermutation (a ∷ b ∷ zs) (b ∷ a ∷ zs)
      swap_first a b zs = record { moves = (0, 1) ∷ []; below = (omega arith, omega arith, tt); is = refl }

  -- without a member, lists with the same members have the same members
  rest_in : (x : X) (xs ys : List X) (h : IsIn x ys) → IsDistinct (x ∷ xs) → ((y : X) → IsIn y (x ∷ xs) → IsIn y ys) → (y : X) → IsIn y xs → IsIn y (without x ys h)
  rest_in x xs ys h p to y m = elim (without_or x ys h y (to y (inr m))) [ inl e ↦ absurd (p.0 y m (sym e)) | inr k ↦ k ]

  rest_back : (x : X) (xs ys : List X) (h : IsIn x ys) → IsDistinct ys → ((y : X) → IsIn y ys → IsIn y (x ∷ xs)) → (y : X) → IsIn y (without x ys h) → IsIn y xs
  rest_back x xs ys h p back y m = elim (back y (in_without x ys h y m)) [
    | inl e ↦ absurd (not_in_without x ys h p (subst (λ u. IsIn u (without x ys h)) e m))
    | inr k ↦ k
  ]

  -- lists of different items with the same members are permutations of each other
  pub permutation_of_members : (xs ys : List X) → IsDistinct xs → IsDistinct ys → ((x : X) → IsIn x xs → IsIn x ys) → ((x : X) → IsIn x ys → IsIn x xs) → IsPermutation xs ys
  permutation_of_members [] [] p q to back = IsPermutation-refl []
  permutation_of_members [] (y ∷ ys) p q to back = absurd (back y (inl refl))
  permutation_of_members (x ∷ xs) ys p q to back =
      let h : IsIn x ys = to x (inl refl) in
      IsPermutation-trans (x ∷ xs) (x ∷ without x ys h) ys
      (IsPermutation-cons x xs (without x ys h) (permutation_of_members xs (without x ys h) p.1 (apart_without (λ u v. u ≡ v) x ys h q) (rest_in x xs ys h p to) (rest_back x xs ys h q back)))
      (without_permutation x ys h)

-- ---- different numbers

-- std's word says of numbers that they differ by a test
to_tested : (xs : List ℕ) → IsDistinct xs → by_test.IsDistinct eqb xs
unfolding by_test.IsDistinct
to_tested [] p = tt
to_tested (x ∷ xs) p = (go xs (λ y h. p.0 y h), to_tested xs p.1)
  where
    go : (ys : List ℕ) → ((y : ℕ) → IsIn y ys → x ≢ y) → AllByRecursion (λ y. eqb x y ≡ false) ys
    go [] apart = tt
    go (y ∷ ys) apart = (elim (eqb_tells x y) [ inl h ↦ absurd (apart y (inl refl) h.1) | inr h ↦ h.0 ], go ys (λ z h. apart z (inr h)))

of_tested : (xs : List ℕ) → by_test.IsDistinct eqb xs → IsDistinct xs
unfolding by_test.IsDistinct
of_tested [] p = tt
of_tested (x ∷ xs) p =
    ((λ y h e. elim (eqb_tells x y) [ inl k ↦ let f = sym k.0 ∙ All-member (λ y. eqb x y ≡ false) xs y p.0 h in cc | inr k ↦ k.1 e ]), of_tested xs p.1)

eqb-comm : (a b : ℕ) → eqb a b ≡ eqb b a
eqb-comm a b = elim (eqb_tells a b) [
  | inl h ↦ h.0 ∙ sym (eq-eqb b a (sym h.1))
  | inr h ↦ elim (eqb_tells b a) [ inl k ↦ absurd (h.1 (sym k.1)) | inr k ↦ h.0 ∙ sym k.0 ]
]

-- numbers that differ still differ when they change places
pub distinct_permutation : (xs ys : List ℕ) → IsPermutation xs ys → IsDistinct xs → IsDistinct ys
distinct_permutation xs ys p q = of_tested ys (IsDistinct-IsPermutation eqb eqb-comm xs ys p (to_tested xs q))

-- ---- sums

total-without : {X : Type 0} (f : X → Quadratic) (x : X) (xs : List X) (h : IsIn x xs) → total (map f xs) ≡ add (f x) (total (map f (without x xs h)))
total-without f x [] h = absurd h
total-without f x (y ∷ ys) (inl e) = ap (λ u. add (f u) (total (map f ys))) (sym e)
total-without f x (y ∷ ys) (inr h) =
    ap (add (f y)) (total-without f x ys h) ∙ ring_laws.add_left_comm (quadratic_ring 0) (f y) (f x) (total (map f (without x ys h)))

-- lists of different items with the same members have the same sum
pub total_of_members : {X : Type 0} (f : X → Quadratic) (xs ys : List X) → IsDistinct xs → IsDistinct ys → ((x : X) → IsIn x xs → IsIn x ys) → ((x : X) → IsIn x ys → IsIn x xs)
    → total (map f xs) ≡ total (map f ys)
total_of_members f [] [] p q to back = refl
total_of_members f [] (y ∷ ys) p q to back = absurd (back y (inl refl))
total_of_members f (x ∷ xs) ys p q to back =
    let h = to x (inl refl) in
    ap (add (f x)) (total_of_members f xs (without x ys h) p.1 (apart_without (λ u v. u ≡ v) x ys h q) (rest_in x xs ys h p to) (rest_back x xs ys h q back))
    ∙ sym (total-without f x ys h)

-- where g and k are each other's inverses on a list of different items, the sum of the values at g of each is the same
pub total_through : {X : Type 0} (f : X → Quadratic) (g k : X → X) (xs : List X) → IsDistinct xs → ((x : X) → IsIn x xs → IsIn (g x) xs × (k (g x) ≡ x))
    → ((x : X) → IsIn x xs → IsIn (k x) xs × (g (k x) ≡ x)) → total (map (λ x. f (g x)) xs) ≡ total (map f xs)
total_through f g k xs p to back =
    ap total (sym (map-map g f xs))
    ∙ total_of_members f (map g xs) xs
    (apart_map g (λ x y. x ≡ y) (λ x y. x ≡ y) xs (λ x w hx hw e. sym (to x hx).1 ∙ ap k e ∙ (to w hw).1) p) p
    (λ x h. let r = in_map_cases g x xs h in subst (λ y. IsIn y xs) (sym r.2) (to r.0 r.1).0)
    (λ x h. let r = back x h in subst (λ y. IsIn y (map g xs)) r.1 (in_map g (k x) xs r.0))
  where
    map-map : {X Y Z : Type 0} (g : X → Y) (f : Y → Z) (xs : List X) → map f (map g xs) ≡ map (λ x. f (g x)) xs
    map-map g f [] = refl
    map-map g f (x ∷ xs) = ap (λ ys. f (g x) ∷ ys) (map-map g f xs)
