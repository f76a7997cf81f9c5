-- Faces are dealt out to lists by their numbers, in order.
use Rattle.std.proofs.Common.{◌≡◌, ◌≢◌, ◌⊎◌, ◌↔◌, inl, inr, ℕ, zero, suc, ◌+◌, ◌<◌, ◌≤◌, Option, Some, List, [], ◌∷◌, ◌++◌, length, map, set, sym, ap, ◌∙◌, refl, subst, arith}
use Rattle.std.proofs.lemmas.Bool.{cases_lt, cases_eq}
use Rattle.std.proofs.lemmas.List.{get_or-set_same, get_or-set_other, get_or_append_left, get_or-append-add, length-set, length-append, map-append, map-set, set-get_or}
use Rattle.std.specs.List.{AllByRecursion}
use Rattle.fs_lists.specs.Members.{IsIn}
use Rattle.fs_lists.proofs.Members.{in_append_left, in_append_right, in_append_cases, in_map_cases}
use Rattle.fs_delaunay.specs.Cells.{IsAscending, first_of}
use Rattle.fs_delaunay.specs.CellNumbers.{number_of, cell_at, AreDealt}

-- ---- ascending lists

all_more : (P : ℕ → Type 0) (xs : List ℕ) (n : ℕ) → AllByRecursion P xs → P n → AllByRecursion P (xs ++ n ∷ [])
all_more P [] n a p = (p, tt)
all_more P (x ∷ xs) n a p = (a.0, all_more P xs n a.1 p)

-- a greater number at the end
ascending_more : (xs : List ℕ) (n : ℕ) → IsAscending xs → ((x : ℕ) → IsIn x xs → x < n) → IsAscending (xs ++ n ∷ [])
ascending_more [] n a below = (tt, tt)
ascending_more (x ∷ xs) n a below = (all_more (λ m. x < m) xs n a.0 (below x (inl refl)), ascending_more xs n a.1 (λ y m. below y (inr m)))

first_more : (xs : List ℕ) (x n : ℕ) → IsIn x xs → first_of (xs ++ n ∷ []) ≡ first_of xs
first_more [] x n m = absurd m
first_more (y ∷ xs) x n m = refl

-- a list that is in a list of lists is one of them by its index
pub index_of : (cells : List (List ℕ)) (cell : List ℕ) → IsIn cell cells → (j : ℕ) × j < length cells × (cell ≡ cell_at cells j)
index_of [] cell m = absurd m
index_of (c ∷ cs) cell (inl e) = (0, omega arith, e)
index_of (c ∷ cs) cell (inr m) = let r = index_of cs cell m in let l = r.1 in (suc r.0, omega (arith, l), r.2)

pub cell_in : (cells : List (List ℕ)) (j : ℕ) → j < length cells → IsIn (cell_at cells j) cells
cell_in [] j l = absurd (omega (arith, l))
cell_in (c ∷ cs) zero l = inl refl
cell_in (c ∷ cs) (suc j) l = inr (cell_in cs j (omega (arith, l)))

-- ---- one more face

module _ (numbers : List (Option ℕ)) where
  module _ (n k : ℕ) (cells : List (List ℕ)) (a : AreDealt numbers n cells) (is : number_of numbers n ≡ Some k) where
    -- its list is there, or the next one
    pub list_there : ((x j i : ℕ) → number_of numbers x ≡ Some j → i < j → (y : ℕ) × y < x × (number_of numbers y ≡ Some i)) → k ≤ length cells
    list_there order = elim (cases_lt (length cells) k) [
      | inl l ↦
          let r = order n k (length cells) is l in
          let again = a.each r.0 (length cells) r.1 r.2 in
          absurd (omega (arith, again))
      | inr past ↦ past
    ]

    number_cases : (x j : ℕ) → x < n + 1 → number_of numbers x ≡ Some j → (x < n) ⊎ ((x ≡ n) × (j ≡ k))
    number_cases x j l h = elim (cases_lt x n) [
      | inl b ↦ inl b
      | inr past ↦
          let e : x ≡ n = omega (arith, l, past) in
          let both : Some j ≡ Some k = sym h ∙ ap (number_of numbers) e ∙ is in
          inr (e, cc)
    ]

    -- the members of one list, with the face at its end
    members_more : (xs : List ℕ) → ((x : ℕ) → IsIn x xs ↔ (x < n × (number_of numbers x ≡ Some k))) → (x : ℕ) → IsIn x (xs ++ n ∷ []) ↔ (x < n + 1 × (number_of numbers x ≡ Some k))
    members_more xs m x = (
      (λ h. elim (in_append_cases x xs (n ∷ []) h) [
        | inl i ↦ let r = (m x).0 i in let l = r.0 in (omega (arith, l), r.1)
        | inr i ↦ elim i [ inl e ↦ (omega (arith, e), ap (number_of numbers) e ∙ is) | inr none ↦ absurd none ]
      ]),
      (λ h. elim (number_cases x k h.0 h.1) [ inl l ↦ in_append_left x xs (n ∷ []) ((m x).1 (l, h.1)) | inr e ↦ in_append_right x xs (n ∷ []) (inl e.0) ]),
    )

    -- the members of another list stay
    members_kept : (j : ℕ) → j ≢ k → (xs : List ℕ) → ((x : ℕ) → IsIn x xs ↔ (x < n × (number_of numbers x ≡ Some j))) → (x : ℕ) → IsIn x xs ↔ (x < n + 1 × (number_of numbers x ≡ Some j))
    members_kept j other xs m x = (
      (λ h. let r = (m x).0 h in let l = r.0 in (omega (arith, l), r.1)),
      (λ h. elim (number_cases x j h.0 h.1) [ inl l ↦ (m x).1 (l, h.1) | inr e ↦ absurd (other e.1) ]),
    )

    -- face n is put at the end of list k
    module _ (l : k < length cells) where
      longer : List ℕ
      longer = cell_at cells k ++ n ∷ []

      below_n : (x : ℕ) → IsIn x (cell_at cells k) → x < n
      below_n x m = ((a.members k x l).0 m).0

      first_kept : first_of (cell_at cells k ++ n ∷ []) ≡ first_of (cell_at cells k)
      first_kept = first_more (cell_at cells k) (first_of (cell_at cells k)) n (a.first k l)

      here : cell_at (set cells k (cell_at cells k ++ n ∷ [])) k ≡ cell_at cells k ++ n ∷ []
      here = get_or-set_same cells k (cell_at cells k ++ n ∷ []) [] l

      other : (j : ℕ) → j ≢ k → cell_at (set cells k (cell_at cells k ++ n ∷ [])) j ≡ cell_at cells j
      other j o = get_or-set_other cells k j (cell_at cells k ++ n ∷ []) [] o

      long : length (set cells k (cell_at cells k ++ n ∷ [])) ≡ length cells
      long = length-set cells k (cell_at cells k ++ n ∷ [])

      firsts_kept : map first_of (set cells k (cell_at cells k ++ n ∷ [])) ≡ map first_of cells
      firsts_kept = map-set first_of cells k (cell_at cells k ++ n ∷ []) ∙ ap (set (map first_of cells) k) first_kept ∙ sym (map-set first_of cells k (cell_at cells k)) ∙ ap (map first_of) (set-get_or cells k [])

      at_each : (P : ℕ → List ℕ → Type 0) → P k (cell_at cells k ++ n ∷ []) → ((j : ℕ) → j ≢ k → j < length cells → P j (cell_at cells j))
          → (j : ℕ) → j < length (set cells k (cell_at cells k ++ n ∷ [])) → P j (cell_at (set cells k (cell_at cells k ++ n ∷ [])) j)
      at_each P p ps j b = elim (cases_eq j k) [
        | inl e ↦ subst (λ i. P i (cell_at (set cells k (cell_at cells k ++ n ∷ [])) i)) (sym e) (subst (P k) (sym here) p)
        | inr o ↦ subst (P j) (sym (other j o)) (ps j o (omega (arith, b, long)))
      ]

      pub dealt_longer : AreDealt numbers (n + 1) (set cells k (cell_at cells k ++ n ∷ []))
      dealt_longer = record {
        each = λ x j b h. elim (number_cases x j b h) [ inl before ↦ let i = a.each x j before h in omega (arith, i, long) | inr e ↦ let same = e.1 in omega (arith, same, l, long) ];
        members = λ j x b. at_each (λ i xs. (y : ℕ) → IsIn y xs ↔ (y < n + 1 × (number_of numbers y ≡ Some i))) (members_more (cell_at cells k) (λ y. a.members k y l))
            (λ i o c. members_kept i o (cell_at cells i) (λ y. a.members i y c)) j b x;
        first = at_each (λ i xs. IsIn (first_of xs) xs) (subst (λ f. IsIn f (cell_at cells k ++ n ∷ [])) (sym first_kept) (in_append_left (first_of (cell_at cells k)) (cell_at cells k) (n ∷ []) (a.first k l))) (λ i o c. a.first i c);
        ascending = at_each (λ i xs. IsAscending xs) (ascending_more (cell_at cells k) n (a.ascending k l) below_n) (λ i o c. a.ascending i c);
        in_order = subst IsAscending (sym firsts_kept) a.in_order;
      }

    -- face n begins the next list
    module _ (next : k ≡ length cells) where
      long_next : length (cells ++ (n ∷ []) ∷ []) ≡ length cells + 1
      long_next = length-append cells ((n ∷ []) ∷ [])

      here_next : cell_at (cells ++ (n ∷ []) ∷ []) (length cells) ≡ n ∷ []
      here_next = let e : length cells ≡ length cells + 0 = omega arith in ap (cell_at (cells ++ (n ∷ []) ∷ [])) e ∙ get_or-append-add cells ((n ∷ []) ∷ []) 0 []

      at_each_next : (P : ℕ → List ℕ → Type 0) → P k (n ∷ []) → ((j : ℕ) → j ≢ k → j < length cells → P j (cell_at cells j)) → (j : ℕ) → j < length (cells ++ (n ∷ []) ∷ []) → P j (cell_at (cells ++ (n ∷ []) ∷ []) j)
      at_each_next P p ps j b = elim (cases_lt j (length cells)) [
        | inl before ↦ subst (P j) (sym (get_or_append_left cells ((n ∷ []) ∷ []) [] j before)) (ps j (λ e. absurd (omega (arith, e, before, next))) before)
        | inr past ↦
            let e : j ≡ length cells = omega (arith, b, past, long_next) in
            subst (λ i. P i (cell_at (cells ++ (n ∷ []) ∷ []) i)) (sym e) (subst (P (length cells)) (sym here_next) (subst (λ i. P i (n ∷ [])) next p))
      ]

      none_yet : (x : ℕ) → IsIn x [] ↔ (x < n × (number_of numbers x ≡ Some k))
      none_yet x = ((λ h. absurd h), (λ h. let i = a.each x k h.0 h.1 in absurd (omega (arith, i, next))))

      firsts_below : (x : ℕ) → IsIn x (map first_of cells) → x < n
      firsts_below x m =
          let c = in_map_cases first_of x cells m in
          let j = index_of cells c.0 c.1 in
          let f = a.first j.0 j.1 in
          let below = ((a.members j.0 (first_of (cell_at cells j.0)) j.1).0 f).0 in
          subst (λ y. y < n) (sym (c.2 ∙ ap first_of j.2)) below

      pub dealt_next : AreDealt numbers (n + 1) (cells ++ (n ∷ []) ∷ [])
      dealt_next = record {
        each = λ x j b h. elim (number_cases x j b h) [ inl before ↦ let i = a.each x j before h in omega (arith, i, long_next) | inr e ↦ let same = e.1 in omega (arith, same, next, long_next) ];
        members = λ j x b. at_each_next (λ i xs. (y : ℕ) → IsIn y xs ↔ (y < n + 1 × (number_of numbers y ≡ Some i))) (members_more [] none_yet)
            (λ i o c. members_kept i o (cell_at cells i) (λ y. a.members i y c)) j b x;
        first = at_each_next (λ i xs. IsIn (first_of xs) xs) (inl refl) (λ i o c. a.first i c);
        ascending = at_each_next (λ i xs. IsAscending xs) (tt, tt) (λ i o c. a.ascending i c);
        in_order = subst IsAscending (sym (map-append first_of cells ((n ∷ []) ∷ []))) (ascending_more (map first_of cells) n a.in_order firsts_below);
      }

-- one more face is dealt out: its list is longer, or is the next one
pub dealt_more : (numbers : List (Option ℕ)) (n k : ℕ) (cells more : List (List ℕ)) → AreDealt numbers n cells → number_of numbers n ≡ Some k
    → ((x j i : ℕ) → number_of numbers x ≡ Some j → i < j → (y : ℕ) × y < x × (number_of numbers y ≡ Some i))
    → (k ≡ length cells → more ≡ cells ++ (n ∷ []) ∷ []) → (k < length cells → more ≡ set cells k (cell_at cells k ++ n ∷ [])) → AreDealt numbers (n + 1) more
dealt_more numbers n k cells more a is order next longer = elim (cases_lt k (length cells)) [
  | inl l ↦ subst (AreDealt numbers (n + 1)) (sym (longer l)) (dealt_longer numbers n k cells a is l)
  | inr past ↦
      let there = list_there numbers n k cells a is order in
      let e : k ≡ length cells = omega (arith, past, there) in
      subst (AreDealt numbers (n + 1)) (sym (next e)) (dealt_next numbers n k cells a is e)
]
