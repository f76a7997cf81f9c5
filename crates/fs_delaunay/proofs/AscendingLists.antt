-- Ascending lists of numbers: the first is the least, and lists with the same members are equal; ranges, and members with a property.
use Rattle.std.proofs.Common.{◌≡◌, ◌↔◌, ℕ, zero, suc, ◌+◌, ◌<◌, ◌≤◌, List, [], ◌∷◌, refl, sym, subst, inl, inr, arith}
use Rattle.std.specs.List.{AllByRecursion, range_with_len}
use Rattle.fs_lists.specs.Members.{IsIn}
use Rattle.fs_lists.proofs.Members.{All-member}
use Rattle.fs_lists.proofs.Ranges.{range_bounds}
use Rattle.fs_delaunay.specs.Cells.{IsAscending, first_of}

-- no member is below the head
head_least : (n : ℕ) (ns : List ℕ) (m : ℕ) → IsAscending (n ∷ ns) → IsIn m (n ∷ ns) → n ≤ m
head_least n ns m up (inl e) = omega arith
head_least n ns m up (inr i) = let above = All-member (λ k. n < k) ns m up.0 i in omega arith

-- no member is below the first
pub first_least : (ns : List ℕ) (m : ℕ) → IsAscending ns → IsIn m ns → first_of ns ≤ m
first_least [] m up i = absurd i
first_least (n ∷ ns) m up i = head_least n ns m up i

-- where there is a member, the first is one
pub first_in : (ns : List ℕ) (m : ℕ) → IsIn m ns → IsIn (first_of ns) ns
first_in [] m i = absurd i
first_in (n ∷ ns) m i = inl refl

after_head : (x y : ℕ) (xs ys : List ℕ) → x ≡ y → AllByRecursion (λ m. x < m) xs → ((n : ℕ) → IsIn n (x ∷ xs) → IsIn n (y ∷ ys)) → (n : ℕ) → IsIn n xs → IsIn n ys
after_head x y xs ys same above to n i = elim (to n (inr i)) [ inl e ↦ absurd (let more = All-member (λ m. x < m) xs n above i in omega arith) | inr j ↦ j ]

-- ascending lists with the same members are equal
pub ascending_equal : (xs ys : List ℕ) → IsAscending xs → IsAscending ys → ((n : ℕ) → IsIn n xs → IsIn n ys) → ((n : ℕ) → IsIn n ys → IsIn n xs) → xs ≡ ys
ascending_equal [] [] up up' to from = refl
ascending_equal [] (y ∷ ys) up up' to from = absurd (from y (inl refl))
ascending_equal (x ∷ xs) [] up up' to from = absurd (to x (inl refl))
ascending_equal (x ∷ xs) (y ∷ ys) up up' to from =
    let below = head_least x xs y up (from y (inl refl)) in
    let above = head_least y ys x up' (to x (inl refl)) in
    let same : x ≡ y = omega arith in
    let rest = ascending_equal xs ys up.1 up'.1 (after_head x y xs ys same up.0 to) (after_head y x ys xs (sym same) up'.0 from) in
    λ i. same i ∷ rest i

-- ---- ranges, and selected numbers

all_of_members : (P : ℕ → Type 0) (ns : List ℕ) → ((n : ℕ) → IsIn n ns → P n) → AllByRecursion P ns
all_of_members P [] h = tt
all_of_members P (n ∷ ns) h = (h n (inl refl), all_of_members P ns (λ m i. h m (inr i)))

-- a range ascends
pub range_ascending : (a n : ℕ) → IsAscending (range_with_len a n)
range_ascending a zero = tt
range_ascending a (suc n) = (all_of_members (λ m. a < m) (range_with_len (a + 1) n) (λ m i. let bounds = range_bounds (a + 1) n m i in let least = bounds.0 in omega arith), range_ascending (a + 1) n)

-- the list has just the members of the other that have P
abbrev pub Selects : (ℕ → Type 0) → List ℕ → List ℕ → Type 0
Selects P ns selected = (n : ℕ) → IsIn n selected ↔ (IsIn n ns × P n)

-- those members of an ascending list form an ascending list, though none may be known
pub select : (P : ℕ → Type 0) (ns : List ℕ) → IsAscending ns → ((selected : List ℕ) → IsAscending selected → Selects P ns selected → ⊥) → ⊥
select P [] up none = none [] tt (λ n. (λ i. absurd i, λ h. absurd h.0))
select P (n ∷ ns) up none = select P ns up.1 step
  where
    step : (selected : List ℕ) → IsAscending selected → Selects P ns selected → ⊥
    step selected up' is = without (λ p. none (n ∷ selected) (above, up') (λ m. (forward p m, back m)))
      where
        above : AllByRecursion (λ m. n < m) selected
        above = all_of_members (λ m. n < m) selected (λ m i. All-member (λ k. n < k) ns m up.0 ((is m).0 i).0)

        forward : P n → (m : ℕ) → IsIn m (n ∷ selected) → IsIn m (n ∷ ns) × P m
        forward p m (inl e) = (inl e, subst P (sym e) p)
        forward p m (inr i) = let h = (is m).0 i in (inr h.0, h.1)

        back : (m : ℕ) → IsIn m (n ∷ ns) × P m → IsIn m (n ∷ selected)
        back m h = elim h.0 [ inl e ↦ inl e | inr i ↦ inr ((is m).1 (i, h.1)) ]

        narrow : ¬ P n → (m : ℕ) → IsIn m (n ∷ ns) × P m → IsIn m selected
        narrow not m h = elim h.0 [ inl e ↦ absurd (not (subst P e h.1)) | inr i ↦ (is m).1 (i, h.1) ]

        without : ¬ P n → ⊥
        without not = none selected up' (λ m. (λ i. let h = (is m).0 i in (inr h.0, h.1), narrow not m))

-- where no member of a list can lack Q, it can't be that not all have it
pub collect : (Q : ℕ → Type 0) (ns : List ℕ) → ((n : ℕ) → IsIn n ns → (Q n → ⊥) → ⊥) → (((n : ℕ) → IsIn n ns → Q n) → ⊥) → ⊥
collect Q [] each none = none (λ n i. absurd i)
collect Q (n ∷ ns) each none = each n (inl refl) (λ q. collect Q ns (λ m i. each m (inr i)) (λ all. none (λ m i. by_place q all m i)))
  where
    by_place : Q n → ((m : ℕ) → IsIn m ns → Q m) → (m : ℕ) → IsIn m (n ∷ ns) → Q m
    by_place q all m (inl e) = subst Q (sym e) q
    by_place q all m (inr i) = all m i
