-- The entries of rays, each by itself, and in a list that is sorted: it ascends strictly where no two of them are equal.
use Rattle.std.proofs.Common.{◌≡◌, ℕ, suc, ◌<◌, ◌≤◌, false, List, [], ◌∷◌, length, get_or, refl, sym, ap, ◌∙◌, subst, inl, inr, arith}
use Rattle.std.specs.Prelude.{IsSorted, IsPermutation}
use Rattle.std.specs.List.{AllByRecursion, IsDistinct}
use Rattle.std.specs.Ordering.{ordering_reverse, is_lt, is_eq, eq_by_cmp}
use Rattle.std.specs.Cmp.{IsTotalOrder}
use Rattle.std.specs.declared.cmp.Ordering.{Ordering}
use Rattle.std.specs.declared.cmp.Ordering.TheVariants.{Less, Equal, Greater}
use Rattle.std.proofs.lemmas.List.Elements.{All-from_recursion, recursion_from_All}
use Rattle.std.proofs.lemmas.List.Sorted.{ranks_by, sorted_far, All-permutation}
use Rattle.fs_lists.specs.Members.{IsIn}
use Rattle.fs_lists.proofs.Members.{All-member}
use Rattle.fs_plane.specs.declared.listing.Listed.{Listed}
use Rattle.fs_mesh.specs.Meshes.{MeshValue}
use Rattle.fs_fan.specs.declared.fans.Ray.{Ray}
use Rattle.fs_fan.specs.Search.{IsInOrder}
use Rattle.fs_saddles.specs.Saddles.{IsEntryOf, AreEntriesOf}

-- ---- entries

module _ (m : MeshValue) (P : Listed → Type 0) where
  -- what holds of the entry of each ray holds of all entries
  pub each_entry : (rays : List Ray) (entries : List Listed) → AreEntriesOf m rays entries → ((ray : Ray) (entry : Listed) → IsIn ray rays → IsEntryOf m ray entry → P entry) → AllByRecursion P entries
  each_entry [] [] are f = tt
  each_entry [] (entry ∷ entries) are f = absurd are
  each_entry (ray ∷ rays) [] are f = absurd are
  each_entry (ray ∷ rays) (entry ∷ entries) are f = (f ray entry (inl refl) are.0, each_entry rays entries are.1 (λ other its h. f other its (inr h)))

  -- and what holds of all entries holds of the entry of a ray
  pub some_entry : (rays : List Ray) (entries : List Listed) → AreEntriesOf m rays entries → (ray : Ray) → IsIn ray rays → AllByRecursion P entries
      → (entry : Listed) × IsEntryOf m ray entry × P entry
  some_entry [] entries are ray h all = absurd h
  some_entry (first ∷ rays) [] are ray h all = absurd are
  some_entry (first ∷ rays) (entry ∷ entries) are ray (inl e) all = (entry, subst (λ r. IsEntryOf m r entry) (sym e) are.0, all.0)
  some_entry (first ∷ rays) (entry ∷ entries) are ray (inr h) all = some_entry rays entries are.1 ray h all.1

-- ---- in order

-- what holds of all items holds of them in another order
pub all_permuted : {X : Type 0} (P : X → Type 0) (xs ys : List X) → IsPermutation xs ys → AllByRecursion P xs → AllByRecursion P ys
all_permuted P xs ys p h = recursion_from_All P ys (All-permutation P xs ys p (All-from_recursion P xs h))

less_by_others : (r s : Ordering) → s ≡ ordering_reverse r → is_lt r ≡ false → is_eq s ≡ false → s ≡ Less
less_by_others Less s e not_less not_equal = cc
less_by_others Equal s e not_less not_equal = let f = sym (ap is_eq e) ∙ not_equal in cc
less_by_others Greater s e not_less not_equal = e

module _ {X : Type 0} {R : X → X → Ordering} (order : IsTotalOrder R) where
  ascends : (xs : List X) → ((i j : ℕ) (d : X) → i ≤ j → j < length xs → is_lt (R (get_or xs j d) (get_or xs i d)) ≡ false) → IsDistinct (eq_by_cmp R) xs → IsInOrder (λ x y. R x y ≡ Less) xs
  unfolding IsDistinct
  ascends [] far distinct = tt
  ascends (x ∷ xs) far distinct = (
    (λ y h.
        let not_less = All-member (λ z. is_lt (R z x) ≡ false) xs y (recursion_from_All (λ z. is_lt (R z x) ≡ false) xs (λ j d below. far 0 (suc j) d (omega arith) (omega arith))) h in
        less_by_others (R y x) (R x y) (order.antisymm x y) not_less (All-member (λ z. eq_by_cmp R x z ≡ false) xs y distinct.0 h)),
    ascends xs (λ i j d low high. far (suc i) (suc j) d (omega arith) (omega arith)) distinct.1,
  )

  -- a sorted list without equal items ascends strictly
  pub strictly_sorted : (xs : List X) → IsSorted R xs → IsDistinct (eq_by_cmp R) xs → IsInOrder (λ x y. R x y ≡ Less) xs
  strictly_sorted xs sorted distinct = ascends xs (λ i j d low high. sorted_far _ (ranks_by order (λ x. x)) xs sorted i j d low high) distinct
