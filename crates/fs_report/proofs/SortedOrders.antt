-- The orders of vertices, sorted and reversed.
use Rattle.std.proofs.Common.{◌≡◌, ℕ, ◌-◌, ◌≤◌, List, length, map, take, reverse, sym, ap, ◌∙◌, subst}
use Rattle.std.specs.Prelude.{IsSorted, IsPermutation}
use Rattle.std.specs.Ordering.{nat_cmp}
use Rattle.std.proofs.lemmas.List.{take_all}
use Rattle.std.proofs.lemmas.List.Sorted.{IsPermutation-trans, IsPermutation-reverse}
use Rattle.fs_stratum.specs.declared.cones.Cone.{Cone}
use Rattle.fs_report.specs.Orders.{AreOrders}
use Rattle.fs_report.proofs.Descending.{IsDescending, descending_reverse}

-- the orders sorted and reversed are the stratum
pub orders_sorted : (cones : List Cone) (i : ℕ) (found sorted turned result : List ℕ) → length cones ≤ i → found ≡ map (λ (cone : Cone). cone.k - 1) (take i cones)
    → IsPermutation found sorted → IsSorted nat_cmp sorted → turned ≡ reverse sorted → result ≡ turned → AreOrders cones result
orders_sorted cones i found sorted turned result all orders permuted rises turn is =
    let same = is ∙ turn in
    let whole = orders ∙ ap (map (λ (cone : Cone). cone.k - 1)) (take_all i cones all) in
    record {
      descending = subst IsDescending (sym same) (descending_reverse sorted rises);
      all = subst (IsPermutation (map (λ (cone : Cone). cone.k - 1) cones)) (sym same)
          (IsPermutation-trans (map (λ (cone : Cone). cone.k - 1) cones) sorted (reverse sorted)
          (subst (λ (xs : List ℕ). IsPermutation xs sorted) whole permuted) (IsPermutation-reverse sorted));
    }
