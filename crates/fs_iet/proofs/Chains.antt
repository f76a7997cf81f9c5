-- Runs of numbered items as chains, and lists of chains.
use Rattle.std.proofs.Common.{◌≡◌, ◌⊎◌, ℕ, zero, suc, ◌+◌, ◌<◌, ◌≤◌, List, [], ◌∷◌, length, get_or, refl, sym, ap, ◌∙◌, subst, inl, inr, arith, add-zero, add-suc}
use Rattle.std.specs.List.{flat_map}
use Rattle.fs_lists.specs.Members.{IsIn}
use Rattle.fs_ring.specs.Operations.{Operations}
use Rattle.fs_convex.proofs.Rows.{Tiles, tiles-append, upward, downward}
use Rattle.fs_gluing.specs.Exchanges.{IsChainOf}

first_or_later : (b j : ℕ) → b ≤ j → (j ≡ b) ⊎ (suc b ≤ j)
first_or_later b j l = grind arith

last_or_earlier : (b k j : ℕ) → j < b + suc k → (j ≡ b + k) ⊎ (j < b + k)
last_or_earlier b k j l = grind arith

module _ {X : Type 0} (item : ℕ → X) where
  -- ---- the members of a run

  pub in_upward : (b k j : ℕ) → b ≤ j → j < b + k → IsIn (item j) (upward item b k)
  in_upward b zero j l m = absurd (omega arith)
  in_upward b (suc k) j l m = elim (first_or_later b j l) [ inl e ↦ inl (ap item e) | inr n ↦ inr (in_upward (suc b) k j n (omega arith)) ]

  pub upward_in : (b k : ℕ) (x : X) → IsIn x (upward item b k) → (j : ℕ) × (b ≤ j) × (j < b + k) × (x ≡ item j)
  upward_in b zero x h = absurd h
  upward_in b (suc k) x (inl e) = (b, omega arith, omega arith, e)
  upward_in b (suc k) x (inr h) = let r = upward_in (suc b) k x h in (r.0, omega (arith, r.1), omega (arith, r.2), r.3)

  pub in_downward : (b k j : ℕ) → b ≤ j → j < b + k → IsIn (item j) (downward item b k)
  in_downward b zero j l m = absurd (omega arith)
  in_downward b (suc k) j l m = elim (last_or_earlier b k j m) [ inl e ↦ inl (ap item e) | inr n ↦ inr (in_downward b k j l n) ]

  pub downward_in : (b k : ℕ) (x : X) → IsIn x (downward item b k) → (j : ℕ) × (b ≤ j) × (j < b + k) × (x ≡ item j)
  downward_in b zero x h = absurd h
  downward_in b (suc k) x (inl e) = (b + k, omega arith, omega arith, e)
  downward_in b (suc k) x (inr h) = let r = downward_in b k x h in (r.0, r.1, omega (arith, r.2), r.3)

  -- ---- runs in turn

  pub upward_in_turn : (f : X → X) → ((j : ℕ) → item (suc j) ≡ f (item j)) → (b k : ℕ) → IsChainOf f (upward item b k)
  upward_in_turn f next b zero = tt
  upward_in_turn f next b (suc zero) = tt
  upward_in_turn f next b (suc (suc k)) = (next b, upward_in_turn f next (suc b) (suc k))

  pub downward_in_turn : (f : X → X) → ((j : ℕ) → item j ≡ f (item (suc j))) → (b k : ℕ) → IsChainOf f (downward item b k)
  downward_in_turn f next b zero = tt
  downward_in_turn f next b (suc zero) = tt
  downward_in_turn f next b (suc (suc k)) = (next (b + k) ∙ ap (λ (j : ℕ). f (item j)) (sym (add-suc b k)), downward_in_turn f next b (suc k))

-- ---- lists of chains

-- a list for each number makes a list of lists
pub lists_by_numbers : {X : Type 0} (P : ℕ → List X → Type 0) (n : ℕ) → ((i : ℕ) → i < n → (xs : List X) × P i xs) → (k b : ℕ) → b + k ≤ n
    → (lists : List (List X)) × (length lists ≡ k) × ((j m : ℕ) → b + j ≡ m → j < k → P m (get_or lists j []))
lists_by_numbers P n each zero b l = ([], refl, λ j m e less. absurd (omega arith))
lists_by_numbers {X} P n each (suc k) b l =
    let first = each b (omega arith) in
    let rest = lists_by_numbers P n each k (suc b) (omega arith) in
    (first.0 ∷ rest.0, ap (λ (n : ℕ). suc n) rest.1, λ j m e less. go first.0 first.1 rest.0 rest.2 j m e less)
  where
    go : (xs : List X) → P b xs → (lists : List (List X)) → ((j m : ℕ) → suc b + j ≡ m → j < k → P m (get_or lists j [])) → (j m : ℕ) → b + j ≡ m → j < suc k → P m (get_or (xs ∷ lists) j [])
    go xs h lists later zero m e less = subst (λ (i : ℕ). P i xs) (let z : b ≡ m = omega arith in z) h
    go xs h lists later (suc j) m e less = later j m (omega arith) (omega arith)

module _ {A X : Type 0} (R : Operations A) (left len : X → A) (start : ℕ → A) where
  -- lists of intervals from each start to the next are one row
  pub tiles_of_lists : (b : ℕ) (lists : List (List X)) → ((j m : ℕ) → b + j ≡ m → j < length lists → Tiles R left len (start m) (get_or lists j []) (start (suc m)))
      → Tiles R left len (start b) (flat_map (λ xs. xs) lists) (start (b + length lists))
  tiles_of_lists b [] each = ap start (add-zero b)
  tiles_of_lists b (xs ∷ lists) each =
      let next : suc b + length lists ≡ b + suc (length lists) = omega arith in
      tiles-append R left len (start b) (start (suc b)) (start (b + suc (length lists))) xs (flat_map (λ xs. xs) lists)
      (each 0 b (add-zero b) (omega arith))
      (subst (λ (m : ℕ). Tiles R left len (start (suc b)) (flat_map (λ xs. xs) lists) (start m)) next
      (tiles_of_lists (suc b) lists (λ j m e less. each (suc j) m (omega arith) (omega arith))))
