-- Ranges of numbers.
use Rattle.std.proofs.Common.{◌≡◌, ℕ, zero, suc, ◌+◌, ◌-◌, ◌<◌, ◌≤◌, ◌⊎◌, [], ◌∷◌, ap, inl, inr, arith}
use Rattle.std.specs.List.{range_with_len}
use Rattle.fs_lists.specs.Members.{IsIn, AreApart}

-- the numbers from i up to n are i and those from i + 1
pub range_more : (i n : ℕ) → i < n → range_with_len i (n - i) ≡ i ∷ range_with_len (i + 1) (n - (i + 1))
range_more i n l =
    let e : n - i ≡ suc (n - (i + 1)) = omega arith in
    ap (range_with_len i) e

-- there are none from n up to n
pub range_none : (n : ℕ) → range_with_len n (n - n) ≡ []
range_none n =
    let e : n - n ≡ 0 = omega arith in
    ap (range_with_len n) e

-- the members of a range are the numbers between its bounds, each once
pub in_range : (i n j : ℕ) → i ≤ j → j < i + n → IsIn j (range_with_len i n)
in_range i zero j l m = absurd (omega arith)
in_range i (suc n) j l m = elim (first_or_later i j l) [ inl e ↦ inl e | inr k ↦ inr (in_range (i + 1) n j k (omega arith)) ]
  where
    first_or_later : (i j : ℕ) → i ≤ j → (j ≡ i) ⊎ (i + 1 ≤ j)
    first_or_later i j l = grind arith

pub range_bounds : (i n j : ℕ) → IsIn j (range_with_len i n) → (i ≤ j) × (j < i + n)
range_bounds i zero j h = absurd h
range_bounds i (suc n) j (inl e) = (omega arith, omega arith)
range_bounds i (suc n) j (inr h) = let r = range_bounds (i + 1) n j h in (omega (arith, r.0), omega (arith, r.1))

pub range_distinct : (i n : ℕ) → AreApart (λ x y. x ≡ y) (range_with_len i n)
range_distinct i zero = tt
range_distinct i (suc n) = ((λ j m e. let r = range_bounds (i + 1) n j m in absurd (omega (arith, r.0, e))), range_distinct (i + 1) n)
