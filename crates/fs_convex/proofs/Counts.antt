-- How many numbers pass a test, and where a sequence of tests changes. A library for crates to come.
use Rattle.std.proofs.Common.{◌≡◌, ℕ, zero, suc, ◌+◌, ◌<◌, ◌≤◌, ◌⊎◌, Bool, true, false, refl, sym, ap, ◌∙◌, subst, inl, inr, arith, add-zero, add-suc, add_comm}
use Rattle.std.proofs.lemmas.Bool.{cases_Bool}
use Rattle.fs_lists.proofs.Counts.{one_if}
use Rattle.fs_convex.specs.Counts.{count_below}

-- tests that agree count the same
pub count_below-agree : (f g : ℕ → Bool) (k : ℕ) → ((j : ℕ) → j < k → f j ≡ g j) → count_below f k ≡ count_below g k
count_below-agree f g zero h = refl
count_below-agree f g (suc k) h =
    let rest = count_below-agree f g k (λ j l. h j (omega arith)) in
    let last : one_if (f k) ≡ one_if (g k) = ap one_if (h k (omega arith)) in
    omega arith

-- the numbers below a, and then the next k
pub count_below-add : (f : ℕ → Bool) (a k : ℕ) → count_below f (a + k) ≡ count_below f a + count_below (λ j. f (a + j)) k
count_below-add f a zero = ap (count_below f) (add-zero a) ∙ sym (add-zero (count_below f a))
count_below-add f a (suc k) =
    let rest = count_below-add f a k in
    let next : count_below f (a + suc k) ≡ count_below f (a + k) + one_if (f (a + k)) = ap (count_below f) (add-suc a k) in
    omega arith

-- the count of n numbers is the same wherever they begin, where the test repeats after n
pub count_below-shift : (f : ℕ → Bool) (n a : ℕ) → ((j : ℕ) → f (n + j) ≡ f j) → count_below (λ j. f (a + j)) n ≡ count_below f n
count_below-shift f n a h =
    let e = count_below-add f n a in
    let g = count_below-add f a n in
    let same : count_below f (n + a) ≡ count_below f (a + n) = ap (count_below f) (add_comm n a) in
    let period = count_below-agree (λ j. f (n + j)) f a (λ j l. h j) in
    omega arith

-- of more numbers no fewer pass
pub count_below_at_most : (f : ℕ → Bool) (a k : ℕ) → a ≤ k → count_below f a ≤ count_below f k
count_below_at_most f a zero h = let e : a ≡ 0 = omega arith in let d : count_below f a ≡ count_below f 0 = ap (count_below f) e in omega arith
count_below_at_most f a (suc k) h = go (split a k h) (λ l. count_below_at_most f a k l)
  where
    split : (a k : ℕ) → a ≤ suc k → (a ≡ suc k) ⊎ (a ≤ k)
    split a k h = grind arith

    go : (a ≡ suc k) ⊎ (a ≤ k) → (a ≤ k → count_below f a ≤ count_below f k) → count_below f a ≤ count_below f (suc k)
    go (inl e) before = let d : count_below f a ≡ count_below f (suc k) = ap (count_below f) e in omega arith
    go (inr l) before = let rest = before l in omega arith

count_passed : (f : ℕ → Bool) (i k : ℕ) → i < k → f i ≡ true → count_below f i + 1 ≤ count_below f k
count_passed f i k l e =
    let here : one_if (f i) ≡ 1 = ap one_if e in
    let rest = count_below_at_most f (suc i) k (omega arith) in
    omega arith

-- where one number passes, two that pass are equal
pub one_passes : (f : ℕ → Bool) (i j n : ℕ) → count_below f n ≡ 1 → i < n → j < n → f i ≡ true → f j ≡ true → i ≡ j
one_passes f i j n once li lj ei ej = go (three i j)
  where
    three : (i j : ℕ) → (i < j) ⊎ ((i ≡ j) ⊎ (j < i))
    three i j = grind arith

    go : (i < j) ⊎ ((i ≡ j) ⊎ (j < i)) → i ≡ j
    go (inl l) = let a = count_passed f i j l ei in let b = count_passed f j n lj ej in absurd (omega arith)
    go (inr (inl e)) = e
    go (inr (inr l)) = let a = count_passed f j i l ej in let b = count_passed f i n li ei in absurd (omega arith)

-- where the count isn't 0, some number passes
pub some_passes : (f : ℕ → Bool) (k : ℕ) → 0 < count_below f k → (l : ℕ) × (l < k) × (f l ≡ true)
some_passes f zero h = absurd (omega arith)
some_passes f (suc k) h =
    elim (cases_Bool (f k)) [
      | inl e ↦ (k, omega arith, e)
      | inr e ↦
          let here : one_if (f k) ≡ 0 = ap one_if e in
          let rest = some_passes f k (omega arith) in
          (rest.0, omega (arith, rest.1), rest.2)
    ]

-- where a sequence isn't true at first, and is later, it changes to true between
pub change_between : (b : ℕ → Bool) (a k : ℕ) → b a ≡ false → b (a + k) ≡ true → (l : ℕ) × (a ≤ l) × (l < a + k) × (b l ≡ false) × (b (suc l) ≡ true)
change_between b a zero e f = absurd (let g = ap b (add-zero a) in cc)
change_between b a (suc k) e f =
    elim (cases_Bool (b (a + k))) [
      | inl g ↦ let rest = change_between b a k e g in (rest.0, rest.1, omega (arith, rest.2), rest.3, rest.4)
      | inr g ↦ (a + k, omega arith, omega arith, g, sym (ap b (add-suc a k)) ∙ f)
    ]

-- all numbers below k pass, or one doesn't
pub all_or_one_fails : (b : ℕ → Bool) (k : ℕ) → ((j : ℕ) → j < k → b j ≡ true) ⊎ ((l : ℕ) × (l < k) × (b l ≡ false))
all_or_one_fails b zero = inl (λ j l. absurd (omega arith))
all_or_one_fails b (suc k) =
    elim (all_or_one_fails b k) [
      | inr r ↦ inr (r.0, omega (arith, r.1), r.2)
      | inl all ↦
          elim (cases_Bool (b k)) [
            | inl e ↦ inl (λ j l. elim (below_or_last j k l) [ inl m ↦ all j m | inr same ↦ ap b same ∙ e ])
            | inr e ↦ inr (k, omega arith, e)
          ]
    ]
  where
    below_or_last : (j k : ℕ) → j < suc k → (j < k) ⊎ (j ≡ k)
    below_or_last j k l = grind arith

-- from a number back to an earlier one
pub backwards : (P : ℕ → Type 0) (j m : ℕ) → ((i : ℕ) → j ≤ i → i < j + m → P (suc i) → P i) → P (j + m) → P j
backwards P j zero step last = subst P (add-zero j) last
backwards P j (suc m) step last =
    backwards P j m (λ i l k. step i l (omega arith)) (step (j + m) (omega arith) (omega arith) (subst P (add-suc j m) last))

-- where the number a has P, all of the next k have it, or there is a last one before the first that hasn't
pub last_before_failure : (P : ℕ → Type 0) → ((j : ℕ) → P j ⊎ ¬ P j) → (a k : ℕ) → P a
    → ((j : ℕ) → a ≤ j → j ≤ a + k → P j) ⊎ ((i : ℕ) × (a ≤ i) × (i < a + k) × ((j : ℕ) → a ≤ j → j ≤ i → P j) × ¬ P (suc i))
last_before_failure P decide a zero h = inl (λ j l m. subst P (let e = add-zero a in let z : a ≡ j = omega arith in z) h)
last_before_failure P decide a (suc k) h =
    elim (last_before_failure P decide a k h) [
      | inr r ↦ inr (r.0, r.1, omega (arith, r.2), r.3, r.4)
      | inl all ↦
          elim (decide (suc (a + k))) [
            | inl here ↦ inl (λ j l m. elim (up_to_or_last j (a + k) (omega arith)) [ inl n ↦ all j l n | inr e ↦ subst P (sym e) here ])
            | inr not_here ↦ inr (a + k, omega arith, omega arith, all, not_here)
          ]
    ]
  where
    up_to_or_last : (j b : ℕ) → j ≤ suc b → (j ≤ b) ⊎ (j ≡ suc b)
    up_to_or_last j b l = grind arith
