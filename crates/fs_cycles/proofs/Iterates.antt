-- A map taken many times: on a finite list a permutation returns, so that its cycles are classes, and it can be decided which items are of one.
use Rattle.std.proofs.Common.{◌≡◌, ◌≢◌, ℕ, zero, suc, ◌+◌, ◌*◌, ◌/◌, ◌%◌, ◌<◌, ◌⊎◌, List, [], ◌∷◌, length, refl, sym, ap, ◌∙◌, subst, inl, inr, arith, zero-add, suc-add, zero-mul, suc-mul, div-add-mod', mod-lt, zero-lt-suc}
use Rattle.fs_cycles.specs.Cycles.{Permutes, iterate, LeadsTo}
use Rattle.fs_lists.specs.Members.{IsIn, AreApart, IsDecidable}
use Rattle.fs_lists.proofs.Removal.{at_most_partners}

-- the first number below n with P, or none
abbrev pub FirstBelow : (ℕ → Type 0) → ℕ → Type 0
FirstBelow P n = ((m : ℕ) × (m < n) × P m × ((k : ℕ) → k < m → ¬ P k)) ⊎ ((k : ℕ) → k < n → ¬ P k)

below_or_last : (k n : ℕ) → k < suc n → (k ≡ n) ⊎ (k < n)
below_or_last k n h = grind arith

pub first_below : (P : ℕ → Type 0) → ((k : ℕ) → P k ⊎ ¬ P k) → (n : ℕ) → FirstBelow P n
first_below P decide zero = inr (λ k l. absurd (omega arith))
first_below P decide (suc n) =
    elim (first_below P decide n) [
      | inl h ↦ inl (h.0, omega (arith, h.1), h.2, h.3)
      | inr none ↦
          elim (decide n) [
            | inl p ↦ inl (n, omega arith, p, none)
            | inr not_n ↦ inr (λ k l. elim (below_or_last k n l) [ inl e ↦ λ p. not_n (subst P e p) | inr m ↦ none k m ])
          ]
    ]

module _ {X : Type 0} (f : X → X) where
  pub iterate-add : (m n : ℕ) (x : X) → iterate f (m + n) x ≡ iterate f n (iterate f m x)
  iterate-add zero n x = rw zero-add
  iterate-add (suc m) n x = rw suc-add (iterate-add m n (f x))

  pub iterate_after : (n : ℕ) (x : X) → iterate f n (f x) ≡ f (iterate f n x)
  iterate_after zero x = refl
  iterate_after (suc n) x = iterate_after n (f x)

  pub leads_refl : (x : X) → LeadsTo f x x
  leads_refl x = (0, refl)

  pub leads_trans : (x y z : X) → LeadsTo f x y → LeadsTo f y z → LeadsTo f x z
  leads_trans x y z h k = (h.0 + k.0, iterate-add h.0 k.0 x ∙ ap (iterate f k.0) h.1 ∙ k.1)

  -- where f returns to x after N + 1 steps

  iterate-multiple : (N : ℕ) (x : X) → iterate f (suc N) x ≡ x → (q : ℕ) → iterate f (q * suc N) x ≡ x
  iterate-multiple N x e zero = rw zero-mul
  iterate-multiple N x e (suc q) =
      rw suc-mul (iterate-add (q * suc N) (suc N) x ∙ ap (iterate f (suc N)) (iterate-multiple N x e q) ∙ e)

  pub iterate-mod : (N : ℕ) (x : X) → iterate f (suc N) x ≡ x → (n : ℕ) → iterate f n x ≡ iterate f (n % suc N) x
  iterate-mod N x e n =
      ap (λ (k : ℕ). iterate f k x) (sym (div-add-mod' n (suc N)))
      ∙ iterate-add (n / suc N * suc N) (n % suc N) x
      ∙ ap (iterate f (n % suc N)) (iterate-multiple N x e (n / suc N))

  pub leads_back : (N : ℕ) (x y : X) → iterate f (suc N) x ≡ x → LeadsTo f x y → LeadsTo f y x
  leads_back N x y e h =
      let sizes : h.0 + h.0 * N ≡ h.0 * suc N = omega arith in (
        h.0 * N,
        ap (iterate f (h.0 * N)) (sym h.1)
            ∙ sym (iterate-add h.0 (h.0 * N) x)
            ∙ ap (λ (k : ℕ). iterate f k x) sizes
            ∙ iterate-multiple N x e h.0,
      )

  -- x and the next n - 1 items after it
  abbrev trail : ℕ → X → List X
  trail zero x = []
  trail (suc n) x = x ∷ trail n (f x)

  length-trail : (n : ℕ) (x : X) → length (trail n x) ≡ n
  length-trail zero x = refl
  length-trail (suc n) x = ap suc (length-trail n (f x))

  in_trail : (n : ℕ) (x y : X) → IsIn y (trail n x) → (k : ℕ) × (k < n) × (y ≡ iterate f k x)
  in_trail zero x y h = absurd h
  in_trail (suc n) x y (inl e) = (0, omega arith, e)
  in_trail (suc n) x y (inr h) = let r = in_trail n (f x) y h in (suc r.0, omega (arith, r.1), r.2)

module _ {X : Type 0} where
  -- a map that another undoes
  pub permutes_undone : (f g : X → X) (xs : List X) → ((x : X) → IsIn x xs → IsIn (f x) xs) → ((x : X) → IsIn x xs → g (f x) ≡ x) → Permutes f xs
  permutes_undone f g xs inside undone =
      record { inside = inside; one_to_one = λ x y h k e. sym (undone x h) ∙ ap g e ∙ undone y k }

module _ {X : Type 0} {f : X → X} {xs : List X} (P : Permutes f xs) where
  pub iterate_in : (n : ℕ) (x : X) → IsIn x xs → IsIn (iterate f n x) xs
  iterate_in zero x h = h
  iterate_in (suc n) x h = iterate_in n (f x) (P.inside x h)

  trail_in : (n : ℕ) (x y : X) → IsIn x xs → IsIn y (trail f n x) → IsIn y xs
  trail_in zero x y h m = absurd m
  trail_in (suc n) x y h (inl e) = subst (λ w. IsIn w xs) (sym e) h
  trail_in (suc n) x y h (inr m) = trail_in n (f x) y (P.inside x h) m

  trail_apart : (n : ℕ) (x : X) → IsIn x xs → ((k : ℕ) → suc k < n → iterate f (suc k) x ≢ x) → AreApart (λ u v. u ≡ v) (trail f n x)
  trail_apart zero x h away = tt
  trail_apart (suc n) x h away = (
    (λ y m e. let r = in_trail f n (f x) y m in away r.0 (omega (arith, r.1)) (sym (e ∙ r.2))),
    trail_apart n (f x) (P.inside x h) (λ k l d.
        away k (omega arith) (P.one_to_one (iterate f (suc k) x) x (iterate_in (suc k) x h) h (sym (iterate_after f (suc k) x) ∙ d))),
  )

module _ {X : Type 0} {f : X → X} {xs : List X} (decide : IsDecidable X) (P : Permutes f xs) where
  -- f returns to x after at most as many steps as there are items
  pub returns : (x : X) → IsIn x xs → (N : ℕ) × (N < length xs) × (iterate f (suc N) x ≡ x)
  returns x h =
      elim (first_below (λ k. iterate f (suc k) x ≡ x) (λ k. decide (iterate f (suc k) x) x) (length xs)) [
        | inl r ↦ (r.0, r.1, r.2)
        | inr none ↦
            absurd (omega (
              arith,
              length-trail f (suc (length xs)) x,
              at_most_partners (λ u v. u ≡ v) (λ u v. u ≡ v) (trail f (suc (length xs)) x) xs
                  (λ y m. (y, trail_in P (suc (length xs)) x y h m, refl))
                  (λ u v y _ _ p q. p ∙ sym q)
                  (trail_apart P (suc (length xs)) x h (λ k l. none k (omega arith))),
            ))
      ]

  pub leads_symm : (x y : X) → IsIn x xs → LeadsTo f x y → LeadsTo f y x
  leads_symm x y h k = let r = returns x h in leads_back f r.0 x y r.2 k

  pub leads_in : (x y : X) → IsIn x xs → LeadsTo f x y → IsIn y xs
  leads_in x y h k = subst (λ w. IsIn w xs) k.1 (iterate_in P k.0 x h)

  pub decide_leads : (x y : X) → IsIn x xs → LeadsTo f x y ⊎ ¬ LeadsTo f x y
  decide_leads x y h =
      let r = returns x h in
      elim (first_below (λ k. iterate f k x ≡ y) (λ k. decide (iterate f k x) y) (suc r.0)) [
        | inl s ↦ inl (s.0, s.2)
        | inr none ↦ inr (λ k. none (k.0 % suc r.0) (mod-lt k.0 (zero-lt-suc r.0)) (sym (iterate-mod f r.0 x r.2 k.0) ∙ k.1))
      ]
