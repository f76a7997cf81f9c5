-- A map that leads round a cycle of items, on which the items with a property are one run: the list of the run, and that no other list goes through them in turn.
use Rattle.std.proofs.Common.{◌≡◌, ◌≢◌, ◌⊎◌, ◌↔◌, ℕ, zero, suc, ◌+◌, ◌-◌, ◌<◌, ◌≤◌, List, [], ◌∷◌, ◌++◌, length, refl, sym, ap, ◌∙◌, subst, inl, inr, arith}
use Rattle.fs_lists.specs.Members.{IsIn, IsDistinct}
use Rattle.fs_cycles.specs.Cycles.{iterate}
use Rattle.fs_cycles.proofs.Iterates.{iterate-add, iterate_after}
use Rattle.fs_gluing.specs.Exchanges.{IsChainOf}

pub less_or_not : (a b : ℕ) → (a < b) ⊎ (b ≤ a)
less_or_not a b = grind arith

-- P holds of x and the items after it under f, m of them in all, and not of the others up to item n, which is x again; it holds of no item beside these
pub record IsRun {X : Type 0} (f : X → X) (P : X → Type 0) (x : X) (m n : ℕ) : Type 0 where
  pub some : 0 < m
  pub more : m < n
  pub inside : (k : ℕ) → k < m → P (iterate f k x)
  pub outside : (k : ℕ) → m ≤ k → k < n → ¬ P (iterate f k x)
  pub returns : iterate f n x ≡ x
  pub each : (y : X) → P y → (k : ℕ) × (k < n) × (iterate f k x ≡ y)

-- x and the items after it, n of them in all
abbrev pub walk : {X : Type 0} → (X → X) → ℕ → X → List X
walk f zero x = []
walk f (suc n) x = x ∷ walk f n (f x)

module _ {X : Type 0} (f : X → X) where
  -- a walk with one more item
  pub walk_more : (n : ℕ) (x : X) → walk f (suc n) x ≡ walk f n x ++ iterate f n x ∷ []
  walk_more zero x = refl
  walk_more (suc n) x = ap (λ xs. x ∷ xs) (walk_more n (f x))

  pub length-walk : (n : ℕ) (x : X) → length (walk f n x) ≡ n
  length-walk zero x = refl
  length-walk (suc n) x = ap (λ k. suc k) (length-walk n (f x))

  pub walk_chain : (n : ℕ) (x : X) → IsChainOf f (walk f n x)
  walk_chain zero x = tt
  walk_chain (suc zero) x = tt
  walk_chain (suc (suc n)) x = (refl, walk_chain (suc n) (f x))

  in_walk : (n k : ℕ) (x : X) → k < n → IsIn (iterate f k x) (walk f n x)
  in_walk zero k x l = absurd (omega arith)
  in_walk (suc n) zero x l = inl refl
  in_walk (suc n) (suc k) x l = inr (in_walk n k (f x) (omega arith))

  walk_in : (n : ℕ) (x y : X) → IsIn y (walk f n x) → (k : ℕ) × (k < n) × (iterate f k x ≡ y)
  walk_in zero x y h = absurd h
  walk_in (suc n) x y (inl e) = (0, omega arith, sym e)
  walk_in (suc n) x y (inr h) = let r = walk_in n (f x) y h in let l = r.1 in (suc r.0, omega arith, r.2)

  -- a list in which each item is f of the one before is the walk from its first item
  chain_is_walk : (x : X) (xs : List X) → IsChainOf f (x ∷ xs) → x ∷ xs ≡ walk f (suc (length xs)) x
  chain_is_walk x [] c = refl
  chain_is_walk x (y ∷ ys) c = ap (λ zs. x ∷ zs) (chain_is_walk y ys c.1 ∙ ap (walk f (suc (length ys))) c.0)

  walk_distinct : (n : ℕ) (x : X) → ((k l : ℕ) → k < l → l < n → iterate f k x ≢ iterate f l x) → IsDistinct (walk f n x)
  walk_distinct zero x apart = tt
  walk_distinct (suc n) x apart = (
    (λ y h e. let r = walk_in n (f x) y h in let l = r.1 in apart 0 (suc r.0) (omega arith) (omega arith) (e ∙ sym r.2)),
    walk_distinct n (f x) (λ k l m o. apart (suc k) (suc l) (omega arith) (omega arith)),
  )

module _ {X : Type 0} {f : X → X} {P : X → Type 0} {x : X} {m n : ℕ} (run : IsRun f P x m n) where
  -- an item with the property is one of the run
  in_run : (y : X) → P y → (k : ℕ) × (k < m) × (iterate f k x ≡ y)
  in_run y p =
      let r = run.each y p in
      elim (less_or_not r.0 m) [ inl l ↦ (r.0, l, r.2) | inr l ↦ absurd (run.outside r.0 l r.1 (subst P (sym r.2) p)) ]

  -- no item comes again before the end of the run
  run_apart : (k l : ℕ) → k < l → l ≤ m → iterate f k x ≢ iterate f l x
  run_apart k l less most e =
      let rest : l + (m - l) ≡ m = omega arith in
      let same : iterate f (k + (m - l)) x ≡ iterate f m x
      = iterate-add f k (m - l) x ∙ ap (iterate f (m - l)) e ∙ sym (iterate-add f l (m - l) x) ∙ ap (λ (j : ℕ). iterate f j x) rest in
      run.outside m (omega arith) run.more (subst P same (run.inside (k + (m - l)) (omega arith)))

  -- the list of the run has exactly the items with the property, each once
  pub run_members : (y : X) → IsIn y (walk f m x) ↔ P y
  run_members y = (
    (λ h. let r = walk_in f m x y h in subst P r.2 (run.inside r.0 r.1)),
    (λ p. let r = in_run y p in subst (λ z. IsIn z (walk f m x)) r.2 (in_walk f m r.0 x r.1)),
  )

  pub run_once : IsDistinct (walk f m x)
  run_once = walk_distinct f m x (λ k l less more. run_apart k l less (omega arith))

  -- the item that has the property while the item before it hasn't is the first one
  pub run_first : (g : X → X) (y : X) → ((z : X) → P z → g (f z) ≡ z) → P y → ¬ P (g y) → y ≡ x
  run_first g y back p not = go (in_run y p)
    where
      go : (k : ℕ) × (k < m) × (iterate f k x ≡ y) → y ≡ x
      go (zero, l, e) = sym e
      go (suc k, l, e) =
          let here = run.inside k (omega arith) in
          absurd (not (subst P (sym (back (iterate f k x) here) ∙ ap g (sym (iterate_after f k x) ∙ e)) here))

  -- the item before the first one hasn't the property
  pub before_run : (g : X → X) → ((k : ℕ) → g (iterate f (suc k) x) ≡ iterate f k x) → ¬ P (g x)
  before_run g back p =
      let some = run.some in
      let more = run.more in
      let last : suc (n - 1) ≡ n = omega arith in
      run.outside (n - 1) (omega arith) (omega arith)
      (subst P (ap g (sym run.returns ∙ ap (λ (k : ℕ). iterate f k x) (sym last)) ∙ back (n - 1)) p)

  -- a walk from the first item that stays among the items with the property and ends before one without it is the whole run
  pub run_ends : (k : ℕ) → ((j : ℕ) → j < k → P (iterate f j x)) → ¬ P (iterate f k x) → k ≡ m
  run_ends k all stop = go (less_or_not k m) (less_or_not m k)
    where
      go : (k < m) ⊎ (m ≤ k) → (m < k) ⊎ (k ≤ m) → k ≡ m
      go (inl l) h = absurd (stop (run.inside k l))
      go (inr l) (inl h) = let more = run.more in absurd (run.outside m (omega arith) more (all m h))
      go (inr l) (inr h) = omega arith

  -- a walk that stays among these items, its next one too, isn't over yet
  pub run_goes_on : (k : ℕ) → ((j : ℕ) → j < k → P (iterate f j x)) → P (iterate f k x) → k < m
  run_goes_on k all here = go (less_or_not k m) (less_or_not m k)
    where
      go : (k < m) ⊎ (m ≤ k) → (m < k) ⊎ (k ≤ m) → k < m
      go (inl l) h = l
      go (inr l) (inl h) = absurd (run.outside m (omega arith) run.more (all m h))
      go (inr l) (inr h) = let same : k ≡ m = omega arith in absurd (run.outside m (omega arith) run.more (subst (λ (j : ℕ). P (iterate f j x)) same here))

  -- ---- no other list

  -- a walk that has exactly the items with the property, each once, begins at the first one
  walk_first : (size : ℕ) (y : X) → ((k : ℕ) → k < size → P (iterate f k y)) → (k : ℕ) × (k < m) × (iterate f k x ≡ y) → (k : ℕ) × (k < size) × (iterate f k y ≡ x) → y ≡ x
  walk_first size y all a (zero, l, e) = e
  walk_first size y all a (suc b, l, e) = absurd (go (less_or_not (a.0 + suc b) m))
    where
      put : (k : ℕ) → iterate f (a.0 + k) x ≡ iterate f k y
      put k = iterate-add f a.0 k x ∙ ap (iterate f k) a.2

      go : (a.0 + suc b < m) ⊎ (m ≤ a.0 + suc b) → ⊥
      go (inl less) = run_apart 0 (a.0 + suc b) (omega arith) (omega arith) (sym (put (suc b) ∙ e))
      go (inr most) =
          let below = a.1 in
          let rest : a.0 + (m - a.0) ≡ m = omega arith in
          run.outside m (omega arith) run.more (subst (λ (k : ℕ). P (iterate f k x)) rest (subst P (sym (put (m - a.0))) (all (m - a.0) (omega arith))))

  -- and ends with the last one
  walk_size : (size : ℕ) → ((k : ℕ) → k < size → P (iterate f k x)) → ((y : X) → P y → (k : ℕ) × (k < size) × (iterate f k x ≡ y)) → size ≡ m
  walk_size size all each = go (less_or_not size m) (less_or_not m size)
    where
      go : (size < m) ⊎ (m ≤ size) → (m < size) ⊎ (size ≤ m) → size ≡ m
      go (inl l) h = let r = each (iterate f size x) (run.inside size l) in absurd (run_apart r.0 size r.1 (omega arith) r.2)
      go (inr l) (inl h) = absurd (run.outside m (omega arith) run.more (all m h))
      go (inr l) (inr h) = omega arith

  -- a list of the items with the property, each once, in which each is f of the one before, is the list of the run
  pub run_unique : (xs : List X) → ((y : X) → IsIn y xs ↔ P y) → IsChainOf f xs → xs ≡ walk f m x
  run_unique [] members chain = let some = run.some in absurd ((members x).1 (run.inside 0 some))
  run_unique (y ∷ ys) members chain = as_walk ∙ ap (walk f size) same ∙ ap (λ k. walk f k x) (walk_size size all each)
    where
      size : ℕ
      size = suc (length ys)

      as_walk : y ∷ ys ≡ walk f size y
      as_walk = chain_is_walk f y ys chain

      all_from : (k : ℕ) → k < size → P (iterate f k y)
      all_from k l = (members (iterate f k y)).0 (subst (IsIn (iterate f k y)) (sym as_walk) (in_walk f size k y l))

      each_from : (z : X) → P z → (k : ℕ) × (k < size) × (iterate f k y ≡ z)
      each_from z p = walk_in f size y z (subst (IsIn z) as_walk ((members z).1 p))

      same : y ≡ x
      same = walk_first size y all_from (in_run y ((members y).0 (inl refl))) (each_from x (run.inside 0 run.some))

      all : (k : ℕ) → k < size → P (iterate f k x)
      all k l = subst (λ z. P (iterate f k z)) same (all_from k l)

      each : (z : X) → P z → (k : ℕ) × (k < size) × (iterate f k x ≡ z)
      each z p = subst (λ w. (k : ℕ) × (k < size) × (iterate f k w ≡ z)) same (each_from z p)
