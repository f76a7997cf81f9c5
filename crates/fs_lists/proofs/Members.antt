-- Members of lists that are joined or mapped, and the membership of std.
use Rattle.std.proofs.Common.{◌≡◌, ℕ, zero, suc, ◌<◌, ◌⊎◌, List, [], ◌∷◌, ◌++◌, map, length, get_or, Contains, refl, sym, ap, subst, inl, inr, arith}
use Rattle.std.specs.List.{AllByRecursion}
use Rattle.fs_lists.specs.Members.{IsIn, AreApart}

module _ {X : Type 0} where
  in_at : (x : X) (xs : List X) (k : ℕ) → k < length xs → get_or xs k x ≡ x → IsIn x xs
  in_at x [] k l e = absurd (omega arith)
  in_at x (y ∷ ys) zero l e = inl (sym e)
  in_at x (y ∷ ys) (suc k) l e = inr (in_at x ys k (omega arith) e)

  -- what std's word says to be in a list is in it
  pub in_of_contains : (x : X) (xs : List X) → Contains xs x → IsIn x xs
  in_of_contains x xs h = in_at x xs h.0 h.1 h.2

  -- a list that is joined with another has the members of both, and no others
  pub in_append_left : (x : X) (xs ys : List X) → IsIn x xs → IsIn x (xs ++ ys)
  in_append_left x [] ys h = absurd h
  in_append_left x (z ∷ zs) ys (inl e) = inl e
  in_append_left x (z ∷ zs) ys (inr h) = inr (in_append_left x zs ys h)

  pub in_append_right : (x : X) (xs ys : List X) → IsIn x ys → IsIn x (xs ++ ys)
  in_append_right x [] ys h = h
  in_append_right x (z ∷ zs) ys h = inr (in_append_right x zs ys h)

  pub in_append_cases : (x : X) (xs ys : List X) → IsIn x (xs ++ ys) → IsIn x xs ⊎ IsIn x ys
  in_append_cases x [] ys h = inr h
  in_append_cases x (z ∷ zs) ys (inl e) = inl (inl e)
  in_append_cases x (z ∷ zs) ys (inr h) = elim (in_append_cases x zs ys h) [ inl k ↦ inl (inr k) | inr k ↦ inr k ]

  -- two lists whose members are apart, and apart from each other, are apart when they are joined
  pub apart_append : (R : X → X → Type 0) (xs ys : List X) → AreApart R xs → AreApart R ys
      → ((x y : X) → IsIn x xs → IsIn y ys → ¬ R x y) → AreApart R (xs ++ ys)
  apart_append R [] ys p q across = q
  apart_append R (x ∷ xs) ys p q across = (
    (λ y m. elim (in_append_cases y xs ys m) [ inl h ↦ p.0 y h | inr h ↦ across x y (inl refl) h ]),
    apart_append R xs ys p.1 q (λ u v h. across u v (inr h)),
  )

module _ {X Y : Type 0} (g : X → Y) where
  -- the members of a mapped list are the values at the members
  pub in_map : (x : X) (xs : List X) → IsIn x xs → IsIn (g x) (map g xs)
  in_map x [] h = absurd h
  in_map x (z ∷ zs) (inl e) = inl (ap g e)
  in_map x (z ∷ zs) (inr h) = inr (in_map x zs h)

  pub in_map_cases : (y : Y) (xs : List X) → IsIn y (map g xs) → (x : X) × IsIn x xs × (y ≡ g x)
  in_map_cases y [] h = absurd h
  in_map_cases y (z ∷ zs) (inl e) = (z, inl refl, e)
  in_map_cases y (z ∷ zs) (inr h) = let r = in_map_cases y zs h in (r.0, inr r.1, r.2)

  -- a map keeps members apart
  pub apart_map : (S : X → X → Type 0) (R : Y → Y → Type 0) (xs : List X)
      → ((x w : X) → IsIn x xs → IsIn w xs → R (g x) (g w) → S x w) → AreApart S xs → AreApart R (map g xs)
  apart_map S R [] to p = tt
  apart_map S R (x ∷ xs) to p = (
    (λ y m r.
        let w = in_map_cases y xs m in
        p.0 w.0 w.1 (to x w.0 (inl refl) (inr w.1) (subst (R (g x)) w.2 r))),
    apart_map S R xs (λ u v hu hv. to u v (inr hu) (inr hv)) p.1,
  )

-- what holds of each item holds of a member
pub All-member : {X : Type 0} (P : X → Type 0) (xs : List X) (x : X) → AllByRecursion P xs → IsIn x xs → P x
All-member P [] x a h = absurd h
All-member P (y ∷ ys) x a (inl e) = subst P (sym e) a.0
All-member P (y ∷ ys) x a (inr h) = All-member P ys x a.1 h
