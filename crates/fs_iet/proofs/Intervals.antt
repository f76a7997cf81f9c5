-- Intervals that are laid one after another: rows whose intervals agree, are mapped, or are as long in turn.
use Rattle.std.proofs.Common.{◌≡◌, ◌⊎◌, ℕ, zero, suc, Some, List, [], ◌∷◌, map, refl, sym, ap, ◌∙◌, subst, inl, inr}
use Rattle.std.specs.List.{slice_get}
use Rattle.std.proofs.lemmas.Option.{same_Some}
use Rattle.fs_lists.specs.Members.{IsIn}
use Rattle.fs_ring.specs.Operations.{Operations}
use Rattle.fs_ring.specs.OrderedRing.{IsOrderedRing, IsAtMost}
use Rattle.fs_ring.proofs.Order as order
use Rattle.fs_ring.proofs.RingLaws as ring_laws
use Rattle.fs_quadratic.specs.Ring.{Quadratic, quadratic, IsPositive, add, total, zero as nil}
use Rattle.fs_convex.proofs.Rows.{Tiles, tiles_bounds}
use Rattle.fs_gluing.specs.Exchanges.{IsChainOf}

module _ {A : Type 0} (R : Operations A) where
  module _ {X : Type 0} (left len left2 len2 : X → A) where
    -- left ends and lengths that agree on each item
    pub tiles_agree : (y z : A) (xs : List X) → ((x : X) → IsIn x xs → (left2 x ≡ left x) × (len2 x ≡ len x)) → Tiles R left len y xs z → Tiles R left2 len2 y xs z
    tiles_agree y z [] same t = t
    tiles_agree y z (x ∷ xs) same t =
        let here = same x (inl refl) in
        (here.0 ∙ t.0, subst (λ w. Tiles R left2 len2 (R.add y w) xs z) (sym here.1) (tiles_agree (R.add y (len x)) z xs (λ w h. same w (inr h)) t.1))

  module _ {X : Type 0} (left len : X → A) where
    first_begins : (y z : A) (xs : List X) → Tiles R left len y xs z → (z ≡ y) ⊎ ((w : X) × IsIn w xs × (left w ≡ y))
    first_begins y z [] t = inl t
    first_begins y z (x ∷ xs) t = inr (x, inl refl, t.0)

    -- an interval ends where the row ends, or where another begins
    pub tiles_right_is_left : (y z : A) (xs : List X) → Tiles R left len y xs z → (x : X) → IsIn x xs → (R.add (left x) (len x) ≡ z) ⊎ ((w : X) × IsIn w xs × (left w ≡ R.add (left x) (len x)))
    tiles_right_is_left y z [] t x h = absurd h
    tiles_right_is_left y z (a ∷ xs) t x (inl e) =
        let right : R.add (left x) (len x) ≡ R.add y (len a) = ap (λ u. R.add (left u) (len u)) e ∙ ap (λ l. R.add l (len a)) t.0 in
        elim (first_begins (R.add y (len a)) z xs t.1) [ inl f ↦ inl (right ∙ sym f) | inr k ↦ inr (k.0, inr k.1, k.2 ∙ sym right) ]
    tiles_right_is_left y z (a ∷ xs) t x (inr h) =
        elim (tiles_right_is_left (R.add y (len a)) z xs t.1 x h) [ inl e ↦ inl e | inr k ↦ inr (k.0, inr k.1, k.2) ]

  module _ {X W : Type 0} (left len : X → A) (f : W → X) where
    -- the intervals of a mapped list are those of the values
    pub tiles_of_map : (y z : A) (ws : List W) → Tiles R left len y (map f ws) z → Tiles R (λ w. left (f w)) (λ w. len (f w)) y ws z
    tiles_of_map y z [] t = t
    tiles_of_map y z (w ∷ ws) t = (t.0, tiles_of_map (R.add y (len (f w))) z ws t.1)

  module _ {X W : Type 0} (left len : X → A) (left2 len2 : W → A) where
    -- two rows that begin at one place, with intervals as long in turn, have the same left ends
    pub tiles_lefts : (y u z : A) (xs : List X) (ws : List W) → Tiles R left len y xs z → Tiles R left2 len2 y ws u
        → ((n : ℕ) (x : X) (w : W) → slice_get xs n ≡ Some x → slice_get ws n ≡ Some w → len x ≡ len2 w)
        → (n : ℕ) (x : X) (w : W) → slice_get xs n ≡ Some x → slice_get ws n ≡ Some w → left x ≡ left2 w
    tiles_lefts y u z [] ws t v same n x w e f = cc
    tiles_lefts y u z (a ∷ xs) [] t v same n x w e f = cc
    tiles_lefts y u z (a ∷ xs) (b ∷ ws) t v same zero x w e f = ap left (sym (same_Some a x e)) ∙ t.0 ∙ sym v.0 ∙ ap left2 (same_Some b w f)
    tiles_lefts y u z (a ∷ xs) (b ∷ ws) t v same (suc n) x w e f =
        tiles_lefts (R.add y (len a)) u z xs ws t.1 (subst (λ l. Tiles R left2 len2 (R.add y l) ws u) (sym (same 0 a b refl refl)) v.1)
        (λ n x w e f. same (suc n) x w e f) n x w e f

-- the last interval of numbers ends where their lengths sum to from the beginning
pub tiles_total : {d : ℕ} (L : IsOrderedRing (quadratic d) (IsPositive d)) {X : Type 0} (left len : X → Quadratic) {z : Quadratic} (xs : List X) → Tiles (quadratic d) left len nil xs z → z ≡ total (map len xs)
tiles_total {d} L {X} left len {z} xs t = go nil z xs t ∙ ring_laws.zero_add L.ring (total (map len xs))
  where
    go : (y z : Quadratic) (xs : List X) → Tiles (quadratic d) left len y xs z → z ≡ add y (total (map len xs))
    go y z [] t = t ∙ sym (L.add_zero y)
    go y z (x ∷ xs) t = go (add y (len x)) z xs t.1 ∙ L.add_assoc y (len x) (total (map len xs))

module _ {A X : Type 0} {R : Operations A} {P : A → Type 0} (L : IsOrderedRing R P) (left len : X → A) (next : X → X) where
  -- items in turn, each next one beginning where the one before ends
  chain_ends : (x : X) (xs : List X) → IsChainOf next (x ∷ xs) → ((u : X) → IsIn u (x ∷ xs) → left (next u) ≡ R.add (left u) (len u))
      → (last : X) × IsIn last (x ∷ xs) × Tiles R left len (left x) (x ∷ xs) (R.add (left last) (len last))
  chain_ends x [] c step = (x, inl refl, (refl, refl))
  chain_ends x (w ∷ ws) c step =
      let rest = chain_ends w ws c.1 (λ u h. step u (inr h)) in
      (rest.0, inr rest.1, (refl, subst (λ y. Tiles R left len y (w ∷ ws) (R.add (left rest.0) (len rest.0))) (ap left c.0 ∙ step x (inl refl)) rest.2))

  -- where all are between two ends, and both ends are met, they go from the one end to the other
  pub chain_tiles : (lo hi : A) (xs : List X) → IsChainOf next xs → ((u : X) → IsIn u xs → left (next u) ≡ R.add (left u) (len u))
      → ((u : X) → IsIn u xs → P (len u)) → ((u : X) → IsIn u xs → IsAtMost R P lo (left u) × IsAtMost R P (R.add (left u) (len u)) hi)
      → (a b : X) → IsIn a xs → IsIn b xs → left a ≡ lo → R.add (left b) (len b) ≡ hi → Tiles R left len lo xs hi
  chain_tiles lo hi [] c step long within a b ha hb at_lo at_hi = absurd ha
  chain_tiles lo hi (x ∷ xs) c step long within a b ha hb at_lo at_hi =
      let ends = chain_ends x xs c step in
      let last = R.add (left ends.0) (len ends.0) in
      let bounds = (tiles_bounds L left len (left x) last (x ∷ xs) long ends.2).1 in
      let first : left x ≡ lo = order.at_most_antisymm L (left x) lo (subst (IsAtMost R P (left x)) at_lo (bounds a ha).0) (within x (inl refl)).0 in
      let end : last ≡ hi = order.at_most_antisymm L last hi (within ends.0 ends.1).1 (subst (λ y. IsAtMost R P y last) at_hi (bounds b hb).1) in
      subst (λ y. Tiles R left len y (x ∷ xs) hi) first (subst (Tiles R left len (left x) (x ∷ xs)) end ends.2)

module _ {A X : Type 0} {R : Operations A} {P : A → Type 0} (L : IsOrderedRing R P) (left len : X → A) where
  -- items are one, or the interval of the one ends before that of the other begins
  pub tiles_apart : (y z : A) (xs : List X) → ((x : X) → IsIn x xs → P (len x)) → Tiles R left len y xs z → (x w : X) → IsIn x xs → IsIn w xs
      → (x ≡ w) ⊎ (IsAtMost R P (R.add (left x) (len x)) (left w) ⊎ IsAtMost R P (R.add (left w) (len w)) (left x))
  tiles_apart y z [] long t x w hx hw = absurd hx
  tiles_apart y z (a ∷ xs) long t x w hx hw = go hx hw (λ h k. tiles_apart (R.add y (len a)) z xs (λ u m. long u (inr m)) t.1 x w h k)
    where
      -- a later interval begins where the first one ends, or after it
      later : (u b : X) → u ≡ a → IsIn b xs → IsAtMost R P (R.add (left u) (len u)) (left b)
      later u b e h =
          let bounds = (tiles_bounds L left len (R.add y (len a)) z xs (λ u m. long u (inr m)) t.1).1 b h in
          subst (λ q. IsAtMost R P q (left b)) (sym (ap (λ u. R.add (left u) (len u)) e ∙ ap (λ l. R.add l (len a)) t.0)) bounds.0

      go : (x ≡ a) ⊎ IsIn x xs → (w ≡ a) ⊎ IsIn w xs
          → (IsIn x xs → IsIn w xs → (x ≡ w) ⊎ (IsAtMost R P (R.add (left x) (len x)) (left w) ⊎ IsAtMost R P (R.add (left w) (len w)) (left x)))
          → (x ≡ w) ⊎ (IsAtMost R P (R.add (left x) (len x)) (left w) ⊎ IsAtMost R P (R.add (left w) (len w)) (left x))
      go (inl e) (inl f) both = inl (e ∙ sym f)
      go (inl e) (inr k) both = inr (inl (later x w e k))
      go (inr h) (inl f) both = inr (inr (later w x f h))
      go (inr h) (inr k) both = both h k
