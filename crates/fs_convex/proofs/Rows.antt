-- Intervals that are laid one after another, each item of a list having its left end and its length. A library for crates to come.
use Rattle.std.proofs.Common.{◌≡◌, ◌⊎◌, ℕ, zero, suc, ◌+◌, List, [], ◌∷◌, ◌++◌, refl, sym, ap, ◌∙◌, subst, inl, inr}
use Rattle.fs_lists.specs.Members.{IsIn, IsDistinct}
use Rattle.fs_ring.specs.Operations.{Operations}
use Rattle.fs_ring.specs.OrderedRing.{IsOrderedRing, IsLess, IsAtMost}
use Rattle.fs_ring.proofs.Order as order
use Rattle.fs_ring.proofs.Solver.{identity, ◌⊕◌, ◌⊖◌, ◌≐◌}

module _ {A X : Type 0} (R : Operations A) (left len : X → A) where
  -- the first interval begins at y, each other one begins where the one before ends, and the last ends at z
  abbrev pub Tiles : A → List X → A → Type 0
  Tiles y [] z = z ≡ y
  Tiles y (x ∷ xs) z = (left x ≡ y) × Tiles (R.add y (len x)) xs z

  -- the interval of x holds y: its left end is in it, its right end isn't
  pub record Holds (IsPositive : A → Type 0) (y : A) (x : X) : Type 0 where
    pub from_left : IsAtMost R IsPositive (left x) y
    pub before_right : IsLess R IsPositive y (R.add (left x) (len x))

module _ {A X : Type 0} (R : Operations A) (left len : X → A) where
  -- two lists of intervals of which the second begins where the first ends
  pub tiles-append : (y u z : A) (xs ys : List X) → Tiles R left len y xs u → Tiles R left len u ys z → Tiles R left len y (xs ++ ys) z
  tiles-append y u z [] ys first second = subst (λ w. Tiles R left len w ys z) first second
  tiles-append y u z (x ∷ xs) ys first second = (first.0, tiles-append (R.add y (len x)) u z xs ys first.1 second)

module _ {A X : Type 0} {R : Operations A} {IsPositive : A → Type 0} (L : IsOrderedRing R IsPositive) (left len : X → A) where
  abbrev HoldsIt : A → X → Type 0
  HoldsIt y x = Holds R left len IsPositive y x

  -- each interval of a list is within its ends
  pub tiles_bounds : (y z : A) (xs : List X) → ((x : X) → IsIn x xs → IsPositive (len x)) → Tiles R left len y xs z
      → IsAtMost R IsPositive y z × ((x : X) → IsIn x xs → IsAtMost R IsPositive y (left x) × IsAtMost R IsPositive (R.add (left x) (len x)) z)
  tiles_bounds y z [] long t = (order.at_most_of_eq L y z (sym t), λ x h. absurd h)
  tiles_bounds y z (x ∷ xs) long t =
      let rest = tiles_bounds (R.add y (len x)) z xs (λ w h. long w (inr h)) t.1 in
      let longer : IsLess R IsPositive y (R.add y (len x)) = subst IsPositive (identity L.ring (y ∷ len x ∷ []) (λ y l. l ≐ (y ⊕ l) ⊖ y) refl) (long x (inl refl)) in
      let here : IsAtMost R IsPositive y (R.add y (len x)) = order.at_most_of_less L y (R.add y (len x)) longer in (
        order.at_most_trans L y (R.add y (len x)) z here rest.0,
        λ w h. elim h [
          | inl e ↦ (
            order.at_most_of_eq L y (left w) (sym (ap left e ∙ t.0)),
            subst (λ u. IsAtMost R IsPositive u z) (sym ((λ i. R.add (left (e i)) (len (e i))) ∙ ap (λ u. R.add u (len x)) t.0)) rest.0,
          )
          | inr h ↦ (order.at_most_trans L y (R.add y (len x)) (left w) here (rest.1 w h).0, (rest.1 w h).1)
        ],
      )

  -- of the numbers from the one end to the other each is in an interval
  pub tile_exists : (y z p : A) (xs : List X) → Tiles R left len y xs z → IsAtMost R IsPositive y p → IsLess R IsPositive p z → (x : X) × IsIn x xs × HoldsIt p x
  tile_exists y z p [] t l m = absurd (l (subst (λ w. IsLess R IsPositive p w) t m))
  tile_exists y z p (x ∷ xs) t l m = go (order.less_or_at_most L p (R.add y (len x))) (λ more. tile_exists (R.add y (len x)) z p xs t.1 more m)
    where
      go : IsLess R IsPositive p (R.add y (len x)) ⊎ IsAtMost R IsPositive (R.add y (len x)) p → (IsAtMost R IsPositive (R.add y (len x)) p → (w : X) × IsIn w xs × HoldsIt p w)
          → (w : X) × IsIn w (x ∷ xs) × HoldsIt p w
      go (inl less) later = (
        x,
        inl refl,
        record {
          from_left = subst (λ u. IsAtMost R IsPositive u p) (sym t.0) l;
          before_right = subst (λ u. IsLess R IsPositive p (R.add u (len x))) (sym t.0) less;
        },
      )
      go (inr more) later = let found = later more in (found.0, inr found.1, found.2)

  -- and not in two
  pub tile_unique : (y z p : A) (xs : List X) → ((x : X) → IsIn x xs → IsPositive (len x)) → Tiles R left len y xs z
      → (x w : X) → IsIn x xs → IsIn w xs → HoldsIt p x → HoldsIt p w → x ≡ w
  tile_unique y z p [] long t x w hx hw px pw = absurd hx
  tile_unique y z p (a ∷ others) long t x w hx hw px pw =
      go hx hw (λ h k. tile_unique (R.add y (len a)) z p others (λ u m. long u (inr m)) t.1 x w h k px pw)
    where
      -- a later interval doesn't hold what the first one holds
      later : (u : X) → IsIn u others → HoldsIt p a → HoldsIt p u → ⊥
      later u h pa pu =
          let bounds = (tiles_bounds (R.add y (len a)) z others (λ u m. long u (inr m)) t.1).1 u h in
          let right : IsLess R IsPositive p (R.add y (len a)) = subst (λ o. IsLess R IsPositive p (R.add o (len a))) t.0 pa.before_right in
          pu.from_left (order.less_of_less_at_most L p (R.add y (len a)) (left u) right bounds.0)

      go : (x ≡ a) ⊎ IsIn x others → (w ≡ a) ⊎ IsIn w others → (IsIn x others → IsIn w others → x ≡ w) → x ≡ w
      go (inl e) (inl f) both = e ∙ sym f
      go (inl e) (inr h) both = absurd (later w h (subst (HoldsIt p) e px) pw)
      go (inr h) (inl f) both = absurd (later x h (subst (HoldsIt p) f pw) px)
      go (inr h) (inr k) both = both h k

  -- intervals of which each begins after the one before begins are different items
  pub tiles_distinct : (y z : A) (xs : List X) → ((x : X) → IsIn x xs → IsPositive (len x)) → Tiles R left len y xs z → IsDistinct xs
  tiles_distinct y z [] long t = tt
  tiles_distinct y z (x ∷ xs) long t = (
    (λ w h e.
        let bounds = (tiles_bounds (R.add y (len x)) z xs (λ u m. long u (inr m)) t.1).1 w h in
        let longer : IsLess R IsPositive y (R.add y (len x)) = subst IsPositive (identity L.ring (y ∷ len x ∷ []) (λ y l. l ≐ (y ⊕ l) ⊖ y) refl) (long x (inl refl)) in
        order.less-ne L y (left w) (order.less_of_less_at_most L y (R.add y (len x)) (left w) longer bounds.0) (sym t.0 ∙ ap left e)),
    tiles_distinct (R.add y (len x)) z xs (λ w h. long w (inr h)) t.1,
  )

-- ---- items by their numbers

module _ {X : Type 0} where
  -- the k items from item b on
  abbrev pub upward : (ℕ → X) → ℕ → ℕ → List X
  upward item b zero = []
  upward item b (suc k) = item b ∷ upward item (suc b) k

  -- the same in the reverse order
  abbrev pub downward : (ℕ → X) → ℕ → ℕ → List X
  downward item b zero = []
  downward item b (suc k) = item (b + k) ∷ downward item b k
