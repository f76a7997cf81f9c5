-- Permutations of a finite list, and lists that represent their cycles.
use Rattle.std.specs.Prelude.{◌≡◌, ◌≢◌, ℕ, zero, suc, List}
use Rattle.fs_lists.specs.Members.{IsIn, AreApart, IsDistinct}

module _ {X : Type 0} where
  -- f permutes the items: it maps items to items, and no two to one
  pub record Permutes (f : X → X) (xs : List X) : Type 0 where
    pub inside : (x : X) → IsIn x xs → IsIn (f x) xs
    pub one_to_one : (x y : X) → IsIn x xs → IsIn y xs → f x ≡ f y → x ≡ y

  -- s joins the items in pairs: each to another item, and that one back to it
  pub record Pairs (s : X → X) (xs : List X) : Type 0 where
    pub inside : (x : X) → IsIn x xs → IsIn (s x) xs
    pub back : (x : X) → IsIn x xs → s (s x) ≡ x
    pub moved : (x : X) → IsIn x xs → s x ≢ x

  -- a permutation f, a joining s in pairs, and h, which is f followed by s
  pub record FollowedByPairs (f s h : X → X) (xs : List X) : Type 0 where
    pub distinct : IsDistinct xs
    pub permutes : Permutes f xs
    pub pairs : Pairs s xs
    pub followed : (x : X) → IsIn x xs → h x ≡ s (f x)

  -- f taken n times
  abbrev pub iterate : (X → X) → ℕ → X → X
  iterate f zero x = x
  iterate f (suc n) x = iterate f n (f x)

  -- y is of the cycle of x: f leads from x to y
  abbrev pub LeadsTo : (X → X) → X → X → Type 0
  LeadsTo f x y = (n : ℕ) × (iterate f n x ≡ y)

  -- the list holds one item of each cycle of f
  pub record Represents (f : X → X) (xs chosen : List X) : Type 0 where
    pub there : (r : X) → IsIn r chosen → IsIn r xs
    pub each : (x : X) → IsIn x xs → (r : X) × IsIn r chosen × LeadsTo f r x
    pub apart : AreApart (LeadsTo f) chosen
