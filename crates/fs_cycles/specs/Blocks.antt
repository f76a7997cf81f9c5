-- Permutations that step back through numbered blocks.
use Rattle.std.specs.Prelude.{◌≡◌, ℕ, suc, ◌<◌, List}
use Rattle.fs_lists.specs.Members.{IsIn}

module _ {X : Type 0} where
  -- f stays in each of n blocks, and steps there from each place to the one before, down to the head at place 0
  pub record StepsBack (f : X → X) (xs : List X) (n : ℕ) (block place : X → ℕ) (head : ℕ → X) : Type 0 where
    pub below : (x : X) → IsIn x xs → block x < n
    pub stays : (x : X) → IsIn x xs → block (f x) ≡ block x
    pub steps : (x : X) → IsIn x xs → (p : ℕ) → place x ≡ suc p → place (f x) ≡ p
    pub arrives : (x : X) → IsIn x xs → place x ≡ 0 → x ≡ head (block x)
    pub there : (i : ℕ) → i < n → IsIn (head i) xs
    pub named : (i : ℕ) → i < n → block (head i) ≡ i
