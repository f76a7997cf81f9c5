-- The products of a table's reflections: the least set of matrices that holds the identity and, with each, that times each reflection; and the list in which they are found.
use Rattle.std.specs.Prelude.{◌≡◌, ℕ, Bool, IsTrue, ◌+◌, ◌<◌, Ok, Some, List, [], ◌∷◌, ◌++◌, length, map}
use Rattle.std.specs.List.{slice_get}
use Rattle.fs_lists.specs.Members.{IsIn}
use Rattle.fs_gluing.specs.declared.shapes.Point.{Point}
use Rattle.fs_unfold.specs.declared.matrices.Matrix.{Matrix}
use Rattle.fs_unfold.specs.declared.matrices.Mirror.{Mirror}
use Rattle.fs_unfold.specs.Matrices.{identity, mirror, times, checked_times}

-- the most products of an unfolding
abbrev pub most_products : ℕ
most_products = 24

-- the reflections in the sides of a table
abbrev pub mirrors : ℕ → List Point → List Mirror
mirrors d table = map (mirror d) table

-- m is in each set of matrices that holds the identity and, with a matrix, that times each reflection
abbrev pub IsProduct : ℕ → List Mirror → Matrix → Type 0
IsProduct d rs m = (held : Matrix → Bool) → IsTrue (held identity) → ((g : Matrix) (r : Mirror) → IsIn r rs → IsTrue (held g) → IsTrue (held (times d g r))) → IsTrue (held m)

-- the list when product g is to be multiplied by reflection i, all products before being listed: they come in order, reflection by reflection for product by product, each where it isn't there yet
pub data AreListed (d : ℕ) (rs : List Mirror) : List Matrix → ℕ → ℕ → Type 0 where
  first : AreListed d rs (identity ∷ []) 0 0
  known : (list : List Matrix) (g i : ℕ) (m n : Matrix) (r : Mirror) → AreListed d rs list g i → slice_get list g ≡ Some m → slice_get rs i ≡ Some r → checked_times d m r ≡ Ok n
      → IsIn n list → AreListed d rs list g (i + 1)
  added : (list : List Matrix) (g i : ℕ) (m n : Matrix) (r : Mirror) → AreListed d rs list g i → slice_get list g ≡ Some m → slice_get rs i ≡ Some r → checked_times d m r ≡ Ok n
      → ¬ IsIn n list → length list < most_products → AreListed d rs (list ++ n ∷ []) g (i + 1)
  next_product : (list : List Matrix) (g : ℕ) → AreListed d rs list g (length rs) → AreListed d rs list (g + 1) 0

-- the whole list: no product is left to be multiplied
abbrev pub AreProducts : ℕ → List Mirror → List Matrix → Type 0
AreProducts d rs list = AreListed d rs list (length list) 0
