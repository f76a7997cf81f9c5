-- Sums over letters of a pairing of their lengths with their return vectors. The contracts of public calls don't rest on this file.
use Rattle.std.specs.Prelude.{◌≡◌, List, [], ◌∷◌}
use Rattle.fs_quadratic.specs.Ring.{Quadratic, add}
use Rattle.fs_plane.specs.Vector.{PlaneVector, vector_add}
use Rattle.fs_gluing.specs.Exchanges.{Letter, Component}

-- what can be done with the elements of a group that is written with +
pub record Addition (W : Type 0) : Type 0 where
  pub add : W → W → W
  pub neg : W → W
  pub zero : W

-- the laws of a commutative group
pub record IsCommutativeGroup {W : Type 0} (G : Addition W) : Type 0 where
  pub add_assoc : (x y z : W) → G.add (G.add x y) z ≡ G.add x (G.add y z)
  pub add_comm : (x y : W) → G.add x y ≡ G.add y x
  pub add_zero : (x : W) → G.add x G.zero ≡ x
  pub add_neg : (x : W) → G.add x (G.neg x) ≡ G.zero

module _ {W : Type 0} (G : Addition W) (pair : Quadratic → PlaneVector → W) where
  -- the pairing of a number with a vector is additive in both
  pub record IsPairing : Type 0 where
    pub group : IsCommutativeGroup G
    pub numbers : (a b : Quadratic) (h : PlaneVector) → pair (add a b) h ≡ G.add (pair a h) (pair b h)
    pub vectors : (a : Quadratic) (h k : PlaneVector) → pair a (vector_add h k) ≡ G.add (pair a h) (pair a k)

  -- the sum over letters
  abbrev pub letters_sum : List Letter → W
  letters_sum [] = G.zero
  letters_sum (letter ∷ letters) = G.add (pair letter.length letter.back) (letters_sum letters)

  -- the sum over the letters of all components
  abbrev pub paired_sum : List Component → W
  paired_sum [] = G.zero
  paired_sum (c ∷ components) = G.add (letters_sum c.top) (paired_sum components)
