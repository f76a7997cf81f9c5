-- The stratum of a surface: the orders of its vertices.
use Rattle.std.specs.Prelude.{ℕ, ◌-◌, List, map, IsSorted, IsPermutation}
use Rattle.std.specs.Ordering.{nat_cmp}
use Rattle.fs_stratum.specs.declared.cones.Cone.{Cone}

-- the numbers k - 1 of the vertices, descending
pub record AreOrders (cones : List Cone) (orders : List ℕ) : Type 0 where
  pub descending : IsSorted (λ a b. nat_cmp b a) orders
  pub all : IsPermutation (map (λ cone. cone.k - 1) cones) orders
