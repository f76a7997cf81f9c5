-- Glued polygons all of which are triangles. A side of a triangle is a half-edge, and the side that it is glued to is its twin.
use Rattle.std.specs.Prelude.{◌≡◌, Bool, IsTrue}
use Rattle.fs_ring.specs.Operations.{Operations}
use Rattle.fs_ring.specs.Vector.{zero_vector, add_vector, neg_vector, cross}
use Rattle.fs_paths.specs.SideGluing.{SideGluing, IsSide}

-- each half-edge is a side of a triangle, which closes and is counterclockwise; twins are twins of each other and have opposite vectors
pub record AreTriangles {A : Type 0} (R : Operations A) (IsPositive : A → Type 0) {X : Type 0} (G : SideGluing X A) : Type 0 where
  pub next_side : (h : X) → IsSide G h → IsSide G (G.next h)
  pub twin_side : (h : X) → IsSide G h → IsSide G (G.twin h)
  pub three_sides : (h : X) → IsSide G h → G.next (G.next (G.next h)) ≡ h
  pub prev : (h : X) → IsSide G h → G.prev h ≡ G.next (G.next h)
  pub closed : (h : X) → IsSide G h → add_vector R (add_vector R (G.vector h) (G.vector (G.next h))) (G.vector (G.next (G.next h))) ≡ zero_vector R
  pub counterclockwise : (h : X) → IsSide G h → IsPositive (cross R (G.vector h) (G.vector (G.next h)))
  pub twin_twin : (h : X) → IsSide G h → G.twin (G.twin h) ≡ h
  pub twin_opposite : (h : X) → IsSide G h → G.vector (G.twin h) ≡ neg_vector R (G.vector h)

-- from the side x all sides are reached along polygons and across them: each set of names that has x, and with a side the next one and its twin, has all sides
abbrev pub IsConnectedFrom : {A X : Type 0} → SideGluing X A → X → Type 0
IsConnectedFrom {A} {X} G x = (held : X → Bool) → IsTrue (held x)
    → ((y : X) → IsSide G y → IsTrue (held y) → IsTrue (held (G.next y)) × IsTrue (held (G.twin y)))
    → (y : X) → IsSide G y → IsTrue (held y)
