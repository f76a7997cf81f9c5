-- A polygon whose triangles are cut off one after another, each by a diagonal. The contract of `flat` doesn't rest on this file.
use Rattle.std.specs.Prelude.{◌≡◌, List, [], ◌∷◌, ◌++◌}
use Rattle.fs_ring.specs.Operations.{Operations}
use Rattle.fs_ring.specs.Vector.{add_vector, cross}
use Rattle.fs_paths.specs.SideGluing.{SideGluing}

-- a triangle by its half-edges: two sides of a polygon, and the diagonal that leads from the end of the second back to the start of the first
pub record Ear (X : Type 0) : Type 0 where
  pub first : X
  pub second : X
  pub diagonal : X

-- the last item of a list, or x where there is none
abbrev pub last_after : {X : Type 0} → X → List X → X
last_after x [] = x
last_after x (y ∷ ys) = last_after y ys

module _ {A : Type 0} (R : Operations A) (IsPositive : A → Type 0) {X : Type 0} (G : SideGluing X A) where
  -- the polygon with the sides f, rest and l, in order, is cut into these triangles: each but the last is cut off at a corner between two sides, such that both of the polygon's corners at the cut stay strictly convex; the diagonal's twin takes the place of the two sides. The boundary may be begun at any side
  pub data AreEars : List X → List (Ear X) → Type 0 where
    last : (a b c : X) → AreEars (a ∷ b ∷ c ∷ []) (record { first = a; second = b; diagonal = c } ∷ [])
    ear : (before after : List X) → (a b d f : X) → (rest : List X) → (ears : List (Ear X)) → after ++ before ≡ a ∷ b ∷ f ∷ rest
        → IsPositive (cross R (G.vector a) (G.vector b))
        → IsPositive (cross R (G.vector (last_after f rest)) (add_vector R (G.vector a) (G.vector b)))
        → IsPositive (cross R (add_vector R (G.vector a) (G.vector b)) (G.vector f))
        → AreEars (G.twin d ∷ f ∷ rest) ears → AreEars (before ++ after) (record { first = a; second = b; diagonal = d } ∷ ears)
