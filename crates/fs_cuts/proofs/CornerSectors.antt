-- The sector of a corner of glued polygons, as two half planes. A library for crates to come.
use Rattle.std.proofs.Common.{Bool, [], ◌∷◌, refl, subst}
use Rattle.fs_ring.specs.Operations.{Operations}
use Rattle.fs_ring.specs.OrderedRing.{IsOrderedRing}
use Rattle.fs_ring.specs.Vector.{Vector, neg_vector, cross}
use Rattle.fs_ring.specs.Direction.{InHalfPlane}
use Rattle.fs_ring.proofs.Turns as turns
use Rattle.fs_ring.proofs.Directions as directions
use Rattle.fs_ring.proofs.Solver.{expressions as E, ◌≐◌}
use Rattle.fs_paths.specs.SideGluing.{SideGluing, IsSide, AreGluedPolygons, InSectorOf, StrictlyInSectorOf}

module _ {A : Type 0} {R : Operations A} {IsPositive : A → Type 0} (L : IsOrderedRing R IsPositive)
    {is_ahead : Vector A → Vector A → Bool} {X : Type 0} {G : SideGluing X A} (g : AreGluedPolygons R IsPositive is_ahead G) where
  abbrev HalfPlane : Vector A → Vector A → Type 0
  HalfPlane w v = InHalfPlane R IsPositive w v

  -- the side that begins at a corner turns from the one that ends there
  pub turns_at : (x : X) → IsSide G x → HalfPlane (G.vector (G.prev x)) (G.vector x)
  turns_at x h = subst (λ y. HalfPlane (G.vector (G.prev x)) (G.vector y)) (g.next_prev x h) (g.convex (G.prev x) (g.prev_side x h))

  -- the sector of a corner is the common part of two half planes
  pub half_planes_of_corner : {x : X} {v : Vector A} → IsSide G x → InSectorOf R IsPositive G x v → HalfPlane (G.vector x) v × HalfPlane (G.vector (G.prev x)) v
  half_planes_of_corner {x} h s = turns.half_planes_of_sector L (turns_at x h) s

  pub corner_of_half_planes : {x : X} {v : Vector A} → IsSide G x → HalfPlane (G.vector x) v → HalfPlane (G.vector (G.prev x)) v → InSectorOf R IsPositive G x v
  corner_of_half_planes {x} h j k = turns.sector_of_half_planes L (turns_at x h) j k

  -- strictly inside the sector is strictly left of both sides
  pub left_of_prev : {x : X} {v : Vector A} → StrictlyInSectorOf R IsPositive G x v → IsPositive (cross R (G.vector (G.prev x)) v)
  left_of_prev {x} {v} s =
      directions.positive_by_plane L [] (G.vector (G.prev x) ∷ v ∷ []) (λ i v. cross E i v ≐ cross E v (neg_vector E i)) refl s.right_of_end

  pub strictly_of_lefts : {x : X} {v : Vector A} → IsPositive (cross R (G.vector x) v) → IsPositive (cross R (G.vector (G.prev x)) v) → StrictlyInSectorOf R IsPositive G x v
  strictly_of_lefts {x} {v} l k = record {
    left_of_start = l;
    right_of_end = directions.positive_by_plane L [] (G.vector (G.prev x) ∷ v ∷ []) (λ i v. cross E v (neg_vector E i) ≐ cross E i v) refl k;
  }
