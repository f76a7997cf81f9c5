-- Which sides the lines glue to each other, and the polygons glued that way.
use Rattle.std.specs.Prelude.{◌≡◌, ◌⊎◌, ℕ, ◌+◌, Option, Some, List, [], ◌∷◌, map, unwrap_or}
use Rattle.std.specs.declared.cmp.Ordering.{Ordering}
use Rattle.std.specs.Ordering.{nat_cmp, ordering_then}
use Rattle.std.specs.List.{AllByRecursion, range_with_len}
use Rattle.fs_plane.specs.Vector.{PlaneVector}
use Rattle.fs_plane.specs.declared.corners.Corner.{Corner}
use Rattle.fs_gluing.specs.declared.shapes.Glue.{Glue}
use Rattle.fs_gluing.specs.declared.surfaces.Side.{Side}

-- the order of corners: by polygon, then by side
abbrev pub corner_cmp : Corner → Corner → Ordering
corner_cmp a b = ordering_then (nat_cmp a.polygon b.polygon) (nat_cmp a.side b.side)

-- some line glues the two sides to each other
abbrev pub IsPairOf : List Glue → Corner → Corner → Type 0
IsPairOf [] c e = ⊥
IsPairOf (g ∷ glues) c e = ((g.one ≡ c) × (g.two ≡ e)) ⊎ (((g.two ≡ c) × (g.one ≡ e)) ⊎ IsPairOf glues c e)

-- p gives the partner of each side on the lines, and of no other side
pub record ArePartners (glues : List Glue) (p : Corner → Option Corner) : Type 0 where
  pub of_lines : AllByRecursion (λ g. (p g.one ≡ Some g.two) × (p g.two ≡ Some g.one)) glues
  pub only : (c e : Corner) → p c ≡ Some e → IsPairOf glues c e

-- n sides of polygon i, from side j on
abbrev pub sides_between : ℕ → ℕ → ℕ → List Corner
sides_between i j n = map (λ k. record { polygon = i; side = k }) (range_with_len j n)

-- the sides of polygon i from side j on, with the partners that p gives; a side without a partner gets itself
abbrev pub glued_polygon : (Corner → Option Corner) → ℕ → ℕ → List PlaneVector → List Side
glued_polygon p i j [] = []
glued_polygon p i j (vector ∷ vectors) =
    record { vector = vector; partner = unwrap_or (p (record { polygon = i; side = j })) (record { polygon = i; side = j }) } ∷ glued_polygon p i (j + 1) vectors

-- the polygons from polygon i on, with the partners that p gives
abbrev pub glued_polygons : (Corner → Option Corner) → ℕ → List (List PlaneVector) → List (List Side)
glued_polygons p i [] = []
glued_polygons p i (polygon ∷ polygons) = glued_polygon p i 0 polygon ∷ glued_polygons p (i + 1) polygons
