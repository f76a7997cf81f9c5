-- How far to the right of the flow the vectors of crossings lead, from the positions at their ends. A library for crates to come.
use Rattle.std.proofs.Common.{◌≡◌, ◌≢◌, ℕ, zero, suc, [], ◌∷◌, refl, sym, ap, ◌∙◌, subst}
use Rattle.fs_ring.specs.OrderedRing.{IsOrderedRing}
use Rattle.fs_ring.proofs.Plane as plane
use Rattle.fs_ring.proofs.Solver.{identity, derived, ◌⊕◌, ◌⊖◌, ◌≐◌, ◌from◌, numeral}
use Rattle.fs_quadratic.specs.Ring.{Quadratic, quadratic, IsPositive, add, sub}
use Rattle.fs_plane.specs.declared.corners.Corner.{Corner}
use Rattle.fs_plane.specs.Vector.{PlaneVector, vector_zero, cross}
use Rattle.fs_gluing.specs.CrossingMap.{block_start, to_right, leftmost, Crosses, Orbit}
use Rattle.fs_gluing.specs.FirstCut.{position_in}
use Rattle.fs_gluing.specs.NextCorner.{corner_after}
use Rattle.fs_gluing.specs.Surface.{GluedPolygons, IsTranslationSurface}
use Rattle.fs_gluing.specs.SurfaceSides.{partner}
use Rattle.fs_iet.proofs.SideMeasures.{surface_order}
use Rattle.fs_iet.proofs.PolygonPositions.{IsOfPolygon, crosses_polygons, polygon_unique}

-- by how much a position of polygon i is more than the distance to the right of corner 0
abbrev pub block_offset : GluedPolygons → PlaneVector → ℕ → Quadratic
block_offset s v i = sub (block_start s v i) (leftmost s v i)

module _ (s : GluedPolygons) (surface : IsTranslationSurface s) (v : PlaneVector) where
  L : IsOrderedRing (quadratic s.d) (IsPositive s.d)
  L = surface_order s surface

  -- the vector of a crossing leads as far to the right as the one position is further right in its polygon than the other in its own
  pub cross_of_crossing : {y z : Quadratic} {h : PlaneVector} {f : Corner} → Crosses s v y z h f
      → cross s.d h v ≡ sub (sub y (block_offset s v f.polygon)) (sub z (block_offset s v (partner s.polygons f).polygon))
  cross_of_crossing {y} {z} {h} {f} c =
      let end = corner_after s.polygons f in
      let other = partner s.polygons f in
      ap (λ h. cross s.d h v) c.put
      ∙ plane.cross-sub_left L.ring (position_in s end.polygon end.side) (position_in s other.polygon other.side) v
      ∙ derived L.ring
      (y ∷ z ∷ block_start s v f.polygon ∷ leftmost s v f.polygon ∷ to_right s v end ∷ block_start s v other.polygon ∷ leftmost s v other.polygon ∷ to_right s v other ∷ [])
      (λ y z b l t c m u. t ⊖ u ≐ (y ⊖ (b ⊖ l)) ⊖ (z ⊖ (c ⊖ m)) from (numeral 1, z ≐ (y ⊖ (b ⊕ (t ⊖ l))) ⊕ (c ⊕ (u ⊖ m))) ∷ []) refl (c.beyond, tt)

  -- so does the sum of the vectors of an orbit
  pub cross_of_orbit : v ≢ vector_zero → (n : ℕ) (y z : Quadratic) (h : PlaneVector) (i k : ℕ) → Orbit s v n y z h → IsOfPolygon s v i y → IsOfPolygon s v k z
      → cross s.d h v ≡ sub (sub y (block_offset s v i)) (sub z (block_offset s v k))
  cross_of_orbit some zero y z h i k o p q =
      let one : k ≡ i = polygon_unique s surface v some (subst (IsOfPolygon s v k) o.0 q) p in
      ap (λ h. cross s.d h v) o.1
      ∙ plane.cross-zero_left L.ring v
      ∙ identity L.ring (y ∷ block_offset s v i ∷ []) (λ y b. numeral 0 ≐ (y ⊖ b) ⊖ (y ⊖ b)) refl
      ∙ (λ j. sub (sub y (block_offset s v i)) (sub (sym o.0 j) (block_offset s v (sym one j))))
  cross_of_orbit some (suc n) y z h i k o p q =
      let polygons = crosses_polygons s surface v some o.4 in
      let one : o.3.polygon ≡ i = polygon_unique s surface v some polygons.0 p in
      let other = (partner s.polygons o.3).polygon in
      let first = cross_of_crossing o.4 in
      let rest = cross_of_orbit some n o.0 z o.2 other k o.5 polygons.1 q in
      ap (λ h. cross s.d h v) o.6
      ∙ plane.cross-add_left L.ring o.1 o.2 v
      ∙ (λ j. add (first j) (rest j))
      ∙ identity L.ring (sub y (block_offset s v o.3.polygon) ∷ sub o.0 (block_offset s v other) ∷ sub z (block_offset s v k) ∷ []) (λ a b c. (a ⊖ b) ⊕ (b ⊖ c) ≐ a ⊖ c) refl
      ∙ ap (λ (j : ℕ). sub (sub y (block_offset s v j)) (sub z (block_offset s v k))) one
