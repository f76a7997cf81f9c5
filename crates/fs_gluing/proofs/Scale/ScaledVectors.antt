-- The vectors of a scaled shape over the common denominator are the unscaled ones.
use Rattle.std.proofs.Common.{◌≡◌, ℕ, zero, suc, ℤ, pos, ◌+◌, ◌*◌, ◌/◌, ◌*ℤ◌, Some, List, [], ◌∷◌, map, sym, ap, ◌∙◌, refl, subst}
use Rattle.std.proofs.Math.Nat.{mul-div_cancel'}
use Rattle.std.proofs.lemmas.Option.{same_Some, slice_get-map}
use Rattle.std.specs.Int.{◌∣◌}
use Rattle.std.specs.Option.{option_map, option_and_then}
use Rattle.std.specs.List.{AllByRecursion, slice_get}
use Rattle.fs_lists.proofs.Items.{inner_item-map}
use Rattle.fs_lists.proofs.All.{All-prefix, All-suffix}
use Rattle.fs_ring.proofs.Integers.{integer_ring}
use Rattle.fs_ring.proofs.Solver.{identity, ◌⊗◌, ◌≐◌}
use Rattle.fs_quadratic.proofs.Laws.{quadratic_eq}
use Rattle.fs_fraction.specs.Fraction.{Fraction, HasValue, scale}
use Rattle.fs_plane.specs.Vector.{PlaneVector}
use Rattle.fs_plane.specs.declared.corners.Corner.{Corner}
use Rattle.fs_gluing.specs.declared.shapes.Point.{Point}
use Rattle.fs_gluing.specs.declared.shapes.Shape.{Shape}
use Rattle.fs_gluing.specs.declared.surfaces.Side.{Side}
use Rattle.fs_gluing.specs.Polygons.{at_side}
use Rattle.fs_gluing.specs.Scaling.{IsMultipleOf, numbered_sides, numbered_from, all_numbered, common_den, scaled_vector}
use Rattle.fs_gluing.specs.Shape.{polygons_of, IsScaledVector}
use Rattle.fs_gluing.specs.Surface.{side_vectors}
use Rattle.fs_gluing.proofs.Scale.CommonDenominator.{each_divides}

-- ---- what holds of all sides holds of one that exists
in_row : (P : Point → Type 0) (i j : ℕ) (points : List Point) (n : ℕ) (point : Point) → AllByRecursion (λ s. P s.vector) (numbered_sides i j points) → slice_get points n ≡ Some point → P point
in_row P i j [] n point a e = cc
in_row P i j (p ∷ points) zero point a e = subst P (same_Some p point e) a.0
in_row P i j (p ∷ points) (suc n) point a e = in_row P i (j + 1) points n point a.1 e

in_polygons : (P : Point → Type 0) (i : ℕ) (polygons : List (List Point)) (k n : ℕ) (point : Point) → AllByRecursion (λ s. P s.vector) (numbered_from i polygons)
    → option_and_then (λ (points : List Point). slice_get points n) (slice_get polygons k) ≡ Some point → P point
in_polygons P i [] k n point a e = cc
in_polygons P i (points ∷ polygons) zero n point a e =
    in_row P i 0 points n point (All-prefix (λ s. P s.vector) (numbered_sides i 0 points) (numbered_from (i + 1) polygons) a) e
in_polygons P i (points ∷ polygons) (suc k) n point a e =
    in_polygons P (i + 1) polygons k n point (All-suffix (λ s. P s.vector) (numbered_sides i 0 points) (numbered_from (i + 1) polygons) a) e

-- ---- a multiple over the denominator

part_has_value : (m k den : ℕ) (z : ℤ) → m * k ≡ den → pos den *ℤ z ≡ pos m *ℤ (pos k *ℤ z)
part_has_value m k den z e =
    ap (λ n. pos n *ℤ z) (sym e) ∙ identity integer_ring (pos m ∷ pos k ∷ z ∷ []) (λ m k z. (m ⊗ k) ⊗ z ≐ m ⊗ (k ⊗ z)) refl

has_value : (x : Fraction) (den : ℕ) → x.den ∣ den → HasValue x (scale (den / x.den) x.num) den
has_value x den h =
    let e = mul-div_cancel' x.den h in
    quadratic_eq (part_has_value x.den (den / x.den) den x.num.p e) (part_has_value x.den (den / x.den) den x.num.q e)

-- ---- the sides of mapped polygons

-- a side of mapped polygons is the value of the map at that side
pub at_side-map : {X Y : Type 0} (f : X → Y) (rows : List (List X)) (c : Corner) → at_side (map (map f) rows) c ≡ option_map f (at_side rows c)
at_side-map f rows c = ap (option_and_then (λ row. slice_get row c.side)) (slice_get-map (map f) rows c.polygon) ∙ inner_item-map f (slice_get rows c.polygon) c.side

-- the vectors of a surface over the common denominator are those of the shape
pub vectors_scaled : (shape : Shape) (polygons : List (List Side)) → map side_vectors polygons ≡ polygons_of shape → (c : Corner) (point : Point) (side : Side)
    → at_side shape.polygons c ≡ Some point → at_side polygons c ≡ Some side → IsScaledVector (common_den shape.polygons) point side.vector
vectors_scaled shape polygons same c point side there here =
    let den = common_den shape.polygons in
    let own : at_side (map side_vectors polygons) c ≡ Some side.vector = at_side-map (λ (s : Side). s.vector) polygons c ∙ ap (option_map (λ (s : Side). s.vector)) here in
    let made : at_side (polygons_of shape) c ≡ Some (scaled_vector den point) = at_side-map (scaled_vector den) shape.polygons c ∙ ap (option_map (scaled_vector den)) there in
    let is : scaled_vector den point ≡ side.vector = same_Some _ _ (sym made ∙ (ap (λ (ps : List (List PlaneVector)). at_side ps c) (sym same) ∙ own)) in
    let divides : IsMultipleOf den point = in_polygons (IsMultipleOf den) 0 shape.polygons c.polygon c.side point (each_divides 1 (all_numbered shape.polygons)) there in
    subst (IsScaledVector den point) is (has_value point.x den divides.0, has_value point.y den divides.1)
