-- The half-edges of the first cut along the sides of polygons, by their numbers.
use Rattle.std.proofs.Common.{◌≡◌, ◌⊎◌, ℕ, zero, suc, ◌+◌, ◌-◌, ◌*◌, ◌<◌, ◌≤◌, List, refl, ap, ◌∙◌, inl, inr, arith}
use Rattle.std.proofs.lemmas.Bool.Decides.{nat_tests}
use Rattle.fs_plane.specs.declared.corners.Corner.{Corner}
use Rattle.fs_gluing.specs.declared.surfaces.Side.{Side}
use Rattle.fs_gluing.specs.declared.triangulations.Way.{Way}
use Rattle.fs_gluing.specs.FirstCut.{side_way}
use Rattle.fs_gluing.specs.NextCorner.{side_count}
use Rattle.fs_gluing.proofs.Sides.AllSides.{corner}
use Rattle.fs_triangulate.specs.Fans.{faces_before, half_edge_of, half_edge_along}
use Rattle.fs_triangulate.proofs.StrictPolygons.{corner_after-next, corner_after-last}

-- ---- numbers of half-edges, by the corners that they run between

pub along_from_first : (b i t : ℕ) → half_edge_along b (record { polygon = i; from = 0; to = t + 1 }) ≡ 3 * (b + t) + 0
along_from_first b i t = let e : 3 * (b + (t + 1) - 1) ≡ 3 * (b + t) + 0 = omega arith in e

pub along_between : (b i t : ℕ) → half_edge_along b (record { polygon = i; from = t + 1; to = t + 2 }) ≡ 3 * (b + t) + 1
along_between b i t = grind (arith, nat_tests)

pub along_to_first : (b i t : ℕ) → half_edge_along b (record { polygon = i; from = t + 2; to = 0 }) ≡ 3 * (b + t) + 2
along_to_first b i t = grind (arith, nat_tests)

-- ---- half-edges along sides

-- the half-edge along a side
abbrev pub half_edge : List (List Side) → Corner → ℕ
half_edge polygons c = half_edge_of polygons (side_way polygons c)

module _ (polygons : List (List Side)) (i : ℕ) where
  abbrev n : ℕ
  n = side_count polygons i

  abbrev b : ℕ
  b = faces_before polygons i

  pub after_is-next : (j : ℕ) → j + 1 < n → side_way polygons (corner i j) ≡ record { polygon = i; from = j; to = j + 1 }
  after_is-next j l = ap (λ (e : Corner). let w : Way = record { polygon = i; from = j; to = e.side } in w) (corner_after-next polygons i j l)

  pub after_is-first : (j : ℕ) → j + 1 ≡ n → side_way polygons (corner i j) ≡ record { polygon = i; from = j; to = 0 }
  after_is-first j e = ap (λ (e : Corner). let w : Way = record { polygon = i; from = j; to = e.side } in w) (corner_after-last polygons i j e)

  -- that of side 0
  pub half_first : 3 ≤ n → half_edge polygons (corner i 0) ≡ 3 * (b + 0) + 0
  half_first l = ap (half_edge_of polygons) (after_is-next 0 (omega arith)) ∙ along_from_first b i 0

  -- that of a side between
  pub half_between : (t : ℕ) → t + 2 < n → half_edge polygons (corner i (t + 1)) ≡ 3 * (b + t) + 1
  half_between t l =
      let e : t + 1 + 1 ≡ t + 2 = omega arith in
      ap (half_edge_of polygons) (after_is-next (t + 1) (omega arith) ∙ ap (λ j. let w : Way = record { polygon = i; from = t + 1; to = j } in w) e) ∙ along_between b i t

  -- that of the last side
  pub half_last : (t : ℕ) → t + 3 ≡ n → half_edge polygons (corner i (t + 2)) ≡ 3 * (b + t) + 2
  half_last t e = ap (half_edge_of polygons) (after_is-first (t + 2) (omega arith)) ∙ along_to_first b i t

-- a side of a polygon is its first one, one between, or its last one
pub side_cases : (j m : ℕ) → 3 ≤ m → j < m → (j ≡ 0) ⊎ (((t : ℕ) × (j ≡ t + 1) × (t + 2 < m)) ⊎ ((t : ℕ) × (j ≡ t + 2) × (t + 3 ≡ m)))
side_cases zero m l k = inl refl
side_cases (suc j) m l k = elim (last_or_not j m k) [ inl more ↦ inr (inl (j, omega arith, more)) | inr last ↦ inr (inr (j - 1, omega arith, omega arith)) ]
  where
    last_or_not : (j m : ℕ) → suc j < m → (j + 2 < m) ⊎ (j + 2 ≡ m)
    last_or_not j m k = grind arith
