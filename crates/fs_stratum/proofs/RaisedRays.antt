-- Whether the ray of a corner is raised: a corner holds (1,0) where its ray isn't and the next one is.
use Rattle.std.proofs.Common.{◌≡◌, ℕ, Bool, true, false, not, ◌&&◌, Option, Some, None, sym, ap, ◌∙◌, refl, subst}
use Rattle.std.proofs.lemmas.Option.{same_Some}
use Rattle.std.specs.Option.{IfSome}
use Rattle.fs_lists.proofs.Items.{value_of}
use Rattle.fs_plane.specs.declared.corners.Corner.{Corner}
use Rattle.fs_plane.specs.Vector.{is_raised, BendsNoRight, PlaneVector}
use Rattle.fs_gluing.specs.declared.surfaces.Side.{Side}
use Rattle.fs_gluing.specs.Polygons.{at_side, HasSide}
use Rattle.fs_gluing.specs.Surface.{GluedPolygons, IsTranslationSurface}
use Rattle.fs_gluing.specs.Vertices.{HoldsEast}
use Rattle.fs_gluing.proofs.Sides.CornerRays.{HasRays, rays, next_ray}
use Rattle.fs_gluing.proofs.Sides.VertexOrbits.{next}
use Rattle.fs_stratum.proofs.SectorOfEast.{is_held, raised-neg, before-ne-zero, holds_from_test, test_from_holds}

-- whether the vector of a side is raised; no side isn't
abbrev pub raised_or : ℕ → Option Side → Bool
raised_or d None = false
raised_or d (Some side) = is_raised d side.vector

-- the ray of the corner, along the side that begins there, is raised
abbrev pub is_ray_raised : GluedPolygons → Corner → Bool
is_ray_raised s c = raised_or s.d (at_side s.polygons c)

-- the test of the vector that is read there
pub ray_read : (s : GluedPolygons) (c : Corner) (v : PlaneVector) → HasSide s.polygons c → IfSome (at_side s.polygons c) (λ side. v ≡ side.vector) → is_raised s.d v ≡ is_ray_raised s c
ray_read s c v h e =
    let a = value_of (at_side s.polygons c) h in
    let same : v ≡ a.value.vector = subst (λ o. IfSome o (λ side. v ≡ side.vector)) a.is e in
    ap (is_raised s.d) same ∙ sym (ap (raised_or s.d) a.is)

module _ (s : GluedPolygons) (surface : IsTranslationSurface s) (c : Corner) (h : HasSide s.polygons c) where
  -- the ray is raised where the side that begins there is
  pub raised-here : (r : HasRays s c) → is_ray_raised s c ≡ is_raised s.d r.after.vector
  raised-here r = ap (raised_or s.d) r.begins

  -- the next ray is raised where the side that ends there isn't
  pub raised-next : (r : HasRays s c) → is_ray_raised s (next s.polygons c) ≡ not (is_raised s.d r.before.vector)
  raised-next r =
      ap (raised_or s.d) (next_ray s surface c h r)
      ∙ raised-neg surface.radicand r.before.vector (before-ne-zero surface.radicand r.bends)

  -- the corner holds (1,0) where its first ray isn't raised and the next one is
  pub held-rays : (r : HasRays s c) → not (is_ray_raised s c) && is_ray_raised s (next s.polygons c) ≡ is_held s.d r.before.vector r.after.vector
  held-rays r = (λ i. not (raised-here r i) && raised-next r i) ∙ swap (is_raised s.d r.after.vector) (is_raised s.d r.before.vector)
    where
      swap : (a b : Bool) → not a && not b ≡ not b && not a
      swap true true = refl
      swap true false = refl
      swap false true = refl
      swap false false = refl

  -- a corner whose ray is not raised, and the next one is, holds (1,0)
  pub holds_from_rays : not (is_ray_raised s c) && is_ray_raised s (next s.polygons c) ≡ true → HoldsEast s c
  holds_from_rays e =
      let r = rays s surface c h in
      record { before = r.before; after = r.after; ends = r.ends; begins = r.begins; holds = holds_from_test surface.radicand r.before.vector r.after.vector r.bends (sym (held-rays r) ∙ e) }

  -- the converse
  pub rays_from_holds : HoldsEast s c → not (is_ray_raised s c) && is_ray_raised s (next s.polygons c) ≡ true
  rays_from_holds k =
      let r = rays s surface c h in
      let b : r.before ≡ k.before = same_Some r.before k.before (sym r.ends ∙ k.ends) in
      let a : r.after ≡ k.after = same_Some r.after k.after (sym r.begins ∙ k.begins) in
      let bends : BendsNoRight s.d k.before.vector k.after.vector =
      subst (λ (x : Side). BendsNoRight s.d x.vector k.after.vector) b (subst (λ (x : Side). BendsNoRight s.d r.before.vector x.vector) a r.bends) in
      let q : HasRays s c = record { before = k.before; after = k.after; ends = k.ends; begins = k.begins; bends = bends } in
      held-rays q ∙ test_from_holds surface.radicand k.before.vector k.after.vector bends k.holds
