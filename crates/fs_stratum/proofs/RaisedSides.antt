-- Half of the sides of a surface are raised, since partners are opposite.
use Rattle.std.proofs.Common.{◌≡◌, ℕ, ◌+◌, not, Some, List, length, sym, ap, ◌∙◌, Bool, arith}
use Rattle.std.proofs.Math.Bool.{not-not}
use Rattle.fs_lists.specs.Members.{IsIn, IsDistinct}
use Rattle.fs_lists.proofs.Counts.{tally, tally-at_most, tally-not}
use Rattle.fs_cycles.specs.Cycles.{Pairs}
use Rattle.fs_cycles.proofs.Iterates.{permutes_undone}
use Rattle.fs_plane.specs.declared.corners.Corner.{Corner}
use Rattle.fs_gluing.specs.Polygons.{HasSide, all_sides}
use Rattle.fs_gluing.specs.Surface.{GluedPolygons, IsTranslationSurface}
use Rattle.fs_gluing.specs.Vertices.{HoldsEast, IsCount}
use Rattle.fs_gluing.proofs.Sides.AllSides.{all_sides_in, all_sides_distinct}
use Rattle.fs_gluing.specs.SurfaceSides.{partner}
use Rattle.fs_gluing.proofs.Sides.PartnerSides.{at_partner, pairs}
use Rattle.fs_gluing.proofs.Sides.CornerRays.{HasRays, rays}
use Rattle.fs_stratum.proofs.SectorOfEast.{raised-neg, after-ne-zero}
use Rattle.fs_stratum.proofs.RaisedRays.{rays_from_holds, holds_from_rays, held-rays}
use Rattle.fs_stratum.proofs.HeldCorners.{held_or, held_at, low_or, low_at, held-all}
use Rattle.fs_stratum.proofs.CornerCounts.{count-tally}

-- where exactly one of each pair passes the test, half of the items pass it
tally-half : {X : Type 0} (q : X → Bool) {f : X → X} (xs : List X) → IsDistinct xs → Pairs f xs → ((x : X) → IsIn x xs → q (f x) ≡ not (q x)) → tally q xs + tally q xs ≡ length xs
tally-half q {f} xs distinct pairs flips =
    let one = (permutes_undone f f xs pairs.inside pairs.back).one_to_one in
    let high = tally-at_most q (λ x. not (q x)) f xs xs distinct (λ x i e. (pairs.inside x i, ap not (flips x i) ∙ not-not (q x) ∙ e)) one in
    let low = tally-at_most (λ x. not (q x)) q f xs xs distinct (λ x i e. (pairs.inside x i, flips x i ∙ e)) one in
    let sum = tally-not q xs in
    omega arith

module _ (s : GluedPolygons) (surface : IsTranslationSurface s) where
  low-partner : (c : Corner) → HasSide s.polygons c → low_at s.d s.polygons (partner s.polygons c) ≡ not (low_at s.d s.polygons c)
  low-partner c h =
      let r = rays s surface c h in
      ap (low_or s.d) (at_partner s.polygons surface.glued c r.after r.begins)
      ∙ ap not (raised-neg surface.radicand r.after.vector (after-ne-zero surface.radicand r.bends))
      ∙ sym (ap (λ o. not (low_or s.d o)) r.begins)

  -- half of the sides aren't raised
  pub low-half : tally (low_at s.d s.polygons) (all_sides s.polygons) + tally (low_at s.d s.polygons) (all_sides s.polygons) ≡ length (all_sides s.polygons)
  low-half = tally-half (low_at s.d s.polygons) (all_sides s.polygons) (all_sides_distinct s.polygons) (pairs s.polygons surface.glued) (λ x i. low-partner x (all_sides_in s.polygons x i))

  -- the test at a corner, by the two sides there
  test-at : (c : Corner) (h : HasSide s.polygons c) (r : HasRays s c) → held_at s.d s.polygons c ≡ held_or s.d (Some r.before) (Some r.after)
  test-at c h r = λ i. held_or s.d (r.ends i) (r.begins i)

  -- the corners that hold (1,0) and the polygons are half as many as the sides
  pub held-half : (k : ℕ) → IsCount (HoldsEast s) (all_sides s.polygons) k → k + length s.polygons ≡ tally (low_at s.d s.polygons) (all_sides s.polygons)
  held-half k count =
      let is : k ≡ tally (held_at s.d s.polygons) (all_sides s.polygons) =
      count-tally (HoldsEast s) (held_at s.d s.polygons) (all_sides s.polygons) k
      (λ c i held. let h = all_sides_in s.polygons c i in let r = rays s surface c h in test-at c h r ∙ sym (held-rays s surface c h r) ∙ rays_from_holds s surface c h held)
      (λ c i test. let h = all_sides_in s.polygons c i in let r = rays s surface c h in holds_from_rays s surface c h (held-rays s surface c h r ∙ sym (test-at c h r) ∙ test))
      count in
      ap (λ n. n + length s.polygons) is ∙ held-all s surface
