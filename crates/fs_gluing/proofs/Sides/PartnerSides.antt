-- The partner and the vector of a side by look-up: partners are pairs of sides with opposite vectors. A library for crates to come.
use Rattle.std.proofs.Common.{◌≡◌, ◌≢◌, Some, List, sym, ap, ◌∙◌, refl, subst}
use Rattle.std.specs.Option.{IsSome}
use Rattle.fs_lists.proofs.Items.{value_of}
use Rattle.fs_cycles.specs.Cycles.{Pairs}
use Rattle.fs_plane.specs.declared.corners.Corner.{Corner}
use Rattle.fs_plane.specs.Vector.{vector_neg}
use Rattle.fs_gluing.specs.declared.surfaces.Side.{Side}
use Rattle.fs_gluing.specs.Polygons.{at_side, HasSide, all_sides}
use Rattle.fs_gluing.specs.SurfaceSides.{partner_or, partner, vector_or, vector_of}
use Rattle.fs_gluing.proofs.SurfaceCalls.NextCorner.{IsGluing}
use Rattle.fs_gluing.proofs.Sides.AllSides.{in_all_sides, all_sides_in}

module _ (polygons : List (List Side)) (glued : IsGluing polygons) where
  -- the partner has the opposite vector, and is glued back
  pub at_partner : (c : Corner) (side : Side) → at_side polygons c ≡ Some side → at_side polygons (partner polygons c) ≡ Some (record { vector = vector_neg side.vector; partner = c })
  at_partner c side there = ap (λ o. at_side polygons (partner_or c o)) there ∙ (glued c side there).back

  -- the partner exists
  pub has_partner : (c : Corner) → HasSide polygons c → HasSide polygons (partner polygons c)
  has_partner c h = let s = value_of (at_side polygons c) h in subst IsSome (sym (at_partner c s.value s.is)) refl

  -- the partner of the partner is the side
  pub partner-partner : (c : Corner) → HasSide polygons c → partner polygons (partner polygons c) ≡ c
  partner-partner c h = let s = value_of (at_side polygons c) h in ap (partner_or (partner polygons c)) (at_partner c s.value s.is)

  -- the partner is another side
  pub partner-moved : (c : Corner) → HasSide polygons c → partner polygons c ≢ c
  partner-moved c h e = let s = value_of (at_side polygons c) h in (glued c s.value s.is).other (sym (ap (partner_or c) s.is) ∙ e)

  -- the vector of the partner is the opposite one
  pub vector-partner : (c : Corner) → HasSide polygons c → vector_of polygons (partner polygons c) ≡ vector_neg (vector_of polygons c)
  vector-partner c h =
      let s = value_of (at_side polygons c) h in
      ap vector_or (at_partner c s.value s.is) ∙ ap (λ o. vector_neg (vector_or o)) (sym s.is)

  -- partners are pairs
  pub pairs : Pairs (partner polygons) (all_sides polygons)
  pairs = record {
    inside = λ c i. in_all_sides polygons (partner polygons c) (has_partner c (all_sides_in polygons c i));
    back = λ c i. partner-partner c (all_sides_in polygons c i);
    moved = λ c i. partner-moved c (all_sides_in polygons c i);
  }
