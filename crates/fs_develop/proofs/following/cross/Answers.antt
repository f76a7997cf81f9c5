-- The partner of a side exists.
use Rattle.std.proofs.Common.{subst, sym, ap, ◌∙◌}
use Rattle.fs_gluing.specs.NextCorner.{corner_after}
use Rattle.fs_gluing.specs.Polygons.{HasSide}
use Rattle.fs_gluing.proofs.Sides.PartnerSides.{has_partner}
use Rattle.fs_develop.specs.declared.spots.Spot.{Spot}
use Rattle.fs_develop.proofs.SurfaceReads.{partner_read}
use Rattle.fs_develop.proofs.following.cross.Goals as goal

pub corner_after-requires : goal.corner_after-requires
corner_after-requires c =
    subst (HasSide c.args.surface.now.polygons) (sym (partner_read c.args.surface.now.polygons c.args.spot.side c.partner.result c.requires.side c.partner.ensures))
    (has_partner c.args.surface.now.polygons c.requires.surface.glued c.args.spot.side c.requires.side)

pub returns : goal.returns
returns c =
    ap (λ side. let spot : Spot = record { corners = 0; side = side; from = c.args.spot.from } in spot)
    (c.corner_after.ensures ∙ ap (corner_after c.args.surface.now.polygons) (partner_read c.args.surface.now.polygons c.args.spot.side c.partner.result c.requires.side c.partner.ensures))
