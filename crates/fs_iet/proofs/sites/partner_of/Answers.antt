-- The partner of a side of a surface is one of its sides.
use Rattle.std.proofs.Common.{sym, subst}
use Rattle.fs_gluing.specs.Polygons.{HasSide}
use Rattle.fs_gluing.proofs.Sides.PartnerSides.{has_partner}
use Rattle.fs_iet.proofs.SurfaceReads.{partner_read}
use Rattle.fs_iet.proofs.sites.partner_of.Goals as goal

pub returns : goal.returns
returns c =
    let is = partner_read c.args.surface.now.polygons c.args.f c.partner.result c.requires c.partner.ensures in
    record {
      is = is;
      there = subst (HasSide c.args.surface.now.polygons) (sym is) (has_partner c.args.surface.now.polygons c.field.ensures.surface.glued c.args.f c.requires);
    }
