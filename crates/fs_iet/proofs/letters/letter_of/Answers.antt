-- The parts of a letter.
use Rattle.std.proofs.Common.{◌≡◌, ◌↔◌, true, refl, sym, ap, ◌∙◌, subst}
use Rattle.fs_plane.specs.declared.corners.Corner.{Corner}
use Rattle.fs_plane.specs.Vector.{vector_neg}
use Rattle.fs_gluing.specs.CrossingMap.{IsIncoming, IsOutgoing}
use Rattle.fs_gluing.specs.FirstCut.{position_in}
use Rattle.fs_gluing.specs.NextCorner.{side_before}
use Rattle.fs_gluing.specs.Polygons.{HasSide}
use Rattle.fs_gluing.proofs.SurfaceCalls.NextCorner.{has_before, has_after}
use Rattle.fs_iet.proofs.letters.letter_of.Goals as goal

pub is_incoming-requires-clause-there : goal.is_incoming-requires-clause-there
is_incoming-requires-clause-there c =
    subst (HasSide c.args.surface.now.polygons) (sym c.side_before.ensures) (has_before c.args.surface.now.polygons c.partner_of-partner.result c.partner_of-partner.ensures.there)

pub is_incoming-requires-clause-fits : goal.is_incoming-requires-clause-fits
is_incoming-requires-clause-fits c =
    c.requires.widths c.side_before.result
    (subst (HasSide c.args.surface.now.polygons) (sym c.side_before.ensures) (has_before c.args.surface.now.polygons c.partner_of-partner.result c.partner_of-partner.ensures.there))

pub position_of-requires-2 : goal.position_of-requires-2
position_of-requires-2 c = subst (HasSide c.args.surface.now.polygons) (sym c.corner_after-after.ensures) (has_after c.args.surface.now.polygons c.args.f c.requires.outgoing.side)

pub is_outgoing-requires-clause-there : goal.is_outgoing-requires-clause-there
is_outgoing-requires-clause-there c = subst (HasSide c.args.surface.now.polygons) (sym c.corner_after-after.ensures) (has_after c.args.surface.now.polygons c.args.f c.requires.outgoing.side)

pub is_outgoing-requires-clause-fits : goal.is_outgoing-requires-clause-fits
is_outgoing-requires-clause-fits c =
    c.requires.widths c.corner_after-after.result
    (subst (HasSide c.args.surface.now.polygons) (sym c.corner_after-after.ensures) (has_after c.args.surface.now.polygons c.args.f c.requires.outgoing.side))

pub returns : goal.returns
returns c =
    let s = c.args.surface.now in
    let other = c.partner_of-partner.ensures.is in
    record {
      named = refl;
      length = c.side_width.ensures;
      back = c.return_of.ensures;
      corner = other;
      start = c.neg.ensures ∙ ap vector_neg (c.position_of.ensures ∙ ap (λ (e : Corner). position_in s e.polygon e.side) other);
      start_real = subst (λ e. (c.is_incoming.result ≡ true) ↔ IsIncoming s c.args.v e) (c.side_before.ensures ∙ ap (side_before s.polygons) other) c.is_incoming.ensures;
      end = c.position_of-2.ensures ∙ ap (λ (e : Corner). position_in s e.polygon e.side) c.corner_after-after.ensures;
      end_real = subst (λ e. (c.is_outgoing.result ≡ true) ↔ IsOutgoing s c.args.v e) c.corner_after-after.ensures c.is_outgoing.ensures;
    }
