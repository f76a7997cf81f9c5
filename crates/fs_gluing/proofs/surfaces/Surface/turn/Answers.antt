-- The step to the next corner is a permutation of the corners, and the next corner is of the same vertex.
use Rattle.std.proofs.Common.{subst}
use Rattle.fs_gluing.specs.Surface.{GluedPolygons}
use Rattle.fs_gluing.proofs.SurfaceCalls.NextCorner.{IsGluing, is_next_corner, has_next_corner, next_corner_one_to_one, next_corner_onto, next_corner_one_point}
use Rattle.fs_gluing.proofs.surfaces.Surface.turn.Goals as goal

pub returns : goal.returns
returns c =
    let glued = subst (λ (s : GluedPolygons). IsGluing s.polygons) c.self.view_is c.self.invariant.0.glued in
    let turn = is_next_corner c.args.self.now.polygons c.args.c c.side_before.result c.partner.result c.requires c.side_before.ensures c.partner.ensures in
    record {
      turn = turn;
      there = has_next_corner _ c.args.c _ glued turn;
      one_to_one = λ e has other. next_corner_one_to_one _ c.args.c e c.partner.result glued c.requires has turn other;
      onto = next_corner_onto _ glued;
      vertex = next_corner_one_point _ _ _ c.requires turn;
    }
