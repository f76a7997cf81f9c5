-- The triangles of all fans are the first cut; they are a triangulation, a list of cuts leads to them, and their half-edges have homes, from which the list carries them.
use Rattle.fs_triangulate.proofs.FirstCutLaws.{first_cut_of_fans}
use Rattle.fs_triangulate.proofs.FanTriangulation.{fan_is_triangulation}
use Rattle.fs_triangulate.proofs.FanCuts.{fan_is_cut}
use Rattle.fs_triangulate.proofs.FanHomes.{fan_has_homes}
use Rattle.fs_triangulate.proofs.fans.fan_cut.Goals as goal

pub returns : goal.returns
returns c =
    let s = c.args.surface.now in
    let surface = c.field.ensures.surface in
    let triangles = c.in_ok-cut_polygons.field-0 in
    let fans = c.in_ok-cut_polygons.ensures in
    record {
      first_cut = first_cut_of_fans s triangles surface fans;
      triangulation = fan_is_triangulation s surface.surface triangles fans c.requires.strict surface.sides;
      cut = fan_is_cut s surface.surface triangles fans c.requires.strict;
      homes = fan_has_homes s surface.surface c.requires.strict triangles fans;
    }
