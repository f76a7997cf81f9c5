-- The stored sum is that of the triangles, and it is twice the area.
use Rattle.std.proofs.Common.{◌≡◌, subst}
use Rattle.fs_quadratic.specs.Ring.{zero}
use Rattle.fs_gluing.specs.Area.{triangles, sum_after}
use Rattle.fs_gluing.specs.Surface.{GluedPolygons}
use Rattle.fs_gluing.proofs.SurfaceCalls.AreaSums.{area_of_sum}
use Rattle.fs_gluing.proofs.surfaces.Surface.twice_area.Goals as goal

pub returns : goal.returns
returns c =
    let formula = subst (λ (s : GluedPolygons). c.self.inside.area ≡ sum_after s.d zero (triangles s)) c.self.view_is c.self.invariant.2 in
    record { formula = formula; area = area_of_sum c.args.self.now c.self.inside.area formula }
