-- Where the sum overflows, the site is that of place 4.
use Rattle.fs_gluing.proofs.SurfaceCalls.AreaSums.{triangle, triangle_stops}
use Rattle.fs_gluing.proofs.areas.add_triangle.Goals as goal

pub returns-in-Err-add : goal.returns-in-Err-add
returns-in-Err-add c =
    triangle_stops c.args.field.d c.args.sum c.in-Ok.part (triangle c.args.corner.polygon c.args.corner.side c.args.one c.args.two)
    c.triangle.result c.triangle.ensures c.in-Ok.ensures.formula c.in-Err-add.ensures.sum
