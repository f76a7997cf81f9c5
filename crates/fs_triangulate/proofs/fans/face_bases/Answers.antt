-- A polygon has three sides or more, and all polygons together have few.
use Rattle.std.proofs.Common.{◌∙◌, arith}
use Rattle.fs_triangulate.proofs.GluedWays.{three_sides_of}
use Rattle.fs_triangulate.proofs.FaceBases.{count_of, base_few, sides_few, bases_none, bases_more}
use Rattle.fs_triangulate.proofs.fans.face_bases.Goals as goal

pub loop-i-init : goal.loop-i-init
loop-i-init c = bases_none c.args.surface.now.polygons c.new-bases.result.items c.new-bases.ensures.items

pub overflow_sub-faces : goal.overflow_sub-faces
overflow_sub-faces c =
    let three = three_sides_of c.args.surface.now c.requires.surface.surface c.loop-i.i (omega arith) in
    let count = count_of c.args.surface.now.polygons c.loop-i.i c.sides.result (omega arith) c.sides.ensures in
    omega (arith, three, count)

pub overflow_add-faces : goal.overflow_add-faces
overflow_add-faces c =
    let count = count_of c.args.surface.now.polygons c.loop-i.i c.sides.result (omega arith) c.sides.ensures in
    let few = sides_few c.args.surface.now c.requires.surface c.loop-i.i in
    let base = base_few c.args.surface.now c.requires.surface c.loop-i.i in
    omega (arith, count, few, base)

pub loop-i-preserved : goal.loop-i-preserved
loop-i-preserved c =
    let count = count_of c.args.surface.now.polygons c.loop-i.i c.sides.result (omega arith) c.sides.ensures in
    bases_more c.args.surface.now.polygons c.loop-i.i c.loop-i.bases.items c.push.new.self.items c.loop-i.faces c.from.result (omega arith) (c.from.ensures ∙ count) c.in_ok-push.ensures.items c.loop-i.invariant
