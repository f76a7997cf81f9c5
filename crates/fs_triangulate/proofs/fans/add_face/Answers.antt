-- A face and its three half-edges are added.
use Rattle.std.proofs.Common.{refl, arith}
use Rattle.std.proofs.lemmas.Result.{on_ok_weaker}
use Rattle.fs_triangulate.proofs.Added.{three_equal, adds_face}
use Rattle.fs_triangulate.proofs.FaceBases.{sides_few}
use Rattle.fs_triangulate.proofs.fans.add_face.Goals as goal

pub overflow_add-first : goal.overflow_add-first
overflow_add-first c = let few = sides_few c.args.surface.now c.requires.surface c.args.i in omega (arith, few)

pub overflow_add-second : goal.overflow_add-second
overflow_add-second c = let few = sides_few c.args.surface.now c.requires.surface c.args.i in omega (arith, few)

pub overflow_add-second-2 : goal.overflow_add-second-2
overflow_add-second-2 c = let few = sides_few c.args.surface.now c.requires.surface c.args.i in omega (arith, few)

pub overflow_add-third : goal.overflow_add-third
overflow_add-third c = let few = sides_few c.args.surface.now c.requires.surface c.args.i in omega (arith, few)

pub returns : goal.returns
returns c =
    on_ok_weaker c.add_half_edge-3.result
    (adds_face c.args.surface.now c.args.i c.args.t _ c.args.triangles.now _ _ _ _
    (three_equal _ _ _ _ _ _ c.vector_of.ensures c.vector_of-2.ensures c.vector_of-3.ensures)
    c.in_ok-push.ensures.ok refl refl c.in_ok-add_half_edge.ensures c.in_ok-add_half_edge-2.ensures)
    c.add_half_edge-3.ensures
