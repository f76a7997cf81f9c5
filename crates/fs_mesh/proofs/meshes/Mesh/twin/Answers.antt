-- Twins are half-edges.
use Rattle.std.proofs.Common.{◌<◌, length, subst, sym}
use Rattle.fs_mesh.proofs.Arenas.{twin_there}
use Rattle.fs_mesh.proofs.meshes.Mesh.twin.Goals as goal

pub returns-clause-there : goal.returns-clause-there
returns-clause-there c =
    let below = subst (λ m. c.args.h < length m.triangles.vectors) (sym c.self.view_is) c.requires in
    subst (λ m. c.index.result.now.twin < length m.triangles.vectors) c.self.view_is
    (twin_there c.self.inside.surface.now c.self.inside.half_edges.items c.self.invariant.0 c.args.h c.index.result.now below c.index.ensures)
