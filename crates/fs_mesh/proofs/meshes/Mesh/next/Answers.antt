-- The next half-edge is kept in the arena.
use Rattle.std.proofs.Common.{◌<◌, length, subst, sym}
use Rattle.fs_mesh.proofs.Arenas.{next_kept, next_there}
use Rattle.fs_mesh.proofs.meshes.Mesh.next.Goals as goal

pub returns-clause-next : goal.returns-clause-next
returns-clause-next c =
    let below = subst (λ m. c.args.h < length m.triangles.vectors) (sym c.self.view_is) c.requires in
    next_kept c.self.inside.surface.now c.self.inside.half_edges.items c.self.invariant.0 c.args.h c.index.result.now below c.index.ensures c.self.invariant.1

pub returns-clause-there : goal.returns-clause-there
returns-clause-there c =
    let below = subst (λ m. c.args.h < length m.triangles.vectors) (sym c.self.view_is) c.requires in
    subst (λ m. c.index.result.now.next < length m.triangles.vectors) c.self.view_is
    (next_there c.self.inside.surface.now c.self.inside.half_edges.items c.self.invariant.0 c.args.h c.index.result.now below c.index.ensures c.self.invariant.1)
