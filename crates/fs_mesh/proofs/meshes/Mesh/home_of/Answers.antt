-- The home of a half-edge is kept in the arena.
use Rattle.std.proofs.Common.{◌<◌, length, subst, sym}
use Rattle.fs_gluing.specs.Homes.{IsInCorner}
use Rattle.fs_gluing.specs.Polygons.{HasSide}
use Rattle.fs_gluing.specs.Triangulation.{edge_vector}
use Rattle.fs_mesh.proofs.Arenas.{home_there, home_holds}
use Rattle.fs_mesh.proofs.meshes.Mesh.home_of.Goals as goal

pub returns-clause-there : goal.returns-clause-there
returns-clause-there c =
    let below = subst (λ m. c.args.h < length m.triangles.vectors) (sym c.self.view_is) c.requires in
    subst (λ m. HasSide m.surface.polygons c.index.result.now.home) c.self.view_is
    (home_there c.self.inside.surface.now c.self.inside.half_edges.items c.self.invariant.0 c.args.h c.index.result.now below c.index.ensures)

pub returns-clause-sector : goal.returns-clause-sector
returns-clause-sector c =
    let below = subst (λ m. c.args.h < length m.triangles.vectors) (sym c.self.view_is) c.requires in
    subst (λ m. IsInCorner m.surface c.index.result.now.home (edge_vector m.triangles c.args.h)) c.self.view_is
    (home_holds c.self.inside.surface.now c.self.inside.half_edges.items c.self.invariant.0 c.args.h c.index.result.now below c.index.ensures)
