-- The vector is carried from the first corner that holds it.
use Rattle.std.proofs.Common.{ap, subst}
use Rattle.std.specs.Result.{IfOk}
use Rattle.fs_gluing.specs.Homes.{home_of, IsFirstCorner}
use Rattle.fs_mesh.specs.Meshes.{IsMesh}
use Rattle.fs_mesh.proofs.HomesCarried.{carried_from_found}
use Rattle.fs_mesh.proofs.meshes.Mesh.home.Goals as goal

pub returns-clause-carried : goal.returns-clause-carried
returns-clause-carried c =
    let mesh = subst IsMesh c.self.view_is c.self.invariant.0 in
    let m = c.args.self.now in
    let from = subst (λ e. IfOk c.find_corner.result (λ corner. IsFirstCorner c.self.inside.surface.now e c.args.v corner)) c.home_of.ensures.home c.find_corner.ensures.first in
    let first = subst (λ s. IfOk c.find_corner.result (λ corner. IsFirstCorner s (home_of m.homes c.args.h) c.args.v corner)) (ap (λ w. w.surface) c.self.view_is) from in
    carried_from_found m mesh c.args.h c.requires.half_edge c.args.v c.find_corner.result first
