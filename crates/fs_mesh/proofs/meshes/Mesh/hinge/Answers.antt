-- The hinge is read one half-edge after another.
use Rattle.std.proofs.Common.{length, refl, sym, subst}
use Rattle.fs_quadratic.proofs.Laws.{field_order}
use Rattle.fs_mesh.specs.Arena.{IsWithin}
use Rattle.fs_mesh.specs.Meshes.{IsMesh}
use Rattle.fs_mesh.proofs.HingeHalfEdges.{hinge_read, hinge_within}
use Rattle.fs_mesh.proofs.meshes.Mesh.hinge.Goals as goal

pub returns-clause-hinge : goal.returns-clause-hinge
returns-clause-hinge c =
    let mesh = subst IsMesh c.self.view_is c.self.invariant.0 in
    hinge_read (field_order mesh.surface.radicand) c.args.self.now.triangles mesh.triangulation.triangles c.args.edge c.requires _ refl
    c.next-after.ensures.next c.next.ensures.next c.twin-twin.ensures.twin c.next-after_twin.ensures.next c.next-2.ensures.next

pub returns-clause-within : goal.returns-clause-within
returns-clause-within c =
    let mesh = subst IsMesh c.self.view_is c.self.invariant.0 in
    let t = c.args.self.now.triangles in
    subst (IsWithin (length t.vectors) t.twins)
    (sym (hinge_read (field_order mesh.surface.radicand) t mesh.triangulation.triangles c.args.edge c.requires _ refl
    c.next-after.ensures.next c.next.ensures.next c.twin-twin.ensures.twin c.next-after_twin.ensures.next c.next-2.ensures.next))
    (hinge_within (field_order mesh.surface.radicand) t mesh.triangulation.triangles c.args.edge c.requires)
