-- The sign of the circle value tells.
use Rattle.std.proofs.Common.{◌≡◌, IfOk, Ok, sym, ap, ◌∙◌, subst}
use Rattle.fs_quadratic.specs.Ring.{IsPositive}
use Rattle.fs_mesh.specs.Meshes.{edge_circle}
use Rattle.fs_mesh_tests.proofs.flips.is_illegal.Goals as goal

pub returns-in-Greater : goal.returns-in-Greater
returns-in-Greater g c =
    let d = c.field.ensures.field ∙ ap (λ s. s.d) c.surface.ensures in
    let value = subst (λ r. IfOk r (λ x. x ≡ edge_circle c.args.mesh.now.surface.d c.args.mesh.now.triangles c.args.edge)) c.expect-value.ensures c.circle_of.ensures.value in
    λ yes. subst (λ x. IsPositive c.args.mesh.now.surface.d x) value (subst (λ k. IsPositive k c.expect-value.result) d (c.sign.ensures.greater.0 c.in-Greater.is))
