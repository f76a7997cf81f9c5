-- The sign of the circle value tells whether the edge fails.
use Rattle.std.proofs.Common.{◌≡◌, ◌<◌, ◌↔◌, sym, ap, ◌∙◌, subst}
use Rattle.fs_quadratic.specs.Ring.{IsPositive}
use Rattle.std.specs.declared.cmp.Ordering.TheVariants.{Greater}
use Rattle.fs_delaunay.proofs.SuspectSearch.{tests_edge}
use Rattle.fs_delaunay.proofs.run.fails.Goals as goal

pub returns-in-Ok : goal.returns-in-Ok
returns-in-Ok c =
    tests_edge c.args.mesh.now.surface.d c.args.mesh.now.triangles c.args.flips c.args.h c.in-Ok.value c.sign.result c.eq.result c.requires
    (subst (λ k. c.args.h < k) c.twin.ensures.twin c.if-h-twin.false) (sym c.in-Ok.ensures.formula)
    (subst (λ k. (c.sign.result ≡ Greater) ↔ IsPositive k c.in-Ok.value) (c.field.ensures.field ∙ ap (λ s. s.d) c.surface.ensures) c.sign.ensures.greater)
    c.eq.ensures
