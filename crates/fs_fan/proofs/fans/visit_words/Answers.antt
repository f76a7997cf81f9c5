-- The search stops where the budget is spent, or where a visit stops it.
use Rattle.std.proofs.Common.{◌+◌, ◌++◌, IfErr, subst, arith}
use Rattle.fs_lists.proofs.Results.{at_exit}
use Rattle.fs_fan.specs.Searching.{Searches, StopsSearch}
use Rattle.fs_fan.specs.Entries.{optional}
use Rattle.fs_fan.proofs.SearchEnds.{ends_undecided}
use Rattle.fs_fan.proofs.fans.visit_words.Goals as goal

pub returns-then-fans-budget-clause-stops : goal.returns-then-fans-budget-clause-stops
returns-then-fans-budget-clause-stops c =
    ends_undecided c.requires.mesh.surface.radicand c.args.mesh.now.triangles c.requires.mesh.triangulation.triangles c.args.bound c.args.budget (c.args.h + 1) c.loop-goes_on.stack.items
    c.loop-goes_on.entry c.loop-goes_on.fans.found c.loop-goes_on.fans.live
    (subst
    (λ goes_on. Searches c.args.mesh.now.surface.d c.args.mesh.now.triangles c.args.bound (c.args.h + 1) (c.loop-goes_on.stack.items ++ optional goes_on c.loop-goes_on.entry)
    c.loop-goes_on.fans.found c.loop-goes_on.fans.live)
    c.loop-goes_on-test.true c.loop-goes_on.invariant.0) c.if-fans-budget.true

pub returns-in_err-goes_on-clause-stops : goal.returns-in_err-goes_on-clause-stops
returns-in_err-goes_on-clause-stops c =
    let within = c.loop-goes_on.invariant.1 in
    let other = c.if-fans-budget.false in
    at_exit (λ r. IfErr r (StopsSearch c.args.mesh.now.surface.d c.args.mesh.now.triangles c.args.bound c.args.budget)) c.from_residual.result c.in_err-goes_on.field-0.0
    c.from_residual.ensures.1 (c.in_err-goes_on.ensures.stops c.args.budget (omega (arith, within, other)))
