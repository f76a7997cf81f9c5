-- The polygons are tested one after another, up to the first that fails.
use Rattle.std.proofs.Common.{◌≡◌, ◌⊎◌, inl, inr, List, arith, ap, length}
use Rattle.std.specs.Result.{IfErr}
use Rattle.fs_lists.proofs.Results.{at_exit}
use Rattle.fs_lists.proofs.Items.{item_read}
use Rattle.fs_gluing.specs.declared.shapes.Glue.{Glue}
use Rattle.fs_gluing.specs.declared.faults.BuildStop.{BuildStop}
use Rattle.fs_gluing.specs.declared.faults.BuildStop.TheVariants.{NoMemory}
use Rattle.fs_gluing.specs.FirstFault.{Passes, stop_of, tests_from}
use Rattle.fs_gluing.specs.TestsInOrder.{IsFirstStop}
use Rattle.fs_gluing.proofs.Polygon.PolygonsInTurn.{passed_more, passed_fails, passed_all}
use Rattle.fs_gluing.proofs.building.check_polygons.Goals as goal

pub returns-in_err-check_polygon-clause-failed : goal.returns-in_err-check_polygon-clause-failed
returns-in_err-check_polygon-clause-failed c =
    let item = item_read _ _ _ _ _ c.as_slice-polygon-items.ensures c.loop-i-test.true c.polygon-item.is c.as_slice.ensures in
    let Stops : BuildStop → Type 0 = λ e. (e ≡ NoMemory) ⊎ ((glues : List Glue) → IsFirstStop (Passes c.args.straight c.args.field.d c.args.polygons.now glues) (tests_from 0 c.args.polygons.now) stop_of e) in
    at_exit (λ r. IfErr r Stops) c.from_residual.result c.in_err-check_polygon.field-0.0 c.from_residual.ensures.1
    (elim c.in_err-check_polygon.ensures.failed [ inl h ↦ inl h | inr h ↦ inr (passed_fails c.args.straight c.args.field.d c.args.polygons.now c.loop-i.i c.as_slice.result.now c.loop-i.positions _ item c.loop-i.invariant h) ])

pub loop-i-preserved : goal.loop-i-preserved
loop-i-preserved c =
    let item = item_read _ _ _ _ _ c.as_slice-polygon-items.ensures c.loop-i-test.true c.polygon-item.is c.as_slice.ensures in
    passed_more c.args.straight c.args.field.d c.args.polygons.now c.loop-i.i c.as_slice.result.now c.loop-i.positions c.push.new.self _ item c.loop-i.invariant
    c.in_ok-check_polygon.ensures.passed c.in_ok-check_polygon.ensures.positions c.in_ok-push.ensures.ok

pub returns-clause-passed : goal.returns-clause-passed
returns-clause-passed c = (passed_all c.args.straight c.args.field.d c.args.polygons.now c.loop-i.i c.loop-i.positions (omega (arith, ap length c.as_slice-polygon-items.ensures)) c.loop-i.invariant).0
