-- The polygons are glued one after another, up to the first side without a partner.
use Rattle.std.proofs.Common.{◌≡◌, ◌⊎◌, inl, inr, sym, subst}
use Rattle.std.specs.Option.{IsSome}
use Rattle.std.specs.Result.{IfErr}
use Rattle.fs_lists.proofs.Results.{at_exit}
use Rattle.fs_lists.proofs.Items.{item_read}
use Rattle.fs_gluing.specs.declared.faults.BuildStop.{BuildStop}
use Rattle.fs_gluing.specs.declared.faults.BuildStop.TheVariants.{NoMemory}
use Rattle.fs_gluing.specs.Polygons.{all_sides}
use Rattle.fs_gluing.specs.FirstFault.{stop_of, side_glued}
use Rattle.fs_gluing.specs.TestsInOrder.{IsFirstStop}
use Rattle.fs_gluing.specs.PartnerTable.{partner_of}
use Rattle.fs_gluing.proofs.Gluing.GluedSides.{GluesPolygonsUpTo, rows_more, rows_fail}
use Rattle.fs_gluing.proofs.building.glue_polygons.Goals as goal

pub returns-in_err-glue_polygon-clause-failed : goal.returns-in_err-glue_polygon-clause-failed
returns-in_err-glue_polygon-clause-failed c =
    let partner = partner_of c.args.partners.now in
    let item = item_read _ _ _ _ _ c.as_slice-polygon-items.ensures c.loop-i-test.true c.polygon-item.is c.as_slice.ensures in
    let Stops : BuildStop → Type 0 = λ e. (e ≡ NoMemory) ⊎ IsFirstStop (λ k. IsSome (partner k)) (all_sides c.args.polygons.now) (λ k. stop_of (side_glued k)) e in
    at_exit (λ r. IfErr r Stops) c.from_residual.result c.in_err-glue_polygon.field-0.0 c.from_residual.ensures.1
    (elim c.in_err-glue_polygon.ensures.failed [ inl h ↦ inl h | inr h ↦ inr (rows_fail partner c.args.polygons.now c.loop-i.i c.loop-i.rows _ _ item h c.loop-i.invariant) ])

pub loop-i-preserved : goal.loop-i-preserved
loop-i-preserved c =
    let partner = partner_of c.args.partners.now in
    let item = item_read _ _ _ _ _ c.as_slice-polygon-items.ensures c.loop-i-test.true c.polygon-item.is c.as_slice.ensures in
    subst (GluesPolygonsUpTo partner c.args.polygons.now _) (sym c.in_ok-push.ensures.ok)
    (rows_more partner c.args.polygons.now c.loop-i.i c.loop-i.rows _ _ item c.in_ok-glue_polygon.ensures.glued c.in_ok-glue_polygon.ensures.passed c.loop-i.invariant)
