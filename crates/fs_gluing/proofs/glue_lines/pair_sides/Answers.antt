-- The lines are tested one after another, up to the first that fails.
use Rattle.std.proofs.Common.{◌≡◌, ◌⊎◌, inr, [], take, refl}
use Rattle.std.specs.Result.{IfErr}
use Rattle.fs_lists.proofs.Results.{at_exit}
use Rattle.fs_lists.proofs.Items.{item_of}
use Rattle.fs_gluing.specs.declared.faults.BuildStop.{BuildStop}
use Rattle.fs_gluing.specs.declared.faults.BuildStop.TheVariants.{NoMemory}
use Rattle.fs_gluing.specs.FirstFault.{PassesLine, line_tests}
use Rattle.fs_gluing.specs.TestsInOrder.{IsFirstStop}
use Rattle.fs_gluing.specs.PartnerTable.{partner_of}
use Rattle.fs_gluing.proofs.Gluing.GlueLines.{no_glue, lines_none, line_stop, lines_more, line_fails}
use Rattle.fs_gluing.proofs.glue_lines.pair_sides.Goals as goal

pub returns-in_err-check_glue-clause-failed : goal.returns-in_err-check_glue-clause-failed
returns-in_err-check_glue-clause-failed c =
    let item = item_of c.args.glues.now c.args.glues.now c.loop-glue.glue-index no_glue refl c.loop-glue-test.true in
    let Stops : BuildStop → Type 0 = λ e. (e ≡ NoMemory) ⊎ IsFirstStop (PassesLine c.args.polygons.now) (line_tests [] c.args.glues.now) line_stop e in
    at_exit (λ r. IfErr r Stops) c.from_residual-in_err-check_glue.result c.in_err-check_glue.field-0.0 c.from_residual-in_err-check_glue.ensures.1
    (inr (line_fails c.args.polygons.now c.args.glues.now c.loop-glue.glue-index _ (partner_of c.loop-glue.partners) _ item c.loop-glue.invariant.passes
    (c.in_err-check_glue.ensures.failed (take c.loop-glue.glue-index c.args.glues.now) c.loop-glue.invariant.passes.partners)))

pub loop-glue-init : goal.loop-glue-init
loop-glue-init c = record { passes = lines_none c.args.polygons.now c.args.glues.now _ c.in_ok-partners.ensures.none; places = c.in_ok-partners.ensures.places }

pub pair-requires-clause-one : goal.pair-requires-clause-one
pair-requires-clause-one c = c.loop-glue.invariant.places _ (c.in_ok-check_glue.ensures.passed (take c.loop-glue.glue-index c.args.glues.now) c.loop-glue.invariant.passes.partners).0.0

pub pair-requires-clause-two : goal.pair-requires-clause-two
pair-requires-clause-two c = c.loop-glue.invariant.places _ (c.in_ok-check_glue.ensures.passed (take c.loop-glue.glue-index c.args.glues.now) c.loop-glue.invariant.passes.partners).0.1

pub loop-glue-preserved : goal.loop-glue-preserved
loop-glue-preserved c =
    let item = item_of c.args.glues.now c.args.glues.now c.loop-glue.glue-index no_glue refl c.loop-glue-test.true in
    let a = c.in_ok-check_glue.ensures.passed (take c.loop-glue.glue-index c.args.glues.now) c.loop-glue.invariant.passes.partners in
    record {
      passes = lines_more c.args.polygons.now c.args.glues.now c.loop-glue.glue-index _ _ _ item c.loop-glue.invariant.passes a
          (c.pair.ensures.paired c.args.polygons.now (take c.loop-glue.glue-index c.args.glues.now) c.loop-glue.invariant.passes.partners a.1.0);
      places = λ e h. c.pair.ensures.places e (c.loop-glue.invariant.places e h);
    }
