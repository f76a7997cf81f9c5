-- Corner after corner is tested, up to the first that holds the vector.
use Rattle.std.proofs.Common.{◌+◌, ◌*◌, Ok, sym, ap, ◌∙◌, subst, arith}
use Rattle.fs_lists.proofs.Results.{at_exit}
use Rattle.fs_gluing.specs.Homes.{FindsCorner, found, overflows, corner_test_after}
use Rattle.fs_gluing.specs.NextCorner.{IsNextCorner}
use Rattle.fs_gluing.proofs.Sides.CornerSearch.{first_of_found, rejected_below}
use Rattle.fs_mesh.proofs.CornerTests.{nth_corner_next, rejected_more, few_places}
use Rattle.fs_mesh.proofs.homes.find_corner.Goals as goal

pub overflow_mul-stride : goal.overflow_mul-stride
overflow_mul-stride c =
    let below = rejected_below c.args.surface.now c.args.from c.args.v c.args.before c.args.stride c.loop-corner.invariant.surface c.requires.from c.requires.direction c.loop-corner.tested c.loop-corner.invariant.rejected in
    let few = few_places c.args.before c.args.stride c.loop-corner.tested c.requires.few c.requires.short below in
    omega arith

pub overflow_add-before : goal.overflow_add-before
overflow_add-before c =
    let below = rejected_below c.args.surface.now c.args.from c.args.v c.args.before c.args.stride c.loop-corner.invariant.surface c.requires.from c.requires.direction c.loop-corner.tested c.loop-corner.invariant.rejected in
    let few = few_places c.args.before c.args.stride c.loop-corner.tested c.requires.few c.requires.short below in
    omega arith

pub test_corner-requires-clause-few : goal.test_corner-requires-clause-few
test_corner-requires-clause-few c =
    let below = rejected_below c.args.surface.now c.args.from c.args.v c.args.before c.args.stride c.loop-corner.invariant.surface c.requires.from c.requires.direction c.loop-corner.tested c.loop-corner.invariant.rejected in
    let few = few_places c.args.before c.args.stride c.loop-corner.tested c.requires.few c.requires.short below in
    omega arith

pub returns-in_err-test_corner-clause-found : goal.returns-in_err-test_corner-clause-found
returns-in_err-test_corner-clause-found c =
    at_exit (FindsCorner c.args.surface.now c.args.from c.args.v c.args.before c.args.stride) c.from_residual.result c.in_err-test_corner.field-0.0 c.from_residual.ensures.1
    (overflows c.loop-corner.tested c.in_err-test_corner.field-0.0 c.loop-corner.invariant.rejected
    (sym (ap (λ e. corner_test_after (c.args.before + c.args.stride * c.loop-corner.tested) c.args.surface.now e c.args.v) c.loop-corner.invariant.corner) ∙ sym c.in_err-test_corner.ensures))

pub overflow_add-tested : goal.overflow_add-tested
overflow_add-tested c =
    let below = rejected_below c.args.surface.now c.args.from c.args.v c.args.before c.args.stride c.loop-corner.invariant.surface c.requires.from c.requires.direction c.loop-corner.tested c.loop-corner.invariant.rejected in
    omega arith

pub loop-corner-smaller : goal.loop-corner-smaller
loop-corner-smaller c =
    let below = rejected_below c.args.surface.now c.args.from c.args.v c.args.before c.args.stride c.loop-corner.invariant.surface c.requires.from c.requires.direction c.loop-corner.tested c.loop-corner.invariant.rejected in
    omega arith

pub loop-corner-preserved : goal.loop-corner-preserved
loop-corner-preserved c =
    record {
      surface = c.loop-corner.invariant.surface;
      there = c.turn-corner.ensures.there;
      corner = nth_corner_next c.args.surface.now c.args.from c.turn-corner.result c.loop-corner.tested
          (subst (λ e. IsNextCorner c.args.surface.now.polygons e c.turn-corner.result) c.loop-corner.invariant.corner c.turn-corner.ensures.turn);
      rejected = rejected_more c.args.surface.now c.args.from c.args.v c.args.before c.args.stride c.loop-corner.tested c.loop-corner.invariant.rejected
          (sym (ap (λ e. corner_test_after (c.args.before + c.args.stride * c.loop-corner.tested) c.args.surface.now e c.args.v) c.loop-corner.invariant.corner) ∙ sym c.in_ok-test_corner.ensures ∙ ap Ok c.if-not-branch.true);
    }

pub returns-clause-found : goal.returns-clause-found
returns-clause-found c =
    subst (λ e. FindsCorner c.args.surface.now c.args.from c.args.v c.args.before c.args.stride (Ok e)) (sym c.loop-corner.invariant.corner)
    (found c.loop-corner.tested c.loop-corner.invariant.rejected
    (sym (ap (λ e. corner_test_after (c.args.before + c.args.stride * c.loop-corner.tested) c.args.surface.now e c.args.v) c.loop-corner.invariant.corner) ∙ sym c.in_ok-test_corner.ensures ∙ ap Ok c.if-not-branch.false))

pub returns-clause-first : goal.returns-clause-first
returns-clause-first c =
    (first_of_found c.args.surface.now c.args.from c.args.v c.args.before c.args.stride c.loop-corner.invariant.surface c.requires.from (Ok c.loop-corner.corner) (returns-clause-found c)).0
