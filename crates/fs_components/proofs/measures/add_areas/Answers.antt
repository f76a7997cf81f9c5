-- Letter after letter is added.
use Rattle.std.proofs.Common.{◌≡◌, ◌+◌, ◌*◌, drop, sym, ap, ◌∙◌, arith}
use Rattle.fs_lists.proofs.Results.{at_exit}
use Rattle.fs_quadratic.specs.Checked.{checked_product, checked_sum}
use Rattle.fs_quadratic.specs.Ring.{zero}
use Rattle.fs_components.specs.Measures.{checked_areas}
use Rattle.fs_components.proofs.MeasureSteps.{letter_along_stops, letter_area_stops, letter_sum_stops, letter_added, areas_read, areas_whole}
use Rattle.fs_components.proofs.measures.add_areas.Goals as goal

pub returns-in_err-along : goal.returns-in_err-along
returns-in_err-along c =
    at_exit (λ r. r ≡ checked_areas c.args.field.d c.args.v 0 zero c.args.letters.now) c.from_residual.result c.in_err-along.field-0.0 c.from_residual.ensures.1
    (letter_along_stops c.args.field.d c.args.v c.loop-n.n c.loop-n.sum c.index-letters-n.result (drop (c.loop-n.n + 1) c.args.letters.now) c.in_err-along.field-0.0 c.in_err-along.ensures
    ∙ sym (areas_read c.args.field.d c.args.v c.loop-n.n c.loop-n.sum c.args.letters.now c.index-letters-n.result _ c.loop-n-test.true c.index-letters-n.is c.loop-n.invariant))

pub returns-in_err-area : goal.returns-in_err-area
returns-in_err-area c =
    at_exit (λ r. r ≡ checked_areas c.args.field.d c.args.v 0 zero c.args.letters.now) c.from_residual-in_err-area.result c.in_err-area.field-0.0 c.from_residual-in_err-area.ensures.1
    (letter_area_stops c.args.field.d c.args.v c.loop-n.n c.loop-n.sum c.index-letters-n.result (drop (c.loop-n.n + 1) c.args.letters.now) c.in_ok-along.along c.in_ok-along.ensures c.in_err-area.field-0.0
    (c.in_err-area.ensures ∙ ap (λ k. checked_product c.args.field.d k c.index-letters-n.result.length c.in_ok-along.along) (let e : 20 + 5 * c.loop-n.n + 4 ≡ 24 + 5 * c.loop-n.n = omega arith in e))
    ∙ sym (areas_read c.args.field.d c.args.v c.loop-n.n c.loop-n.sum c.args.letters.now c.index-letters-n.result _ c.loop-n-test.true c.index-letters-n.is c.loop-n.invariant))

pub returns-in_err-sum : goal.returns-in_err-sum
returns-in_err-sum c =
    at_exit (λ r. r ≡ checked_areas c.args.field.d c.args.v 0 zero c.args.letters.now) c.from_residual-in_err-sum.result c.in_err-sum.field-0.0 c.from_residual-in_err-sum.ensures.1
    (letter_sum_stops c.args.field.d c.args.v c.loop-n.n c.loop-n.sum c.index-letters-n.result (drop (c.loop-n.n + 1) c.args.letters.now) c.in_ok-along.along c.in_ok-along.ensures c.in_ok-area.area
    (c.in_ok-area.ensures ∙ ap (λ k. checked_product c.args.field.d k c.index-letters-n.result.length c.in_ok-along.along) (let e : 20 + 5 * c.loop-n.n + 4 ≡ 24 + 5 * c.loop-n.n = omega arith in e)) c.in_err-sum.field-0.0
    (c.in_err-sum.ensures ∙ ap (λ k. checked_sum k c.loop-n.sum c.in_ok-area.area) (let e : 20 + 5 * c.loop-n.n + 5 ≡ 25 + 5 * c.loop-n.n = omega arith in e))
    ∙ sym (areas_read c.args.field.d c.args.v c.loop-n.n c.loop-n.sum c.args.letters.now c.index-letters-n.result _ c.loop-n-test.true c.index-letters-n.is c.loop-n.invariant))

pub loop-n-preserved : goal.loop-n-preserved
loop-n-preserved c =
    areas_read c.args.field.d c.args.v c.loop-n.n c.loop-n.sum c.args.letters.now c.index-letters-n.result _ c.loop-n-test.true c.index-letters-n.is c.loop-n.invariant
    ∙ letter_added c.args.field.d c.args.v c.loop-n.n c.loop-n.sum c.index-letters-n.result (drop (c.loop-n.n + 1) c.args.letters.now) c.in_ok-along.along c.in_ok-along.ensures c.in_ok-area.area
    (c.in_ok-area.ensures ∙ ap (λ k. checked_product c.args.field.d k c.index-letters-n.result.length c.in_ok-along.along) (let e : 20 + 5 * c.loop-n.n + 4 ≡ 24 + 5 * c.loop-n.n = omega arith in e)) c.in_ok-sum.sum
    (c.in_ok-sum.ensures ∙ ap (λ k. checked_sum k c.loop-n.sum c.in_ok-area.area) (let e : 20 + 5 * c.loop-n.n + 5 ≡ 25 + 5 * c.loop-n.n = omega arith in e))

pub returns : goal.returns
returns c = areas_whole c.args.field.d c.args.v c.loop-n.n c.loop-n.sum c.args.letters.now _ (omega arith) c.loop-n.invariant
