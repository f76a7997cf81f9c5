-- Step after step: where one overflows, the measures do.
use Rattle.std.proofs.Common.{◌≡◌, ℤ, ap, ◌∙◌}
use Rattle.std.proofs.lemmas.Int.{to_z-of_z}
use Rattle.std.specs.Int.{w128}
use Rattle.std.specs.Prelude.{unsigned_abs}
use Rattle.fs_lists.proofs.Results.{at_exit}
use Rattle.fs_fraction.specs.CheckedFractions.{checked_fraction_product}
use Rattle.fs_components.specs.Measures.{checked_unscaled, checked_cylinder}
use Rattle.fs_components.proofs.MeasureSteps.{inverse_stops, part_stops, height_stops, along_stops, product_stops, share_stops, area_stops, cylinder_measured}
use Rattle.fs_components.proofs.measures.measure_cylinder.Goals as goal

pub returns-in_err-inverse : goal.returns-in_err-inverse
returns-in_err-inverse c =
    at_exit (λ r. r ≡ checked_cylinder c.args.field.d (unsigned_abs c.args.den) c.args.v c.args.width c.args.back) c.from_residual-in_err-inverse.result c.in_err-inverse.field-0.0 c.from_residual-in_err-inverse.ensures.1
    (inverse_stops c.args.field.d (unsigned_abs c.args.den) c.args.v c.args.width c.args.back c.in_ok-norm.norm c.in_ok-norm.ensures c.in_ok-holonomy.holonomy (c.in_ok-holonomy.ensures ∙ ap (λ (z : ℤ). checked_unscaled c.args.field.d (unsigned_abs z) 4 c.whole.result) (to_z-of_z w128 c.args.den c.ranges.den) ∙ ap (checked_unscaled c.args.field.d (unsigned_abs c.args.den) 4) c.whole.ensures) c.in_ok-square.square c.in_ok-square.ensures c.in_err-inverse.field-0.0 c.in_err-inverse.ensures)

pub returns-in_err-part : goal.returns-in_err-part
returns-in_err-part c =
    at_exit (λ r. r ≡ checked_cylinder c.args.field.d (unsigned_abs c.args.den) c.args.v c.args.width c.args.back) c.from_residual-in_err-part.result c.in_err-part.field-0.0 c.from_residual-in_err-part.ensures.1
    (part_stops c.args.field.d (unsigned_abs c.args.den) c.args.v c.args.width c.args.back c.in_ok-norm.norm c.in_ok-norm.ensures c.in_ok-holonomy.holonomy (c.in_ok-holonomy.ensures ∙ ap (λ (z : ℤ). checked_unscaled c.args.field.d (unsigned_abs z) 4 c.whole.result) (to_z-of_z w128 c.args.den c.ranges.den) ∙ ap (checked_unscaled c.args.field.d (unsigned_abs c.args.den) 4) c.whole.ensures) c.in_ok-square.square c.in_ok-square.ensures c.in_ok-inverse.inverse c.in_ok-inverse.ensures c.in_err-part.field-0.0 (c.in_err-part.ensures ∙ ap (λ x. checked_fraction_product c.args.field.d 11 x c.in_ok-inverse.inverse) c.whole-2.ensures))

pub returns-in_err-height : goal.returns-in_err-height
returns-in_err-height c =
    at_exit (λ r. r ≡ checked_cylinder c.args.field.d (unsigned_abs c.args.den) c.args.v c.args.width c.args.back) c.from_residual-in_err-height.result c.in_err-height.field-0.0 c.from_residual-in_err-height.ensures.1
    (height_stops c.args.field.d (unsigned_abs c.args.den) c.args.v c.args.width c.args.back c.in_ok-norm.norm c.in_ok-norm.ensures c.in_ok-holonomy.holonomy (c.in_ok-holonomy.ensures ∙ ap (λ (z : ℤ). checked_unscaled c.args.field.d (unsigned_abs z) 4 c.whole.result) (to_z-of_z w128 c.args.den c.ranges.den) ∙ ap (checked_unscaled c.args.field.d (unsigned_abs c.args.den) 4) c.whole.ensures) c.in_ok-square.square c.in_ok-square.ensures c.in_ok-inverse.inverse c.in_ok-inverse.ensures c.in_ok-part.part (c.in_ok-part.ensures ∙ ap (λ x. checked_fraction_product c.args.field.d 11 x c.in_ok-inverse.inverse) c.whole-2.ensures) c.in_err-height.field-0.0 (c.in_err-height.ensures ∙ ap (λ (z : ℤ). checked_unscaled c.args.field.d (unsigned_abs z) 12 c.in_ok-part.part) (to_z-of_z w128 c.args.den c.ranges.den)))

pub returns-in_err-along : goal.returns-in_err-along
returns-in_err-along c =
    at_exit (λ r. r ≡ checked_cylinder c.args.field.d (unsigned_abs c.args.den) c.args.v c.args.width c.args.back) c.from_residual-in_err-along.result c.in_err-along.field-0.0 c.from_residual-in_err-along.ensures.1
    (along_stops c.args.field.d (unsigned_abs c.args.den) c.args.v c.args.width c.args.back c.in_ok-norm.norm c.in_ok-norm.ensures c.in_ok-holonomy.holonomy (c.in_ok-holonomy.ensures ∙ ap (λ (z : ℤ). checked_unscaled c.args.field.d (unsigned_abs z) 4 c.whole.result) (to_z-of_z w128 c.args.den c.ranges.den) ∙ ap (checked_unscaled c.args.field.d (unsigned_abs c.args.den) 4) c.whole.ensures) c.in_ok-square.square c.in_ok-square.ensures c.in_ok-inverse.inverse c.in_ok-inverse.ensures c.in_ok-part.part (c.in_ok-part.ensures ∙ ap (λ x. checked_fraction_product c.args.field.d 11 x c.in_ok-inverse.inverse) c.whole-2.ensures) c.in_ok-height.height (c.in_ok-height.ensures ∙ ap (λ (z : ℤ). checked_unscaled c.args.field.d (unsigned_abs z) 12 c.in_ok-part.part) (to_z-of_z w128 c.args.den c.ranges.den)) c.in_err-along.field-0.0 c.in_err-along.ensures)

pub returns-in_err-product : goal.returns-in_err-product
returns-in_err-product c =
    at_exit (λ r. r ≡ checked_cylinder c.args.field.d (unsigned_abs c.args.den) c.args.v c.args.width c.args.back) c.from_residual-in_err-product.result c.in_err-product.field-0.0 c.from_residual-in_err-product.ensures.1
    (product_stops c.args.field.d (unsigned_abs c.args.den) c.args.v c.args.width c.args.back c.in_ok-norm.norm c.in_ok-norm.ensures c.in_ok-holonomy.holonomy (c.in_ok-holonomy.ensures ∙ ap (λ (z : ℤ). checked_unscaled c.args.field.d (unsigned_abs z) 4 c.whole.result) (to_z-of_z w128 c.args.den c.ranges.den) ∙ ap (checked_unscaled c.args.field.d (unsigned_abs c.args.den) 4) c.whole.ensures) c.in_ok-square.square c.in_ok-square.ensures c.in_ok-inverse.inverse c.in_ok-inverse.ensures c.in_ok-part.part (c.in_ok-part.ensures ∙ ap (λ x. checked_fraction_product c.args.field.d 11 x c.in_ok-inverse.inverse) c.whole-2.ensures) c.in_ok-height.height (c.in_ok-height.ensures ∙ ap (λ (z : ℤ). checked_unscaled c.args.field.d (unsigned_abs z) 12 c.in_ok-part.part) (to_z-of_z w128 c.args.den c.ranges.den)) c.in_ok-along.along c.in_ok-along.ensures c.in_err-product.field-0.0 c.in_err-product.ensures)

pub returns-in_err-share : goal.returns-in_err-share
returns-in_err-share c =
    at_exit (λ r. r ≡ checked_cylinder c.args.field.d (unsigned_abs c.args.den) c.args.v c.args.width c.args.back) c.from_residual-in_err-share.result c.in_err-share.field-0.0 c.from_residual-in_err-share.ensures.1
    (share_stops c.args.field.d (unsigned_abs c.args.den) c.args.v c.args.width c.args.back c.in_ok-norm.norm c.in_ok-norm.ensures c.in_ok-holonomy.holonomy (c.in_ok-holonomy.ensures ∙ ap (λ (z : ℤ). checked_unscaled c.args.field.d (unsigned_abs z) 4 c.whole.result) (to_z-of_z w128 c.args.den c.ranges.den) ∙ ap (checked_unscaled c.args.field.d (unsigned_abs c.args.den) 4) c.whole.ensures) c.in_ok-square.square c.in_ok-square.ensures c.in_ok-inverse.inverse c.in_ok-inverse.ensures c.in_ok-part.part (c.in_ok-part.ensures ∙ ap (λ x. checked_fraction_product c.args.field.d 11 x c.in_ok-inverse.inverse) c.whole-2.ensures) c.in_ok-height.height (c.in_ok-height.ensures ∙ ap (λ (z : ℤ). checked_unscaled c.args.field.d (unsigned_abs z) 12 c.in_ok-part.part) (to_z-of_z w128 c.args.den c.ranges.den)) c.in_ok-along.along c.in_ok-along.ensures c.in_ok-product.product c.in_ok-product.ensures c.in_err-share.field-0.0 (c.in_err-share.ensures ∙ ap (λ x. checked_fraction_product c.args.field.d 18 x c.in_ok-inverse.inverse) c.whole-3.ensures))

pub returns-in_err-area : goal.returns-in_err-area
returns-in_err-area c =
    at_exit (λ r. r ≡ checked_cylinder c.args.field.d (unsigned_abs c.args.den) c.args.v c.args.width c.args.back) c.from_residual-in_err-area.result c.in_err-area.field-0.0 c.from_residual-in_err-area.ensures.1
    (area_stops c.args.field.d (unsigned_abs c.args.den) c.args.v c.args.width c.args.back c.in_ok-norm.norm c.in_ok-norm.ensures c.in_ok-holonomy.holonomy (c.in_ok-holonomy.ensures ∙ ap (λ (z : ℤ). checked_unscaled c.args.field.d (unsigned_abs z) 4 c.whole.result) (to_z-of_z w128 c.args.den c.ranges.den) ∙ ap (checked_unscaled c.args.field.d (unsigned_abs c.args.den) 4) c.whole.ensures) c.in_ok-square.square c.in_ok-square.ensures c.in_ok-inverse.inverse c.in_ok-inverse.ensures c.in_ok-part.part (c.in_ok-part.ensures ∙ ap (λ x. checked_fraction_product c.args.field.d 11 x c.in_ok-inverse.inverse) c.whole-2.ensures) c.in_ok-height.height (c.in_ok-height.ensures ∙ ap (λ (z : ℤ). checked_unscaled c.args.field.d (unsigned_abs z) 12 c.in_ok-part.part) (to_z-of_z w128 c.args.den c.ranges.den)) c.in_ok-along.along c.in_ok-along.ensures c.in_ok-product.product c.in_ok-product.ensures c.in_ok-share.share (c.in_ok-share.ensures ∙ ap (λ x. checked_fraction_product c.args.field.d 18 x c.in_ok-inverse.inverse) c.whole-3.ensures) c.in_err-area.field-0.0 (c.in_err-area.ensures ∙ ap (λ (z : ℤ). checked_unscaled c.args.field.d (unsigned_abs z) 19 c.in_ok-share.share) (to_z-of_z w128 c.args.den c.ranges.den)))

pub returns : goal.returns
returns c = cylinder_measured c.args.field.d (unsigned_abs c.args.den) c.args.v c.args.width c.args.back c.in_ok-norm.norm c.in_ok-norm.ensures c.in_ok-holonomy.holonomy (c.in_ok-holonomy.ensures ∙ ap (λ (z : ℤ). checked_unscaled c.args.field.d (unsigned_abs z) 4 c.whole.result) (to_z-of_z w128 c.args.den c.ranges.den) ∙ ap (checked_unscaled c.args.field.d (unsigned_abs c.args.den) 4) c.whole.ensures) c.in_ok-square.square c.in_ok-square.ensures c.in_ok-inverse.inverse c.in_ok-inverse.ensures c.in_ok-part.part (c.in_ok-part.ensures ∙ ap (λ x. checked_fraction_product c.args.field.d 11 x c.in_ok-inverse.inverse) c.whole-2.ensures) c.in_ok-height.height (c.in_ok-height.ensures ∙ ap (λ (z : ℤ). checked_unscaled c.args.field.d (unsigned_abs z) 12 c.in_ok-part.part) (to_z-of_z w128 c.args.den c.ranges.den)) c.in_ok-along.along c.in_ok-along.ensures c.in_ok-product.product c.in_ok-product.ensures c.in_ok-share.share (c.in_ok-share.ensures ∙ ap (λ x. checked_fraction_product c.args.field.d 18 x c.in_ok-inverse.inverse) c.whole-3.ensures) c.in_ok-area.area (c.in_ok-area.ensures ∙ ap (λ (z : ℤ). checked_unscaled c.args.field.d (unsigned_abs z) 19 c.in_ok-share.share) (to_z-of_z w128 c.args.den c.ranges.den))
