-- The inverse of the denominator is in lowest terms, and comes in twice.
use Rattle.std.proofs.Common.{◌≡◌, ◌+◌, ◌<◌, ◌^◌, to_z, of_z, sym, ap, ◌∙◌, arith}
use Rattle.std.proofs.lemmas.Int.{ints, to_z-of_z}
use Rattle.std.specs.Int.{w128}
use Rattle.std.specs.Prelude.{unsigned_abs}
use Rattle.fs_lists.proofs.Results.{at_exit}
use Rattle.fs_fraction.specs.CheckedFractions.{checked_fraction_product}
use Rattle.fs_components.specs.Measures.{checked_unscaled}
use Rattle.fs_components.proofs.MeasureSteps.{once_stops, twice_given}
use Rattle.fs_components.proofs.LowestDenominators.{one_over-given}
use Rattle.fs_components.proofs.measures.unscale.Goals as goal

pub returns-in_err-once : goal.returns-in_err-once
returns-in_err-once c =
    let within : unsigned_abs c.args.den < 2 ^ 127 = omega (arith, ints) in
    at_exit (λ r. r ≡ checked_unscaled c.args.field.d (unsigned_abs c.args.den) c.args.place c.args.x) c.from_residual.result c.in_err-once.field-0.0 c.from_residual.ensures.1
    (once_stops c.args.field.d (unsigned_abs c.args.den) c.args.place c.args.x c.in_err-once.field-0.0
    (c.in_err-once.ensures ∙ ap (checked_fraction_product c.args.field.d c.args.place c.args.x) (sym (one_over-given c.args.den (to_z w128 (of_z w128 c.args.den)) c.new.result c.new-inverse.result (to_z-of_z w128 c.args.den c.ranges.den) c.requires.den within c.new.ensures c.new-inverse.ensures.only))))

pub returns : goal.returns
returns c =
    let within : unsigned_abs c.args.den < 2 ^ 127 = omega (arith, ints) in
    let inverse = one_over-given c.args.den (to_z w128 (of_z w128 c.args.den)) c.new.result c.new-inverse.result (to_z-of_z w128 c.args.den c.ranges.den) c.requires.den within c.new.ensures c.new-inverse.ensures.only in
    twice_given c.args.field.d (unsigned_abs c.args.den) c.args.place c.args.x c.in_ok-once.once
    (c.in_ok-once.ensures ∙ ap (checked_fraction_product c.args.field.d c.args.place c.args.x) (sym inverse)) c.fraction_product_at-2.result
    (c.fraction_product_at-2.ensures ∙ ap (checked_fraction_product c.args.field.d (c.args.place + 1) c.in_ok-once.once) (sym inverse))
