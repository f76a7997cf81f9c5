use Rattle.std.specs.Prelude.{unsigned_abs}
use Rattle.std.proofs.Common.{arith}
use Rattle.std.proofs.lemmas.Int.{ints}
use Rattle.fs_lists.proofs.Results.{at_exit}
use Rattle.fs_gluing.proofs.Base.ReadBack.{size_within, read_back}
use Rattle.fs_report.specs.Area.{IsUnscaled}
use Rattle.fs_report.proofs.UnscaledArea.{inverse_is, stops_once, unscaled_computed}
use Rattle.fs_report.proofs.areas.unscale.Goals as goal

pub returns-in_err-once : goal.returns-in_err-once
returns-in_err-once c =
    let inverse = inverse_is c.new-inverse.result c.new.result c.args.den _ c.new-inverse.ensures.reduced c.new.ensures (read_back c.args.den c.requires c.ranges.den.sfits) c.requires
    (size_within c.args.den c.requires c.ranges.den.sfits) in
    at_exit (IsUnscaled c.args.field.d c.args.twice (unsigned_abs c.args.den)) c.from_residual.result c.in_err-once.field-0.0 c.from_residual.ensures.1
    (stops_once c.args.field.d c.args.twice (unsigned_abs c.args.den) c.new-2.result c.new-inverse.result c.new-2.ensures.reduced inverse c.in_err-once.field-0.0
    c.in_err-once.ensures.err.0 c.in_err-once.ensures.err.1)

pub returns : goal.returns
returns c =
    let inverse = inverse_is c.new-inverse.result c.new.result c.args.den _ c.new-inverse.ensures.reduced c.new.ensures (read_back c.args.den c.requires c.ranges.den.sfits) c.requires
    (size_within c.args.den c.requires c.ranges.den.sfits) in
    unscaled_computed c.args.field.d c.args.twice (unsigned_abs c.args.den) c.new-2.result c.new-inverse.result c.new-2.ensures.reduced inverse
    (let up = c.requires in omega (arith, ints)) c.in_ok-once.once c.in_ok-once.ensures.ok.0 c.in_ok-once.ensures.ok.1 c.scale_at-2.result c.scale_at-2.ensures.ok c.scale_at-2.ensures.err
