-- A half-edge beyond that is known to come within the bound does.
use Rattle.std.proofs.Common.{sym, ap, ◌∙◌}
use Rattle.fs_fan.specs.Visits.{side_within}
use Rattle.fs_fan.proofs.KnownEnds.{side_known}
use Rattle.fs_fan.proofs.visits.is_side_within.Goals as goal

pub returns-then-is_near : goal.returns-then-is_near
returns-then-is_near c =
    sym (ap (side_within c.args.before c.args.field.d c.args.bound c.args.p c.args.q) c.if-not-reached.false
    ∙ side_known c.args.field.d c.args.bound c.args.before c.args.p c.args.q (sym c.requires.near ∙ c.if-is_near.true))
