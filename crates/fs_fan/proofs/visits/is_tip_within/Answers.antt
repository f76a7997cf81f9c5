-- What is known of a tip is the answer, where the tip is in the sector.
use Rattle.std.proofs.Common.{sym, ap, ◌∙◌}
use Rattle.fs_fan.specs.Visits.{tip_within}
use Rattle.fs_fan.proofs.KnownEnds.{tip_known}
use Rattle.fs_fan.proofs.visits.is_tip_within.Goals as goal

pub returns-in-Some : goal.returns-in-Some
returns-in-Some c =
    sym (ap (tip_within c.args.field.d c.args.bound c.args.tip) c.if-not-in_sector.false
    ∙ tip_known c.args.field.d c.args.bound c.args.tip c.in-Some.is_within (sym c.requires ∙ c.in-Some.is))
