use Rattle.std.proofs.Common.{ap}
use Rattle.std.specs.Prelude.{unsigned_abs}
use Rattle.fs_gluing.proofs.Base.ReadBack.{read_back}
use Rattle.fs_report.proofs.DelaunayTexts.{vector_spelled}
use Rattle.fs_report.proofs.vectors.unscaled_text.Goals as goal

pub returns : goal.returns
returns c =
    vector_spelled _ _ _ _ _ _ _ _ _ (ap unsigned_abs (read_back c.args.den c.requires c.ranges.den.sfits)) c.v.view_is c.new.ensures.reduced c.new-2.ensures.reduced c.in_ok-x.ensures.spelled
    c.in_ok-y.ensures.spelled c.in_ok-text.ensures.ok
