use Rattle.std.proofs.Common.{Err, subst}
use Rattle.std.proofs.lemmas.Result.{IfOk-weaker}
use Rattle.fs_plane.specs.declared.sites.Stop.{Stop}
use Rattle.fs_develop.specs.Walks.{IsOnly, ReturnsWalk, WalksTo}
use Rattle.fs_report.proofs.SegmentUnique.{answered_at_end, answered_at_site}
use Rattle.fs_report.proofs.segment.answer_path.Goals as goal

pub returns-in_ok-end_line-in-Ok : goal.returns-in_ok-end_line-in-Ok
returns-in_ok-end_line-in-Ok c =
    answered_at_end c.args.surface.now c.args.budget c.args.start c.args.scaled c.args.words.now _ _ c.in-Ok.walk c.in-Ok.ensures.run c.in-Ok.ensures.end c.in_ok-end_line-in-Ok.ensures c.is_undecided.ensures

pub returns-in-Err-Overflow : goal.returns-in-Err-Overflow
returns-in-Err-Overflow c =
    let run =
    subst (λ (stop : Stop). ReturnsWalk (IsOnly (WalksTo c.args.surface.now c.args.start c.args.scaled c.args.budget)) (Err stop)) c.in-Err-Overflow.field-0-is c.in-Err-Overflow.ensures.run in
    IfOk-weaker c.overflow.result _ _ (λ answer both. answered_at_site c.args.surface.now c.args.budget c.args.start c.args.scaled c.args.words.now _ _ c.in-Err-Overflow.site run both.0 both.1) c.overflow.ensures
