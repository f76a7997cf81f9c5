-- The current component closes.
use Rattle.std.proofs.Common.{refl, ap}
use Rattle.fs_rauzy.specs.RunsInPlace.{ProgressValue}
use Rattle.fs_rauzy.proofs.RunCalls.{on_ok, close_closes, counts_begun}
use Rattle.fs_rauzy.proofs.runs.Progress.close.Goals as goal

pub returns-clause-closes : goal.returns-clause-closes
returns-clause-closes c =
    on_ok c.begin.result
    (λ e. close_closes _ _ c.self.view_is c.args.kind c.in_ok-part.part c.close-logged.result c.close-logged.new.self.components c.self.inside.parts.items c.push.new.self.items
    c.note.new.self.point c.begin.new.self.point refl c.in_ok-part.ensures c.in_ok-push.ensures.items c.close-logged.ensures.made (ap (λ (v : ProgressValue). v.point) c.in_ok-note.ensures)
    (ap (λ (v : ProgressValue). v.point) e)) c.begin.ensures

pub returns-clause-counts : goal.returns-clause-counts
returns-clause-counts c =
    on_ok c.begin.result
    (λ e. counts_begun _ _ c.self.view_is c.close-logged.result c.note.new.self c.begin.new.self (ap (λ (v : ProgressValue). v.numbered) c.in_ok-note.ensures)
    (ap (λ (v : ProgressValue). v.point.events) c.in_ok-note.ensures) e) c.begin.ensures
