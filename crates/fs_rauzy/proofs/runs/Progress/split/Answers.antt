-- A split is made, or it stops.
use Rattle.std.proofs.Common.{ap}
use Rattle.fs_rauzy.specs.RunsInPlace.{ProgressValue}
use Rattle.fs_rauzy.proofs.RunCalls.{split_goes, split_stops, counts_begun}
use Rattle.fs_rauzy.proofs.runs.Progress.split.Goals as goal

pub returns-in_ok-begin-in-Ok-clause-goes : goal.returns-in_ok-begin-in-Ok-clause-goes
returns-in_ok-begin-in-Ok-clause-goes c =
    split_goes _ _ c.self.view_is c.args.k c.in-Ok.logged c.split_at.new.self.components c.note.new.self.point c.begin.new.self.point c.requires.going c.requires.choice c.in-Ok.ensures.made
    (ap (λ (v : ProgressValue). v.point) c.in_ok-note-in-Ok.ensures) (ap (λ (v : ProgressValue). v.point) c.in_ok-begin-in-Ok.ensures)

pub returns-in-Err-clause-stops : goal.returns-in-Err-clause-stops
returns-in-Err-clause-stops c = split_stops _ _ c.self.view_is c.args.k c.in-Err.place c.stop.result c.requires.going c.requires.choice c.in-Err.ensures.stops c.stop.ensures

pub returns-in_ok-begin-in-Ok-clause-counts : goal.returns-in_ok-begin-in-Ok-clause-counts
returns-in_ok-begin-in-Ok-clause-counts c =
    counts_begun _ _ c.self.view_is c.in-Ok.logged c.note.new.self c.begin.new.self (ap (λ (v : ProgressValue). v.numbered) c.in_ok-note-in-Ok.ensures)
    (ap (λ (v : ProgressValue). v.point.events) c.in_ok-note-in-Ok.ensures) c.in_ok-begin-in-Ok.ensures
