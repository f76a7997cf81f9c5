-- A won comparison or a merge is made, or it stops.
use Rattle.std.proofs.Common.{◌≡◌, true, refl, ap, subst, arith}
use Rattle.fs_rauzy.specs.declared.events.Event.TheVariants.{Won}
use Rattle.fs_rauzy.specs.declared.parts.Logged.{Logged}
use Rattle.fs_rauzy.specs.Rule.{is_step}
use Rattle.fs_rauzy.specs.Steps.{IsMadeBy}
use Rattle.fs_rauzy.specs.RunsInPlace.{ProgressValue}
use Rattle.fs_rauzy.proofs.RunCalls.{on_ok, if_err, step_begins, win_goes, look_stops, merge_goes, comparison_stops, on_both, counts_begun, counts_looked}
use Rattle.fs_rauzy.proofs.runs.Progress.compare.Goals as goal
use Rattle.fs_rauzy.proofs.runs.Progress.compare.Goals.{After-look_back}

pub look_back-requires-clause-number : goal.look_back-requires-clause-number
look_back-requires-clause-number c =
    let n : c.self.inside.number ≡ c.args.self.now.point.number = ap (λ (v : ProgressValue). v.point.number) c.self.view_is in
    omega (arith, n, c.requires.number, c.requires.steps)

-- the won comparison as it is noted
abbrev again : After-look_back → Logged
again c = record { event = Won c.in-Won.top; length = c.in-Ok.logged.length }

made_again : (c : After-look_back) → IsMadeBy c.self.inside.state.d (λ event. is_step event ≡ true) c.self.inside.state.components (record { event = Won c.in-Won.top; length = c.in-Ok.logged.length; components = c.duel.new.self.components })
made_again c =
    subst (λ e. IsMadeBy c.self.inside.state.d (λ event. is_step event ≡ true) c.self.inside.state.components (record { event = e; length = c.in-Ok.logged.length; components = c.duel.new.self.components }))
    c.in-Won.is c.in-Ok.ensures.made

pub returns-in-Won-clause-goes : goal.returns-in-Won-clause-goes
returns-in-Won-clause-goes c =
    on_ok c.look_back.result
    (λ back. win_goes _ _ c.self.view_is (again c) c.duel.new.self.components c.requires.going c.requires.choice (made_again c) c.in-Won.top c.duel.new.self.d c.look_back.new.self.point refl
    c.duel.ensures.field back) c.look_back.ensures.looks

pub returns-in-Won-clause-stops : goal.returns-in-Won-clause-stops
returns-in-Won-clause-stops c =
    if_err c.look_back.result
    (λ stop h. look_stops _ _ c.self.view_is (again c) c.duel.new.self.components c.requires.going c.requires.choice (made_again c) c.in-Won.top c.duel.new.self.d stop refl c.duel.ensures.field h)
    c.look_back.ensures.stops

pub returns-in_ok-begin-in_default-clause-goes : goal.returns-in_ok-begin-in_default-clause-goes
returns-in_ok-begin-in_default-clause-goes c =
    merge_goes _ _ c.self.view_is c.in-Ok.logged c.duel.new.self.components c.requires.going c.requires.choice c.in-Ok.ensures.made c.note.new.self.point c.begin.new.self.point
    (step_begins c.in-Ok.logged.event c.in-Ok.ensures.made.kind c.in_default.not-Won) (ap (λ (v : ProgressValue). v.point) c.in_ok-note-in_default.ensures)
    (ap (λ (v : ProgressValue). v.point) c.in_ok-begin-in_default.ensures)

pub returns-in-Err-clause-stops : goal.returns-in-Err-clause-stops
returns-in-Err-clause-stops c = comparison_stops _ _ c.self.view_is c.in-Err.place c.stop.result c.requires.going c.requires.choice c.in-Err.ensures.stops c.stop.ensures

pub returns-in-Won-clause-counts : goal.returns-in-Won-clause-counts
returns-in-Won-clause-counts c =
    on_both c.look_back.result (λ back numbered. counts_looked _ _ c.self.view_is (again c) c.duel.new.self.d _ c.look_back.new.self refl back numbered) c.look_back.ensures.looks c.look_back.ensures.number

pub returns-in_ok-begin-in_default-clause-counts : goal.returns-in_ok-begin-in_default-clause-counts
returns-in_ok-begin-in_default-clause-counts c =
    counts_begun _ _ c.self.view_is c.in-Ok.logged c.note.new.self c.begin.new.self (ap (λ (v : ProgressValue). v.numbered) c.in_ok-note-in_default.ensures)
    (ap (λ (v : ProgressValue). v.point.events) c.in_ok-note-in_default.ensures) c.in_ok-begin-in_default.ensures
