-- There is one next event, or one place: what `advance` makes or tells is it.
use Rattle.std.proofs.Common.{◌≡◌, Result, Ok, Err, ap}
use Rattle.fs_lists.proofs.Results.{at_exit}
use Rattle.fs_quadratic.proofs.Laws.{field_order}
use Rattle.fs_quadratic.specs.declared.steps.Place.{Place}
use Rattle.fs_rauzy.specs.declared.events.Event.{Event}
use Rattle.fs_rauzy.specs.Events.{Outcome}
use Rattle.fs_rauzy.proofs.OutcomeUnique.{made_unique, stops_unique, not_made_and_stopped}
use Rattle.fs_rauzy.proofs.states.State.step.Goals as goal

pub returns-in_err-logged-clause-only_event : goal.returns-in_err-logged-clause-only_event
returns-in_err-logged-clause-only_event c outcome made =
    absurd (not_made_and_stopped (field_order c.advance.ensures.kept.0) c.advance.ensures.kept.1 made c.in_err-logged.ensures.stops)

pub returns-in_err-logged-clause-only_place : goal.returns-in_err-logged-clause-only_place
returns-in_err-logged-clause-only_place c stop stops =
    at_exit (λ (r : Result Event Place). r ≡ Err stop) c.from_residual.result c.in_err-logged.field-0.0 c.from_residual.ensures.1
    (ap Err (stops_unique (field_order c.advance.ensures.kept.0) c.advance.ensures.kept.1 c.in_err-logged.ensures.stops stops))

pub returns-clause-only_event : goal.returns-clause-only_event
returns-clause-only_event c outcome made =
    let same = made_unique (field_order c.advance.ensures.kept.0) c.advance.ensures.kept.1 c.in_ok-logged.ensures.made made in
    (ap (λ (o : Outcome). Ok o.event) same, ap (λ (o : Outcome). o.components) same)

pub returns-clause-only_place : goal.returns-clause-only_place
returns-clause-only_place c stop stops =
    absurd (not_made_and_stopped (field_order c.advance.ensures.kept.0) c.advance.ensures.kept.1 c.in_ok-logged.ensures.made stops)
