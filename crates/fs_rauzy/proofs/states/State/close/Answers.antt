-- The current component is taken off the rows and off the extents.
use Rattle.std.proofs.Common.{◌≤◌, length, sym, ap, subst}
use Rattle.fs_rauzy.specs.States.{StateValue}
use Rattle.fs_rauzy.proofs.ClosedInPlace.{closed_state, closed_place, closing_made}
use Rattle.fs_rauzy.proofs.states.State.close.Goals as goal

pub invariant_of-self : goal.invariant_of-self
invariant_of-self c =
    let letters = c.self.inside.letters.items in
    let top = c.self.inside.top.items in
    let bottom = c.self.inside.bottom.items in
    let now = c.last-first.ensures in
    let rest = c.drop_last.ensures.items c.last-first.result now.0 now.1 in
    let kept = c.self.invariant in (
      closed_state letters top bottom now.1 c.truncate.ensures.items c.truncate-2.ensures.items rest kept.0,
      closed_place letters top bottom now.1 c.truncate.ensures.items c.truncate-2.ensures.items rest kept.1,
      subst (λ room. length letters ≤ room) (sym c.drop_last.ensures.room) kept.2,
      kept.3,
      tt,
    )

pub returns-clause-made : goal.returns-clause-made
returns-clause-made c =
    let now = c.last-first.ensures in
    let rest = c.drop_last.ensures.items c.last-first.result now.0 now.1 in
    closing_made c.self.inside.letters.items c.self.inside.top.items c.self.inside.bottom.items now.1 c.truncate.ensures.items c.truncate-2.ensures.items rest
    (ap (λ (x : StateValue). x.components) c.self.view_is)
