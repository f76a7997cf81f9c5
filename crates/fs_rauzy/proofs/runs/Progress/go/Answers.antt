-- A cylinder closes, or the budget is spent.
use Rattle.std.proofs.Common.{ap}
use Rattle.fs_rauzy.specs.States.{StateValue}
use Rattle.fs_rauzy.proofs.RunCalls.{cylinder_goes, budget_stops}
use Rattle.fs_rauzy.proofs.runs.Progress.go.Goals as goal

pub returns-in_ok-close-in-Close-clause-goes : goal.returns-in_ok-close-in-Close-clause-goes
returns-in_ok-close-in-Close-clause-goes c =
    cylinder_goes _ _ c.self.view_is c.choose.new.self.components c.close.new.self.point (ap (λ (s : StateValue). s.components) c.choose.ensures.unchanged) c.if-self.false c.in-Close.ensures.choice
    c.in_ok-close-in-Close.ensures.closes

pub returns-in-Compare-clause-stops : goal.returns-in-Compare-clause-stops
returns-in-Compare-clause-stops c = budget_stops _ _ c.self.view_is c.args.budget c.requires.ready c.if-self.false c.in-Compare.ensures.choice c.if-self-budget.true
