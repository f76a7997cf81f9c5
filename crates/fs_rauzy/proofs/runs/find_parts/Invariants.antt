-- After some earlier events the run leads from its start to where it is, within the budget.
use Rattle.std.proofs.Common.{◌+◌, ◌-◌, List}
use Rattle.fs_rauzy.specs.declared.parts.Logged.{Logged}
use Rattle.fs_rauzy.specs.Measures.{weight}
use Rattle.fs_rauzy.proofs.RunsUnderWay.{IsUnderWay}
use Rattle.fs_rauzy.proofs.runs.find_parts.Given as goal

abbrev pub invariant-loop-alloc : goal.invariant-loop-alloc
invariant-loop-alloc l = (earlier : List Logged) × IsUnderWay l.fn.state l.budget earlier l.progress

abbrev pub decreases-loop-alloc : goal.decreases-loop-alloc
decreases-loop-alloc l = (l.budget - l.progress.point.steps) + weight l.progress.point.components
