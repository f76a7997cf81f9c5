-- The parts so far are measured, and the others are left.
use Rattle.std.proofs.Common.{◌≡◌, ◌++◌}
use Rattle.fs_components.specs.Flows.{AreMeasured}
use Rattle.fs_components.proofs.flow.measure_parts.Given as goal

abbrev pub invariant-loop-part : goal.invariant-loop-part
invariant-loop-part l = AreMeasured l.surface l.v l.yielded l.list × (l.initial.part-iterator.rest.items ≡ l.yielded ++ l.part-iterator.rest.items)
