-- The areas of the letters so far are added.
use Rattle.std.proofs.Common.{◌≡◌, drop}
use Rattle.fs_quadratic.specs.Ring.{zero}
use Rattle.fs_components.specs.Measures.{checked_areas}
use Rattle.fs_components.proofs.measures.add_areas.Given as goal

abbrev pub invariant-loop-n : goal.invariant-loop-n
invariant-loop-n l = checked_areas l.field.d l.v 0 zero l.letters ≡ checked_areas l.field.d l.v l.n l.sum (drop l.n l.letters)
