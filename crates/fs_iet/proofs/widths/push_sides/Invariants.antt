-- The sides before j are added.
use Rattle.std.proofs.Common.{◌≡◌, ◌++◌}
use Rattle.fs_gluing.specs.Gluing.{sides_between}
use Rattle.fs_iet.proofs.widths.push_sides.Given as goal

abbrev pub invariant-loop-j : goal.invariant-loop-j
invariant-loop-j l = l.sides ≡ l.initial.sides ++ sides_between l.i 0 l.j
