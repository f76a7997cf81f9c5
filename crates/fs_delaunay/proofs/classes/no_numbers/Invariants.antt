-- As many faces as were counted have no number.
use Rattle.std.proofs.Common.{◌≡◌, None, replicate}
use Rattle.fs_delaunay.proofs.classes.no_numbers.Given as goal

abbrev pub invariant-loop-face : goal.invariant-loop-face
invariant-loop-face l = l.numbers.items ≡ replicate l._face None
