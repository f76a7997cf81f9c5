-- The names of the incoming sides so far.
use Rattle.std.proofs.Common.{◌≡◌, Some, map, take}
use Rattle.std.specs.List.{slice_get}
use Rattle.fs_gluing.specs.SurfaceSides.{partner}
use Rattle.fs_iet.proofs.numbers.find_bottom.Given as goal

abbrev pub invariant-loop-e : goal.invariant-loop-e
invariant-loop-e l = map (λ n. slice_get l.outgoing n) l.bottom.items ≡ map (λ e. Some (partner l.surface.polygons e)) (take l.e-index l.incoming)
