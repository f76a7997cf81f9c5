-- The sides so far have their numbers.
use Rattle.std.proofs.Common.{◌≡◌, ◌<◌, ℕ, Some}
use Rattle.std.specs.List.{slice_get}
use Rattle.fs_plane.specs.declared.corners.Corner.{Corner}
use Rattle.fs_gluing.specs.Polygons.{at_side, HasSide}
use Rattle.fs_iet.proofs.numbers.find_numbers.Given as goal

abbrev pub invariant-loop-n : goal.invariant-loop-n
invariant-loop-n l = record {
  sides : (e : Corner) → HasSide l.surface.polygons e → HasSide l.numbers e;
  numbered : (k : ℕ) (f : Corner) → k < l.n → slice_get l.outgoing k ≡ Some f → at_side l.numbers f ≡ Some k;
}
