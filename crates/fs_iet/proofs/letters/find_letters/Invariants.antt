-- The letters of the sides so far.
use Rattle.std.proofs.Common.{◌≡◌, ℕ, Some, length}
use Rattle.std.specs.List.{slice_get}
use Rattle.fs_plane.specs.declared.corners.Corner.{Corner}
use Rattle.fs_gluing.specs.Exchanges.{Letter, IsLetterOf}
use Rattle.fs_iet.proofs.letters.find_letters.Given as goal

abbrev pub invariant-loop-n : goal.invariant-loop-n
invariant-loop-n l = record {
  as_many : length l.letters ≡ l.n;
  letters : (n : ℕ) (f : Corner) (letter : Letter) → slice_get l.row n ≡ Some f → slice_get l.letters n ≡ Some letter → IsLetterOf l.surface l.v f n letter;
}
