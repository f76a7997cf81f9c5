-- The letters at the places before n of the bottom row are added.
use Rattle.fs_iet.proofs.PositionImages.{AddsUpTo}
use Rattle.fs_iet.proofs.images.find_bottom_position.Given as goal

abbrev pub invariant-loop-n : goal.invariant-loop-n
invariant-loop-n l = AddsUpTo l.letters l.bottom l.fn.at.name l.fn.at.offset l.n l.y
