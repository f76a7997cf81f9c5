-- The letters before letter n don't hold y.
use Rattle.fs_iet.proofs.PositionImages.{LooksFrom}
use Rattle.fs_iet.proofs.images.find_letter.Given as goal

abbrev pub invariant-loop-n : goal.invariant-loop-n
invariant-loop-n l = LooksFrom l.field.d l.letters l.fn.y l.n l.offset
