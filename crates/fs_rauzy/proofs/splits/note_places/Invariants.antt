-- The places of the names so far are noted.
use Rattle.fs_rauzy.proofs.Places.{ArePlacesUpTo}
use Rattle.fs_rauzy.proofs.splits.note_places.Given as goal

abbrev pub invariant-loop-n : goal.invariant-loop-n
invariant-loop-n l = ArePlacesUpTo l.row l.places l.n
