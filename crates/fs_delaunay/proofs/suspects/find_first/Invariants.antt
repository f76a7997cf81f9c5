-- The blocks before b have no mark.
use Rattle.fs_delaunay.proofs.Marks.{SearchesBlocks}
use Rattle.fs_delaunay.proofs.suspects.find_first.Given as goal

abbrev pub invariant-loop-b : goal.invariant-loop-b
invariant-loop-b l = SearchesBlocks l.marks l.blocks l.b
