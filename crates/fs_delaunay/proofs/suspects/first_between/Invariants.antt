-- The numbers before h aren't marked.
use Rattle.fs_delaunay.specs.Suspects.{HasNoMark}
use Rattle.fs_delaunay.proofs.suspects.first_between.Given as goal

abbrev pub invariant-loop-h : goal.invariant-loop-h
invariant-loop-h l = HasNoMark l.marks l.from l.h
