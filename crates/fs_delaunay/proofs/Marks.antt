-- Marks in blocks of 64: how far the search for the first one is.
use Rattle.std.proofs.Common.{ℕ, ◌*◌, Bool, List}
use Rattle.fs_delaunay.specs.Suspects.{HasNoMark, AreBlocks}

-- the blocks before block b have no mark
pub record SearchesBlocks (marks blocks : List Bool) (b : ℕ) : Type 0 where
  pub kept : AreBlocks marks blocks
  pub before : HasNoMark marks 0 (64 * b)
