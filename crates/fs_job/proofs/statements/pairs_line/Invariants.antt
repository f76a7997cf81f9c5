use Rattle.std.proofs.Common.{◌+◌, ◌≤◌, length}
use Rattle.fs_job.specs.Pieces.{words_of}
use Rattle.fs_job.proofs.Pairs.{PairsBefore}
use Rattle.fs_job.proofs.statements.pairs_line.Given as goal

-- the words so far are pairs, and counted
abbrev pub invariant-loop-word : goal.invariant-loop-word
invariant-loop-word l = record {
  before : PairsBefore (words_of l.words) (words_of l.rest) l.count;
  few : l.count + length l.rest ≤ length l.words;
}

abbrev pub decreases-loop-word : goal.decreases-loop-word
decreases-loop-word l = length l.rest
