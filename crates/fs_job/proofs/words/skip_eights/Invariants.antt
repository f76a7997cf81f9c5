use Rattle.std.proofs.Common.{◌≡◌, ◌≤◌, length}
use Rattle.fs_job.specs.Pieces.{words_of}
use Rattle.fs_job.proofs.words.skip_eights.Given as goal

-- the words so far are those of the text
abbrev pub invariant-loop-more : goal.invariant-loop-more
invariant-loop-more l = (words_of l.fn.text ≡ words_of l.rest) × (length l.rest ≤ length l.fn.text)

abbrev pub decreases-loop-more : goal.decreases-loop-more
decreases-loop-more l = length l.rest
