use Rattle.std.proofs.Common.{take, ◌↔◌}
use Rattle.std.specs.Prelude.{IsTrue}
use Rattle.fs_job.specs.Pieces.{IsText}
use Rattle.fs_job.proofs.words.is_text.Given as goal

-- whether each byte so far is one that a line may have
abbrev pub invariant-loop-byte : goal.invariant-loop-byte
invariant-loop-byte l = IsTrue l.all ↔ IsText (take l.byte-index l.line)
