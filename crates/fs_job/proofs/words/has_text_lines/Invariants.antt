use Rattle.std.proofs.Common.{take, ◌↔◌}
use Rattle.std.specs.List.{AllByRecursion}
use Rattle.std.specs.Prelude.{IsTrue}
use Rattle.fs_job.specs.Cuts.{IsTextOrFeed}
use Rattle.fs_job.proofs.words.has_text_lines.Given as goal

-- whether each byte so far is one that a line may have, or a line feed
abbrev pub invariant-loop-byte : goal.invariant-loop-byte
invariant-loop-byte l = IsTrue l.all ↔ AllByRecursion IsTextOrFeed (take l.byte-index l.bytes)
