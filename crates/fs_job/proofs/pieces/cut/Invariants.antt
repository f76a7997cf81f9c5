use Rattle.std.proofs.Common.{◌≢◌, take}
use Rattle.std.specs.List.{AllByRecursion}
use Rattle.fs_job.proofs.pieces.cut.Given as goal

-- no byte so far is the separator
abbrev pub invariant-loop-i : goal.invariant-loop-i
invariant-loop-i l = AllByRecursion (λ b. b ≢ l.separator) (take l.i l.text)
