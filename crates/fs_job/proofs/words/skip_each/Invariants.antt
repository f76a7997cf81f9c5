use Rattle.std.proofs.Common.{◌≡◌, true, take}
use Rattle.std.specs.List.{AllByRecursion}
use Rattle.fs_job.specs.Pieces.{is_blank}
use Rattle.fs_job.proofs.words.skip_each.Given as goal

-- each byte so far is a space or a tab
abbrev pub invariant-loop-i : goal.invariant-loop-i
invariant-loop-i l = AllByRecursion (λ b. is_blank b ≡ true) (take l.i l.text)
