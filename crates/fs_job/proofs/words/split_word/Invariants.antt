use Rattle.std.proofs.Common.{◌≡◌, false, take}
use Rattle.std.specs.List.{AllByRecursion}
use Rattle.fs_job.specs.Pieces.{is_blank}
use Rattle.fs_job.proofs.words.split_word.Given as goal

-- no byte so far is a space or a tab
abbrev pub invariant-loop-i : goal.invariant-loop-i
invariant-loop-i l = AllByRecursion (λ b. is_blank b ≡ false) (take l.i l.text)
