-- The path was followed along the sides of the word so far.
use Rattle.std.proofs.Common.{take}
use Rattle.fs_develop.specs.Walks.{IsNextOf}
use Rattle.fs_develop.proofs.Followed.{IsFollowed}
use Rattle.fs_develop.proofs.following.follow_word.Given as goal

abbrev pub invariant-loop-n : goal.invariant-loop-n
invariant-loop-n l = IsFollowed l.surface l.v (IsNextOf l.word) l.fn.start (take l.n l.word) l.spot
