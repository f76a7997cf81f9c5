-- The path was followed with the word so far, which isn't too long.
use Rattle.std.proofs.Common.{◌-◌, ◌≤◌, length}
use Rattle.fs_develop.specs.Walks.{IsWithin}
use Rattle.fs_develop.proofs.Followed.{IsFollowed}
use Rattle.fs_develop.proofs.following.follow.Given as goal

abbrev pub invariant-loop-word : goal.invariant-loop-word
invariant-loop-word l = IsFollowed l.surface l.v (IsWithin l.steps) l.fn.start l.word l.spot × (length l.word ≤ l.steps)

abbrev pub decreases-loop-word : goal.decreases-loop-word
decreases-loop-word l = l.steps - length l.word
