-- The marked polygons are reached, and those that wait are marked; a visit lowers the number of polygons that wait plus that of polygons without a mark.
use Rattle.std.proofs.Common.{length, ◌+◌, not, count_by}
use Rattle.fs_gluing.proofs.Gluing.Search.{Searches}
use Rattle.fs_gluing.proofs.reaching.search.Given as goal

abbrev pub invariant-loop-i : goal.invariant-loop-i
invariant-loop-i l = Searches l.polygons l.reached.items l.waiting.items

abbrev pub decreases-loop-i : goal.decreases-loop-i
decreases-loop-i l = length l.waiting.items + count_by not l.reached.items
