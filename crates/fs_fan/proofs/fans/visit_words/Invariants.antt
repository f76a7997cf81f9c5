-- The search goes on, within the budget; where no word is left, none waits.
use Rattle.std.proofs.Common.{◌≡◌, ◌≤◌, ◌+◌, ◌-◌, ◌++◌, [], false}
use Rattle.fs_fan.specs.Searching.{Searches}
use Rattle.fs_fan.specs.Entries.{optional}
use Rattle.fs_fan.proofs.fans.visit_words.Given as goal

abbrev pub invariant-loop-goes_on : goal.invariant-loop-goes_on
invariant-loop-goes_on l =
    Searches l.mesh.surface.d l.mesh.triangles l.bound (l.h + 1) (l.stack.items ++ optional l.goes_on l.entry) l.fans.found l.fans.live × (l.fans.live ≤ l.budget)
    × (l.goes_on ≡ false → l.stack.items ≡ [])

abbrev pub decreases-loop-goes_on : goal.decreases-loop-goes_on
decreases-loop-goes_on l = l.budget - l.fans.live
