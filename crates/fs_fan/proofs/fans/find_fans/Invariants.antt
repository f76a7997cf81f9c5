-- The half-edges below h are opened, and no word waits.
use Rattle.std.proofs.Common.{◌≡◌, ◌≤◌, []}
use Rattle.fs_fan.specs.Searching.{Searches}
use Rattle.fs_fan.proofs.fans.find_fans.Given as goal

abbrev pub invariant-loop-h : goal.invariant-loop-h
invariant-loop-h l = Searches l.mesh.surface.d l.mesh.triangles l.bound l.h l.stack.items l.fans.found l.fans.live × (l.stack.items ≡ []) × (l.fans.live ≤ l.budget)
