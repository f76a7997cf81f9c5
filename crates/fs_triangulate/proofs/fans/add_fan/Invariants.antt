-- The faces before t were added.
use Rattle.std.proofs.Common.{map}
use Rattle.std.specs.List.{range_with_len}
use Rattle.fs_triangulate.specs.Fans.{fan_triangle, AddsTriangles}
use Rattle.fs_triangulate.proofs.fans.add_fan.Given as goal

abbrev pub invariant-loop-t : goal.invariant-loop-t
invariant-loop-t l = AddsTriangles l.surface (map (fan_triangle l.i) (range_with_len 0 l.t)) l.fn.triangles l.triangles
