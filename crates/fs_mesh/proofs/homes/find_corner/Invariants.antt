-- The corners before were rejected, and not all are.
use Rattle.std.proofs.Common.{◌≡◌, ◌-◌}
use Rattle.fs_gluing.specs.Homes.{nth_corner}
use Rattle.fs_gluing.specs.Limits.{most_sides}
use Rattle.fs_gluing.specs.Polygons.{HasSide}
use Rattle.fs_gluing.specs.Surface.{IsSurface}
use Rattle.fs_gluing.proofs.Sides.CornerSearch.{AreRejected}
use Rattle.fs_mesh.proofs.homes.find_corner.Given as goal

abbrev pub invariant-loop-corner : goal.invariant-loop-corner
invariant-loop-corner l = record {
  surface : IsSurface l.surface;
  there : HasSide l.surface.polygons l.corner;
  corner : l.corner ≡ nth_corner l.surface l.fn.from l.tested;
  rejected : AreRejected l.surface l.fn.from l.v l.before l.stride l.tested;
}

abbrev pub decreases-loop-corner : goal.decreases-loop-corner
decreases-loop-corner l = most_sides - l.tested
