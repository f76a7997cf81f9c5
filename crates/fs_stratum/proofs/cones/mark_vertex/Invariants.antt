-- The corners from the first one up to this one are marked, and whether the side at this one is raised is known; each step lowers the number of corners without a mark.
use Rattle.std.proofs.Common.{◌≡◌}
use Rattle.std.specs.Option.{IfSome}
use Rattle.fs_plane.specs.Vector.{PlaneVector, is_raised}
use Rattle.fs_gluing.specs.Polygons.{at_side}
use Rattle.fs_stratum.proofs.VertexMarks.{MarksVertexUpTo, unmarked}
use Rattle.fs_stratum.proofs.cones.mark_vertex.Given as goal

abbrev pub invariant-loop-field : goal.invariant-loop-field
invariant-loop-field l = record {
  marks : MarksVertexUpTo l.surface l.fn.first l.initial.marks l.marks l.corner l.k;
  vector : PlaneVector;
  side : IfSome (at_side l.surface.polygons l.corner) (λ side. vector ≡ side.vector);
  raised : l.raised ≡ is_raised l.field.d vector;
}

abbrev pub decreases-loop-field : goal.decreases-loop-field
decreases-loop-field l = unmarked l.surface.polygons l.marks
