-- The stored positions are those of the corners.
use Rattle.std.proofs.Common.{subst}
use Rattle.fs_gluing.specs.Surface.{IsSurface}
use Rattle.fs_gluing.proofs.SurfaceCalls.NextCorner.{in_polygon}
use Rattle.fs_gluing.proofs.SurfaceCalls.Positions.{row_read, row_long, is_position, position_is, first_position, next_position}
use Rattle.fs_gluing.proofs.surfaces.Surface.place.Goals as goal

pub bounds-positions-c : goal.bounds-positions-c
bounds-positions-c c =
    row_long c.args.self.now.polygons c.args.c c.as_slice-positions.result.now (in_polygon c.args.self.now.polygons c.args.c c.requires)
    (row_read _ _ _ _ _ _ _ c.self.view_is c.self.invariant.1 c.as_slice.ensures c.index-as_slice-c.is c.as_slice-positions.ensures)

pub returns : goal.returns
returns c =
    let row = row_read _ _ _ _ _ _ _ c.self.view_is c.self.invariant.1 c.as_slice.ensures c.index-as_slice-c.is c.as_slice-positions.ensures in
    let position = is_position c.args.self.now.polygons c.args.c c.as_slice-positions.result.now c.index-positions-c.result (in_polygon c.args.self.now.polygons c.args.c c.requires) row c.index-positions-c.is in
    record {
      position = position_is c.args.self.now.polygons c.args.c c.index-positions-c.result position;
      first = first_position c.args.self.now.polygons c.args.c c.index-positions-c.result position;
      next = next_position c.args.self.now c.args.c c.index-positions-c.result (subst IsSurface c.self.view_is c.self.invariant.0) position;
    }
