-- The positions are within the limits of a surface, and their triangles are those of its polygons.
use Rattle.std.proofs.Common.{◌∙◌}
use Rattle.fs_gluing.proofs.SurfaceCalls.AreaSums.{few_rows, short_rows}
use Rattle.fs_gluing.proofs.surfaces.Surface.new.Goals as goal

pub sum_triangles-area-requires : goal.sum_triangles-area-requires
sum_triangles-area-requires c =
    record {
      few = few_rows _ c.as_slice.result.now c.requires.surface (c.as_slice.ensures ∙ c.requires.positions);
      short = short_rows _ c.as_slice.result.now c.requires.surface (c.as_slice.ensures ∙ c.requires.positions);
    }
