-- The sides of the polygons before i have partners, and the rows have them.
use Rattle.fs_gluing.specs.PartnerTable.{partner_of}
use Rattle.fs_gluing.proofs.Gluing.GluedSides.{GluesPolygonsUpTo}
use Rattle.fs_gluing.proofs.building.glue_polygons.Given as goal

abbrev pub invariant-loop-i : goal.invariant-loop-i
invariant-loop-i l = GluesPolygonsUpTo (partner_of l.partners) l.polygons l.i l.rows
