-- The sides before j have partners, and the row has them.
use Rattle.fs_gluing.specs.PartnerTable.{partner_of}
use Rattle.fs_gluing.proofs.Gluing.GluedSides.{GluesSidesUpTo}
use Rattle.fs_gluing.proofs.building.glue_polygon.Given as goal

abbrev pub invariant-loop-j : goal.invariant-loop-j
invariant-loop-j l = GluesSidesUpTo (partner_of l.partners) l.i l.sides l.j l.row
