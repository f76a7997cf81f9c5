-- The lines before this one pass, and the map has the partners from them.
use Rattle.fs_gluing.specs.PartnerTable.{partner_of, HasPlaces}
use Rattle.fs_gluing.proofs.Gluing.GlueLines.{PassesLinesUpTo}
use Rattle.fs_gluing.proofs.glue_lines.pair_sides.Given as goal

abbrev pub invariant-loop-glue : goal.invariant-loop-glue
invariant-loop-glue l = record {
  passes : PassesLinesUpTo l.polygons l.glues l.glue-index (partner_of l.partners);
  places : HasPlaces l.polygons l.partners;
}
