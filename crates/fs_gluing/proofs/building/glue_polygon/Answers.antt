-- The sides get their partners one after another.
use Rattle.std.proofs.Common.{sym, subst}
use Rattle.fs_gluing.specs.PartnerTable.{partner_of}
use Rattle.fs_gluing.proofs.Gluing.GluedSides.{GluesSidesUpTo, glue_more}
use Rattle.fs_gluing.proofs.building.glue_polygon.Goals as goal

pub loop-j-preserved : goal.loop-j-preserved
loop-j-preserved c =
    let partner = partner_of c.args.partners.now in
    subst (GluesSidesUpTo partner c.args.i c.args.sides.now _) (sym c.in_ok-push.ensures.ok)
    (glue_more partner c.args.i c.args.sides.now c.loop-j.j c.loop-j.row c.index-sides-j.result c.in-Some.partner c.new-corner.result c.new-corner.ensures
    (record { inside = c.loop-j-test.true; is = c.index-sides-j.is }) (sym c.in-Some.ensures) c.loop-j.invariant)
