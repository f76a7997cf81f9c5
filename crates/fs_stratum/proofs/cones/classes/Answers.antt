-- The polygons are tried one after another.
use Rattle.std.proofs.Common.{◌≡◌, sym, subst, length, arith}
use Rattle.fs_stratum.specs.VerticesFound.{AreFoundBefore}
use Rattle.fs_gluing.proofs.Sides.AllSides.{corner}
use Rattle.fs_stratum.proofs.VerticesFound.{found_none, found_all}
use Rattle.fs_stratum.proofs.GenusExists.{genus_exists}
use Rattle.fs_stratum.proofs.cones.classes.Goals as goal

pub loop-i-init : goal.loop-i-init
loop-i-init c = subst (λ cones. AreFoundBefore c.args.surface.now (corner 0 0) c.in_ok-marks.marks cones) (sym c.new-cones.ensures) (found_none c.args.surface.now c.in_ok-marks.marks c.in_ok-marks.ensures)

pub returns-clause-cones : goal.returns-clause-cones
returns-clause-cones c =
    let end : c.loop-i.i ≡ length c.args.surface.now.polygons = omega arith in
    found_all c.args.surface.now c.loop-i.i c.loop-i.marks c.loop-i.cones c.loop-i.invariant end

pub returns-clause-genus : goal.returns-clause-genus
returns-clause-genus c = genus_exists c.args.surface.now c.polygons-i-end.ensures.surface.surface c.loop-i.cones (returns-clause-cones c)
