-- The count is the genus of these vertices.
use Rattle.std.proofs.Common.{◌≡◌, ◌/◌, sum_by, refl, ap, subst, arith}
use Rattle.std.proofs.lemmas.List.{take_all}
use Rattle.fs_stratum.specs.declared.cones.Cone.{Cone}
use Rattle.fs_stratum.specs.VertexList.{HasGenus}
use Rattle.fs_stratum.proofs.GenusExists.{genus_exists}
use Rattle.fs_stratum.proofs.cones.genus.Goals as goal

pub loop-cone-init : goal.loop-cone-init
loop-cone-init c = let s = c.requires in (refl, (s.0, s.2, genus_exists s.0 s.1 c.args.cones.now s.3))

pub returns : goal.returns
returns c s surface are =
    let found = genus_exists s surface c.args.cones.now are in
    let sum = found.1.sum in
    let counted = c.loop-cone.invariant.0 in
    let all = ap (sum_by (λ (cone : Cone). cone.k)) (take_all c.loop-cone.cone-index c.args.cones.now c.loop-cone-test.false) in
    let half : found.0 ≡ c.loop-cone.twice / 2 = omega arith in
    subst (HasGenus s c.args.cones.now) half found.1
