-- The vector is that of the way.
use Rattle.std.proofs.Common.{◌∙◌}
use Rattle.fs_triangulate.proofs.FanWays.{to_next}
use Rattle.fs_triangulate.proofs.GluedWays.{has_start}
use Rattle.fs_triangulate.proofs.WayVectors.{position_at, from_zero, to_zero, side_read}
use Rattle.fs_triangulate.proofs.fans.vector_of.Goals as goal

pub returns-then-way-eq0 : goal.returns-then-way-eq0
returns-then-way-eq0 c =
    from_zero c.args.surface.now c.args.way c.place.result c.if-way-eq0.true
    (position_at c.args.surface.now c.new.result _ _ c.place.result c.new.ensures c.requires.way.there c.place.ensures.position)

pub returns-then-way-eq0-2 : goal.returns-then-way-eq0-2
returns-then-way-eq0-2 c =
    c.neg.ensures
    ∙ to_zero c.args.surface.now c.args.way c.place-then-way-eq0-2.result c.if-way-eq0-2.true
    (position_at c.args.surface.now c.new-then-way-eq0-2.result _ _ c.place-then-way-eq0-2.result c.new-then-way-eq0-2.ensures c.requires.way.there c.place-then-way-eq0-2.ensures.position)

pub returns-else-way-eq0-2 : goal.returns-else-way-eq0-2
returns-else-way-eq0-2 c =
    side_read c.args.surface.now c.new-else-way-eq0-2.result c.args.way c.side.result c.new-else-way-eq0-2.ensures
    (has_start c.args.surface.now.polygons c.args.way c.requires.way) (to_next _ c.args.way c.requires.way.fan c.if-way-eq0.false c.if-way-eq0-2.false) c.side.ensures
