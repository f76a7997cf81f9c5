-- The sector test of the sides at a corner, with its places counted on.
use Rattle.std.proofs.Common.{sym, ◌∙◌, arith}
use Rattle.fs_mesh.proofs.SectorPlaces.{sector_place_bound}
use Rattle.fs_mesh.proofs.CornerTests.{test_read}
use Rattle.fs_mesh.proofs.homes.test_corner.Goals as goal

pub overflow_add-result : goal.overflow_add-result
overflow_add-result c =
    let few = c.requires.few in
    let bound = sector_place_bound c.field.result.d c.side.result c.side-ends.result c.args.v c.in-Err.field-0 (sym c.in_sector.ensures.formula ∙ c.in-Err.is) in
    omega arith

pub returns-in-Ok : goal.returns-in-Ok
returns-in-Ok c =
    test_read c.args.surface.now c.args.corner c.args.v c.field.result.d c.side_before.result c.side.result c.side-ends.result c.args.before c.in_sector.result _ c.requires.corner c.field.ensures.field c.side_before.ensures
    c.side.ensures c.side-ends.ensures c.in_sector.ensures.formula c.in-Ok.is

pub returns-in-Err : goal.returns-in-Err
returns-in-Err c =
    test_read c.args.surface.now c.args.corner c.args.v c.field.result.d c.side_before.result c.side.result c.side-ends.result c.args.before c.in_sector.result _ c.requires.corner c.field.ensures.field c.side_before.ensures
    c.side.ensures c.side-ends.ensures c.in_sector.ensures.formula c.in-Err.is
