-- The parts of the exchange.
use Rattle.std.proofs.Common.{◌≤◌, List, length, sym, subst}
use Rattle.std.specs.List.{AllByRecursion}
use Rattle.fs_lists.specs.Members.{IsIn, IsDistinct}
use Rattle.fs_plane.specs.declared.corners.Corner.{Corner}
use Rattle.fs_gluing.specs.CrossingMap.{IsOutgoing}
use Rattle.fs_gluing.specs.Polygons.{HasSide}
use Rattle.fs_gluing.specs.SurfaceSides.{partner}
use Rattle.fs_iet.specs.ExchangeValue.{most_letters}
use Rattle.fs_iet.proofs.BuiltExchanges.{all_of_row, top_row_short, outgoing_there, incoming_there, partners_there, exchange_of_rows, value_of_field}
use Rattle.fs_iet.proofs.SidesOfRows.{top_row_distinct}
use Rattle.fs_iet.proofs.exchanges.build.Goals as goal

pub find_letters-requires-clause-outgoing : goal.find_letters-requires-clause-outgoing
find_letters-requires-clause-outgoing c = subst (AllByRecursion (IsOutgoing c.args.surface.now c.args.v)) (sym c.as_slice.ensures) (all_of_row c.in_ok-outgoing.ensures)

pub find_letters-requires-clause-few : goal.find_letters-requires-clause-few
find_letters-requires-clause-few c =
    subst (λ (row : List Corner). length row ≤ most_letters) (sym c.as_slice.ensures)
    (top_row_short c.args.surface.now c.field-field.ensures.surface c.args.v c.requires.direction c.in_ok-outgoing.outgoing c.in_ok-incoming.incoming c.in_ok-outgoing.ensures c.in_ok-incoming.ensures)

pub find_bottom-requires-clause-there : goal.find_bottom-requires-clause-there
find_bottom-requires-clause-there c =
    subst (AllByRecursion (HasSide c.args.surface.now.polygons)) (sym c.as_slice-2.ensures)
    (outgoing_there c.args.surface.now c.field-field.ensures.surface c.args.v c.requires.direction c.in_ok-outgoing.outgoing c.in_ok-incoming.incoming c.in_ok-outgoing.ensures c.in_ok-incoming.ensures)

pub find_bottom-requires-clause-once : goal.find_bottom-requires-clause-once
find_bottom-requires-clause-once c =
    subst IsDistinct (sym c.as_slice-2.ensures) (top_row_distinct c.args.surface.now c.field-field.ensures.surface.surface c.args.v c.requires.direction c.in_ok-outgoing.ensures)

pub find_bottom-requires-clause-few : goal.find_bottom-requires-clause-few
find_bottom-requires-clause-few c =
    subst (λ (row : List Corner). length row ≤ most_letters) (sym c.as_slice-2.ensures)
    (top_row_short c.args.surface.now c.field-field.ensures.surface c.args.v c.requires.direction c.in_ok-outgoing.outgoing c.in_ok-incoming.incoming c.in_ok-outgoing.ensures c.in_ok-incoming.ensures)

pub find_bottom-requires-clause-sides : goal.find_bottom-requires-clause-sides
find_bottom-requires-clause-sides c =
    subst (AllByRecursion (HasSide c.args.surface.now.polygons)) (sym c.as_slice-3.ensures)
    (incoming_there c.args.surface.now c.field-field.ensures.surface c.args.v c.requires.direction c.in_ok-outgoing.outgoing c.in_ok-incoming.incoming c.in_ok-outgoing.ensures c.in_ok-incoming.ensures)

pub find_bottom-requires-clause-partners : goal.find_bottom-requires-clause-partners
find_bottom-requires-clause-partners c =
    subst (λ row. AllByRecursion (λ e. IsIn (partner c.args.surface.now.polygons e) c.as_slice-2.result.now) row) (sym c.as_slice-3.ensures)
    (subst (λ row. AllByRecursion (λ e. IsIn (partner c.args.surface.now.polygons e) row) c.in_ok-incoming.incoming) (sym c.as_slice-2.ensures)
    (partners_there c.args.surface.now c.field-field.ensures.surface c.args.v c.requires.direction c.in_ok-outgoing.outgoing c.in_ok-incoming.incoming c.in_ok-outgoing.ensures c.in_ok-incoming.ensures))

pub invariant_of-result : goal.invariant_of-result
invariant_of-result c =
    value_of_field c.args.surface.now c.field-field.result.d c.field-field.ensures.surface c.args.v c.requires.direction _ c.field-field.ensures.field
    (exchange_of_rows c.args.surface.now c.args.v c.in_ok-outgoing.outgoing c.in_ok-incoming.incoming c.as_slice.result.now c.as_slice-2.result.now c.as_slice-3.result.now c.args.total
    c.in_ok-letters.letters c.from_vec.result c.in_ok-bottom.bottom.items c.in_ok-outgoing.ensures c.in_ok-incoming.ensures c.requires.total c.as_slice.ensures c.in_ok-letters.ensures.as_many
    c.in_ok-letters.ensures.letters c.as_slice-2.ensures c.as_slice-3.ensures c.in_ok-bottom.ensures c.from_vec.ensures)

pub returns-clause-exchange : goal.returns-clause-exchange
returns-clause-exchange c =
    exchange_of_rows c.args.surface.now c.args.v c.in_ok-outgoing.outgoing c.in_ok-incoming.incoming c.as_slice.result.now c.as_slice-2.result.now c.as_slice-3.result.now c.args.total
    c.in_ok-letters.letters c.from_vec.result c.in_ok-bottom.bottom.items c.in_ok-outgoing.ensures c.in_ok-incoming.ensures c.requires.total c.as_slice.ensures c.in_ok-letters.ensures.as_many
    c.in_ok-letters.ensures.letters c.as_slice-2.ensures c.as_slice-3.ensures c.in_ok-bottom.ensures c.from_vec.ensures
