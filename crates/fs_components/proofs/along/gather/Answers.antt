-- Polygon after polygon, and then what was found.
use Rattle.std.proofs.Common.{take, refl, sym, subst, arith}
use Rattle.fs_gluing.specs.Polygons.{sides_from}
use Rattle.fs_iet.proofs.SidesListed.{polygons_more, polygons_all}
use Rattle.fs_components.specs.Connections.{AreConnections}
use Rattle.fs_components.specs.Gathering.{AreSidesAlong}
use Rattle.fs_components.proofs.PickedSides.{no_sides, connections_of_sides}
use Rattle.fs_components.proofs.along.gather.Goals as goal

pub loop-i-init : goal.loop-i-init
loop-i-init c = subst (AreSidesAlong c.args.surface.now c.args.v _) (sym c.new-connections.ensures.items) (no_sides c.args.surface.now c.args.v)

pub loop-i-preserved : goal.loop-i-preserved
loop-i-preserved c =
    subst (λ xs. AreSidesAlong c.args.surface.now c.args.v xs c.push_sides.new.connections.items)
    (polygons_more c.args.surface.now.polygons c.loop-i.i (sides_from 0 (take c.loop-i.i c.args.surface.now.polygons)) _ (omega arith) refl refl)
    (c.in_ok-push_sides.ensures (sides_from 0 (take c.loop-i.i c.args.surface.now.polygons)) c.loop-i.invariant)

pub returns : goal.returns
returns c =
    subst (AreConnections c.args.surface.now c.args.v c.args.found.now) (sym c.in_ok-extend_from_slice.ensures.items)
    (connections_of_sides c.args.surface.now c.args.v c.loop-i.connections.items c.args.found.now
    (subst (λ xs. AreSidesAlong c.args.surface.now c.args.v xs c.loop-i.connections.items)
    (polygons_all c.args.surface.now.polygons c.loop-i.i (sides_from 0 (take c.loop-i.i c.args.surface.now.polygons)) (omega arith) refl) c.loop-i.invariant))
