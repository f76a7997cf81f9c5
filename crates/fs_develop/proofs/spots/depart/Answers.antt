-- Corner by corner, to the last one.
use Rattle.std.proofs.Common.{◌∙◌, ◌+◌, sym, ap, subst, Ok, Err, arith}
use Rattle.fs_plane.specs.declared.corners.Corner.{Corner}
use Rattle.fs_gluing.specs.SurfaceSides.{polygon_sides}
use Rattle.fs_develop.specs.declared.spots.Spot.{Spot}
use Rattle.fs_develop.specs.declared.looking.Finding.TheVariants.{RightOfPath, Last}
use Rattle.fs_develop.specs.Spots.{IsSpot, Passes, none}
use Rattle.fs_develop.proofs.SurfaceReads.{finding_read}
use Rattle.fs_develop.proofs.PathSpots.{passes_more, spot_side, few_corners, passed_is_spot}
use Rattle.fs_develop.proofs.spots.depart.Goals as goal

pub loop-finding-init : goal.loop-finding-init
loop-finding-init c = (none c.args.first, c.requires.spot)

pub side-requires : goal.side-requires
side-requires c =
    let at : Spot = record { corners = c.loop-finding.corners; side = c.loop-finding.side; from = c.loop-finding.from } in
    spot_side c.args.surface.now c.requires.surface c.args.v at c.loop-finding.invariant.1

pub look-found-requires : goal.look-found-requires
look-found-requires c =
    let at : Spot = record { corners = c.loop-finding.corners; side = c.loop-finding.side; from = c.loop-finding.from } in
    let few = few_corners c.args.surface.now c.requires.surface c.args.v at c.loop-finding.invariant.1 in
    omega arith

pub returns-in-Err : goal.returns-in-Err
returns-in-Err c =
    let at : Spot = record { corners = c.loop-finding.corners; side = c.loop-finding.side; from = c.loop-finding.from } in (
      at,
      c.in-Err.field-0,
      c.loop-finding.invariant.0,
      finding_read c.args.surface.now c.field-field.result.d at c.args.v c.side.result (Err c.in-Err.field-0)
          (spot_side c.args.surface.now c.requires.surface c.args.v at c.loop-finding.invariant.1) c.field-field.ensures.field c.side.ensures (sym c.in-Err.is ∙ c.look-found.ensures),
      search,
    )

pub overflow_add-corners : goal.overflow_add-corners
overflow_add-corners c =
    let at : Spot = record { corners = c.loop-finding.corners; side = c.loop-finding.side; from = c.loop-finding.from } in
    let few = few_corners c.args.surface.now c.requires.surface c.args.v at c.loop-finding.invariant.1 in
    omega arith

pub corner_after-side-requires : goal.corner_after-side-requires
corner_after-side-requires c =
    let at : Spot = record { corners = c.loop-finding.corners; side = c.loop-finding.side; from = c.loop-finding.from } in
    spot_side c.args.surface.now c.requires.surface c.args.v at c.loop-finding.invariant.1

pub loop-finding-smaller : goal.loop-finding-smaller
loop-finding-smaller c =
    let at : Spot = record { corners = c.loop-finding.corners; side = c.loop-finding.side; from = c.loop-finding.from } in
    let few = few_corners c.args.surface.now c.requires.surface c.args.v at c.loop-finding.invariant.1 in
    omega arith

pub loop-finding-preserved : goal.loop-finding-preserved
loop-finding-preserved c =
    let at : Spot = record { corners = c.loop-finding.corners; side = c.loop-finding.side; from = c.loop-finding.from } in
    let corner = c.in-RightOfPath.corner in
    let found =
    finding_read c.args.surface.now c.field-field.result.d at c.args.v c.side.result (Ok (RightOfPath corner))
    (spot_side c.args.surface.now c.requires.surface c.args.v at c.loop-finding.invariant.1) c.field-field.ensures.field c.side.ensures (sym (c.in-Ok.is ∙ ap Ok c.in-RightOfPath.is) ∙ c.look-found.ensures) in
    subst (λ (side : Corner). let next : Spot = record { corners = c.loop-finding.corners + 1; side = side; from = corner } in
    Passes c.args.surface.now.d (polygon_sides c.args.surface.now.polygons) c.args.v c.args.first next × IsSpot c.args.surface.now.d (polygon_sides c.args.surface.now.polygons) c.args.v next)
    (sym c.corner_after-side.ensures)
    (passes_more _ _ c.args.v c.loop-finding.invariant.0 found, passed_is_spot c.args.surface.now c.requires.surface c.args.v at corner c.loop-finding.invariant.1 found)

pub returns-in-Last : goal.returns-in-Last
returns-in-Last c =
    let at : Spot = record { corners = c.loop-finding.corners; side = c.loop-finding.side; from = c.loop-finding.from } in (
      c.loop-finding.invariant.0,
      c.loop-finding.invariant.1,
      finding_read c.args.surface.now c.field-field.result.d at c.args.v c.side.result (Ok (Last c.in-Last.departure))
          (spot_side c.args.surface.now c.requires.surface c.args.v at c.loop-finding.invariant.1) c.field-field.ensures.field c.side.ensures (sym (c.in-Ok.is ∙ ap Ok c.in-Last.is) ∙ c.look-found.ensures),
    )
