-- The side is added where it is along the direction.
use Rattle.std.proofs.Common.{◌∷◌, [], ◌++◌, refl, sym, ap, ◌∙◌, subst}
use Rattle.fs_plane.specs.Vector.{PlaneVector}
use Rattle.fs_components.specs.Gathering.{AreSidesAlong}
use Rattle.fs_components.proofs.PickedSides.{vector_read, along_read, along_back, side_along, side_across, width_read}
use Rattle.fs_components.proofs.along.push_side.Goals as goal

pub is_along-requires-clause-fits : goal.is_along-requires-clause-fits
is_along-requires-clause-fits c =
    width_read c.args.surface.now c.args.v c.field.result.d c.args.e c.side-side.result c.field.ensures.field
    (vector_read c.args.surface.now c.args.v c.args.e c.side-side.result c.requires.there c.side-side.ensures) (c.requires.widths c.args.e c.requires.there)

pub returns-in_ok-push : goal.returns-in_ok-push
returns-in_ok-push c = λ sides are.
    let is = vector_read c.args.surface.now c.args.v c.args.e c.side-side.result c.requires.there c.side-side.ensures in
    subst (AreSidesAlong c.args.surface.now c.args.v (sides ++ c.args.e ∷ []))
    (sym (c.in_ok-push.ensures.items ∙ ap (λ (w : PlaneVector). c.args.connections.now.items ++ (record { start = c.args.e; v = w }) ∷ []) is))
    (side_along c.args.surface.now c.args.v sides c.args.connections.now.items c.args.e
    (along_read c.args.surface.now c.args.v c.field.result.d c.args.e c.side-side.result c.field.ensures.field is (c.if-is_along.ensures.0 refl)) are)

pub returns-else-is_along : goal.returns-else-is_along
returns-else-is_along c = λ sides are.
    let is = vector_read c.args.surface.now c.args.v c.args.e c.side-side.result c.requires.there c.side-side.ensures in
    side_across c.args.surface.now c.args.v sides c.args.connections.now.items c.args.e
    (λ along. let t = c.if-is_along.ensures.1 (along_back c.args.surface.now c.args.v c.field.result.d c.args.e c.side-side.result c.field.ensures.field is along) in cc) are
