-- Side after side is added.
use Rattle.std.proofs.Common.{◌∷◌, [], ◌++◌, refl, sym, ap, ◌∙◌, subst, arith}
use Rattle.std.proofs.lemmas.List.{append-nil}
use Rattle.fs_plane.specs.declared.corners.Corner.{Corner}
use Rattle.fs_gluing.specs.Gluing.{sides_between}
use Rattle.fs_iet.proofs.SidesListed.{sides_more, sides_counted}
use Rattle.fs_components.specs.Gathering.{AreSidesAlong}
use Rattle.fs_components.proofs.along.push_sides.Goals as goal

pub loop-j-init : goal.loop-j-init
loop-j-init c = λ sides are. subst (λ xs. AreSidesAlong c.args.surface.now c.args.v xs c.args.connections.now.items) (sym (append-nil sides)) are

pub loop-j-preserved : goal.loop-j-preserved
loop-j-preserved c = λ sides are.
    subst (λ xs. AreSidesAlong c.args.surface.now c.args.v xs c.push_side.new.connections.items)
    (ap (λ (e : Corner). (sides ++ sides_between c.args.i 0 c.loop-j.j) ++ e ∷ []) c.new.ensures ∙ sides_more sides (sides ++ sides_between c.args.i 0 c.loop-j.j) c.args.i c.loop-j.j refl)
    (c.in_ok-push_side.ensures (sides ++ sides_between c.args.i 0 c.loop-j.j) (c.loop-j.invariant sides are))

pub returns : goal.returns
returns c = λ sides are.
    subst (λ xs. AreSidesAlong c.args.surface.now c.args.v xs c.loop-j.connections.items)
    (sides_counted c.args.surface.now.polygons sides (sides ++ sides_between c.args.i 0 c.loop-j.j) c.args.i c.loop-j.j c.sides-j-end.result c.requires.there c.sides-j-end.ensures (omega arith) refl)
    (c.loop-j.invariant sides are)
