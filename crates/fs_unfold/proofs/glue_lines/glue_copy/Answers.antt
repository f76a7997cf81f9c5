-- Side after side, the lines of one copy are added.
use Rattle.std.proofs.Common.{◌++◌, sym, subst}
use Rattle.std.proofs.lemmas.List.{append-nil}
use Rattle.fs_gluing.specs.Gluing.{sides_between}
use Rattle.fs_unfold.specs.InPlace.{HaveLines}
use Rattle.fs_unfold.proofs.LinesInTurn.{sides_more}
use Rattle.fs_unfold.proofs.glue_lines.glue_copy.Goals as goal

pub loop-side-init : goal.loop-side-init
loop-side-init c = λ sides are. subst (λ xs. HaveLines c.args.n c.args.products.now.list c.args.products.now.neighbours xs c.args.lines.now) (sym (append-nil sides)) are

pub loop-side-preserved : goal.loop-side-preserved
loop-side-preserved c = λ sides are.
    subst (λ xs. HaveLines c.args.n c.args.products.now.list c.args.products.now.neighbours xs c.glue_side.new.lines) (sides_more sides c.args.g c.loop-side.side)
    (c.in_ok-glue_side.ensures (sides ++ sides_between c.args.g 0 c.loop-side.side) (c.loop-side.invariant sides are))
