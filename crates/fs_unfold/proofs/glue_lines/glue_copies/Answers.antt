-- Copy after copy, all lines are added.
use Rattle.std.proofs.Common.{[], sym, subst}
use Rattle.fs_unfold.specs.InPlace.{HaveLines, sides_of_copies}
use Rattle.fs_unfold.proofs.LinesInTurn.{lines_none, copies_more}
use Rattle.fs_unfold.proofs.glue_lines.glue_copies.Goals as goal

pub loop-g-init : goal.loop-g-init
loop-g-init c =
    subst (HaveLines c.args.n c.args.products.now.list c.args.products.now.neighbours []) (sym c.new-lines.ensures) (lines_none c.args.n c.args.products.now.list c.args.products.now.neighbours)

pub loop-g-preserved : goal.loop-g-preserved
loop-g-preserved c =
    subst (λ sides. HaveLines c.args.n c.args.products.now.list c.args.products.now.neighbours sides c.glue_copy.new.lines) (copies_more c.args.n c.loop-g.g)
    (c.in_ok-glue_copy.ensures (sides_of_copies c.args.n 0 c.loop-g.g) c.loop-g.invariant)
