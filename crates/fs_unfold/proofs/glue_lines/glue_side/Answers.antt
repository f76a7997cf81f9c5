-- A side with its line, or without.
use Rattle.std.proofs.Common.{◌∷◌, [], ◌++◌, sym, ◌∙◌, subst, arith}
use Rattle.fs_unfold.specs.InPlace.{HaveLines}
use Rattle.fs_unfold.proofs.LinesInTurn.{lines_next, lines_same, whole_few}
use Rattle.fs_unfold.proofs.glue_lines.glue_side.Goals as goal

pub overflow_cast-g : goal.overflow_cast-g
overflow_cast-g c =
    let few = whole_few c.args.n c.args.products.now.list c.args.products.now.neighbours c.requires.whole in
    let there = c.requires.there in
    record { fits = omega (arith, few, there) }

pub returns-in_ok-push : goal.returns-in_ok-push
returns-in_ok-push c = λ sides are.
    subst (HaveLines c.args.n c.args.products.now.list c.args.products.now.neighbours (sides ++ record { polygon = c.args.g; side = c.args.side } ∷ []))
    (sym (c.in_ok-push.ensures.ok ∙ (λ i. c.args.lines.now ++ record { line = 0; one = c.new.ensures i; two = c.new-then-g-other.ensures i } ∷ [])))
    (lines_next c.args.n c.args.products.now.list c.args.products.now.neighbours sides c.args.lines.now are c.args.g c.args.side c.neighbour-other.result c.requires.inside c.neighbour-other.ensures.noted c.if-g-other.true)

pub returns-else-g-other : goal.returns-else-g-other
returns-else-g-other c = λ sides are.
    lines_same c.args.n c.args.products.now.list c.args.products.now.neighbours sides c.args.lines.now are c.args.g c.args.side c.neighbour-other.result c.requires.inside c.neighbour-other.ensures.noted c.if-g-other.false
