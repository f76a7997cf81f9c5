-- Side after side, the lines of one rectangle are added.
use Rattle.std.proofs.Common.{◌++◌, ◌∷◌, [], ap, ◌∙◌}
use Rattle.fs_workload.specs.Staircase.{lines_of}
use Rattle.fs_workload.proofs.LinesInTurn.{lines_side}
use Rattle.fs_workload.proofs.gluings.glue_rectangle.Goals as goal

pub loop-side-preserved : goal.loop-side-preserved
loop-side-preserved c =
    c.in_ok-glue_side.ensures ∙ ap (λ corner. c.loop-side.lines ++ lines_of c.args.k (corner ∷ [])) c.new.ensures
    ∙ ap (λ lines. lines ++ lines_of c.args.k (record { polygon = c.args.i; side = c.loop-side.side } ∷ [])) c.loop-side.invariant
    ∙ lines_side c.args.k c.args.i c.loop-side.side c.args.lines.now
