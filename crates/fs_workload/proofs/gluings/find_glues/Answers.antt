-- Rectangle after rectangle, all lines are added.
use Rattle.std.proofs.Common.{◌++◌, ap, ◌∙◌}
use Rattle.fs_gluing.specs.Gluing.{sides_between}
use Rattle.fs_workload.specs.Staircase.{lines_of}
use Rattle.fs_workload.proofs.LinesInTurn.{lines_rectangle}
use Rattle.fs_workload.proofs.gluings.find_glues.Goals as goal

pub loop-i-preserved : goal.loop-i-preserved
loop-i-preserved c =
    c.in_ok-glue_rectangle.ensures ∙ ap (λ lines. lines ++ lines_of c.args.k (sides_between c.loop-i.i 0 4)) c.loop-i.invariant ∙ lines_rectangle c.args.k c.loop-i.i
