-- One number more.
use Rattle.std.proofs.Common.{◌∷◌, [], ◌++◌, sym, ap, ◌∙◌}
use Rattle.fs_rauzy.proofs.ListsSoFar.{range_more}
use Rattle.fs_rauzy.proofs.rows.read_top.Goals as goal

pub loop-n-preserved : goal.loop-n-preserved
loop-n-preserved c = c.in_ok-push.ensures.items ∙ ap (λ row. row ++ c.loop-n.n ∷ []) c.loop-n.invariant ∙ sym (range_more c.loop-n.n)
