use Rattle.std.proofs.Common.{◌++◌}
use Rattle.std.specs.Prelude.{codes}
use Rattle.std.specs.Fmt.{decimal}
use Rattle.fs_report.proofs.DelaunayTexts.{items_written}
use Rattle.fs_report.proofs.cells.add_numbers.Goals as goal

pub loop-number-preserved : goal.loop-number-preserved
loop-number-preserved c = items_written (λ n. codes " " ++ decimal n) c.args.numbers.now c.loop-number.number-index _ _ _ _ c.loop-number-test.true c.loop-number.invariant c.in_ok-add_number.ensures
