use Rattle.fs_report.proofs.ListTexts.{commas_written}
use Rattle.fs_report.proofs.stratum.with_commas.Goals as goal

pub loop-i-preserved : goal.loop-i-preserved
loop-i-preserved c = commas_written c.args.numbers.now c.loop-i.i 0 _ _ c.loop-i-test.true c.loop-i.invariant c.in_ok-add_number.ensures
