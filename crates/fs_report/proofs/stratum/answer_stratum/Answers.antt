use Rattle.fs_report.proofs.StratumText.{whole_answer, overflowed_answer}
use Rattle.fs_report.proofs.stratum.answer_stratum.Goals as goal

pub returns-in_ok-whole_text-in-Ok : goal.returns-in_ok-whole_text-in-Ok
returns-in_ok-whole_text-in-Ok c = whole_answer c.args.surface.now c.find_area.result c.in-Ok.area _ c.find_area.ensures c.in-Ok.is c.in_ok-whole_text-in-Ok.ensures

pub returns-in_ok-overflow_line-in-Err : goal.returns-in_ok-overflow_line-in-Err
returns-in_ok-overflow_line-in-Err c = overflowed_answer c.args.surface.now c.find_area.result c.in-Err.site _ c.find_area.ensures c.in-Err.is c.in_ok-overflow_line-in-Err.ensures
