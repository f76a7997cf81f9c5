use Rattle.fs_report.proofs.DelaunayTexts.{entry_written}
use Rattle.fs_report.proofs.saddles.add_entry.Goals as goal

pub returns : goal.returns
returns c = entry_written _ _ _ _ _ _ c.start-start.ensures c.in_ok-v.ensures c.in_ok-write.ensures.bytes
