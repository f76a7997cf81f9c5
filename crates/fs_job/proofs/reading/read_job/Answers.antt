use Rattle.fs_job.proofs.SoundDrafts.{directions_read}
use Rattle.fs_job.proofs.ReadResults.{job_returned, fault_returned}
use Rattle.fs_job.proofs.reading.read_job.Goals as goal

pub returns-clause-read : goal.returns-clause-read
returns-clause-read c = job_returned c.args.bytes.now c.read_lines.result c.read_lines.ensures.job c.read_lines.ensures.fault

pub returns-clause-directions : goal.returns-clause-directions
returns-clause-directions c = directions_read c.args.bytes.now c.read_lines.result c.read_lines.ensures.job

pub returns-clause-faulted : goal.returns-clause-faulted
returns-clause-faulted c = fault_returned c.args.bytes.now c.read_lines.result c.read_lines.ensures.job c.read_lines.ensures.fault
