use Rattle.fs_job.proofs.JobLines.{job_unique, fault_unique, not_both, not_neither}
use Rattle.fs_job.proofs.laws.job_or_fault.Goals as goal

pub returns : goal.returns
returns c = record { one_job = job_unique; one_fault = fault_unique; not_both = not_both; not_neither = not_neither }
