-- The answer of the job's shape, or why its table isn't unfolded.
use Rattle.std.proofs.Common.{Ok, Err, ap, subst}
use Rattle.fs_unfold.specs.Unfolding.{EndsUnfolding, ReturnsUnfolding}
use Rattle.fs_job.specs.Reading.{job_draft, form_table}
use Rattle.fs_cli.proofs.AnsweredUnique.{JobLaw}
use Rattle.fs_cli.proofs.CallWrites.{writes_commands, writes_fault, writes_returned_stop, writes_shape}
use Rattle.fs_cli.proofs.DescribedShapes.{polygons_described, table_described}
use Rattle.fs_cli.proofs.run.answer.Goals as goal

pub returns-in-Err-Fault : goal.returns-in-Err-Fault
returns-in-Err-Fault g c =
    let law : JobLaw = record { one_job = c.job_or_fault.ensures.one_job; one_fault = c.job_or_fault.ensures.one_fault; not_both = c.job_or_fault.ensures.not_both; not_neither = c.job_or_fault.ensures.not_neither } in
    writes_fault _ _ _ _ _ law c.args.budget c.args.bytes.now c.requires.few c.in-Err-Fault.field-0 c.in-Err-Fault.fault c.in-Err-Fault.field-0-is c.in-Err-Fault.ensures.fault c.refuse.ensures

pub returns-in-Polygons : goal.returns-in-Polygons
returns-in-Polygons g c =
    let law : JobLaw = record { one_job = c.job_or_fault.ensures.one_job; one_fault = c.job_or_fault.ensures.one_fault; not_both = c.job_or_fault.ensures.not_both; not_neither = c.job_or_fault.ensures.not_neither } in
    writes_shape _ _ _ _ _ law c.args.budget c.args.bytes.now c.requires.few (job_draft c.in-Ok.job) c.in-Polygons.shape c.in-Ok.ensures.job
    (polygons_described c.in-Ok.job c.in-Polygons.shape c.in-Polygons.is c.in-Ok.ensures.limits)
    (writes_commands _ _ _ _ _ c.in-Ok.job.field.d c.in-Polygons.shape c.args.budget _ _ c.as_slice-commands.ensures c.answer_shape.ensures)

pub returns-in-Ok-unfold : goal.returns-in-Ok-unfold
returns-in-Ok-unfold g c =
    let law : JobLaw = record { one_job = c.job_or_fault.ensures.one_job; one_fault = c.job_or_fault.ensures.one_fault; not_both = c.job_or_fault.ensures.not_both; not_neither = c.job_or_fault.ensures.not_neither } in
    let ends = subst (λ table. EndsUnfolding c.in-Ok.job.field.d table (Ok c.in-Ok-unfold.shape)) c.as_slice.ensures c.in-Ok-unfold.ensures.ends in
    writes_shape _ _ _ _ _ law c.args.budget c.args.bytes.now c.requires.few (job_draft c.in-Ok.job) c.in-Ok-unfold.shape c.in-Ok.ensures.job
    (table_described c.in-Ok.job c.in-Table.table c.in-Ok-unfold.shape c.in-Table.is ends)
    (writes_commands _ _ _ _ _ c.in-Ok.job.field.d c.in-Ok-unfold.shape c.args.budget _ _ c.as_slice-commands.ensures c.answer_shape-in-Ok-unfold.ensures)

pub returns : goal.returns
returns g c =
    let law : JobLaw = record { one_job = c.job_or_fault.ensures.one_job; one_fault = c.job_or_fault.ensures.one_fault; not_both = c.job_or_fault.ensures.not_both; not_neither = c.job_or_fault.ensures.not_neither } in
    let ends = subst (λ table. ReturnsUnfolding (EndsUnfolding c.in-Ok.job.field.d table) (Err c.in-Err.stop)) c.as_slice.ensures c.in-Err.ensures.ends in
    writes_returned_stop _ _ _ _ _ law c.args.budget c.args.bytes.now c.requires.few (job_draft c.in-Ok.job) c.in-Table.table c.in-Err.stop c.in-Ok.ensures.job (ap form_table c.in-Table.is) ends c.write_stop.ensures
