use Rattle.std.proofs.Common.{refl}
use Rattle.fs_job.specs.Draft.{senseless}
use Rattle.fs_job.proofs.Additions.{adds_field}
use Rattle.fs_job.proofs.drafts.begin.Goals as goal

pub returns-in-Ok : goal.returns-in-Ok
returns-in-Ok c = rw c.in-Field.is (adds_field c.args.number c.in-Field.d c.in-Ok.field.d _ c.in-Ok.field.radicand c.in-Ok.ensures.field c.new-in-Ok.ensures)

pub returns-in-Err : goal.returns-in-Err
returns-in-Err c = rw c.in-Field.is (senseless _ tt tt tt (c.in-Err.ensures.bad.0 refl, refl) refl)
