-- A text without a stroke is read as a whole number.
use Rattle.std.proofs.Common.{rules, refl}
use Rattle.fs_fraction.specs.declared.number.NumberFault.TheVariants.{BadNumber}
use Rattle.fs_job.specs.Draft.{whole_number, bad_text, with_denominator}
use Rattle.fs_job.proofs.NumberTexts.{bad_whole}
use Rattle.fs_job.proofs.arguments.read_whole.Goals as goal

pub returns-in-Ok-clause-fault : goal.returns-in-Ok-clause-fault
returns-in-Ok-clause-fault c = (BadNumber, bad_whole c.args.text.now BadNumber (with_denominator c.in-Ok.field-0 c.in-Ok.ensures.read (search (rules, c.if-contains.ensures))), refl)

pub returns-in-Ok-2-clause-whole : goal.returns-in-Ok-2-clause-whole
returns-in-Ok-2-clause-whole c = (c.in-Ok.field-0, whole_number c.in-Ok.field-0 c.in-Ok.ensures.read (search (rules, c.if-contains.ensures)), c.num.ensures)

pub returns-in-Err-clause-fault : goal.returns-in-Err-clause-fault
returns-in-Err-clause-fault c = (c.in-Err.fault, bad_whole c.args.text.now c.in-Err.fault (bad_text c.in-Err.fault c.in-Err.ensures.read), c.number_fault.ensures)
