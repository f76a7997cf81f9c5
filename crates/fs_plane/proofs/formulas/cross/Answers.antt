use Rattle.fs_plane.proofs.FormulaLaws.{cross_given}
use Rattle.fs_plane.proofs.formulas.cross.Goals as goal

pub returns-clause-value : goal.returns-clause-value
returns-clause-value c = cross_given 0 c.args.field.d c.args.a c.args.b c.cross_after.result c.cross_after.ensures
