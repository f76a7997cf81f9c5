use Rattle.fs_plane.proofs.FormulaLaws.{dot_given}
use Rattle.fs_plane.proofs.formulas.dot.Goals as goal

pub returns-clause-value : goal.returns-clause-value
returns-clause-value c = dot_given 0 c.args.field.d c.args.a c.args.b c.dot_after.result c.dot_after.ensures
