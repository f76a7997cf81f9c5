-- A corner is cut at its first dot.
use Rattle.std.proofs.Common.{sym, subst}
use Rattle.fs_job.specs.Statement.{SpellsCorner}
use Rattle.fs_job.proofs.CornerTexts.{corner_has_dot, corner_parts, corner_of_parts}
use Rattle.fs_job.proofs.statements.corner.Goals as goal

pub returns-in_err-polygon : goal.returns-in_err-polygon
returns-in_err-polygon c = rw c.from_residual.ensures (corner_has_dot c.args.text.now c.in_err-polygon.ensures)

pub returns-in_err-numeral : goal.returns-in_err-numeral
returns-in_err-numeral c = rw c.from_residual-in_err-numeral.ensures
    (λ corner spelled. c.in_err-numeral.ensures corner.polygon (corner_parts c.args.text.now c.in_ok-polygon.polygon.now c.in_ok-polygon.side.now c.in_ok-polygon.ensures corner spelled).0)

pub returns-in_err-numeral-2 : goal.returns-in_err-numeral-2
returns-in_err-numeral-2 c = rw c.from_residual-in_err-numeral-2.ensures
    (λ corner spelled. c.in_err-numeral-2.ensures corner.side (corner_parts c.args.text.now c.in_ok-polygon.polygon.now c.in_ok-polygon.side.now c.in_ok-polygon.ensures corner spelled).1)

pub returns : goal.returns
returns c =
    subst (SpellsCorner c.args.text.now) (sym c.new.ensures)
    (corner_of_parts c.args.text.now c.in_ok-polygon.polygon.now c.in_ok-polygon.side.now c.in_ok-polygon.ensures _ c.in_ok-numeral.ensures c.in_ok-numeral-2.ensures)
