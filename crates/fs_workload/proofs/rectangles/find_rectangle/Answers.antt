-- The first of both numbers is the width where i is even, else the height.
use Rattle.std.proofs.Common.{◌≡◌, ℕ, ap, ◌∙◌}
use Rattle.fs_workload.specs.Draws.{number_of}
use Rattle.fs_workload.specs.Staircase.{rectangle}
use Rattle.fs_workload.proofs.RectanglesInTurn.{value_holds, rectangle_even, rectangle_odd}
use Rattle.fs_workload.proofs.rectangles.find_rectangle.Goals.{then-i-eq0, else-i-eq0}
use Rattle.fs_workload.proofs.rectangles.find_rectangle.Goals as goal

made : (c : goal.After-rectangle) (w : ℕ × ℕ) → c.if-i-eq0.width ≡ w → rectangle c.number_of.result c.number_of-2.result ≡ rectangle (number_of w.0) (number_of w.1)
made c w is =
    ap (λ x. rectangle x c.number_of-2.result) c.number_of.ensures ∙ ap (rectangle (number_of c.if-i-eq0.width.0)) c.number_of-2.ensures
    ∙ ap (λ (p : ℕ × ℕ). rectangle (number_of p.0) (number_of p.1)) is

pub returns : goal.returns
returns c =
    value_holds c.rectangle.result (rectangle c.number_of.result c.number_of-2.result) _ c.rectangle.ensures
    (λ seed first second. elim c.if-i-eq0.branch [
      | then-i-eq0 w ↦ made c (c.args.state, c.args.next) w.width-is ∙ rectangle_even seed c.args.i c.args.state c.args.next first second w.if-i-eq0.true
      | else-i-eq0 w ↦ made c (c.args.next, c.args.state) w.width-is ∙ rectangle_odd seed c.args.i c.args.state c.args.next first second w.if-i-eq0.false
    ])
