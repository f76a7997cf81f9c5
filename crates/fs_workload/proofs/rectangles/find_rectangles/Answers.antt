-- One more rectangle, by the states after its two draws.
use Rattle.std.proofs.Common.{◌≡◌, ◌+◌, ◌++◌, ◌∷◌, [], map, ap, ◌∙◌, arith}
use Rattle.std.specs.List.{range_with_len}
use Rattle.fs_workload.specs.Draws.{state_after}
use Rattle.fs_workload.specs.Staircase.{rectangle_at}
use Rattle.fs_workload.proofs.RectanglesInTurn.{rectangles_next, state_next}
use Rattle.fs_workload.proofs.rectangles.find_rectangles.Goals as goal

pub loop-i-preserved : goal.loop-i-preserved
loop-i-preserved c =
    let next = c.next_state-next.ensures ∙ state_next c.args.seed c.loop-i.i c.loop-i.state c.loop-i.invariant.0 in (
      next ∙ ap (state_after c.args.seed) (let e : c.loop-i.i + 2 ≡ c.loop-i.i + 1 + 1 = omega arith in e),
      c.in_ok-push.ensures.ok
          ∙ ap (λ polygons. polygons ++ c.in_ok-find_rectangle.field-0 ∷ []) c.loop-i.invariant.1
          ∙ ap (λ sides. map (rectangle_at c.args.seed) (range_with_len 0 c.loop-i.i) ++ sides ∷ []) (c.in_ok-find_rectangle.ensures c.args.seed c.loop-i.invariant.0 next)
          ∙ rectangles_next c.args.seed c.loop-i.i,
    )
