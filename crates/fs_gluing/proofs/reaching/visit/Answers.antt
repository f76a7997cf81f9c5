-- The sides are visited one after another.
use Rattle.std.proofs.Common.{◌∙◌, ap}
use Rattle.fs_gluing.proofs.Gluing.Search.{visit_seen, visit_new}
use Rattle.fs_gluing.proofs.reaching.visit.Goals as goal
use Rattle.fs_gluing.proofs.reaching.visit.Goals.{then-not-index+in_ok-push, else-not-index}

pub loop-side-preserved : goal.loop-side-preserved
loop-side-preserved c = elim c.if-not-index.branch [
  | then-not-index+in_ok-push w ↦ visit_new c.args.sides.now c.loop-side.side-index c.side-item.result c.args.reached.now.items c.loop-side.reached.items c.if-not-index.reached.items
      c.args.waiting.now.items c.loop-side.waiting.items c.if-not-index.waiting.items c.index.result.now c.requires c.loop-side-test.true c.side-item.is c.loop-side.invariant c.index.ensures
      w.if-not-index.true (ap (λ v. v.items) w.reached-is) (ap (λ v. v.items) w.waiting-is ∙ w.in_ok-push.ensures.items)
  | else-not-index w ↦ visit_seen c.args.sides.now c.loop-side.side-index c.side-item.result c.args.reached.now.items c.loop-side.reached.items c.if-not-index.reached.items
      c.args.waiting.now.items c.loop-side.waiting.items c.if-not-index.waiting.items c.index.result.now c.requires c.loop-side-test.true c.side-item.is c.loop-side.invariant c.index.ensures
      w.if-not-index.false (ap (λ v. v.items) w.reached-is) (ap (λ v. v.items) w.waiting-is)
]
