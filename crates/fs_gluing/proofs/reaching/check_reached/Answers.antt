-- The marks are read in the order of the polygons.
use Rattle.std.proofs.Common.{inr}
use Rattle.fs_gluing.proofs.Gluing.Search.{reached_none, reached_more, apart_first}
use Rattle.fs_gluing.proofs.reaching.check_reached.Goals as goal

pub loop-i-init : goal.loop-i-init
loop-i-init c = reached_none c.args.polygons.now

pub loop-i-preserved : goal.loop-i-preserved
loop-i-preserved c = reached_more _ _ _ _ c.in_ok-reached.ensures c.deref-is_reached-items.ensures.value c.loop-i-test.true c.if-not-is_reached.false c.loop-i.invariant

pub returns-then-not-is_reached-clause-failed : goal.returns-then-not-is_reached-clause-failed
returns-then-not-is_reached-clause-failed c =
    inr (apart_first _ _ _ _ c.in_ok-reached.ensures c.deref-is_reached-items.ensures.value c.loop-i-test.true c.if-not-is_reached.true c.loop-i.invariant)
