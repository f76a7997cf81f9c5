-- Connection after connection is kept, up to the first that can't be.
use Rattle.std.proofs.Common.{IfErr, refl, sym, subst, arith}
use Rattle.std.proofs.lemmas.List.{take_all}
use Rattle.fs_lists.proofs.Results.{at_exit}
use Rattle.fs_components.specs.Gathering.{AreKept, StopsKeeping}
use Rattle.fs_components.proofs.KeptConnections.{kept_none, kept_next, stops_next}
use Rattle.fs_components.proofs.along.keep_all.Goals as goal

pub returns-in_err-keep_next-clause-stops : goal.returns-in_err-keep_next-clause-stops
returns-in_err-keep_next-clause-stops c =
    at_exit (λ r. IfErr r (StopsKeeping c.args.connections.now)) c.from_residual.result c.in_err-keep_next.field-0.0 c.from_residual.ensures.1
    (stops_next c.args.field.d c.args.connections.now c.loop-n.n c.index-connections-n.result (record { inside = c.loop-n-test.true; is = c.index-connections-n.is }) c.loop-n.n c.in_err-keep_next.field-0.0 refl
    c.loop-n.invariant.keepable c.in_err-keep_next.ensures.stops)

pub loop-n-init : goal.loop-n-init
loop-n-init c = subst (AreKept c.args.field.d _) (sym c.new-list.ensures.items) (kept_none c.args.field.d)

pub loop-n-preserved : goal.loop-n-preserved
loop-n-preserved c =
    kept_next c.args.field.d c.args.connections.now c.loop-n.n c.index-connections-n.result (record { inside = c.loop-n-test.true; is = c.index-connections-n.is }) c.loop-n.list.items c.keep_next.new.list.items
    c.in_ok-keep_next.ensures.kept c.loop-n.invariant

pub returns-clause-kept : goal.returns-clause-kept
returns-clause-kept c =
    subst (λ xs. AreKept c.args.field.d xs c.loop-n.list.items) (take_all c.loop-n.n c.args.connections.now (omega arith)) c.loop-n.invariant
