-- The run goes on event by event, and ends in the one way in which it can.
use Rattle.fs_lists.proofs.Results.{at_exit}
use Rattle.fs_rauzy.specs.Runs.{EndsRun, ReturnsRun}
use Rattle.std.proofs.Common.{Ok, []}
use Rattle.fs_rauzy.proofs.RunsUnderWay.{run_starts, open_here, done_here, under_way_can_go, goes_on, is_smaller, stop_returned, run_returned, ascending_returned, returned_only}
use Rattle.fs_rauzy.proofs.runs.find_run.Goals as goal

pub loop-alloc-init : goal.loop-alloc-init
loop-alloc-init c = run_starts c.args.state c.args.budget c.in_ok-progress.progress c.in_ok-progress.ensures.start

pub go-requires-clause-ready : goal.go-requires-clause-ready
go-requires-clause-ready c =
    under_way_can_go c.args.state c.args.budget c.start.ensures.radicand c.start.ensures.state [] c.loop-alloc.progress c.loop-alloc.invariant
    (open_here _ _ c.progress.view_is c.is_done.result c.loop-alloc-test.true c.is_done.ensures)

pub loop-alloc-smaller : goal.loop-alloc-smaller
loop-alloc-smaller c =
    is_smaller c.args.state c.args.budget c.start.ensures.radicand c.start.ensures.state [] c.loop-alloc.progress c.loop-alloc.invariant c.go.new.self c.in_ok-go.ensures.goes c.in_ok-go.ensures.within

pub loop-alloc-preserved : goal.loop-alloc-preserved
loop-alloc-preserved c =
    goes_on c.args.state c.args.budget c.start.ensures.radicand c.start.ensures.state [] c.loop-alloc.progress c.loop-alloc.invariant c.go.new.self c.in_ok-go.ensures.goes c.in_ok-go.ensures.within
    c.in_ok-go.ensures.field c.in_ok-go.ensures.counts

pub returns-in_err-go-clause-run : goal.returns-in_err-go-clause-run
returns-in_err-go-clause-run c =
    at_exit (ReturnsRun (EndsRun c.args.state.d c.args.budget c.args.state.components)) c.from_residual-in_err-go.result c.in_err-go.field-0.0 c.from_residual-in_err-go.ensures.1
    (stop_returned c.args.state c.args.budget c.start.ensures.radicand c.start.ensures.state [] c.loop-alloc.progress c.loop-alloc.invariant c.in_err-go.field-0.0 c.in_err-go.ensures.stops)

pub returns-in_err-go-clause-only : goal.returns-in_err-go-clause-only
returns-in_err-go-clause-only c =
    returned_only c.args.state c.args.budget c.start.ensures.radicand c.start.ensures.state c.from_residual-in_err-go.result
    (at_exit (ReturnsRun (EndsRun c.args.state.d c.args.budget c.args.state.components)) c.from_residual-in_err-go.result c.in_err-go.field-0.0 c.from_residual-in_err-go.ensures.1
    (stop_returned c.args.state c.args.budget c.start.ensures.radicand c.start.ensures.state [] c.loop-alloc.progress c.loop-alloc.invariant c.in_err-go.field-0.0 c.in_err-go.ensures.stops))

pub returns-clause-run : goal.returns-clause-run
returns-clause-run c =
    run_returned c.args.state c.args.budget c.start.ensures.radicand c.start.ensures.state c.loop-alloc.progress c.loop-alloc.invariant
    (done_here _ _ c.progress.view_is c.is_done.result c.loop-alloc-test.false c.is_done.ensures) c.finish.result c.finish.ensures

pub returns-clause-only : goal.returns-clause-only
returns-clause-only c =
    returned_only c.args.state c.args.budget c.start.ensures.radicand c.start.ensures.state (Ok c.finish.result)
    (run_returned c.args.state c.args.budget c.start.ensures.radicand c.start.ensures.state c.loop-alloc.progress c.loop-alloc.invariant
    (done_here _ _ c.progress.view_is c.is_done.result c.loop-alloc-test.false c.is_done.ensures) c.finish.result c.finish.ensures)

pub returns-clause-ascending : goal.returns-clause-ascending
returns-clause-ascending c =
    ascending_returned c.args.state c.args.budget c.start.ensures.radicand c.start.ensures.state c.loop-alloc.progress c.loop-alloc.invariant
    (done_here _ _ c.progress.view_is c.is_done.result c.loop-alloc-test.false c.is_done.ensures) c.finish.result c.finish.ensures
