-- Stage after stage.
use Rattle.std.proofs.Common.{Ok, Err, refl, arith}
use Rattle.fs_lists.proofs.Results.{at_exit}
use Rattle.fs_components.specs.Flows.{EndsFlow, ReturnsFlow}
use Rattle.fs_components.proofs.ExchangeStates.{given_sizes}
use Rattle.fs_components.proofs.FlowEnds.{run_read, run_with, exchange_ended, run_ended, is_run, connections_ended, parts_ended, flow_ended}
use Rattle.fs_components.proofs.FlowMeans.{flow_means}
use Rattle.fs_components.proofs.FlowUnique.{flow_returned}
use Rattle.fs_components.proofs.flow.find_flow.Goals as goal

pub returns-in_err-exchange-clause-flow : goal.returns-in_err-exchange-clause-flow
returns-in_err-exchange-clause-flow c =
    at_exit (ReturnsFlow (EndsFlow c.args.surface.now c.args.v c.args.budget)) c.from_residual.result c.in_err-exchange.field-0.0 c.from_residual.ensures.1
    (exchange_ended c.args.surface.now c.args.v c.args.budget c.in_err-exchange.field-0.0 c.in_err-exchange.ensures.exchange)

pub returns-in_err-exchange-clause-only : goal.returns-in_err-exchange-clause-only
returns-in_err-exchange-clause-only c =
    flow_returned c.args.surface.now c.args.v c.args.budget c.field.ensures.surface c.requires.direction c.from_residual.result (returns-in_err-exchange-clause-flow c)

pub returns-in_err-run-clause-flow : goal.returns-in_err-run-clause-flow
returns-in_err-run-clause-flow c =
    at_exit (ReturnsFlow (EndsFlow c.args.surface.now c.args.v c.args.budget)) c.from_residual-in_err-run.result c.in_err-run.field-0.0 c.from_residual-in_err-run.ensures.1
    (run_ended c.args.surface.now c.args.v c.args.budget c.in_ok-exchange.exchange.component c.in_ok-exchange.ensures.exchange c.in_err-run.field-0.0
    (run_read c.in-Ok.state.d c.in-Ok.state.components c.args.surface.now.d c.args.budget c.in_ok-exchange.exchange.component c.in_ok-exchange.exchange.d (Err c.in_err-run.field-0.0) c.in-Ok.ensures.field c.in_ok-exchange.ensures.field c.in-Ok.ensures.components
    c.in_err-run.ensures.run))

pub returns-in_err-run-clause-only : goal.returns-in_err-run-clause-only
returns-in_err-run-clause-only c =
    flow_returned c.args.surface.now c.args.v c.args.budget c.field.ensures.surface c.requires.direction c.from_residual-in_err-run.result (returns-in_err-run-clause-flow c)

pub list_connections-requires-clause-run : goal.list_connections-requires-clause-run
list_connections-requires-clause-run c =
    let h = run_read c.in-Ok.state.d c.in-Ok.state.components c.args.surface.now.d c.args.budget c.in_ok-exchange.exchange.component c.in_ok-exchange.exchange.d (Ok c.in_ok-run.run') c.in-Ok.ensures.field c.in_ok-exchange.ensures.field c.in-Ok.ensures.components c.in_ok-run.ensures.run in
    (run_with c.in_ok-run.run' h.0, is_run c.args.surface.now c.args.v c.args.budget c.in_ok-exchange.exchange.component c.in_ok-exchange.ensures.exchange (run_with c.in_ok-run.run' h.0) h.1, refl)

pub returns-in_err-connections-clause-flow : goal.returns-in_err-connections-clause-flow
returns-in_err-connections-clause-flow c =
    let h = run_read c.in-Ok.state.d c.in-Ok.state.components c.args.surface.now.d c.args.budget c.in_ok-exchange.exchange.component c.in_ok-exchange.exchange.d (Ok c.in_ok-run.run') c.in-Ok.ensures.field c.in_ok-exchange.ensures.field c.in-Ok.ensures.components c.in_ok-run.ensures.run in
    at_exit (ReturnsFlow (EndsFlow c.args.surface.now c.args.v c.args.budget)) c.from_residual-in_err-connections.result c.in_err-connections.field-0.0 c.from_residual-in_err-connections.ensures.1
    (connections_ended c.args.surface.now c.args.v c.args.budget c.in_ok-exchange.exchange.component c.in_ok-exchange.ensures.exchange (run_with c.in_ok-run.run' h.0) h.1 c.in_err-connections.field-0.0 c.in_err-connections.ensures.list)

pub returns-in_err-connections-clause-only : goal.returns-in_err-connections-clause-only
returns-in_err-connections-clause-only c =
    flow_returned c.args.surface.now c.args.v c.args.budget c.field.ensures.surface c.requires.direction c.from_residual-in_err-connections.result (returns-in_err-connections-clause-flow c)

pub measure_parts-requires-clause-short : goal.measure_parts-requires-clause-short
measure_parts-requires-clause-short c =
    let h = run_read c.in-Ok.state.d c.in-Ok.state.components c.args.surface.now.d c.args.budget c.in_ok-exchange.exchange.component c.in_ok-exchange.exchange.d (Ok c.in_ok-run.run') c.in-Ok.ensures.field c.in_ok-exchange.ensures.field c.in-Ok.ensures.components c.in_ok-run.ensures.run in
    (given_sizes c.args.surface.now c.field.ensures.surface c.args.v c.requires.direction c.in_ok-exchange.exchange.component c.in_ok-exchange.ensures.exchange c.args.budget (run_with c.in_ok-run.run' h.0) h.1).1

pub measure_parts-requires-clause-few : goal.measure_parts-requires-clause-few
measure_parts-requires-clause-few c =
    let h = run_read c.in-Ok.state.d c.in-Ok.state.components c.args.surface.now.d c.args.budget c.in_ok-exchange.exchange.component c.in_ok-exchange.exchange.d (Ok c.in_ok-run.run') c.in-Ok.ensures.field c.in_ok-exchange.ensures.field c.in-Ok.ensures.components c.in_ok-run.ensures.run in
    let few = (given_sizes c.args.surface.now c.field.ensures.surface c.args.v c.requires.direction c.in_ok-exchange.exchange.component c.in_ok-exchange.ensures.exchange c.args.budget (run_with c.in_ok-run.run' h.0) h.1).0 in omega arith

pub returns-in_err-parts-clause-flow : goal.returns-in_err-parts-clause-flow
returns-in_err-parts-clause-flow c =
    let h = run_read c.in-Ok.state.d c.in-Ok.state.components c.args.surface.now.d c.args.budget c.in_ok-exchange.exchange.component c.in_ok-exchange.exchange.d (Ok c.in_ok-run.run') c.in-Ok.ensures.field c.in_ok-exchange.ensures.field c.in-Ok.ensures.components c.in_ok-run.ensures.run in
    at_exit (ReturnsFlow (EndsFlow c.args.surface.now c.args.v c.args.budget)) c.from_residual-in_err-parts.result c.in_err-parts.field-0.0 c.from_residual-in_err-parts.ensures.1
    (parts_ended c.args.surface.now c.args.v c.args.budget c.in_ok-exchange.exchange.component c.in_ok-exchange.ensures.exchange (run_with c.in_ok-run.run' h.0) h.1 c.in_ok-connections.connections c.in_ok-connections.ensures.list c.in_err-parts.field-0.0 c.in_err-parts.ensures.stops)

pub returns-in_err-parts-clause-only : goal.returns-in_err-parts-clause-only
returns-in_err-parts-clause-only c =
    flow_returned c.args.surface.now c.args.v c.args.budget c.field.ensures.surface c.requires.direction c.from_residual-in_err-parts.result (returns-in_err-parts-clause-flow c)

pub returns-clause-flow : goal.returns-clause-flow
returns-clause-flow c =
    let h = run_read c.in-Ok.state.d c.in-Ok.state.components c.args.surface.now.d c.args.budget c.in_ok-exchange.exchange.component c.in_ok-exchange.exchange.d (Ok c.in_ok-run.run') c.in-Ok.ensures.field c.in_ok-exchange.ensures.field c.in-Ok.ensures.components c.in_ok-run.ensures.run in
    flow_ended c.args.surface.now c.args.v c.args.budget c.in_ok-exchange.exchange.component c.in_ok-exchange.ensures.exchange (run_with c.in_ok-run.run' h.0) h.1 c.in_ok-connections.connections c.in_ok-connections.ensures.list c.in_ok-parts.parts c.in_ok-parts.ensures.measured

pub returns-clause-only : goal.returns-clause-only
returns-clause-only c =
    flow_returned c.args.surface.now c.args.v c.args.budget c.field.ensures.surface c.requires.direction (Ok (record { connections = c.in_ok-connections.connections; parts = c.in_ok-parts.parts; steps = c.in_ok-run.run'.steps })) (returns-clause-flow c)

pub returns-clause-means : goal.returns-clause-means
returns-clause-means c =
    flow_means c.args.surface.now c.field.ensures.surface c.args.v c.requires.direction c.args.budget
    (record { connections = c.in_ok-connections.connections; parts = c.in_ok-parts.parts; steps = c.in_ok-run.run'.steps }) (returns-clause-flow c)
