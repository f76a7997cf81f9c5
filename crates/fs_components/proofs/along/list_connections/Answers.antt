-- The connections are gathered, kept and sorted.
use Rattle.std.proofs.Common.{◌≤◌, Ok, List, length, subst}
use Rattle.fs_lists.proofs.Results.{at_exit}
use Rattle.fs_rauzy.specs.declared.events.Found.{Found}
use Rattle.fs_components.specs.Connections.{EndsConnections, ReturnsConnections}
use Rattle.fs_components.proofs.ConnectionsUnique.{list_returned}
use Rattle.fs_components.proofs.ExchangeStates.{given_widths, run_few}
use Rattle.fs_components.proofs.ListedConnections.{connections_read, list_stopped, list_ended}
use Rattle.fs_components.proofs.PickedSides.{few_connections}
use Rattle.fs_components.proofs.along.list_connections.Goals as goal

pub gather-requires-clause-widths : goal.gather-requires-clause-widths
gather-requires-clause-widths c = given_widths c.args.surface.now c.args.v c.requires.run.1.exchange c.requires.run.1.given

pub keep_all-requires : goal.keep_all-requires
keep_all-requires c =
    few_connections c.args.surface.now c.args.v c.args.found.now c.as_slice-2.result.now c.field-field.ensures.surface
    (connections_read c.args.surface.now c.args.v c.as_slice.result.now c.args.found.now c.in_ok-connections.connections.items c.as_slice-2.result.now c.as_slice.ensures c.as_slice-2.ensures.value c.in_ok-connections.ensures)
    (subst (λ (fs : List Found). length fs ≤ 1024) c.requires.run.2 (run_few c.args.surface.now c.field-field.ensures.surface c.args.v c.requires.direction c.requires.run.0 c.requires.run.1))

pub returns-in_err-list-clause-list : goal.returns-in_err-list-clause-list
returns-in_err-list-clause-list c =
    at_exit (ReturnsConnections (EndsConnections c.args.surface.now c.args.v c.args.found.now)) c.from_residual-in_err-list.result c.in_err-list.field-0.0 c.from_residual-in_err-list.ensures.1
    (list_stopped c.args.surface.now c.args.v c.args.found.now c.as_slice-2.result.now
    (connections_read c.args.surface.now c.args.v c.as_slice.result.now c.args.found.now c.in_ok-connections.connections.items c.as_slice-2.result.now c.as_slice.ensures c.as_slice-2.ensures.value c.in_ok-connections.ensures)
    c.in_err-list.field-0.0 c.in_err-list.ensures.stops)

pub returns-in_err-list-clause-only : goal.returns-in_err-list-clause-only
returns-in_err-list-clause-only c = list_returned c.args.surface.now c.args.v c.args.found.now c.from_residual-in_err-list.result (returns-in_err-list-clause-list c)

pub returns-clause-list : goal.returns-clause-list
returns-clause-list c =
    list_ended c.args.surface.now c.args.v c.args.found.now c.as_slice-2.result.now
    (connections_read c.args.surface.now c.args.v c.as_slice.result.now c.args.found.now c.in_ok-connections.connections.items c.as_slice-2.result.now c.as_slice.ensures c.as_slice-2.ensures.value c.in_ok-connections.ensures)
    c.field-field.result.d c.in_ok-list.list.items c.sort_unstable.new.self.items c.from_vec.result c.field-field.ensures.field c.in_ok-list.ensures.kept c.sort_unstable.ensures.permutation c.sort_unstable.ensures.sorted
    c.from_vec.ensures

pub returns-clause-only : goal.returns-clause-only
returns-clause-only c = list_returned c.args.surface.now c.args.v c.args.found.now (Ok c.from_vec.result) (returns-clause-list c)
