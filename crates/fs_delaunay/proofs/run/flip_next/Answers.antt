-- The first edge that fails is flipped, or the run ends.
use Rattle.fs_lists.proofs.Results.{at_exit}
use Rattle.fs_delaunay.specs.Steps.{Steps}
use Rattle.fs_delaunay.proofs.RunSteps.{step_stops, step_spent, step_overflows, found_illegal, mesh_of_flip, suspects_of_flip}
use Rattle.fs_delaunay.proofs.run.flip_next.Goals as goal

pub returns-in_err-edge-clause-step : goal.returns-in_err-edge-clause-step
returns-in_err-edge-clause-step c =
    at_exit (Steps c.args.mesh.now c.args.edges.now c.args.budget c.args.mesh.now c.args.edges.now) c.from_residual.result c.in_err-edge.field-0.0
    c.from_residual.ensures.1
    (step_stops c.args.mesh.now c.args.edges.now c.args.budget c.len-flips.result c.len-flips.ensures c.in_err-edge.field-0.0 c.in_err-edge.ensures.found
    c.requires.within c.args.mesh.now c.args.edges.now)

pub returns-then-flips-budget-clause-step : goal.returns-then-flips-budget-clause-step
returns-then-flips-budget-clause-step c =
    step_spent c.args.mesh.now c.args.edges.now c.args.budget c.len-flips.result c.len-flips.ensures c.in_ok-edge.field-0 c.in-Some.edge c.in_ok-edge.ensures.found
    c.in-Some.is c.if-flips-budget.true

pub flip-requires-clause-illegal : goal.flip-requires-clause-illegal
flip-requires-clause-illegal c =
    found_illegal c.args.mesh.now.surface.d c.args.mesh.now.triangles c.len-flips.result c.in_ok-edge.field-0 c.in-Some.edge c.in_ok-edge.ensures.found c.in-Some.is

pub returns-in-Err-clause-step : goal.returns-in-Err-clause-step
returns-in-Err-clause-step c =
    step_overflows c.args.mesh.now c.args.edges.now c.args.budget c.len-flips.result c.len-flips.ensures c.in_ok-edge.field-0 c.in-Some.edge
    c.in_ok-edge.ensures.found c.in-Some.is c.if-flips-budget.false c.requires.within c.in-Err.field-0 c.in-Err.ensures.refused

pub suspect_hinge-requires-clause-mesh : goal.suspect_hinge-requires-clause-mesh
suspect_hinge-requires-clause-mesh c =
    mesh_of_flip c.args.mesh.now c.flip.new.self c.requires.mesh c.len-flips.result c.in_ok-edge.field-0 c.in-Some.edge c.in_ok-edge.ensures.found c.in-Some.is c.in_default-flip.ensures.flipped

pub returns-clause-mesh : goal.returns-clause-mesh
returns-clause-mesh c =
    mesh_of_flip c.args.mesh.now c.flip.new.self c.requires.mesh c.len-flips.result c.in_ok-edge.field-0 c.in-Some.edge c.in_ok-edge.ensures.found c.in-Some.is c.in_default-flip.ensures.flipped

pub returns-clause-suspects : goal.returns-clause-suspects
returns-clause-suspects c =
    suspects_of_flip c.args.mesh.now c.flip.new.self c.requires.mesh c.len-flips.result c.in_ok-edge.field-0 c.in-Some.edge c.in_ok-edge.ensures.found c.in-Some.is c.in_default-flip.ensures.flipped c.find_failing.new.suspects c.suspect_hinge.new.suspects c.find_failing.ensures.suspects c.suspect_hinge.ensures
