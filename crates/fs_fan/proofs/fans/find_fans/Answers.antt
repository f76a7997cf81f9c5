-- The search goes from half-edge to half-edge, and ends in the one way in which it can.
use Rattle.std.proofs.Common.{◌≡◌, Ok, length, sym, subst, arith}
use Rattle.fs_lists.proofs.Results.{at_exit}
use Rattle.fs_quadratic.proofs.Laws.{field_order}
use Rattle.fs_fan.specs.Search.{EndsSearch, ReturnsSearch}
use Rattle.fs_fan.specs.Searching.{Searches}
use Rattle.fs_fan.proofs.SearchStates.{search_starts}
use Rattle.fs_fan.proofs.SearchEnds.{ends_whole, are_found, stop_returned}
use Rattle.fs_fan.proofs.EndsUnique.{returned_unique}
use Rattle.fs_fan.proofs.FoundSegments.{found_segments, found_once}
use Rattle.fs_fan.proofs.fans.find_fans.Goals as goal

pub loop-h-init : goal.loop-h-init
loop-h-init c = (
  subst (λ es. Searches c.args.mesh.now.surface.d c.args.mesh.now.triangles c.args.bound 0 es c.new.result 0) (sym c.new-stack.ensures.items)
      (subst (λ found. Searches c.args.mesh.now.surface.d c.args.mesh.now.triangles c.args.bound 0 _ found 0) (sym c.new.ensures)
      (search_starts c.args.mesh.now.surface.d c.args.mesh.now.triangles c.args.bound)),
  c.new-stack.ensures.items,
  omega arith,
)

pub returns-in_err-find_fan-clause-only : goal.returns-in_err-find_fan-clause-only
returns-in_err-find_fan-clause-only c =
    returned_unique c.args.mesh.now.surface.d c.args.mesh.now.triangles c.args.bound c.args.budget c.from_residual.result
    (at_exit (ReturnsSearch (EndsSearch c.args.mesh.now.surface.d c.args.mesh.now.triangles c.args.bound c.args.budget)) c.from_residual.result c.in_err-find_fan.field-0.0 c.from_residual.ensures.1
    (stop_returned c.args.mesh.now.surface.d c.args.mesh.now.triangles c.args.bound c.args.budget c.in_err-find_fan.field-0.0 c.in_err-find_fan.ensures.stops))

pub returns-clause-search : goal.returns-clause-search
returns-clause-search c =
    let mesh = c.half_edges-h-end.ensures.mesh in
    let past = c.loop-h-test.false in
    let end = c.loop-h.auto.h-end in
    let count = c.half_edges-h-end.ensures.half_edges in
    let all : c.loop-h.h ≡ length c.args.mesh.now.triangles.vectors = omega (arith, past, end, count) in
    ends_whole mesh.surface.radicand c.args.mesh.now.triangles mesh.triangulation.triangles c.args.bound c.args.budget c.loop-h.h c.loop-h.stack.items c.loop-h.fans.found c.loop-h.fans.live
    c.loop-h.invariant.0 c.loop-h.invariant.1 all c.loop-h.invariant.2

pub returns-clause-only : goal.returns-clause-only
returns-clause-only c =
    let mesh = c.half_edges-h-end.ensures.mesh in
    let past = c.loop-h-test.false in
    let end = c.loop-h.auto.h-end in
    let count = c.half_edges-h-end.ensures.half_edges in
    let all : c.loop-h.h ≡ length c.args.mesh.now.triangles.vectors = omega (arith, past, end, count) in
    returned_unique c.args.mesh.now.surface.d c.args.mesh.now.triangles c.args.bound c.args.budget (Ok c.loop-h.fans)
    (ends_whole mesh.surface.radicand c.args.mesh.now.triangles mesh.triangulation.triangles c.args.bound c.args.budget c.loop-h.h c.loop-h.stack.items c.loop-h.fans.found c.loop-h.fans.live
    c.loop-h.invariant.0 c.loop-h.invariant.1 all c.loop-h.invariant.2)

pub returns-clause-segments : goal.returns-clause-segments
returns-clause-segments c =
    let mesh = c.half_edges-h-end.ensures.mesh in
    let past = c.loop-h-test.false in
    let end = c.loop-h.auto.h-end in
    let count = c.half_edges-h-end.ensures.half_edges in
    let all : c.loop-h.h ≡ length c.args.mesh.now.triangles.vectors = omega (arith, past, end, count) in
    found_segments (field_order mesh.surface.radicand) c.args.mesh.now.triangles mesh.triangulation.triangles c.args.bound c.loop-h.fans.found
    (are_found mesh.surface.radicand c.args.mesh.now.triangles mesh.triangulation.triangles c.args.bound c.args.budget c.loop-h.h c.loop-h.stack.items c.loop-h.fans.found c.loop-h.fans.live
    c.loop-h.invariant.0 c.loop-h.invariant.1 all)

pub returns-clause-once : goal.returns-clause-once
returns-clause-once c =
    let mesh = c.half_edges-h-end.ensures.mesh in
    let past = c.loop-h-test.false in
    let end = c.loop-h.auto.h-end in
    let count = c.half_edges-h-end.ensures.half_edges in
    let all : c.loop-h.h ≡ length c.args.mesh.now.triangles.vectors = omega (arith, past, end, count) in
    found_once (field_order mesh.surface.radicand) c.args.mesh.now.triangles mesh.triangulation.triangles c.args.bound c.loop-h.fans.found
    (are_found mesh.surface.radicand c.args.mesh.now.triangles mesh.triangulation.triangles c.args.bound c.args.budget c.loop-h.h c.loop-h.stack.items c.loop-h.fans.found c.loop-h.fans.live
    c.loop-h.invariant.0 c.loop-h.invariant.1 all)
