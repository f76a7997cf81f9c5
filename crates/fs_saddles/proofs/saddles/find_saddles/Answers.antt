-- The stages of a saddle list: its bound, the search, the rays that are kept, and their order.
use Rattle.std.proofs.Common.{◌≡◌, Ok, Err, length, ap, ◌∙◌, subst, arith}
use Rattle.fs_lists.specs.Members.{IsIn}
use Rattle.fs_lists.proofs.Results.{at_exit}
use Rattle.fs_saddles.specs.Saddles.{EndsSaddles, ReturnsSaddles, scaled_bound}
use Rattle.fs_saddles.specs.WholeLists.{IsSaddleListOf}
use Rattle.fs_saddles.proofs.WholeLists.{whole_list}
use Rattle.fs_saddles.specs.Keeping.{AreKeptAs, BoundStops, StopsKeeping}
use Rattle.fs_saddles.proofs.EndsUnique.{returned_unique}
use Rattle.fs_saddles.proofs.FoundRays.{few_found, found_keepable}
use Rattle.fs_saddles.proofs.SaddleLists.{sorted_of, bound_stopped, search_stopped, keep_stopped, all_listed, saddles_listed}
use Rattle.fs_saddles.proofs.saddles.find_saddles.Goals as goal

pub returns-in_err-bound-clause-saddles : goal.returns-in_err-bound-clause-saddles
returns-in_err-bound-clause-saddles c =
    at_exit (ReturnsSaddles (EndsSaddles c.args.delaunay.now.mesh c.args.limit c.args.budget)) c.from_residual.result c.in_err-bound.field-0.0 c.from_residual.ensures.1
    (bound_stopped c.args.delaunay.now.mesh c.args.limit c.args.budget c.in_err-bound.field-0.0
    (subst (λ s. BoundStops s.d s.den c.args.limit c.in_err-bound.field-0.0) (c.surface.ensures ∙ ap (λ m. m.surface) c.mesh-mesh.ensures.mesh) c.in_err-bound.ensures.stops))

pub returns-in_err-bound-clause-only : goal.returns-in_err-bound-clause-only
returns-in_err-bound-clause-only c = returned_unique c.args.delaunay.now.mesh c.args.limit c.args.budget c.from_residual.result (returns-in_err-bound-clause-saddles c)

pub returns-in_err-fans-clause-saddles : goal.returns-in_err-fans-clause-saddles
returns-in_err-fans-clause-saddles c =
    at_exit (ReturnsSaddles (EndsSaddles c.args.delaunay.now.mesh c.args.limit c.args.budget)) c.from_residual-in_err-fans.result c.in_err-fans.field-0.0 c.from_residual-in_err-fans.ensures.1
    (subst (λ m. ReturnsSaddles (EndsSaddles m c.args.limit c.args.budget) (Err c.in_err-fans.field-0.0)) c.mesh-mesh.ensures.mesh
    (search_stopped c.mesh-mesh.result.now c.args.limit c.args.budget c.in_ok-bound.bound
    (subst (λ s. scaled_bound s.d s.den c.args.limit ≡ Ok c.in_ok-bound.bound) c.surface.ensures c.in_ok-bound.ensures.bound) c.in_err-fans.field-0.0 c.in_err-fans.ensures.search))

pub returns-in_err-fans-clause-only : goal.returns-in_err-fans-clause-only
returns-in_err-fans-clause-only c = returned_unique c.args.delaunay.now.mesh c.args.limit c.args.budget c.from_residual-in_err-fans.result (returns-in_err-fans-clause-saddles c)

pub keep_rays-requires-clause-keepable : goal.keep_rays-requires-clause-keepable
keep_rays-requires-clause-keepable c =
    found_keepable c.mesh-mesh.result.now c.half_edges.ensures.mesh c.in_ok-bound.bound c.as_slice.result.now
    (λ ray h. (c.in_ok-fans.ensures.segments ray.half_edge ray.v).0 (subst (IsIn ray) c.as_slice.ensures h))

pub keep_rays-requires-clause-few : goal.keep_rays-requires-clause-few
keep_rays-requires-clause-few c =
    let few = few_found c.mesh-mesh.result.now c.half_edges.ensures.mesh c.in_ok-bound.bound c.args.budget (record { found = c.in_ok-fans.fans.found; live = c.in_ok-fans.fans.live }) c.in_ok-fans.ensures.search in
    let faces = c.half_edges.ensures.mesh.triangulation.few_faces in
    let vectors = c.half_edges.ensures.mesh.triangulation.vectors in
    let same = ap length c.as_slice.ensures in
    omega (arith, few, faces, vectors, same, c.requires)

pub returns-in_err-list-clause-saddles : goal.returns-in_err-list-clause-saddles
returns-in_err-list-clause-saddles c =
    at_exit (ReturnsSaddles (EndsSaddles c.args.delaunay.now.mesh c.args.limit c.args.budget)) c.from_residual-in_err-list.result c.in_err-list.field-0.0 c.from_residual-in_err-list.ensures.1
    (subst (λ m. ReturnsSaddles (EndsSaddles m c.args.limit c.args.budget) (Err c.in_err-list.field-0.0)) c.mesh-mesh.ensures.mesh
    (keep_stopped c.mesh-mesh.result.now c.args.limit c.args.budget c.in_ok-bound.bound
    (subst (λ s. scaled_bound s.d s.den c.args.limit ≡ Ok c.in_ok-bound.bound) c.surface.ensures c.in_ok-bound.ensures.bound)
    (record { found = c.in_ok-fans.fans.found; live = c.in_ok-fans.fans.live }) c.in_ok-fans.ensures.search c.in_err-list.field-0.0
    (subst (λ rays. StopsKeeping c.mesh-mesh.result.now rays c.in_err-list.field-0.0) c.as_slice.ensures c.in_err-list.ensures.stops)))

pub returns-in_err-list-clause-only : goal.returns-in_err-list-clause-only
returns-in_err-list-clause-only c = returned_unique c.args.delaunay.now.mesh c.args.limit c.args.budget c.from_residual-in_err-list.result (returns-in_err-list-clause-saddles c)

pub returns-clause-saddles : goal.returns-clause-saddles
returns-clause-saddles c =
    subst (λ m. EndsSaddles m c.args.limit c.args.budget (Ok (record { list = c.from_vec.result; live = c.in_ok-fans.fans.live }))) c.mesh-mesh.ensures.mesh
    (all_listed c.mesh-mesh.result.now c.args.limit c.args.budget c.in_ok-bound.bound
    (subst (λ s. scaled_bound s.d s.den c.args.limit ≡ Ok c.in_ok-bound.bound) c.surface.ensures c.in_ok-bound.ensures.bound)
    (record { found = c.in_ok-fans.fans.found; live = c.in_ok-fans.fans.live }) c.in_ok-fans.ensures.search c.in_ok-list.list c.from_vec.result
    (subst (λ rays. AreKeptAs c.mesh-mesh.result.now rays c.in_ok-list.list) c.as_slice.ensures c.in_ok-list.ensures.kept)
    (sorted_of c.in_ok-list.list c.into_vec-list.result.items c.sort_unstable.new.self.items c.from_vec.result c.into_vec-list.ensures c.from_vec.ensures c.sort_unstable.ensures.permutation c.sort_unstable.ensures.sorted))

pub returns-clause-only : goal.returns-clause-only
returns-clause-only c = returned_unique c.args.delaunay.now.mesh c.args.limit c.args.budget (Ok (record { list = c.from_vec.result; live = c.in_ok-fans.fans.live })) (returns-clause-saddles c)

pub returns-clause-list : goal.returns-clause-list
returns-clause-list c =
    subst (λ m. IsSaddleListOf m.surface c.args.limit c.from_vec.result) c.mesh-mesh.ensures.mesh
    (whole_list c.mesh-mesh.result.now c.half_edges.ensures.mesh c.args.limit c.from_vec.result (saddles_listed c.mesh-mesh.result.now c.args.limit c.args.budget c.in_ok-bound.bound
    (subst (λ s. scaled_bound s.d s.den c.args.limit ≡ Ok c.in_ok-bound.bound) c.surface.ensures c.in_ok-bound.ensures.bound)
    (record { found = c.in_ok-fans.fans.found; live = c.in_ok-fans.fans.live }) c.in_ok-fans.ensures.search c.in_ok-list.list c.from_vec.result
    (subst (λ rays. AreKeptAs c.mesh-mesh.result.now rays c.in_ok-list.list) c.as_slice.ensures c.in_ok-list.ensures.kept)
    (sorted_of c.in_ok-list.list c.into_vec-list.result.items c.sort_unstable.new.self.items c.from_vec.result c.into_vec-list.ensures c.from_vec.ensures c.sort_unstable.ensures.permutation c.sort_unstable.ensures.sorted)
    c.in_ok-fans.ensures.segments c.in_ok-fans.ensures.once))
