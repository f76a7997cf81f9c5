-- Ray after ray is kept, up to the first that can't be.
use Rattle.std.proofs.Common.{◌+◌, ◌∷◌, [], IfErr, take, length, length-append, sym, ap, ◌∙◌, subst, arith}
use Rattle.fs_lists.proofs.Results.{at_exit}
use Rattle.fs_saddles.specs.Keeping.{AreKeptAs, StopsKeeping}
use Rattle.fs_saddles.proofs.KeptRays.{ray_in, kept_next, stops_next, kept_of_entries}
use Rattle.fs_saddles.proofs.saddles.keep_rays.Goals as goal

pub keep_ray-requires-clause-there : goal.keep_ray-requires-clause-there
keep_ray-requires-clause-there c = (c.requires.keepable c.ray-item.result (ray_in c.args.mesh.now c.args.rays.now c.loop-ray.ray-index c.ray-item.result c.loop-ray-test.true c.ray-item.is)).there

pub keep_ray-requires-clause-direction : goal.keep_ray-requires-clause-direction
keep_ray-requires-clause-direction c = (c.requires.keepable c.ray-item.result (ray_in c.args.mesh.now c.args.rays.now c.loop-ray.ray-index c.ray-item.result c.loop-ray-test.true c.ray-item.is)).nonzero

pub returns-in_err-keep_ray-clause-stops : goal.returns-in_err-keep_ray-clause-stops
returns-in_err-keep_ray-clause-stops c =
    at_exit (λ r. IfErr r (StopsKeeping c.args.mesh.now c.args.rays.now)) c.from_residual.result c.in_err-keep_ray.field-0.0 c.from_residual.ensures.1
    (stops_next c.args.mesh.now c.args.rays.now c.loop-ray.ray-index c.ray-item.result c.loop-ray-test.true c.ray-item.is c.len-n.result c.in_err-keep_ray.field-0.0 (c.len-n.ensures ∙ c.loop-ray.invariant.1)
    (kept_of_entries c.args.mesh.now (take c.loop-ray.ray-index c.args.rays.now) c.loop-ray.list c.loop-ray.invariant.0) c.in_err-keep_ray.ensures.stops)

pub loop-ray-preserved : goal.loop-ray-preserved
loop-ray-preserved c =
    let entry = c.in_ok-keep_ray.field-0 in
    let pushed = c.in_ok-push.ensures.ok in
    let count = ap length pushed ∙ length-append c.loop-ray.list (entry ∷ []) in
    let before = c.loop-ray.invariant.1 in (
      subst (AreKeptAs c.args.mesh.now (take (c.loop-ray.ray-index + 1) c.args.rays.now)) (sym pushed)
          (kept_next c.args.mesh.now c.args.rays.now c.loop-ray.ray-index c.ray-item.result c.loop-ray-test.true c.ray-item.is c.loop-ray.list entry c.loop-ray.invariant.0 c.in_ok-keep_ray.ensures.kept),
      omega (arith, count, before),
    )
