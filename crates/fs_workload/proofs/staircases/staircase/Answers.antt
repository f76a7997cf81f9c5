-- The shape is within the limits.
use Rattle.std.proofs.Common.{false, refl}
use Rattle.fs_workload.proofs.StaircaseLimits.{shape_within}
use Rattle.fs_workload.proofs.staircases.staircase.Goals as goal

pub returns-clause-limits : goal.returns-clause-limits
returns-clause-limits c =
    (shape_within c.args.k c.args.seed c.requires.0 c.requires.1 (record { polygons = c.in_ok-polygons.polygons; glues = c.in_ok-glues.glues; straight = false }) c.in_ok-polygons.ensures, refl)
