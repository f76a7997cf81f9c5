-- The first word of a half-edge is visited with all that go on from it, or the search stops.
use Rattle.std.proofs.Common.{IfErr}
use Rattle.fs_lists.proofs.Results.{at_exit}
use Rattle.fs_fan.specs.Searching.{StopsSearch}
use Rattle.fs_fan.proofs.fans.find_fan.Goals as goal

pub returns-in_err-open_fan-clause-stops : goal.returns-in_err-open_fan-clause-stops
returns-in_err-open_fan-clause-stops c =
    at_exit (λ r. IfErr r (StopsSearch c.args.mesh.now.surface.d c.args.mesh.now.triangles c.args.bound c.args.budget)) c.from_residual.result c.in_err-open_fan.field-0.0 c.from_residual.ensures.1
    (c.in_err-open_fan.ensures.stops c.args.budget c.requires.within)
