-- The last item of the slice is the last side.
use Rattle.std.proofs.Common.{ap, ◌∙◌, unwrap_or}
use Rattle.fs_plane.specs.Vector.{vector_zero}
use Rattle.fs_gluing.proofs.Polygon.ConvexCorners.{last_side_is}
use Rattle.fs_gluing.proofs.polygons.last_side.Goals as goal

pub returns : goal.returns
returns c = c.unwrap_or.ensures ∙ ap (λ o. unwrap_or o vector_zero) (c.copied.ensures ∙ c.last.ensures.value) ∙ last_side_is c.args.sides.now
