-- The sides are added one after another.
use Rattle.std.proofs.Common.{◌∙◌, ap, ◌++◌, [], ◌∷◌, arith}
use Rattle.fs_iet.proofs.SidesListed.{sides_more, sides_counted}
use Rattle.fs_iet.proofs.widths.push_sides.Goals as goal

pub loop-j-preserved : goal.loop-j-preserved
loop-j-preserved c =
    c.in_ok-push.ensures.ok ∙ ap (λ k. c.loop-j.sides ++ k ∷ []) c.new.ensures ∙ sides_more c.args.sides.now c.loop-j.sides c.args.i c.loop-j.j c.loop-j.invariant

pub returns : goal.returns
returns c =
    sides_counted c.args.surface.now.polygons c.args.sides.now c.loop-j.sides c.args.i c.loop-j.j c.sides-j-end.result c.requires c.sides-j-end.ensures (omega arith)
    c.loop-j.invariant
