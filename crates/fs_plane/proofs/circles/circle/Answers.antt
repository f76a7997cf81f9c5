use Rattle.fs_plane.proofs.CircleLaws.{circle_given, circle_given_inside}
use Rattle.fs_plane.proofs.circles.circle.Goals as goal

pub returns-clause-value : goal.returns-clause-value
returns-clause-value c = circle_given 0 c.args.field.d c.args.a c.args.b c.args.c c.args.g c.find_circle.result c.find_circle.ensures

pub returns-clause-inside : goal.returns-clause-inside
returns-clause-inside c closed area =
    circle_given_inside 0 c.args.field.d c.args.a c.args.b c.args.c c.args.g c.args.field.radicand closed area c.find_circle.result c.find_circle.ensures
