-- By how the path begins.
use Rattle.std.proofs.Common.{◌≡◌, Ok, subst}
use Rattle.fs_gluing.specs.SurfaceSides.{polygon_sides}
use Rattle.fs_develop.specs.Following.{first_entry}
use Rattle.fs_develop.proofs.WordsFollowed.{begins_no_segment, begins_whole_side}
use Rattle.fs_develop.proofs.walking.check_from.Goals as goal

pub returns-in-Outside : goal.returns-in-Outside
returns-in-Outside c = begins_no_segment c.args.surface.now c.args.v c.args.start c.args.word.now c.in_ok-begin.field-0 c.in_ok-begin.ensures c.in-Outside.is

pub returns-in-WholeSide : goal.returns-in-WholeSide
returns-in-WholeSide c =
    begins_whole_side c.args.surface.now c.args.v c.args.start c.args.word.now c.is_empty.result (subst (λ entry. first_entry c.args.surface.now.d (polygon_sides c.args.surface.now.polygons) c.args.v c.args.start ≡ Ok entry) c.in-WholeSide.is c.in_ok-begin.ensures) c.is_empty.ensures
