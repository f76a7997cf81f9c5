-- The result of the run is the only one, and the end of the path.
use Rattle.fs_develop.proofs.Walks.{walk_run_only, walk_run_end}
use Rattle.fs_develop.proofs.walking.find_walk.Goals as goal

pub returns-clause-run : goal.returns-clause-run
returns-clause-run c = walk_run_only c.args.surface.now c.field.ensures.surface.surface c.args.start c.requires.start c.args.v c.args.steps c.walk_from.result c.walk_from.ensures

pub returns-clause-end : goal.returns-clause-end
returns-clause-end c = walk_run_end c.args.surface.now c.field.ensures.surface.surface c.args.start c.requires.start c.args.v c.args.steps c.walk_from.result c.walk_from.ensures
