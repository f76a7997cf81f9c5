-- The result of the run is the only one, and true exactly of a segment with the word.
use Rattle.fs_develop.proofs.Walks.{check_run_only, check_run_segment}
use Rattle.fs_develop.proofs.walking.check_segment.Goals as goal

pub returns-clause-run : goal.returns-clause-run
returns-clause-run c = check_run_only c.args.surface.now c.field.ensures.surface.surface c.args.start c.requires.start c.args.v c.args.word.now c.check_from.result c.check_from.ensures

pub returns-clause-segment : goal.returns-clause-segment
returns-clause-segment c = check_run_segment c.args.surface.now c.field.ensures.surface.surface c.args.start c.requires.start c.args.v c.args.word.now c.check_from.result c.check_from.ensures
