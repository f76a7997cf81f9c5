use Rattle.fs_job.specs.Stage.{kept_draft}
use Rattle.fs_job.proofs.Additions.{adds_glue}
use Rattle.fs_job.proofs.drafts.add_glue.Goals as goal

pub returns : goal.returns
returns c = adds_glue c.args.number (kept_draft c.args.draft) c.args.one c.args.two c.push.new.self (c.takes_polygons.ensures.0 c.if-not-takes_polygons.false) c.in_ok-push.ensures.ok
