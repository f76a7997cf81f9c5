use Rattle.fs_job.specs.Stage.{kept_draft}
use Rattle.fs_job.proofs.Additions.{adds_end}
use Rattle.fs_job.proofs.drafts.end.Goals as goal

pub returns : goal.returns
returns c = adds_end c.args.number (kept_draft c.args.draft) (c.describes_surface.ensures.0 c.if-not-describes_surface.false)
