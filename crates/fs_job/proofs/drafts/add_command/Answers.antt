use Rattle.std.proofs.Common.{arith}
use Rattle.fs_job.specs.Stage.{kept_draft}
use Rattle.fs_job.specs.Line.{command_of}
use Rattle.fs_job.proofs.Additions.{adds_command}
use Rattle.fs_job.proofs.CommandArguments.{leads_to_argument_fault}
use Rattle.fs_job.proofs.drafts.add_command.Goals as goal

pub returns-in-Err : goal.returns-in-Err
returns-in-Err c = leads_to_argument_fault c.args.number (kept_draft c.args.draft) (command_of c.args.stated) c.in-Err.fault
    (c.describes_surface.ensures.0 c.if-not-describes_surface.false) (let len = c.len.ensures in omega arith) c.in-Err.ensures.fault

pub returns : goal.returns
returns c = adds_command c.args.number (kept_draft c.args.draft) (command_of c.args.stated) c.in-Ok.command c.push.new.self
    (c.describes_surface.ensures.0 c.if-not-describes_surface.false) (let len = c.len.ensures in omega arith)
    c.in-Ok.ensures.command c.in-Ok.ensures.nonzero c.in_ok-push-in-Ok.ensures.ok
