use Rattle.fs_cli.proofs.CommandTexts.{first_missing}
use Rattle.fs_cli.proofs.answering.missing_corner.Goals as goal

pub loop-command-init : goal.loop-command-init
loop-command-init c = tt

pub returns-in-Some : goal.returns-in-Some
returns-in-Some c = (
  c.command-item.result,
  first_missing c.args.surface.now c.args.commands.now c.loop-command.command-index c.command-item.result c.loop-command-test.true c.command-item.is c.loop-command.invariant c.in-Some.ensures.0,
  c.in-Some.ensures.1,
)
