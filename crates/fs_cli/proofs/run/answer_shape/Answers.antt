-- The answers about the surface, or why it isn't built.
use Rattle.fs_cli.proofs.CallWrites.{writes_failure, writes_built}
use Rattle.fs_cli.proofs.run.answer_shape.Goals as goal

pub returns-in-Ok : goal.returns-in-Ok
returns-in-Ok g c = writes_built _ _ _ _ _ c.args.field.d c.args.shape.now c.args.budget c.args.commands.now c.in-Ok.surface c.in-Ok.ensures.outcome c.answer_commands.ensures

pub returns-in-Err : goal.returns-in-Err
returns-in-Err g c = writes_failure _ _ _ _ _ c.args.field.d c.args.shape.now c.args.budget c.args.commands.now c.in-Err.stop c.in-Err.ensures.outcome c.write_stop.ensures
