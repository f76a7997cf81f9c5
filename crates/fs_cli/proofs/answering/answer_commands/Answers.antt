use Rattle.fs_cli.proofs.CallWrites.{writes_missing, writes_each}
use Rattle.fs_cli.proofs.answering.answer_commands.Goals as goal

pub returns-in-Some : goal.returns-in-Some
returns-in-Some g c =
    writes_missing _ _ _ _ _ c.args.surface.now c.args.budget c.args.commands.now c.in-Some.ensures.0 c.in-Some.line c.requires.surface c.requires.strict c.in-Some.ensures.1 c.in-Some.ensures.2 c.refuse.ensures

pub returns-in-None : goal.returns-in-None
returns-in-None g c = writes_each _ _ _ _ _ c.args.surface.now c.args.budget c.args.commands.now c.requires.surface c.requires.strict c.in-None.ensures c.answer_all.ensures
