-- The connections of a run are those that it found.
use Rattle.std.proofs.Common.{refl}
use Rattle.fs_components.proofs.along.connections.Goals as goal

pub list_connections-requires-clause-run : goal.list_connections-requires-clause-run
list_connections-requires-clause-run c = (c.args.run.now, c.requires.run, refl)
