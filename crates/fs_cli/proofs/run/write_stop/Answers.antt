-- The line of a site.
use Rattle.fs_gluing.specs.declared.faults.BuildStop.TheVariants.{Overflow}
use Rattle.fs_cli.proofs.CallWrites.{writes_equal_stop}
use Rattle.fs_cli.proofs.run.write_stop.Goals as goal

pub returns-in-Overflow : goal.returns-in-Overflow
returns-in-Overflow g c = writes_equal_stop _ _ _ _ _ (Overflow c.in-Overflow.site) c.args.stop c.in-Overflow.is c.stop_at.ensures
