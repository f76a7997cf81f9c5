-- A loop closes.
use Rattle.std.proofs.Common.{ap}
use Rattle.fs_rauzy.specs.Runs.{Checkpoint}
use Rattle.fs_rauzy.proofs.RunCalls.{on_ok, loop_goes}
use Rattle.fs_rauzy.proofs.runs.Progress.close_loop.Goals as goal

pub returns-clause-goes : goal.returns-clause-goes
returns-clause-goes c =
    on_ok c.close.result
    (λ h. loop_goes _ _ c.self.view_is c.in-Some.saved c.saved.inside.number c.close.new.self.point c.in-Some.is (ap (λ (s : Checkpoint). s.number) c.saved.view_is) c.requires.looped h) c.close.ensures.closes
