-- The law is the lemma.
use Rattle.fs_workload.proofs.StaircaseBuilds.{staircase_passes}
use Rattle.fs_workload.proofs.laws.staircase_builds.Goals as goal

pub returns : goal.returns
returns c = record { passes = staircase_passes }
