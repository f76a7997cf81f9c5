use Rattle.std.proofs.Common.{take}
use Rattle.std.specs.List.{AllByRecursion}
use Rattle.fs_report.specs.Answers.{HasCorner}
use Rattle.fs_cli.proofs.answering.missing_corner.Given as goal

-- the surface has the corners of the commands so far
abbrev pub invariant-loop-command : goal.invariant-loop-command
invariant-loop-command l = AllByRecursion (HasCorner l.surface) (take l.command-index l.commands)
