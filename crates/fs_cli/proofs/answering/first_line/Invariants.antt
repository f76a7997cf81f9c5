use Rattle.std.proofs.Common.{◌≡◌, ◌++◌, take, drop}
use Rattle.fs_cli.specs.Answer.{first_line}
use Rattle.fs_cli.proofs.answering.first_line.Given as goal

-- no line feed is among the bytes so far
abbrev pub invariant-loop-i : goal.invariant-loop-i
invariant-loop-i l = first_line l.text ≡ take l.i l.text ++ first_line (drop l.i l.text)
