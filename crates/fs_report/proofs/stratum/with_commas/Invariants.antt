use Rattle.std.proofs.Common.{◌≡◌, take, string_bytes}
use Rattle.fs_report.specs.Text.{with_commas}
use Rattle.fs_report.proofs.stratum.with_commas.Given as goal

-- the numbers so far
abbrev pub invariant-loop-i : goal.invariant-loop-i
invariant-loop-i l = string_bytes l.text ≡ with_commas (take l.i l.numbers)
