use Rattle.std.proofs.Common.{◌≡◌, ◌-◌, ◌≤◌, length, take}
use Rattle.std.specs.Io.KnownBytes.{Appends}
use Rattle.fs_io.proofs.whole.write_all.Given as goal

-- what was appended so far, while the count is as before
abbrev pub invariant-loop-at : goal.invariant-loop-at
invariant-loop-at g l =
    let held = g.S.Sink.held in
    record {
      appended : Appends (held l.initial.sink) (held l.sink) (take l.at l.piece);
      kept : g.S.Sink.faults l.sink ≡ g.S.Sink.faults l.initial.sink;
      within : l.at ≤ length l.piece;
    }

abbrev pub decreases-loop-at : goal.decreases-loop-at
decreases-loop-at g l = length l.piece - l.at
