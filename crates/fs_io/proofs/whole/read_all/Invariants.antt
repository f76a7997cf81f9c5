use Rattle.std.proofs.Common.{◌≡◌, ◌+◌, ◌-◌, ◌≤◌, vec_len}
use Rattle.std.specs.Io.KnownBytes.{Consumes}
use Rattle.fs_io.specs.Whole.{most_bytes}
use Rattle.fs_io.proofs.whole.read_all.Given as goal

-- what was taken so far, while the count is as before
abbrev pub invariant-loop-buffer : goal.invariant-loop-buffer
invariant-loop-buffer g l =
    let left = g.S.Source.left in
    record {
      taken : Consumes (left l.initial.source) (left l.source) l.bytes.items;
      kept : g.S.Source.faults l.source ≡ g.S.Source.faults l.initial.source;
      short : vec_len l.bytes ≤ most_bytes + 1;
    }

abbrev pub decreases-loop-buffer : goal.decreases-loop-buffer
decreases-loop-buffer g l = most_bytes + 1 - vec_len l.bytes
