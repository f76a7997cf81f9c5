-- The names so far are among the first `end` of the top row, and among no fewer; the greatest equal beginning among these names.
use Rattle.fs_rauzy.proofs.Prefixes.{EndsAt, IsGreatestUpTo, IsProperPrefix}
use Rattle.fs_rauzy.proofs.splits.find_greatest.Given as goal

abbrev pub invariant-loop-n : goal.invariant-loop-n
invariant-loop-n l = record {
  ends : EndsAt l.top l.bottom l.n l.end;
  greatest : IsGreatestUpTo (IsProperPrefix l.top l.bottom) l.n l.greatest;
}
