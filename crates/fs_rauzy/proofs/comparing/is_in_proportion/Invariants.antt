-- The letters so far are in proportion.
use Rattle.std.proofs.Common.{◌≡◌, drop}
use Rattle.fs_rauzy.specs.Comparisons.{checked_proportion}
use Rattle.fs_rauzy.specs.StatesInPlace.{letters_at}
use Rattle.fs_rauzy.proofs.comparing.is_in_proportion.Given as goal

abbrev pub invariant-loop-n : goal.invariant-loop-n
invariant-loop-n l =
    checked_proportion l.field.d l.total_before l.total l.n (drop l.n l.before) (letters_at l.after (drop l.n l.names))
    ≡ checked_proportion l.field.d l.total_before l.total 0 l.before (letters_at l.after l.names)
