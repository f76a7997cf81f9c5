-- Counts of faults: they never fall, and saturate at 2^64 - 1.
use Rattle.std.specs.Prelude.{◌≡◌, ℕ, ◌+◌, ◌-◌, ◌^◌, ◌<◌, ◌≤◌, ◌⊎◌, min, Result, IsOk, IsErr}

-- the last value of a count, where it saturates
abbrev pub last_count : ℕ
last_count = 2 ^ 64 - 1

-- one more, or the last value
abbrev pub next_count : ℕ → ℕ
next_count n = min (n + 1) last_count

-- the count is greater after than before, or at its last value
abbrev pub Rose : ℕ → ℕ → Type 0
Rose before after = (before < after) ⊎ (after ≡ last_count)

-- the count of a call: where it failed it is the next one, else it is as before
pub record Counts {T E : Type 0} (before after : ℕ) (result : Result T E) : Type 0 where
  pub never_falls : before ≤ after
  pub within : after ≤ last_count
  pub kept : IsOk result → after ≡ before
  pub failed : IsErr result → after ≡ next_count before
