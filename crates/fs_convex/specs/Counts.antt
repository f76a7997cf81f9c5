-- How many numbers pass a test.
use Rattle.std.specs.Prelude.{ℕ, zero, suc, ◌+◌, Bool, cond}

-- how many of the numbers below k pass the test
abbrev pub count_below : (ℕ → Bool) → ℕ → ℕ
count_below f zero = 0
count_below f (suc k) = count_below f k + cond (f k) 1 0
