-- The numbers that are drawn from a seed.
use Rattle.std.specs.Prelude.{ℕ, zero, suc, pos, ◌+◌, ◌*◌, ◌/◌, ◌%◌, ◌^◌}
use Rattle.fs_quadratic.specs.Ring.{Quadratic}

-- the state after the next draw
abbrev pub next_state : ℕ → ℕ
next_state s = (1103515245 * s + 12345) % (2 ^ 31)

-- the state after n draws
abbrev pub state_after : ℕ → ℕ → ℕ
state_after seed zero = seed
state_after seed (suc n) = next_state (state_after seed n)

-- the number p + q·√2 that a state gives: p is from 1 to 4, q from 0 to 2
abbrev pub number_of : ℕ → Quadratic
number_of s = record { p = pos (1 + s / 65536 % 4); q = pos (s / 1048576 % 3) }

-- the number of draw n, counted from 0
abbrev pub draw : ℕ → ℕ → Quadratic
draw seed n = number_of (state_after seed (suc n))
