-- The complete quotients of √d, by which a fraction is compared with it.
use Rattle.std.specs.Prelude.{◌≡◌, ℕ, suc, ◌+◌, ◌-◌, ◌*◌, ◌/◌, ◌<◌, ◌≤◌, pos, neg_ℤ, ◌-ℤ◌}
use Rattle.fs_quadratic.specs.Ring.{Quadratic}

-- (m + √d)/a is a complete quotient of √d, whose whole part is root: it is above 1, m isn't above √d, and a divides d - m²
pub record IsCompleteQuotient (d root m a : ℕ) : Type 0 where
  pub below : root * root < d
  pub above : d < suc root * suc root
  pub positive : 0 < a
  pub part : m ≤ root
  pub greater_one : a ≤ root + m
  pub divides : a * ((d - m * m) / a) + m * m ≡ d

-- its whole part
abbrev pub whole_part : ℕ → ℕ → ℕ → ℕ
whole_part root m a = (root + m) / a

-- n·a - b·(m + √d): its sign says how n/b compares with (m + √d)/a
abbrev pub excess : ℕ → ℕ → ℕ → ℕ → Quadratic
excess m a n b = record { p = pos (n * a) -ℤ pos (m * b); q = neg_ℤ (pos b) }
