-- The whole numbers as a ring.
use Rattle.std.specs.Prelude.{ℤ, pos, neg_ℤ, ◌+ℤ◌, ◌*ℤ◌, ◌<ℤ◌}
use Rattle.fs_ring.specs.Operations.{Operations}

abbrev pub integers : Operations ℤ
integers = record { add = ◌+ℤ◌; mul = ◌*ℤ◌; neg = neg_ℤ; zero = pos 0; one = pos 1 }

-- z is above 0
abbrev pub IsPositiveInteger : ℤ → Type 0
IsPositiveInteger z = pos 0 <ℤ z
