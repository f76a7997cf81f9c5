-- The width: which numbers a computation may hold.
use Rattle.std.specs.Prelude.{ℕ, ℤ, pos, neg_ℤ, ◌*ℤ◌, ◌≤ℤ◌, ◌-◌, ◌^◌, ◌<◌, unsigned_abs, Bool, ◌&&◌, nat_lt}
use Rattle.fs_quadratic.specs.Ring.{Quadratic, rational_part, r_part}

-- from -(2^127 - 1) to 2^127 - 1
abbrev pub InWidth : ℤ → Type 0
InWidth z = (neg_ℤ (pos (2 ^ 127 - 1)) ≤ℤ z) × (z ≤ℤ pos (2 ^ 127 - 1))

-- both parts are within the width
abbrev pub Fits : Quadratic → Type 0
Fits x = InWidth x.p × InWidth x.q

-- the product of a and b is within the width, and so is d times it
abbrev pub MultipleFits : ℕ → ℤ → ℤ → Type 0
MultipleFits d a b = InWidth (a *ℤ b) × InWidth (pos d *ℤ (a *ℤ b))

-- the numbers by which the rational part of a product is computed are within the width
abbrev pub RationalPartFits : ℕ → Quadratic → Quadratic → Type 0
RationalPartFits d x y = InWidth (x.p *ℤ y.p) × MultipleFits d x.q y.q × InWidth (rational_part d x y)

-- so are those of the r part
abbrev pub RPartFits : Quadratic → Quadratic → Type 0
RPartFits x y = InWidth (x.p *ℤ y.q) × InWidth (x.q *ℤ y.p) × InWidth (r_part x y)

-- all seven are
unfoldable pub MulFits : ℕ → Quadratic → Quadratic → Type 0
MulFits d x y = RationalPartFits d x y × RPartFits x y

-- both parts are below 2^58 in size: a thousand times a product of two of them, and twice that, are within the width
abbrev pub IsSmall : Quadratic → Type 0
IsSmall x = (unsigned_abs x.p < 2 ^ 58) × (unsigned_abs x.q < 2 ^ 58)

-- both parts are below 2^63 in size: they have 64 bits
abbrev pub IsNarrow : Quadratic → Type 0
IsNarrow x = (unsigned_abs x.p < 2 ^ 63) × (unsigned_abs x.q < 2 ^ 63)

-- both parts are below 2^26 in size: a thousand times a product of two of them, and twice that, have 64 bits
abbrev pub IsTiny : Quadratic → Type 0
IsTiny x = (unsigned_abs x.p < 2 ^ 26) × (unsigned_abs x.q < 2 ^ 26)

-- ---- the same conditions as tests that compute

abbrev pub is_in_width : ℤ → Bool
is_in_width z = nat_lt (unsigned_abs z) (2 ^ 127)

abbrev pub is_fitting : Quadratic → Bool
is_fitting x = is_in_width x.p && is_in_width x.q

abbrev pub is_fitting_multiple : ℕ → ℤ → ℤ → Bool
is_fitting_multiple d a b = is_in_width (a *ℤ b) && is_in_width (pos d *ℤ (a *ℤ b))

abbrev pub is_fitting_rational_part : ℕ → Quadratic → Quadratic → Bool
is_fitting_rational_part d x y = is_in_width (x.p *ℤ y.p) && is_fitting_multiple d x.q y.q && is_in_width (rational_part d x y)

abbrev pub is_fitting_r_part : Quadratic → Quadratic → Bool
is_fitting_r_part x y = is_in_width (x.p *ℤ y.q) && is_in_width (x.q *ℤ y.p) && is_in_width (r_part x y)

unfoldable pub is_fitting_mul : ℕ → Quadratic → Quadratic → Bool
is_fitting_mul d x y = is_fitting_rational_part d x y && is_fitting_r_part x y
