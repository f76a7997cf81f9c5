-- Boundaries as sequences of sides: how they turn, seen from a direction.
use Rattle.std.specs.Prelude.{◌≡◌, ℕ, suc, ◌+◌, ◌<◌, ◌≤◌, Bool, true, ◌&&◌}
use Rattle.fs_ring.specs.Operations.{Operations}
use Rattle.fs_ring.specs.Vector.{Vector, neg_vector}
use Rattle.fs_ring.specs.Direction.{InHalfPlane}
use Rattle.fs_convex.specs.Counts.{count_below}

module _ {A : Type 0} (R : Operations A) (IsPositive : A → Type 0) where
  -- the test is true of v and x exactly where x is in the half plane of v
  pub record DecidesHalfPlanes (is_ahead : Vector A → Vector A → Bool) : Type 0 where
    pub sound : (v x : Vector A) → is_ahead v x ≡ true → InHalfPlane R IsPositive v x
    pub complete : (v x : Vector A) → InHalfPlane R IsPositive v x → is_ahead v x ≡ true

  -- no corner bends right: each side is in the half plane of the side before it
  abbrev pub HasConvexCorners : (ℕ → Vector A) → Type 0
  HasConvexCorners s = (j : ℕ) → InHalfPlane R IsPositive (s j) (s (suc j))

  -- of the n sides from side r on, the first h are in the half plane of v, and the others in that of -v
  pub record IsTwoChains (v : Vector A) (s : ℕ → Vector A) (n r h : ℕ) : Type 0 where
    pub some_ahead : 0 < h
    pub some_back : h < n
    pub ahead : (j : ℕ) → j < h → InHalfPlane R IsPositive v (s (r + j))
    pub back : (j : ℕ) → h ≤ j → j < n → InHalfPlane R IsPositive (neg_vector R v) (s (r + j))

module _ {A : Type 0} (R : Operations A) where
  -- the boundary s of k + m sides is cut in two: a has its first k sides and then the cut, b has the other m and then the opposite of the cut
  pub record IsCutInTwo (s a b : ℕ → Vector A) (k m : ℕ) : Type 0 where
    pub closed : s (k + m) ≡ s 0
    pub first : (j : ℕ) → j < k → a j ≡ s j
    pub first_closed : a (suc k) ≡ s 0
    pub second : (j : ℕ) → j < m → b j ≡ s (k + j)
    pub second_closed : b (suc m) ≡ s k
    pub opposite_cuts : b m ≡ neg_vector R (a k)

  module _ (is_ahead : Vector A → Vector A → Bool) where
    -- the corner from x to y passes v: x is in the half plane of -v, and y in that of v
    abbrev pub is_rise : Vector A → Vector A → Vector A → Bool
    is_rise v x y = is_ahead (neg_vector R v) x && is_ahead v y

    -- how many of the first k corners pass v
    abbrev pub rises : Vector A → (ℕ → Vector A) → ℕ → ℕ
    rises v s k = count_below (λ j. is_rise v (s j) (s (suc j))) k

    -- the corner after side j passes v
    abbrev pub IsRiseAt : Vector A → (ℕ → Vector A) → ℕ → Type 0
    IsRiseAt v s j = is_rise v (s j) (s (suc j)) ≡ true
