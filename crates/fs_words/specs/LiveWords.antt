-- Live words: one straight path crosses all their half-edges, and each comes within a bound. And the rays that end at their tips.
use Rattle.std.specs.Prelude.{◌≡◌, ◌⊎◌, ℕ, ◌≤◌, List, length}
use Rattle.fs_ring.specs.Operations.{Operations}
use Rattle.fs_ring.specs.Vector.{Vector, add_vector, cross}
use Rattle.fs_ring.specs.Discs.{ComesWithin}
use Rattle.fs_paths.specs.SideGluing.{SideGluing}
use Rattle.fs_words.specs.Words.{Letter, Crossing, nth_crossing, tip}

module _ {A : Type 0} (R : Operations A) (IsPositive : A → Type 0) {X : Type 0} where
  -- v leads strictly between the ends of a crossed half-edge
  pub record IsBetween (v : Vector A) (c : Crossing X A) : Type 0 where
    pub right : IsPositive (cross R c.right_end v)
    pub left : IsPositive (cross R v c.left_end)

  module _ (G : SideGluing X A) where
    -- v leads strictly between the ends of each crossed half-edge of the word
    abbrev pub Passes : X → List Letter → Vector A → Type 0
    Passes h letters v = (m : ℕ) → m ≤ length letters → IsBetween v (nth_crossing R G h letters m)

    -- the word is live: a right end and a left end of its half-edges have a sum that leads strictly between the ends of each, and each comes within the squared distance `bound`
    pub record IsLive (bound : A) (h : X) (letters : List Letter) : Type 0 where
      pub at_right : ℕ
      pub at_left : ℕ
      pub right_there : at_right ≤ length letters
      pub left_there : at_left ≤ length letters
      pub passes : Passes h letters (add_vector R (nth_crossing R G h letters at_right).right_end (nth_crossing R G h letters at_left).left_end)
      pub near : (m : ℕ) → m ≤ length letters → ComesWithin R IsPositive (nth_crossing R G h letters m).right_end (nth_crossing R G h letters m).left_end bound

    -- a ray from the start of h runs along h, or across the half-edges of a word to its tip
    abbrev pub IsRay : X → Vector A → Type 0
    IsRay h v = (v ≡ G.vector h) ⊎ ((letters : List Letter) × Passes h letters v × (v ≡ tip R G h letters))
