-- The sector of the vectors that lead strictly between the ends of each crossed half-edge of a word, as it is narrowed from crossing to crossing.
use Rattle.std.specs.Prelude.{◌≡◌, ◌↔◌, Bool, true, cond, List, [], ◌∷◌}
use Rattle.fs_ring.specs.Operations.{Operations}
use Rattle.fs_ring.specs.Vector.{Vector, cross}
use Rattle.fs_paths.specs.SideGluing.{SideGluing}
use Rattle.fs_words.specs.Words.{Letter, right, left, Crossing, first_crossing, crossing_after, tip_of}

-- a crossing, and the two vectors that bound the sector of all crossings up to it
pub record View (X A : Type 0) : Type 0 where
  pub crossing : Crossing X A
  pub right_bound : Vector A
  pub left_bound : Vector A

-- the test tells whether b is strictly to the left of a
abbrev pub TellsLeft : {A : Type 0} → Operations A → (A → Type 0) → (Vector A → Vector A → Bool) → Type 0
TellsLeft {A} R IsPositive is_left = (a b : Vector A) → (is_left a b ≡ true) ↔ IsPositive (cross R a b)

module _ {A : Type 0} (R : Operations A) (is_left : Vector A → Vector A → Bool) {X : Type 0} (G : SideGluing X A) where
  -- at the first crossing the bounds are its ends
  abbrev pub first_view : X → View X A
  first_view h = record { crossing = first_crossing R G h; right_bound = (first_crossing R G h).right_end; left_bound = (first_crossing R G h).left_end }

  -- beyond a crossing the tip takes the place of the bound on its side, where that makes the sector smaller
  abbrev pub view_after : View X A → Letter → View X A
  view_after s right = record {
    crossing = crossing_after R G s.crossing right;
    right_bound = s.right_bound;
    left_bound = cond (is_left (tip_of R G s.crossing) s.left_bound) (tip_of R G s.crossing) s.left_bound;
  }
  view_after s left = record {
    crossing = crossing_after R G s.crossing left;
    right_bound = cond (is_left s.right_bound (tip_of R G s.crossing)) (tip_of R G s.crossing) s.right_bound;
    left_bound = s.left_bound;
  }

  -- after some letters more
  abbrev pub view_from : View X A → List Letter → View X A
  view_from s [] = s
  view_from s (letter ∷ letters) = view_from (view_after s letter) letters

  -- at the last crossing of a word of letters from h
  abbrev pub last_view : X → List Letter → View X A
  last_view h letters = view_from (first_view h) letters
