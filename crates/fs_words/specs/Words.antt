-- Words of the half-edges of a triangulation that a straight path crosses one after another, from the start of a half-edge on.
use Rattle.std.specs.Prelude.{ℕ, List, [], ◌∷◌, take}
use Rattle.fs_ring.specs.Operations.{Operations}
use Rattle.fs_ring.specs.Vector.{Vector, add_vector, neg_vector}
use Rattle.fs_paths.specs.SideGluing.{SideGluing}

-- by which half-edge a path leaves the triangle beyond a crossed half-edge: by the one after the twin, or by the one before it, which are to the right and to the left of the corner between them
pub data Letter : Type 0 where
  right : Letter
  left : Letter

-- a half-edge that is crossed, with its right end, where it begins, and its left end, as they are seen from the start of the path at (0, 0)
pub record Crossing (X A : Type 0) : Type 0 where
  pub side : X
  pub right_end : Vector A
  pub left_end : Vector A

module _ {A : Type 0} (R : Operations A) {X : Type 0} (G : SideGluing X A) where
  -- the half-edge that a path from the start of h into the triangle of h crosses first: the one after h
  abbrev pub first_crossing : X → Crossing X A
  first_crossing h = record { side = G.next h; right_end = G.vector h; left_end = neg_vector R (G.vector (G.prev h)) }

  -- the tip of a crossing: the corner of the triangle beyond that isn't an end of the crossed half-edge
  abbrev pub tip_of : Crossing X A → Vector A
  tip_of c = add_vector R c.right_end (G.vector (G.next (G.twin c.side)))

  -- the next crossing
  abbrev pub crossing_after : Crossing X A → Letter → Crossing X A
  crossing_after c right = record { side = G.next (G.twin c.side); right_end = c.right_end; left_end = tip_of c }
  crossing_after c left = record { side = G.prev (G.twin c.side); right_end = tip_of c; left_end = c.left_end }

  -- the crossing after some letters more
  abbrev pub crossing_from : Crossing X A → List Letter → Crossing X A
  crossing_from c [] = c
  crossing_from c (letter ∷ letters) = crossing_from (crossing_after c letter) letters

  -- the last crossing of a word of letters from h
  abbrev pub last_crossing : X → List Letter → Crossing X A
  last_crossing h letters = crossing_from (first_crossing h) letters

  -- crossing number m of the word, from 0: a word has one crossing more than letters
  abbrev pub nth_crossing : X → List Letter → ℕ → Crossing X A
  nth_crossing h letters m = last_crossing h (take m letters)

  -- the tip of a word: that of its last crossing
  abbrev pub tip : X → List Letter → Vector A
  tip h letters = tip_of (last_crossing h letters)
