-- Rays that end at the tips of words: each has one word, is off (0, 0), and is in the sector of the corner at which it begins. A library for crates to come.
use Rattle.std.proofs.Common.{◌≡◌, ◌≢◌, suc, List, [], ◌∷◌, refl, sym, ap, subst, inl, inr, arith}
use Rattle.fs_ring.specs.Operations.{Operations}
use Rattle.fs_ring.specs.OrderedRing.{IsOrderedRing}
use Rattle.fs_ring.specs.Vector.{Vector, zero_vector, cross}
use Rattle.fs_ring.specs.Direction.{InSector, at_start, inside}
use Rattle.fs_ring.proofs.Signs as signs
use Rattle.fs_ring.proofs.Plane as plane
use Rattle.fs_ring.proofs.Directions as directions
use Rattle.fs_paths.specs.SideGluing.{SideGluing, IsSide, InSectorOf}
use Rattle.fs_triangles.specs.Triangles.{AreTriangles}
use Rattle.fs_triangles.proofs.TriangleSides as sides
use Rattle.fs_words.specs.Words.{Letter, right, left, Crossing, first_crossing, tip_of, crossing_after, crossing_from, tip}
use Rattle.fs_words.specs.LiveWords.{IsBetween, Passes, IsRay}
use Rattle.fs_words.proofs.Crossings.{PassesFrom}

module _ {A : Type 0} {R : Operations A} {IsPositive : A → Type 0} (L : IsOrderedRing R IsPositive) {X : Type 0} (G : SideGluing X A) where
  not_left_of_self : {v : Vector A} → ¬ IsPositive (cross R v v)
  not_left_of_self {v} p = signs.positive-ne-zero L p (plane.cross_self L.ring v)

  -- v doesn't lead between the ends of the half-edge beyond a crossing, where it is the tip of the crossing
  not_past_tip : (c : Crossing X A) (letter : Letter) {v : Vector A} → v ≡ tip_of R G c → ¬ IsBetween R IsPositive v (crossing_after R G c letter)
  not_past_tip c right {v} e b = not_left_of_self (subst (λ d. IsPositive (cross R v d)) (sym e) b.left)
  not_past_tip c left {v} e b = not_left_of_self (subst (λ d. IsPositive (cross R d v)) (sym e) b.right)

  -- nor between those of both half-edges
  not_both_ways : (c : Crossing X A) {v : Vector A} → IsBetween R IsPositive v (crossing_after R G c right) → ¬ IsBetween R IsPositive v (crossing_after R G c left)
  not_both_ways c {v} b k = signs.not_both_signs L b.left (directions.cross_negative L v (tip_of R G c) k.right)

  -- the crossing after the first one
  second : {c : Crossing X A} {letter : Letter} {letters : List Letter} {v : Vector A} → PassesFrom R IsPositive G c (letter ∷ letters) v → IsBetween R IsPositive v (crossing_after R G c letter)
  second p = p 1 (omega arith)

  beyond_first : {c : Crossing X A} {letter : Letter} {letters : List Letter} {v : Vector A} → PassesFrom R IsPositive G c (letter ∷ letters) v → PassesFrom R IsPositive G (crossing_after R G c letter) letters v
  beyond_first p m l = p (suc m) (omega (arith, l))

  one_word_from : (c : Crossing X A) (one other : List Letter) {v : Vector A} → PassesFrom R IsPositive G c one v → PassesFrom R IsPositive G c other v
      → v ≡ tip_of R G (crossing_from R G c one) → v ≡ tip_of R G (crossing_from R G c other) → one ≡ other
  one_word_from c [] [] p q e f = refl
  one_word_from c [] (letter ∷ other) p q e f = absurd (not_past_tip c letter e (second q))
  one_word_from c (letter ∷ one) [] p q e f = absurd (not_past_tip c letter f (second p))
  one_word_from c (right ∷ one) (left ∷ other) p q e f = absurd (not_both_ways c (second p) (second q))
  one_word_from c (left ∷ one) (right ∷ other) p q e f = absurd (not_both_ways c (second q) (second p))
  one_word_from c (right ∷ one) (right ∷ other) p q e f = ap (λ w. right ∷ w) (one_word_from (crossing_after R G c right) one other (beyond_first p) (beyond_first q) e f)
  one_word_from c (left ∷ one) (left ∷ other) p q e f = ap (λ w. left ∷ w) (one_word_from (crossing_after R G c left) one other (beyond_first p) (beyond_first q) e f)

  -- two words with one tip, to which the path passes between the ends of their crossed half-edges, are one
  pub one_word : (h : X) (one other : List Letter) → Passes R IsPositive G h one (tip R G h one) → Passes R IsPositive G h other (tip R G h other) → tip R G h one ≡ tip R G h other → one ≡ other
  one_word h one other p q e = one_word_from (first_crossing R G h) one other p (subst (Passes R IsPositive G h other) (sym e) q) refl e

  -- such a tip isn't the end of h
  pub tip-ne-side : (h : X) (letters : List Letter) → Passes R IsPositive G h letters (tip R G h letters) → tip R G h letters ≢ G.vector h
  tip-ne-side h letters p e = not_left_of_self (subst (λ v. IsPositive (cross R (G.vector h) v)) e (p 0 (omega arith)).right)

module _ {A : Type 0} {R : Operations A} {IsPositive : A → Type 0} (L : IsOrderedRing R IsPositive) {X : Type 0} {G : SideGluing X A} (T : AreTriangles R IsPositive G) where
  -- a ray from the start of h is in the sector of that corner
  pub ray_in_sector : (h : X) → IsSide G h → {v : Vector A} → IsRay R IsPositive G h v → InSectorOf R IsPositive G h v
  ray_in_sector h s (inl e) = subst (InSectorOf R IsPositive G h) (sym e) (at_start (directions.along_self L (G.vector h) (sides.vector-ne-zero L T h s)))
  ray_in_sector h s (inr k) = let b = k.1 0 (omega arith) in inside b.right b.left

  pub in_sector-ne-zero : {a c v : Vector A} → InSector R IsPositive a c v → v ≢ zero_vector R
  in_sector-ne-zero (at_start k) = directions.dot_positive-ne-zero_right L k.same_way
  in_sector-ne-zero (inside p q) = directions.cross_positive-ne-zero_right L p

  -- and isn't 0
  pub ray-ne-zero : (h : X) → IsSide G h → {v : Vector A} → IsRay R IsPositive G h v → v ≢ zero_vector R
  ray-ne-zero h s r = in_sector-ne-zero (ray_in_sector h s r)
