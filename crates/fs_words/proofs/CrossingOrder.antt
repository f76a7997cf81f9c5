-- A straight path that passes between the ends of the crossed half-edges of a word is beyond each of them, where it ends at the word's tip. A library for crates to come.
use Rattle.std.proofs.Common.{◌≡◌, ℕ, zero, suc, ◌≤◌, List, [], ◌∷◌, take, length, refl, sym, subst, arith}
use Rattle.fs_ring.specs.Operations.{Operations, square}
use Rattle.fs_ring.specs.OrderedRing.{IsOrderedRing, IsAtMost}
use Rattle.fs_ring.specs.Vector.{Vector, add_vector, sub_vector, scale, cross, norm}
use Rattle.fs_ring.specs.Discs.{ComesWithin}
use Rattle.fs_ring.proofs.Signs as signs
use Rattle.fs_ring.proofs.Order as order
use Rattle.fs_ring.proofs.Directions as directions
use Rattle.fs_ring.proofs.Solver.{expressions as E, ◌⊕◌, ◌⊖◌, ◌⊗◌, ◌≐◌}
use Rattle.fs_ring.proofs.PlaneSolver.{plane_identity}
use Rattle.fs_paths.specs.SideGluing.{SideGluing, IsSide}
use Rattle.fs_triangles.specs.Triangles.{AreTriangles}
use Rattle.fs_words.specs.Words.{Letter, right, left, Crossing, first_crossing, tip_of, crossing_after, crossing_from, nth_crossing, tip}
use Rattle.fs_words.specs.LiveWords.{IsBetween, Passes}
use Rattle.fs_words.proofs.Orientations.{beyond}
use Rattle.fs_words.proofs.Orientations as orientations
use Rattle.fs_words.proofs.Crossings.{PassesFrom, IsSpanned, tip_beyond, spanned_after, first_spanned, first_open}

module _ {A : Type 0} (R : Operations A) (IsPositive : A → Type 0) {X : Type 0} where
  -- the right end of a crossing is right of its left end
  abbrev pub IsOpen : Crossing X A → Type 0
  IsOpen c = IsPositive (cross R c.right_end c.left_end)

  -- v is beyond the crossed half-edge
  abbrev pub IsBeyond : Crossing X A → Vector A → Type 0
  IsBeyond c v = IsPositive (beyond R (cross R) c.right_end c.left_end v)

module _ {A : Type 0} {R : Operations A} {IsPositive : A → Type 0} (L : IsOrderedRing R IsPositive) where
  -- the same, seen clockwise
  pub beyond_clockwise : (p q d : Vector A) → IsPositive (beyond R (cross R) p q d) → IsPositive (beyond R (λ a b. cross R b a) q p d)
  beyond_clockwise p q d = directions.positive_by_plane L [] (p ∷ q ∷ d ∷ []) (λ p q d. beyond E (λ a b. cross E b a) q p d ≐ beyond E (cross E) p q d) refl

  beyond_counterclockwise : (p q d : Vector A) → IsPositive (beyond R (λ a b. cross R b a) q p d) → IsPositive (beyond R (cross R) p q d)
  beyond_counterclockwise p q d = directions.positive_by_plane L [] (p ∷ q ∷ d ∷ []) (λ p q d. beyond E (cross E) p q d ≐ beyond E (λ a b. cross E b a) q p d) refl

  -- a half-edge that the path to v crosses before its end comes as near to (0, 0) as v is: where the path crosses it
  near_before : {p q v : Vector A} {bound : A} → IsPositive (cross R p v) → IsPositive (cross R v q) → IsPositive (cross R p q) → IsPositive (beyond R (cross R) p q v)
      → IsAtMost R IsPositive (norm R v) bound → ComesWithin R IsPositive p q bound
  near_before {p} {q} {v} {bound} pv vq pq b near =
      let whole = R.add (cross R p v) (cross R v q) in
      let whole_positive = L.add_positive pv vq in
      let squares =
      order.square_less_square L (cross R p q) whole (signs.non_negative_of_positive L pq) b in
      record {
        whole = whole;
        part = cross R p v;
        whole_positive = whole_positive;
        part_from_zero = signs.non_negative_of_positive L pv;
        part_to_whole = order.at_most_of_less L (cross R p v) whole (signs.positive_by L (cross R p v ∷ cross R v q ∷ []) (λ a b. (a ⊕ b) ⊖ a ≐ b) refl vq);
        within = order.at_most_trans L _ _ _
            (order.at_most_of_eq L _ _
            (plane_identity L.ring [] (p ∷ q ∷ v ∷ [])
            (λ p q v. norm E (add_vector E (scale E (cross E p v ⊕ cross E v q) p) (scale E (cross E p v) (sub_vector E q p))) ≐ norm E v ⊗ square E (cross E p q)) refl))
            (order.at_most_trans L _ _ _
            (order.mul_at_most_mul_left L (norm R v) (square R (cross R p q)) (square R whole) (directions.norm_non_negative L v) (order.at_most_of_less L _ _ squares))
            (subst (λ x. IsAtMost R IsPositive x (R.mul (square R whole) bound)) (L.mul_comm (square R whole) (norm R v))
            (order.mul_at_most_mul_left L (square R whole) (norm R v) bound (signs.square_non_negative L whole) near)));
      }

module _ {A : Type 0} {R : Operations A} {IsPositive : A → Type 0} (L : IsOrderedRing R IsPositive) {X : Type 0} {G : SideGluing X A} (T : AreTriangles R IsPositive G) where
  -- ---- from a crossing to the next one

  -- where some vector leads between the ends of both, the next one is open too
  open_after : (c : Crossing X A) (letter : Letter) {v : Vector A} → IsSpanned R G c → IsOpen R IsPositive c → IsBetween R IsPositive v c → IsBetween R IsPositive v (crossing_after R G c letter)
      → IsOpen R IsPositive (crossing_after R G c letter)
  open_after c right k o b more = orientations.opens L (orientations.counterclockwise L) o (tip_beyond L T c k) b.right b.left more.left
  open_after c left k o b more =
      orientations.opens L (orientations.clockwise L) o (beyond_clockwise L c.right_end c.left_end (tip_of R G c) (tip_beyond L T c k)) b.left b.right more.right

  -- what is beyond the next one is beyond the first
  beyond_earlier : (c : Crossing X A) (letter : Letter) {v : Vector A} → IsSpanned R G c → IsOpen R IsPositive c → IsBetween R IsPositive v c
      → IsBetween R IsPositive v (crossing_after R G c letter) → IsBeyond R IsPositive (crossing_after R G c letter) v → IsBeyond R IsPositive c v
  beyond_earlier c right k o b more far =
      orientations.in_order L (orientations.counterclockwise L) o (open_after c right k o b more) b.right (tip_beyond L T c k) (signs.non_negative_of_positive L far)
  beyond_earlier c left {v} k o b more far =
      let d = tip_of R G c in
      beyond_counterclockwise L c.right_end c.left_end v
      (orientations.in_order L (orientations.clockwise L) o (open_after c left k o b more) b.left (beyond_clockwise L c.right_end c.left_end d (tip_beyond L T c k))
      (signs.non_negative_of_positive L (beyond_clockwise L d c.left_end v far)))

  -- ---- along a whole word

  -- the crossings from c on, as far as the tip: each is open, and the tip beyond it
  pub each_beyond : (c : Crossing X A) (letters : List Letter) {v : Vector A} → IsSpanned R G c → IsOpen R IsPositive c → PassesFrom R IsPositive G c letters v → v ≡ tip_of R G (crossing_from R G c letters)
      → (m : ℕ) → m ≤ length letters → IsOpen R IsPositive (crossing_from R G c (take m letters)) × IsBeyond R IsPositive (crossing_from R G c (take m letters)) v
  each_beyond c [] k o p e zero l = (o, subst (IsBeyond R IsPositive c) (sym e) (tip_beyond L T c k))
  each_beyond c [] k o p e (suc m) l = absurd (omega (arith, l))
  each_beyond c (letter ∷ letters) k o p e (suc m) l =
      let b = p 0 (omega arith) in
      let more : PassesFrom R IsPositive G (crossing_after R G c letter) letters _ = λ i j. p (suc i) (omega (arith, j)) in
      each_beyond (crossing_after R G c letter) letters (spanned_after L T c k letter) (open_after c letter k o b (more 0 (omega arith))) more e m (omega (arith, l))
  each_beyond c (letter ∷ letters) k o p e zero l =
      let b = p 0 (omega arith) in
      let more : PassesFrom R IsPositive G (crossing_after R G c letter) letters _ = λ i j. p (suc i) (omega (arith, j)) in (
        o,
        beyond_earlier c letter k o b (more 0 (omega arith))
            (each_beyond (crossing_after R G c letter) letters (spanned_after L T c k letter) (open_after c letter k o b (more 0 (omega arith))) more e 0 (omega arith)).1,
      )

  -- each crossed half-edge of a word comes as near as the word's tip is, where the path to the tip passes
  pub near_tip : (h : X) → IsSide G h → (letters : List Letter) (bound : A) → Passes R IsPositive G h letters (tip R G h letters) → IsAtMost R IsPositive (norm R (tip R G h letters)) bound
      → (m : ℕ) → m ≤ length letters → ComesWithin R IsPositive (nth_crossing R G h letters m).right_end (nth_crossing R G h letters m).left_end bound
  near_tip h s letters bound passes near m l =
      let at = each_beyond (first_crossing R G h) letters (first_spanned L T h s) (first_open L T h s) passes refl m l in
      near_before L (passes m l).right (passes m l).left at.0 at.1 near
