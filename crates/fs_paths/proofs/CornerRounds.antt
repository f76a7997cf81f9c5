-- The corners round a vertex go all the way round it: each vector that isn't zero is in the sector of one of them.
use Rattle.std.proofs.Common.{◌≡◌, ◌≢◌, ◌⊎◌, ℕ, Bool, zero, suc, ◌+◌, ◌-◌, ◌<◌, sym, ap, ◌∙◌, subst, inl, inr, arith}
use Rattle.fs_cycles.proofs.Iterates.{first_below, iterate_after}
use Rattle.fs_ring.specs.Operations.{Operations}
use Rattle.fs_ring.specs.OrderedRing.{IsOrderedRing}
use Rattle.fs_ring.specs.Vector.{Vector, zero_vector, neg_vector, cross}
use Rattle.fs_ring.specs.Direction.{InHalfPlane, InSector, at_start, inside}
use Rattle.fs_ring.proofs.Signs as signs
use Rattle.fs_ring.proofs.Plane as plane
use Rattle.fs_ring.proofs.Directions as directions
use Rattle.fs_ring.proofs.HalfPlanes as half_planes
use Rattle.fs_ring.proofs.Turns as turns
use Rattle.fs_ring.proofs.Sectors as sectors
use Rattle.fs_paths.specs.SideGluing.{SideGluing, IsSide, AreGluedPolygons, InSectorOf}
use Rattle.fs_paths.specs.NextCorners.{next_corner, nth_corner}

below_or_same : (k m : ℕ) → k < suc m → (k < m) ⊎ (k ≡ m)
below_or_same k m l = grind arith

module _ {A : Type 0} {R : Operations A} {IsPositive : A → Type 0} (L : IsOrderedRing R IsPositive) where
  abbrev HalfPlane : Vector A → Vector A → Type 0
  HalfPlane w v = InHalfPlane R IsPositive w v

  start-ne-zero : {w v : Vector A} → HalfPlane w v → w ≢ zero_vector R
  start-ne-zero (at_start h) = directions.dot_positive-ne-zero_left L h.same_way
  start-ne-zero (inside p) = directions.cross_positive-ne-zero_left L p

  -- v is in the half plane of -w where its opposite is in that of w
  half_plane_of_opposite : {w v : Vector A} → HalfPlane (neg_vector R w) v → HalfPlane w (neg_vector R v)
  half_plane_of_opposite {w} {v} (at_start h) = at_start (record {
    parallel = plane.cross-neg_right L.ring w v ∙ sym (plane.cross-neg_left L.ring w v) ∙ h.parallel;
    same_way = signs.positive_of_eq L (plane.dot-neg_right L.ring w v ∙ sym (plane.dot-neg_left L.ring w v)) h.same_way;
  })
  half_plane_of_opposite {w} {v} (inside p) = inside (signs.positive_of_eq L (plane.cross-neg_right L.ring w v ∙ sym (plane.cross-neg_left L.ring w v)) p)

  -- sectors one after another: sector n begins at `start n`, and ends at the opposite of `ends n`, where the next one begins. After some of them the first begins again
  module _ (start ends : ℕ → Vector A) (n : ℕ) (bends : (k : ℕ) → k < suc n → HalfPlane (ends k) (start k))
      (follows : (k : ℕ) → k < suc n → start (suc k) ≡ neg_vector R (ends k)) (returns : start (suc n) ≡ start 0) where
    abbrev Sector : ℕ → Vector A → Type 0
    Sector k v = InSector R IsPositive (start k) (neg_vector R (ends k)) v

    -- a vector isn't in the half planes of all starts

    module _ (v : Vector A) (all : (k : ℕ) → k < suc (suc n) → HalfPlane (start k) v) where
      turns_left : (k : ℕ) → k < suc n → IsPositive (cross R (start k) (start (suc k)))
      turns_left k below = go (bends k below)
        where
          next_ahead : HalfPlane (neg_vector R (ends k)) v
          next_ahead = subst (λ w. HalfPlane w v) (follows k below) (all (suc k) (omega arith))

          go : HalfPlane (ends k) (start k) → IsPositive (cross R (start k) (start (suc k)))
          go (at_start h) = absurd (half_planes.half_plane_one L (turns.half_plane_first_along L h (all k (omega arith))) next_ahead)
          go (inside p) =
              subst (λ w. IsPositive (cross R (start k) w)) (sym (follows k below))
              (signs.positive_of_eq L (plane.cross-neg_right L.ring (start k) (ends k) ∙ sym (plane.cross_antisymm L.ring (start k) (ends k))) p)

      -- it would be strictly left of each
      strictly_left : (k : ℕ) → k < suc n → IsPositive (cross R (start k) v)
      strictly_left k below = go (all k (omega arith))
        where
          go : HalfPlane (start k) v → IsPositive (cross R (start k) v)
          go (inside p) = p
          go (at_start h) =
              absurd (turns.right_not_half_plane L (directions.along_cross L (start (suc k)) h (turns_left k below)) (all (suc k) (omega arith)))

      -- and each in the half plane of its opposite
      in_opposite : (k : ℕ) → k < suc (suc n) → HalfPlane (neg_vector R v) (start k)
      in_opposite k below = elim (below_or_same k (suc n) below) [
        | inl l ↦ inside (turns.left_of_opposite L (strictly_left k l))
        | inr e ↦ subst (HalfPlane (neg_vector R v)) (sym (ap start e ∙ returns)) (inside (turns.left_of_opposite L (strictly_left 0 (omega arith))))
      ]

      -- where all of them turn left
      left_of_first : (k : ℕ) → k < suc n → IsPositive (cross R (start 0) (start (suc k)))
      left_of_first zero below = turns_left 0 below
      left_of_first (suc k) below =
          half_planes.half_plane_trans L (in_opposite 0 (omega arith)) (in_opposite (suc k) (omega arith)) (in_opposite (suc (suc k)) (omega arith))
          (left_of_first k (omega arith)) (turns_left (suc k) below)

      -- so that they wouldn't return
      not_all_ahead : ⊥
      not_all_ahead =
          signs.positive-ne-zero L (subst (λ w. IsPositive (cross R (start 0) w)) returns (left_of_first n (omega arith))) (plane.cross_self L.ring (start 0))

    -- where no sector holds v

    module _ (v : Vector A) (off : v ≢ zero_vector R) (none : (k : ℕ) → k < suc n → ¬ Sector k v) where
      -- what is in the half plane of a start is in that of the next one
      ahead_next : (k : ℕ) → k < suc n → HalfPlane (start k) v → HalfPlane (start (suc k)) v
      ahead_next k below h = elim (half_planes.half_plane_cases L (ends k) v (start-ne-zero (bends k below)) off) [
        | inl i ↦ absurd (none k below (turns.sector_of_half_planes L (bends k below) h i))
        | inr o ↦ subst (λ w. HalfPlane w v) (sym (follows k below)) o
      ]

      ahead_later : (m k : ℕ) → k + m < suc (suc n) → HalfPlane (start k) v → HalfPlane (start (k + m)) v
      ahead_later zero k below h = subst (λ j. HalfPlane (start j) v) (omega arith) h
      ahead_later (suc m) k below h = subst (λ j. HalfPlane (start j) v) (omega arith) (ahead_next (k + m) (omega arith) (ahead_later m k (omega arith) h))

      not_none : ⊥
      not_none = go (half_planes.half_plane_cases L (start 0) v (start-ne-zero-of 0 (omega arith)) off)
        where
          start-ne-zero-of : (k : ℕ) → k < suc n → start k ≢ zero_vector R
          start-ne-zero-of k below = half_planes.half_plane-ne-zero L (bends k below)

          all_behind : HalfPlane (neg_vector R (start 0)) v → (k : ℕ) → k < suc (suc n) → HalfPlane (start k) (neg_vector R v)
          all_behind o k below = half_plane_of_opposite (elim (half_planes.half_plane_cases L (start k) v nonzero off) [ inl h ↦ absurd (half_planes.half_plane_one L (at_end h) o) | inr p ↦ p ])
            where
              nonzero : start k ≢ zero_vector R
              nonzero = elim (below_or_same k (suc n) below) [ inl l ↦ start-ne-zero-of k l | inr e ↦ λ z. start-ne-zero-of 0 (omega arith) (sym returns ∙ ap start (sym e) ∙ z) ]

              to_end : (m : ℕ) × (k + m ≡ suc n)
              to_end = (suc n - k, omega arith)

              at_end : HalfPlane (start k) v → HalfPlane (start 0) v
              at_end h = subst (λ w. HalfPlane w v) (ap start to_end.1 ∙ returns) (ahead_later to_end.0 k (omega (arith, to_end.1)) h)

          go : HalfPlane (start 0) v ⊎ HalfPlane (neg_vector R (start 0)) v → ⊥
          go (inl h) = not_all_ahead v (λ k below. subst (λ j. HalfPlane (start j) v) (omega arith) (ahead_later k 0 (omega arith) h))
          go (inr o) = not_all_ahead (neg_vector R v) (all_behind o)

    -- each vector that isn't zero is in one of the sectors
    some_sector : (v : Vector A) → v ≢ zero_vector R → (k : ℕ) × (k < suc n) × Sector k v
    some_sector v off = elim (first_below (λ k. Sector k v) (λ k. sectors.decide_sector L (start k) (neg_vector R (ends k)) v) (suc n)) [
      | inl found ↦ (found.0, found.1, found.2)
      | inr none ↦ absurd (not_none v off none)
    ]

module _ {A : Type 0} {R : Operations A} {IsPositive : A → Type 0} {is_ahead : Vector A → Vector A → Bool} {X : Type 0} {G : SideGluing X A} (g : AreGluedPolygons R IsPositive is_ahead G) where
  -- the next corner round a vertex exists
  pub next_corner_there : (x : X) → IsSide G x → IsSide G (next_corner G x)
  next_corner_there x s = g.twin_side (G.prev x) (g.prev_side x s)

  -- it is that of one corner alone
  pub next_corner_one_to_one : (x y : X) → IsSide G x → IsSide G y → next_corner G x ≡ next_corner G y → x ≡ y
  next_corner_one_to_one x y s t e =
      let same_before = sym (g.twin_twin (G.prev x) (g.prev_side x s)) ∙ ap G.twin e ∙ g.twin_twin (G.prev y) (g.prev_side y t) in
      sym (g.next_prev x s) ∙ ap G.next same_before ∙ g.next_prev y t

  -- the corners after it exist
  pub nth_corner_there : (k : ℕ) (x : X) → IsSide G x → IsSide G (nth_corner G x k)
  nth_corner_there zero x s = s
  nth_corner_there (suc k) x s = nth_corner_there k (next_corner G x) (next_corner_there x s)

-- the corners round the vertex of a corner c of glued polygons, to which they return after some steps
module _ {A : Type 0} {R : Operations A} {IsPositive : A → Type 0} (L : IsOrderedRing R IsPositive) {is_ahead : Vector A → Vector A → Bool}
    {X : Type 0} {G : SideGluing X A} (g : AreGluedPolygons R IsPositive is_ahead G) (c : X) (side : IsSide G c) where
  -- each vector that isn't zero is in the sector of one of the corners
  pub some_corner : (n : ℕ) → nth_corner G c (suc n) ≡ c → (v : Vector A) → v ≢ zero_vector R → (k : ℕ) × (k < suc n) × InSectorOf R IsPositive G (nth_corner G c k) v
  some_corner n returns v off =
      some_sector L (λ k. G.vector (nth_corner G c k)) (λ k. G.vector (G.prev (nth_corner G c k))) n
      (λ k below. bends (nth_corner G c k) (nth_corner_there g k c side))
      (λ k below. ap G.vector (iterate_after (next_corner G) k c) ∙ g.twin_opposite (G.prev (nth_corner G c k)) (g.prev_side (nth_corner G c k) (nth_corner_there g k c side)))
      (ap G.vector returns) v off
    where
      bends : (x : X) → IsSide G x → InHalfPlane R IsPositive (G.vector (G.prev x)) (G.vector x)
      bends x s = subst (λ y. InHalfPlane R IsPositive (G.vector (G.prev x)) (G.vector y)) (g.next_prev x s) (g.convex (G.prev x) (g.prev_side x s))
