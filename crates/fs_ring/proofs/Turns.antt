-- How vectors turn: each in the half plane of the one before it; and sectors as two half planes. A library for crates to come.
use Rattle.std.proofs.Common.{◌≢◌, ◌⊎◌, [], ◌∷◌, refl, inl, inr}
use Rattle.fs_ring.specs.Operations.{Operations}
use Rattle.fs_ring.specs.OrderedRing.{IsOrderedRing}
use Rattle.fs_ring.specs.Vector.{Vector, zero_vector, neg_vector, cross, dot}
use Rattle.fs_ring.specs.Direction.{IsAlong, InHalfPlane, InSector, at_start, inside}
use Rattle.fs_ring.proofs.Signs as signs
use Rattle.fs_ring.proofs.Plane as plane
use Rattle.fs_ring.proofs.Directions as directions
use Rattle.fs_ring.proofs.HalfPlanes as half_planes
use Rattle.fs_ring.proofs.Solver.{expressions as E, ◌≐◌, numeral, ◌from◌}
use Rattle.fs_ring.proofs.PlaneSolver.{plane_derived}

module _ {A : Type 0} {R : Operations A} {IsPositive : A → Type 0} (L : IsOrderedRing R IsPositive) where
  open R use {neg, zero as 𝟘}

  abbrev Along : Vector A → Vector A → Type 0
  Along a b = IsAlong R IsPositive a b

  abbrev HalfPlane : Vector A → Vector A → Type 0
  HalfPlane w v = InHalfPlane R IsPositive w v

  abbrev Sector : Vector A → Vector A → Vector A → Type 0
  Sector a c v = InSector R IsPositive a c v

  -- ---- half planes of opposite vectors, and of vectors along each other

  -- left of the opposite is right of the vector
  pub left_of_opposite : {w v : Vector A} → IsPositive (cross R v w) → IsPositive (cross R (neg_vector R w) v)
  left_of_opposite {w} {v} p = directions.positive_by_plane L [] (w ∷ v ∷ []) (λ w v. cross E (neg_vector E w) v ≐ cross E v w) refl p

  pub right_of_opposite : {w v : Vector A} → IsPositive (cross R (neg_vector R w) v) → IsPositive (cross R v w)
  right_of_opposite {w} {v} p = directions.positive_by_plane L [] (w ∷ v ∷ []) (λ w v. cross E v w ≐ cross E (neg_vector E w) v) refl p

  pub not_both_crosses : {a b : Vector A} → IsPositive (cross R a b) → IsPositive (cross R b a) → ⊥
  not_both_crosses {a} {b} p q = signs.not_both_signs L p (directions.cross_negative L a b q)

  pub along_not_left : {a b : Vector A} → Along a b → IsPositive (cross R a b) → ⊥
  along_not_left h p = signs.positive-ne-zero L p h.parallel

  pub along_not_right : {a b : Vector A} → Along a b → IsPositive (cross R b a) → ⊥
  along_not_right h p = signs.positive-ne-zero L p (directions.along_comm L h).parallel

  -- a half plane depends on the direction of its first ray alone
  pub half_plane_first_along : {w u v : Vector A} → Along w u → HalfPlane u v → HalfPlane w v
  half_plane_first_along h (at_start k) = at_start (directions.along_trans L h k)
  half_plane_first_along {w} {u} {v} h (inside p) = inside (directions.along_cross L v (directions.along_comm L h) p)

  -- the vector right of the first ray is in the other half plane
  pub right_not_half_plane : {w v : Vector A} → IsPositive (cross R v w) → HalfPlane w v → ⊥
  right_not_half_plane p (at_start h) = along_not_right h p
  right_not_half_plane p (inside q) = not_both_crosses q p

  -- ---- turning inside a half plane

  -- two turns inside a half plane are one
  pub turn_trans : {v x y z : Vector A} → HalfPlane v x → HalfPlane v y → HalfPlane v z → HalfPlane x y → HalfPlane y z → HalfPlane x z
  turn_trans hx hy hz (at_start h) k = half_plane_first_along h k
  turn_trans {v} {x} hx hy hz (inside p) (at_start k) = inside (directions.along_cross_right L x k p)
  turn_trans hx hy hz (inside p) (inside q) = inside (half_planes.half_plane_trans L hx hy hz p q)

  -- what is left of the first ray stays so through turns inside the half plane
  pub left_after_turn : {v x y : Vector A} → IsPositive (cross R v x) → HalfPlane x y → HalfPlane v y → IsPositive (cross R v y)
  left_after_turn p (inside q) hy = half_planes.half_plane_left L (inside p) hy q
  left_after_turn {v} p (at_start k) hy = directions.along_cross_right L v k p

  -- what turns into the first ray inside the half plane is along it
  pub along_before_turn : {v x y : Vector A} → Along v y → HalfPlane x y → HalfPlane v x → Along v x
  along_before_turn h k (at_start m) = m
  along_before_turn h (at_start k) (inside p) = directions.along_trans L h (directions.along_comm L k)
  along_before_turn {v} {x} h (inside q) (inside p) = absurd (not_both_crosses p (directions.along_cross_right L x (directions.along_comm L h) q))

  -- no turn leads back over the quarter from v to w
  pub no_turn_back : {v w x y : Vector A} → IsPositive (cross R v w) → HalfPlane v x → HalfPlane (neg_vector R w) x
      → HalfPlane (neg_vector R v) y → HalfPlane (neg_vector R w) y → HalfPlane x y → ⊥
  no_turn_back {v} {w} {x} {y} vw hx kx (at_start h) ky t =
      half_planes.half_plane_not_opposite L (inside (left_of_opposite vw)) ky
      (directions.parallel_comm L y v (plane_derived L.ring [] (v ∷ y ∷ []) (λ v y. cross E y v ≐ numeral 0 from (numeral 1, cross E (neg_vector E v) y ≐ numeral 0) ∷ []) refl (h.parallel, tt)))
      (directions.positive_by_plane L [] (v ∷ y ∷ []) (λ v y. E.neg (dot E v y) ≐ dot E (neg_vector E v) y) refl h.same_way)
  no_turn_back {v} {w} {x} {y} vw hx kx (inside q) ky t = crossed hx
    where
      yv : IsPositive (cross R y v)
      yv = right_of_opposite q

      crossed : HalfPlane v x → ⊥
      crossed (at_start h) = right_not_half_plane yv (half_plane_first_along h t)
      crossed (inside p) = not_both_crosses (left p t) yv
        where
          left : IsPositive (cross R v x) → HalfPlane x y → IsPositive (cross R v y)
          left p (at_start k) = directions.along_cross_right L v k p
          left p (inside r) = half_planes.half_plane_trans L (inside (left_of_opposite vw)) kx ky p r

  -- ---- sectors as two half planes: the corner comes from i and turns to o

  -- a vector is in the sector from o to -i exactly where it is in the half planes of both
  pub half_planes_of_sector : {i o v : Vector A} → HalfPlane i o → Sector o (neg_vector R i) v → HalfPlane o v × HalfPlane i v
  half_planes_of_sector io (at_start h) = (at_start h, half_planes.half_plane_along L h io)
  half_planes_of_sector {i} {o} {v} io (inside p q) =
      (inside p, inside (directions.positive_by_plane L [] (i ∷ v ∷ []) (λ i v. cross E i v ≐ cross E v (neg_vector E i)) refl q))

  pub sector_of_half_planes : {i o v : Vector A} → HalfPlane i o → HalfPlane o v → HalfPlane i v → Sector o (neg_vector R i) v
  sector_of_half_planes io (at_start h) k = at_start h
  sector_of_half_planes {i} {o} {v} io (inside p) k = inside p (to_end (left k))
    where
      to_end : IsPositive (cross R i v) → IsPositive (cross R v (neg_vector R i))
      to_end r = directions.positive_by_plane L [] (i ∷ v ∷ []) (λ i v. cross E v (neg_vector E i) ≐ cross E i v) refl r

      left : HalfPlane i v → IsPositive (cross R i v)
      left (inside r) = r
      left (at_start h) = absurd (right_not_half_plane p (half_plane_first_along (directions.along_comm L h) io))

  -- a ray b that makes two corners of one, from o to b and from b to -i
  module _ {i o b : Vector A} (io : HalfPlane i o) (bo : HalfPlane (neg_vector R b) o) (ib : HalfPlane i b) where
    -- it is strictly left of o, and -i strictly left of it
    pub ray_left_of_start : IsPositive (cross R o b)
    ray_left_of_start = from_start bo
      where
        opposite : Along (neg_vector R b) o → ⊥
        opposite h = half_planes.half_plane_not_opposite L ib io
            (plane_derived L.ring [] (b ∷ o ∷ []) (λ b o. cross E b o ≐ numeral 0 from (E.neg (numeral 1), cross E (neg_vector E b) o ≐ numeral 0) ∷ []) refl (h.parallel, tt))
            (directions.positive_by_plane L [] (b ∷ o ∷ []) (λ b o. E.neg (dot E b o) ≐ dot E (neg_vector E b) o) refl h.same_way)

        from_start : HalfPlane (neg_vector R b) o → IsPositive (cross R o b)
        from_start (inside p) = right_of_opposite p
        from_start (at_start h) = absurd (opposite h)

    pub end_left_of_ray : IsPositive (cross R b (neg_vector R i))
    end_left_of_ray = to_end (left ib)
      where
        to_end : IsPositive (cross R i b) → IsPositive (cross R b (neg_vector R i))
        to_end r = directions.positive_by_plane L [] (i ∷ b ∷ []) (λ i b. cross E b (neg_vector E i) ≐ cross E i b) refl r

        left : HalfPlane i b → IsPositive (cross R i b)
        left (inside r) = r
        left (at_start h) = absurd (right_not_half_plane ray_left_of_start (half_plane_first_along (directions.along_comm L h) io))

    -- what is left of the ray and of the corner's first side is in the whole sector
    pub sector_of_second_part : {v : Vector A} → HalfPlane b v → HalfPlane i v → Sector o (neg_vector R i) v
    sector_of_second_part bv iv = sector_of_half_planes io (turn_trans io ib iv (inside ray_left_of_start) bv) iv

    first_left_of_ray : IsPositive (cross R i b)
    first_left_of_ray = directions.positive_by_plane L [] (i ∷ b ∷ []) (λ i b. cross E i b ≐ cross E b (neg_vector E i)) refl end_left_of_ray

    -- so is what is between the corner's first side and the ray
    pub sector_of_first_part : {v : Vector A} → HalfPlane o v → HalfPlane (neg_vector R b) v → Sector o (neg_vector R i) v
    sector_of_first_part (at_start h) bv = at_start h
    sector_of_first_part {v} (inside p) bv = inside p (to_end (before bv))
      where
        before : HalfPlane (neg_vector R b) v → IsPositive (cross R v b)
        before (inside q) = right_of_opposite q
        before (at_start h) =
            absurd (not_both_crosses ray_left_of_start
            (directions.positive_by_plane L [] (o ∷ b ∷ []) (λ o b. cross E b o ≐ cross E o (neg_vector E b)) refl
            (directions.along_cross_right L o (directions.along_comm L h) p)))

        to_end : IsPositive (cross R v b) → IsPositive (cross R v (neg_vector R i))
        to_end q =
            directions.positive_by_plane L [] (i ∷ v ∷ []) (λ i v. cross E v (neg_vector E i) ≐ cross E i v) refl
            (signs.positive_of_mul_right L ray_left_of_start
            (signs.positive_of_eq L (plane.cross-cross_middle L.ring i o v b)
            (signs.add_non_negative_positive L
            (signs.mul_non_negative L (half_planes.half_plane_non_negative L io) (signs.non_negative_of_positive L q))
            (L.mul_positive first_left_of_ray p))))

    -- a vector of the whole sector is in one of the two parts
    pub sector_parts : {v : Vector A} → Sector o (neg_vector R i) v → (HalfPlane o v × HalfPlane (neg_vector R b) v) ⊎ (HalfPlane b v × HalfPlane i v)
    sector_parts {v} s =
        let both = half_planes_of_sector io s in
        elim (half_planes.half_plane_cases L b v (half_planes.half_plane-ne-zero L ib) (half_planes.half_plane-ne-zero L both.0)) [
          | inl h ↦ inr (h, both.1)
          | inr h ↦ inl (both.0, h)
        ]

    -- and not in both
    pub sector_parts_apart : {v : Vector A} → HalfPlane (neg_vector R b) v → HalfPlane b v → ⊥
    sector_parts_apart h k = half_planes.half_plane_one L k h

    -- strictly inside a part is strictly inside the whole sector
    pub strict_of_first_part : {v : Vector A} → IsPositive (cross R o v) → IsPositive (cross R v b) → IsPositive (cross R i v)
    strict_of_first_part {v} ov vb =
        signs.positive_of_mul_right L ray_left_of_start
        (signs.positive_of_eq L (plane.cross-cross_middle L.ring i o v b)
        (signs.add_non_negative_positive L
        (signs.mul_non_negative L (half_planes.half_plane_non_negative L io) (signs.non_negative_of_positive L vb))
        (L.mul_positive first_left_of_ray ov)))

    pub strict_of_second_part : {v : Vector A} → IsPositive (cross R b v) → IsPositive (cross R i v) → IsPositive (cross R o v)
    strict_of_second_part {v} bv iv = half_planes.half_plane_trans L io ib (inside iv) ray_left_of_start bv

    -- what turns on from a vector of the second part, within the sector, stays in that part
    pub second_part_after_turn : {u v : Vector A} → HalfPlane b u → HalfPlane i u → HalfPlane u v → Sector o (neg_vector R i) v → HalfPlane b v
    second_part_after_turn bu iu uv s = turn_trans ib iu (half_planes_of_sector io s).1 bu uv

  -- what turns on from a vector of the sector out of it is left of the opposite of i, or along it
  pub beyond_sector : {i o u v : Vector A} → HalfPlane i o → Sector o (neg_vector R i) u → HalfPlane u v → ¬ Sector o (neg_vector R i) v → HalfPlane (neg_vector R i) v
  beyond_sector {i} {o} {u} {v} io su uv out =
      elim (half_planes.half_plane_cases L i v (from_turn io) (half_planes.half_plane-ne-zero L uv)) [
        | inl iv ↦ absurd (let both = half_planes_of_sector io su in out (sector_of_half_planes io (turn_trans io both.1 iv both.0 uv) iv))
        | inr h ↦ h
      ]
    where
      from_turn : {w x : Vector A} → HalfPlane w x → w ≢ zero_vector R
      from_turn (at_start h) = directions.dot_positive-ne-zero_left L h.same_way
      from_turn (inside p) = directions.cross_positive-ne-zero_left L p
