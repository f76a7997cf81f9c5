-- Half planes and sectors, and the counterclockwise order of directions, over an ordered ring: a library for crates to come.
use Rattle.std.proofs.Common.{◌≡◌, ◌≢◌, ◌⊎◌, [], ◌∷◌, refl, sym, ap, ◌∙◌, inl, inr}
use Rattle.fs_ring.specs.Operations.{Operations}
use Rattle.fs_ring.specs.OrderedRing.{IsOrderedRing, IsNonNegative}
use Rattle.fs_ring.specs.Vector.{Vector, zero_vector, unit_vector, neg_vector, cross, dot, norm}
use Rattle.fs_ring.specs.Direction.{IsAlong, left, right, along, opposite, InHalfPlane, InSector, at_start, inside, IsUpper, IsLower, IsBefore, upper, across, lower}
use Rattle.fs_ring.proofs.RingLaws as ring
use Rattle.fs_ring.proofs.Signs as signs
use Rattle.fs_ring.proofs.Plane as plane
use Rattle.fs_ring.proofs.Directions as directions
use Rattle.fs_ring.proofs.Solver.{expressions as E, numeral, ◌⊗◌, ◌≐◌, ◌from◌}
use Rattle.fs_ring.proofs.PlaneSolver.{plane_derived}

module _ {A : Type 0} {R : Operations A} {IsPositive : A → Type 0} (L : IsOrderedRing R IsPositive) where
  open R use {add as ◌+◌, mul as ◌*◌, neg, zero as 𝟘}

  abbrev Along : Vector A → Vector A → Type 0
  Along a b = IsAlong R IsPositive a b

  abbrev HalfPlane : Vector A → Vector A → Type 0
  HalfPlane w v = InHalfPlane R IsPositive w v

  abbrev Sector : Vector A → Vector A → Vector A → Type 0
  Sector a c v = InSector R IsPositive a c v

  abbrev Before : Vector A → Vector A → Type 0
  Before a b = IsBefore R IsPositive a b

  -- ---- half planes

  pub half_plane-ne-zero : {w v : Vector A} → HalfPlane w v → v ≢ zero_vector R
  half_plane-ne-zero (inside p) = directions.cross_positive-ne-zero_right L p
  half_plane-ne-zero (at_start h) = directions.dot_positive-ne-zero_right L h.same_way

  pub half_plane_non_negative : {w v : Vector A} → HalfPlane w v → IsNonNegative R IsPositive (cross R w v)
  half_plane_non_negative (inside p) = signs.non_negative_of_positive L p
  half_plane_non_negative (at_start h) = signs.non_negative_of_zero L h.parallel

  -- what is in the half plane and left of one of its vectors isn't on its first ray
  pub half_plane_left : {w a b : Vector A} → HalfPlane w a → HalfPlane w b → IsPositive (cross R a b) → IsPositive (cross R w b)
  half_plane_left ha (inside p) ab = p
  half_plane_left {w} {a} {b} ha (at_start h) ab =
      absurd (half_plane_non_negative ha (directions.cross_negative L w a (directions.along_cross_right L a (directions.along_comm L h) ab)))

  -- 'left of' is transitive in a half plane
  pub half_plane_trans : {w a b c : Vector A} → HalfPlane w a → HalfPlane w b → HalfPlane w c → IsPositive (cross R a b)
      → IsPositive (cross R b c) → IsPositive (cross R a c)
  half_plane_trans {w} {a} {b} {c} ha hb hc ab bc =
      directions.cross_trans L w a b c (half_plane_non_negative ha) (half_plane_left ha hb ab) (half_plane_left hb hc bc) ab bc

  -- no two vectors of a half plane are opposite
  pub half_plane_not_opposite : {w a b : Vector A} → HalfPlane w a → HalfPlane w b → cross R a b ≡ 𝟘 → IsPositive (neg (dot R a b)) → ⊥
  half_plane_not_opposite {w} {a} {b} (inside p) hb e n =
      half_plane_non_negative hb
      (signs.negative_of_mul_left L (directions.norm_positive L a (directions.cross_positive-ne-zero_right L p))
      (signs.positive_of_eq L
      (plane_derived L.ring [] (w ∷ a ∷ b ∷ [])
      (λ w a b. E.neg (norm E a ⊗ cross E w b) ≐ cross E w a ⊗ E.neg (dot E a b) from (E.neg (dot E w a), cross E a b ≐ numeral 0) ∷ []) refl (e, tt))
      (L.mul_positive p n)))
  half_plane_not_opposite {w} {a} {b} (at_start h) (inside q) e n =
      signs.positive-ne-zero L (L.mul_positive h.same_way q)
      (plane_derived L.ring [] (w ∷ a ∷ b ∷ [])
      (λ w a b. dot E w a ⊗ cross E w b ≐ numeral 0 from (norm E w, cross E a b ≐ numeral 0) ∷ (dot E w b, cross E w a ≐ numeral 0) ∷ []) refl (e, (h.parallel, tt)))
  half_plane_not_opposite {w} {a} {b} (at_start h) (at_start k) e n =
      signs.not_both_signs L (L.mul_positive h.same_way k.same_way)
      (signs.positive_of_eq L
      (plane_derived L.ring [] (w ∷ a ∷ b ∷ [])
      (λ w a b. E.neg (dot E w a ⊗ dot E w b) ≐ norm E w ⊗ E.neg (dot E a b) from (cross E w b, cross E w a ≐ numeral 0) ∷ []) refl (h.parallel, tt))
      (L.mul_positive (directions.norm_positive L w (directions.dot_positive-ne-zero_left L h.same_way)) n))

  -- of two vectors of a half plane one is left of the other, or they have one direction
  pub half_plane_turn : {w a b : Vector A} → HalfPlane w a → HalfPlane w b
      → IsPositive (cross R a b) ⊎ (IsPositive (cross R b a) ⊎ Along a b)
  half_plane_turn {w} {a} {b} ha hb =
      elim (directions.turn L a b (half_plane-ne-zero ha) (half_plane-ne-zero hb))
      [ left p ↦ inl p | right p ↦ inr (inl p) | along h ↦ inr (inr h) | opposite e n ↦ absurd (half_plane_not_opposite ha hb e n) ]

  -- a vector that isn't zero is in one of the two half planes of a line
  pub half_plane_cases : (w v : Vector A) → w ≢ zero_vector R → v ≢ zero_vector R → HalfPlane w v ⊎ HalfPlane (neg_vector R w) v
  half_plane_cases w v m n =
      elim (directions.turn L w v m n) [
        | left p ↦ inl (inside p)
        | right p ↦ inr (inside (directions.positive_by_plane L [] (w ∷ v ∷ []) (λ w v. cross E (neg_vector E w) v ≐ cross E v w) refl p))
        | along h ↦ inl (at_start h)
        | opposite e p ↦ inr (at_start (record { parallel = plane.cross-neg_left L.ring w v ∙ ap neg e ∙ ring.neg_zero L.ring; same_way = signs.positive_of_eq L (plane.dot-neg_left L.ring w v) p }))
      ]

  -- and in one only
  pub half_plane_one : {w v : Vector A} → HalfPlane w v → HalfPlane (neg_vector R w) v → ⊥
  half_plane_one {w} {v} (inside p) k = half_plane_non_negative k (signs.positive_of_eq L (ap neg (plane.cross-neg_left L.ring w v)) (signs.neg-neg_positive L p))
  half_plane_one {w} {v} (at_start h) (inside q) = signs.negative-ne-zero L (signs.positive_of_eq L (sym (plane.cross-neg_left L.ring w v)) q) h.parallel
  half_plane_one {w} {v} (at_start h) (at_start k) = signs.not_both_signs L h.same_way (signs.positive_of_eq L (sym (plane.dot-neg_left L.ring w v)) k.same_way)

  -- a half plane has all vectors of each direction that it has
  pub half_plane_along : {w u v : Vector A} → Along u v → HalfPlane w u → HalfPlane w v
  half_plane_along {w} {u} {v} h (at_start k) = at_start (directions.along_trans L k h)
  half_plane_along {w} {u} {v} h (inside p) = inside (directions.along_cross_right L w h p)

  -- ---- sectors

  -- what is in a sector is right of its end
  pub sector_end : {a c v : Vector A} → IsPositive (cross R a c) → Sector a c v → IsPositive (cross R v c)
  sector_end {a} {c} {v} ac (at_start h) = directions.along_cross L c h ac
  sector_end ac (inside p q) = q

  -- a sector lies in the half plane of its first ray
  pub sector_half_plane : {a c v : Vector A} → Sector a c v → HalfPlane a v
  sector_half_plane (at_start h) = at_start h
  sector_half_plane (inside p q) = inside p

  pub sector_along : {a c u v : Vector A} → Along u v → Sector a c u → Sector a c v
  sector_along h (at_start k) = at_start (directions.along_trans L k h)
  sector_along {a} {c} h (inside p q) = inside (directions.along_cross_right L a h p) (directions.along_cross L c h q)

  -- a vector b inside cuts the sector from a to c in two
  module _ {a b c : Vector A} (ab : IsPositive (cross R a b)) (bc : IsPositive (cross R b c)) (ac : IsPositive (cross R a c)) where
    pub sector_first : {v : Vector A} → Sector a b v → Sector a c v
    sector_first (at_start h) = at_start h
    sector_first {v} (inside p q) = inside p (directions.between_trans L a v b c p q ab bc ac)

    pub sector_second : {v : Vector A} → Sector b c v → Sector a c v
    sector_second (at_start h) = inside (directions.along_cross_right L a h ab) (directions.along_cross L c h bc)
    sector_second {v} (inside p q) =
        inside (signs.positive_of_mul_right L bc (signs.positive_of_eq L (plane.cross-cross_middle L.ring a b v c) (L.add_positive (L.mul_positive ab q) (L.mul_positive ac p)))) q

    pub sector_split : {v : Vector A} → Sector a c v → Sector a b v ⊎ Sector b c v
    sector_split (at_start h) = inl (at_start h)
    sector_split {v} (inside p q) =
        elim (half_plane_turn {w = a} {a = b} {b = v} (inside ab) (inside p))
        [ inl bv ↦ inr (inside bv q) | inr s ↦ elim s [ inl vb ↦ inl (inside p vb) | inr h ↦ inr (at_start h) ] ]

    pub sector_one : {v : Vector A} → Sector a b v → Sector b c v → ⊥
    sector_one {v} h (at_start k) = signs.positive-ne-zero L (sector_end ab h) (directions.parallel_comm L b v k.parallel)
    sector_one {v} h (inside p q) = signs.not_both_signs L p (directions.cross_negative L b v (sector_end ab h))

  -- ---- the order of directions

  pub unit-ne-zero : unit_vector R ≢ zero_vector R
  unit-ne-zero e = signs.positive-ne-zero L L.one_positive (ap (λ v. v.x) e)

  pub before_irrefl : (a : Vector A) → ¬ Before a a
  before_irrefl a (upper h k p) = signs.positive-ne-zero L p (plane.cross_self L.ring a)
  before_irrefl a (across h k) = half_plane_one h k
  before_irrefl a (lower h k p) = signs.positive-ne-zero L p (plane.cross_self L.ring a)

  pub before_trans : {a b c : Vector A} → Before a b → Before b c → Before a c
  before_trans (upper ha hb p) (upper hb' hc q) = upper ha hc (half_plane_trans ha hb hc p q)
  before_trans (upper ha hb p) (across hb' hc) = across ha hc
  before_trans (upper ha hb p) (lower hb' hc q) = absurd (half_plane_one hb hb')
  before_trans (across ha hb) (upper hb' hc q) = absurd (half_plane_one hb' hb)
  before_trans (across ha hb) (across hb' hc) = absurd (half_plane_one hb' hb)
  before_trans (across ha hb) (lower hb' hc q) = across ha hc
  before_trans (lower ha hb p) (upper hb' hc q) = absurd (half_plane_one hb' hb)
  before_trans (lower ha hb p) (across hb' hc) = absurd (half_plane_one hb' hb)
  before_trans (lower ha hb p) (lower hb' hc q) = lower ha hc (half_plane_trans ha hb hc p q)

  pub before_asymm : {a b : Vector A} → Before a b → Before b a → ⊥
  before_asymm {a} h k = before_irrefl a (before_trans h k)

  -- of two vectors that aren't zero one is before the other, or they have one direction
  pub before_cases : (a b : Vector A) → a ≢ zero_vector R → b ≢ zero_vector R → Before a b ⊎ (Before b a ⊎ Along a b)
  before_cases a b m n = go (half_plane_cases (unit_vector R) a unit-ne-zero m) (half_plane_cases (unit_vector R) b unit-ne-zero n)
    where
      go : IsUpper R IsPositive a ⊎ IsLower R IsPositive a → IsUpper R IsPositive b ⊎ IsLower R IsPositive b
          → Before a b ⊎ (Before b a ⊎ Along a b)
      go (inl h) (inl k) = elim (half_plane_turn h k) [ inl p ↦ inl (upper h k p) | inr s ↦ elim s [ inl p ↦ inr (inl (upper k h p)) | inr z ↦ inr (inr z) ] ]
      go (inl h) (inr k) = inl (across h k)
      go (inr h) (inl k) = inr (inl (across k h))
      go (inr h) (inr k) = elim (half_plane_turn h k) [ inl p ↦ inl (lower h k p) | inr s ↦ elim s [ inl p ↦ inr (inl (lower k h p)) | inr z ↦ inr (inr z) ] ]

  -- the order depends on directions alone
  pub before_along : {a b u v : Vector A} → Along a u → Along b v → Before a b → Before u v
  before_along {a} {b} {u} {v} h k (upper ha hb p) = upper (half_plane_along h ha) (half_plane_along k hb) (directions.along_cross_right L u k (directions.along_cross L b h p))
  before_along {a} {b} {u} {v} h k (across ha hb) = across (half_plane_along h ha) (half_plane_along k hb)
  before_along {a} {b} {u} {v} h k (lower ha hb p) = lower (half_plane_along h ha) (half_plane_along k hb) (directions.along_cross_right L u k (directions.along_cross L b h p))
