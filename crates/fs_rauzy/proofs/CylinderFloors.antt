-- The intervals that a band of closed leaves passes through, one after another and again from the first: each is in the interval of one side. A library for crates to come.
use Rattle.std.proofs.Common.{◌≡◌, ◌≢◌, ◌⊎◌, ℕ, zero, suc, ◌+◌, ◌-◌, ◌<◌, length, refl, sym, subst, inl, inr, arith}
use Rattle.fs_ring.specs.OrderedRing.{IsOrderedRing, IsAtMost}
use Rattle.fs_ring.specs.Vector.{add_vector}
use Rattle.fs_ring.proofs.Order as order
use Rattle.fs_quadratic.specs.Ring.{Quadratic, quadratic, IsPositive, add}
use Rattle.fs_plane.specs.declared.corners.Corner.{Corner}
use Rattle.fs_plane.specs.Vector.{PlaneVector, vector_zero}
use Rattle.fs_gluing.specs.CrossingMap.{block_start, outgoing_left, side_width, IsPosition, Crosses, Orbit}
use Rattle.fs_gluing.specs.Surface.{GluedPolygons, IsTranslationSurface}
use Rattle.fs_iet.specs.FirstReturns.{IsBetween}
use Rattle.fs_iet.proofs.CrossingMaps.{crosses_some}
use Rattle.fs_iet.proofs.Floors.{carried_within_side}
use Rattle.fs_iet.proofs.Orbits.{orbit_of_crossing, crossing_of_orbit, orbit_join, orbit_cut, orbit_within, orbit_unique}
use Rattle.fs_iet.proofs.ShiftedIntervals.{holds_left}
use Rattle.fs_iet.proofs.SideMeasures.{surface_order}
use Rattle.fs_rauzy.proofs.CylinderReturns.{IsBand}

-- within m crossings from x the flow is at q
pub record IsFloor (s : GluedPolygons) (v : PlaneVector) (x : Quadratic) (m : ℕ) (q : Quadratic) : Type 0 where
  pub number : ℕ
  pub below : number < m
  pub vector : PlaneVector
  pub orbit : Orbit s v number x q vector

-- from the interval as long as the width that begins at q the flow crosses a side to the one that begins at z
pub record IsStep (s : GluedPolygons) (v : PlaneVector) (x width : Quadratic) (m : ℕ) (q z : Quadratic) (f : Corner) : Type 0 where
  pub from : IsFloor s v x m q
  pub to : IsFloor s v x m z
  pub vector : PlaneVector
  pub crossing : Crosses s v q z vector f
  pub fits : IsAtMost (quadratic s.d) (IsPositive s.d) (add q width) (add (outgoing_left s v f) (side_width s v f))

next_or_last : (i m : ℕ) → i < m → (i + 1 < m) ⊎ (i + 1 ≡ m)
next_or_last i m l = grind arith

module _ (s : GluedPolygons) (surface : IsTranslationSurface s) (v : PlaneVector) (some : v ≢ vector_zero) {x width : Quadratic} {m : ℕ} {h : PlaneVector} (band : IsBand s v x width m h) where
  L : IsOrderedRing (quadratic s.d) (IsPositive s.d)
  L = surface_order s surface

  -- the band begins at one of its positions
  pub first_in_band : IsBetween s.d x (add x width) x
  first_in_band = record { from_left = order.at_most_refl L x; before_right = holds_left L x width band.wide }

  pub first_position : IsPosition s v x
  first_position = record {
    from_zero = band.from_zero;
    below_total = order.less_of_less_at_most L x (add x width) (block_start s v (length s.polygons)) first_in_band.before_right band.to_total;
  }

  pub first_floor : IsFloor s v x m x
  first_floor = record { number = 0; below = band.some; vector = vector_zero; orbit = (refl, refl) }

  pub floor_position : {q : Quadratic} → IsFloor s v x m q → IsPosition s v q
  floor_position {q} p = orbit_within s v surface some p.number x q p.vector first_position p.orbit

  floor_or_first : (n : ℕ) (z : Quadratic) (k : PlaneVector) → Orbit s v n x z k → (n < m) ⊎ (n ≡ m) → IsFloor s v x m z
  floor_or_first n z k o (inl l) = record { number = n; below = l; vector = k; orbit = o }
  floor_or_first n z k o (inr e) =
      subst (IsFloor s v x m) (sym (orbit_unique s v surface some m x z x k h (subst (λ (n : ℕ). Orbit s v n x z k) e o) (band.closes x first_in_band)).0) first_floor

  -- what is crossed to from a floor is a floor
  floor_beyond : {q z : Quadratic} {g : PlaneVector} {f : Corner} → IsFloor s v x m q → Crosses s v q z g f → IsFloor s v x m z
  floor_beyond {q} {z} {g} {f} p c =
      floor_or_first (p.number + 1) z (add_vector (quadratic s.d) p.vector g) (orbit_join s v p.number 1 x q z p.vector g p.orbit (orbit_of_crossing s v c)) (next_or_last p.number m p.below)

  -- each crossing from a floor is a step
  pub step_of_crossing : {q z : Quadratic} {g : PlaneVector} {f : Corner} → IsFloor s v x m q → Crosses s v q z g f → IsStep s v x width m q z f
  step_of_crossing {q} {z} {g} {f} p c = record {
    from = p;
    to = floor_beyond p c;
    vector = g;
    crossing = c;
    fits = (carried_within_side s surface v some x width band.from_zero band.to_total m band.clear p.number p.below q z p.vector g f p.orbit c).1;
  }

  -- from each floor there is a step
  pub step_from : {q : Quadratic} → IsFloor s v x m q → (z : Quadratic) × (f : Corner) × IsStep s v x width m q z f
  step_from {q} p = let c = crosses_some s surface v some q (floor_position p) in (c.0, c.2, step_of_crossing p c.3)

  -- and to each
  pub step_to : {z : Quadratic} → IsFloor s v x m z → (q : Quadratic) × (f : Corner) × IsStep s v x width m q z f
  step_to {z} p = go p.number p.below p.vector p.orbit
    where
      last : (i : ℕ) → i < m → (g : PlaneVector) → Orbit s v (i + 1) x z g → (q : Quadratic) × (f : Corner) × IsStep s v x width m q z f
      last i l g o =
          let parts = orbit_cut s v i 1 x z g o in
          let c = crossing_of_orbit s v parts.4 in
          (parts.0, c.0, step_of_crossing (record { number = i; below = l; vector = parts.1; orbit = parts.3 }) c.1)

      go : (i : ℕ) → i < m → (g : PlaneVector) → Orbit s v i x z g → (q : Quadratic) × (f : Corner) × IsStep s v x width m q z f
      go zero l g o =
          let more = band.some in
          let whole : m ≡ m - 1 + 1 = omega arith in
          last (m - 1) (omega arith) h (subst (λ z. Orbit s v (m - 1 + 1) x z h) (sym o.0) (subst (λ (n : ℕ). Orbit s v n x x h) whole (band.closes x first_in_band)))
      go (suc i) l g o = last i (omega arith) g (let e : suc i ≡ i + 1 = omega arith in subst (λ (n : ℕ). Orbit s v n x z g) e o)

  -- an orbit from a floor leads to a floor
  pub floor_after : (n : ℕ) (q u : Quadratic) (g : PlaneVector) → IsFloor s v x m q → Orbit s v n q u g → IsFloor s v x m u
  floor_after zero q u g p o = subst (IsFloor s v x m) (sym o.0) p
  floor_after (suc n) q u g p o = floor_after n o.0 u o.2 (floor_beyond p o.4) o.5
