-- First returns of a flow to an interval: there is at most one, and those to a smaller interval are made of those to a larger one. A library for crates to come.
use Rattle.std.proofs.Common.{◌≡◌, ◌≢◌, ◌⊎◌, ℕ, ◌+◌, ◌-◌, ◌<◌, subst, inl, inr, arith}
use Rattle.std.proofs.lemmas.Bool.{cases_order}
use Rattle.fs_ring.specs.OrderedRing.{IsAtMost}
use Rattle.fs_ring.specs.Vector.{add_vector}
use Rattle.fs_ring.proofs.Order as order
use Rattle.fs_quadratic.specs.Ring.{Quadratic, quadratic, IsPositive}
use Rattle.fs_plane.specs.Vector.{PlaneVector, vector_zero}
use Rattle.fs_gluing.specs.CrossingMap.{Orbit}
use Rattle.fs_gluing.specs.Surface.{GluedPolygons, IsTranslationSurface}
use Rattle.fs_iet.specs.FirstReturns.{IsBetween, IsFirstReturn}
use Rattle.fs_iet.proofs.SideMeasures.{surface_order}
use Rattle.fs_iet.proofs.Orbits.{orbit_join, orbit_unique, orbit_rest}

module _ (s : GluedPolygons) (surface : IsTranslationSurface s) (v : PlaneVector) (some : v ≢ vector_zero) where
  -- what is in an interval is in a larger one
  pub between_wider : {l r a b y : Quadratic} → IsAtMost (quadratic s.d) (IsPositive s.d) l a → IsAtMost (quadratic s.d) (IsPositive s.d) b r → IsBetween s.d a b y → IsBetween s.d l r y
  between_wider {l} {r} {a} {b} {y} h k m = record {
    from_left = order.at_most_trans (surface_order s surface) l a y h m.from_left;
    before_right = order.less_of_less_at_most (surface_order s surface) y b r m.before_right k;
  }

  -- a first return is the only one
  pub first_return_unique : {l r y z w : Quadratic} {m n : ℕ} {h g : PlaneVector} → IsFirstReturn s v l r m y z h → IsFirstReturn s v l r n y w g → (m ≡ n) × (z ≡ w) × (h ≡ g)
  first_return_unique {l} {r} {y} {z} {w} {m} {n} {h} {g} a b = go (cases_order m n)
    where
      go : (m ≡ n) ⊎ ((m < n) ⊎ (n < m)) → (m ≡ n) × (z ≡ w) × (h ≡ g)
      go (inl e) = let same = orbit_unique s v surface some n y z w h g (subst (λ (k : ℕ). Orbit s v k y z h) e a.orbit) b.orbit in (e, same.0, same.1)
      go (inr (inl l)) = let one = a.some in absurd (b.not_before m z h (omega arith) l a.orbit a.returned)
      go (inr (inr l)) = let one = b.some in absurd (a.not_before n w g (omega arith) l b.orbit b.returned)

  module _ {l r a b : Quadratic} (from_left : IsAtMost (quadratic s.d) (IsPositive s.d) l a) (to_right : IsAtMost (quadratic s.d) (IsPositive s.d) b r) where
    -- a first return to an interval that is in a smaller one is the first to that
    pub first_return_within : {y z : Quadratic} {m : ℕ} {h : PlaneVector} → IsFirstReturn s v l r m y z h → IsBetween s.d a b z → IsFirstReturn s v a b m y z h
    first_return_within x inside = record {
      some = x.some;
      orbit = x.orbit;
      returned = inside;
      not_before = λ i u g p q o k. x.not_before i u g p q o (between_wider from_left to_right k);
    }

    -- one that isn't is followed by the first return to the smaller one from there
    pub first_return_later : {y z w : Quadratic} {m n : ℕ} {h g : PlaneVector} → IsFirstReturn s v l r m y z h → ¬ IsBetween s.d a b z → IsFirstReturn s v a b n z w g
        → IsFirstReturn s v a b (m + n) y w (add_vector (quadratic s.d) h g)
    first_return_later {y} {z} {w} {m} {n} {h} {g} x outside next =
        let one = x.some in
        record {
          some = omega arith;
          orbit = orbit_join s v m n y z w h g x.orbit next.orbit;
          returned = next.returned;
          not_before = λ i u k p q o inside. go i u k p q o inside (cases_order i m);
        }
      where
        go : (i : ℕ) (u : Quadratic) (k : PlaneVector) → 0 < i → i < m + n → Orbit s v i y u k → IsBetween s.d a b u → (i ≡ m) ⊎ ((i < m) ⊎ (m < i)) → ⊥
        go i u k p q o inside (inl e) =
            outside (subst (IsBetween s.d a b) (orbit_unique s v surface some m y u z k h (subst (λ (j : ℕ). Orbit s v j y u k) e o) x.orbit).0 inside)
        go i u k p q o inside (inr (inl less)) = x.not_before i u k p less o (between_wider from_left to_right inside)
        go i u k p q o inside (inr (inr more)) =
            let sum : i ≡ m + (i - m) = omega arith in
            let rest = orbit_rest s v surface some m (i - m) y z u h k x.orbit (subst (λ (j : ℕ). Orbit s v j y u k) sum o) in
            next.not_before (i - m) u rest.0 (omega arith) (omega arith) rest.1 inside
