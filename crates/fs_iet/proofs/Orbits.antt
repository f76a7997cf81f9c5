-- Orbits of the crossing map: they exist, are unique, join and can be cut. A library for crates to come.
use Rattle.std.proofs.Common.{◌≡◌, ◌≢◌, ℕ, zero, suc, ◌+◌, [], ◌∷◌, refl, sym, ap, ◌∙◌, subst, arith}
use Rattle.fs_ring.specs.Vector.{zero_vector, add_vector}
use Rattle.fs_ring.proofs.Solver.{expressions as E}
use Rattle.fs_ring.proofs.PlaneSolver.{vector_identity, ◌≐ᵥ◌}
use Rattle.fs_quadratic.specs.Ring.{Quadratic, quadratic}
use Rattle.fs_quadratic.proofs.Laws.{quadratic_ring}
use Rattle.fs_plane.specs.declared.corners.Corner.{Corner}
use Rattle.fs_plane.specs.Vector.{PlaneVector, vector_zero}
use Rattle.fs_gluing.specs.CrossingMap.{Crosses, Orbit, IsPosition}
use Rattle.fs_gluing.specs.Surface.{GluedPolygons, IsTranslationSurface}
use Rattle.fs_iet.proofs.CrossingMaps.{crosses_within, crosses_some, crosses_onto, map_of_positions}

module _ (s : GluedPolygons) (v : PlaneVector) where
  abbrev plus : PlaneVector → PlaneVector → PlaneVector
  plus a b = add_vector (quadratic s.d) a b

  zero_plus : (a : PlaneVector) → plus vector_zero a ≡ a
  zero_plus a = vector_identity (quadratic_ring s.d) [] (a ∷ []) (λ a. add_vector E (zero_vector E) a ≐ᵥ a) refl

  plus_zero : (a : PlaneVector) → plus a vector_zero ≡ a
  plus_zero a = vector_identity (quadratic_ring s.d) [] (a ∷ []) (λ a. add_vector E a (zero_vector E) ≐ᵥ a) refl

  plus_assoc : (a b c : PlaneVector) → plus (plus a b) c ≡ plus a (plus b c)
  plus_assoc a b c = vector_identity (quadratic_ring s.d) [] (a ∷ b ∷ c ∷ []) (λ a b c. add_vector E (add_vector E a b) c ≐ᵥ add_vector E a (add_vector E b c)) refl

  regroup : (h a b c e : PlaneVector) → h ≡ plus a b → b ≡ plus c e → h ≡ plus (plus a c) e
  regroup h a b c e p q = p ∙ ap (plus a) q ∙ sym (plus_assoc a c e)

  -- ---- joined and cut

  -- one crossing is an orbit
  pub orbit_of_crossing : {y z : Quadratic} {h : PlaneVector} {f : Corner} → Crosses s v y z h f → Orbit s v 1 y z h
  orbit_of_crossing {y} {z} {h} {f} c = (z, h, vector_zero, f, c, (refl, refl), sym (plus_zero h))

  -- an orbit of one crossing is one
  pub crossing_of_orbit : {y z : Quadratic} {h : PlaneVector} → Orbit s v 1 y z h → (f : Corner) × Crosses s v y z h f
  crossing_of_orbit {y} {z} {h} o =
      let whole : o.1 ≡ h = sym (plus_zero o.1) ∙ ap (plus o.1) (sym o.5.1) ∙ sym o.6 in
      (o.3, subst (λ g. Crosses s v y z g o.3) whole (subst (λ z. Crosses s v y z o.1 o.3) (sym o.5.0) o.4))

  -- two orbits, of which the second begins where the first ends, are one
  pub orbit_join : (m n : ℕ) (y u z : Quadratic) (g k : PlaneVector) → Orbit s v m y u g → Orbit s v n u z k → Orbit s v (m + n) y z (plus g k)
  orbit_join zero n y u z g k first second =
      let none : n ≡ 0 + n = omega arith in
      subst (λ (n : ℕ). Orbit s v n y z (plus g k)) none
      (subst (λ y. Orbit s v n y z (plus g k)) first.0
      (subst (Orbit s v n u z) (sym (ap (λ a. plus a k) first.1 ∙ zero_plus k)) second))
  orbit_join (suc m) n y u z g k first second =
      let more : suc (m + n) ≡ suc m + n = omega arith in
      subst (λ (n : ℕ). Orbit s v n y z (plus g k)) more
      (first.0, first.1, plus first.2 k, first.3, first.4, orbit_join m n first.0 u z first.2 k first.5 second, ap (λ a. plus a k) first.6 ∙ plus_assoc first.1 first.2 k)

  -- an orbit can be cut after any number of crossings
  pub orbit_cut : (m n : ℕ) (y z : Quadratic) (h : PlaneVector) → Orbit s v (m + n) y z h
      → (u : Quadratic) × (g k : PlaneVector) × Orbit s v m y u g × Orbit s v n u z k × (h ≡ plus g k)
  orbit_cut zero n y z h o =
      let none : 0 + n ≡ n = omega arith in
      (y, vector_zero, h, (refl, refl), subst (λ (n : ℕ). Orbit s v n y z h) none o, sym (zero_plus h))
  orbit_cut (suc m) n y z h o =
      let more : suc m + n ≡ suc (m + n) = omega arith in
      let whole : Orbit s v (suc (m + n)) y z h = subst (λ (n : ℕ). Orbit s v n y z h) more o in
      let rest = orbit_cut m n whole.0 z whole.2 whole.5 in (
        rest.0,
        plus whole.1 rest.1,
        rest.2,
        (whole.0, whole.1, rest.1, whole.3, whole.4, rest.3, refl),
        rest.4,
        regroup h whole.1 whole.2 rest.1 rest.2 whole.6 rest.5,
      )

  module _ (surface : IsTranslationSurface s) (some : v ≢ vector_zero) where
    -- ---- orbits of positions

    -- an orbit from a position leads to a position
    pub orbit_within : (n : ℕ) (y z : Quadratic) (h : PlaneVector) → IsPosition s v y → Orbit s v n y z h → IsPosition s v z
    orbit_within zero y z h p o = subst (IsPosition s v) (sym o.0) p
    orbit_within (suc n) y z h p o = orbit_within n o.0 z o.2 (crosses_within s surface v some y o.0 o.1 o.3 o.4).1 o.5

    -- there is an orbit of each length from each position
    pub orbit_exists : (n : ℕ) (y : Quadratic) → IsPosition s v y → (z : Quadratic) × (h : PlaneVector) × Orbit s v n y z h
    orbit_exists zero y p = (y, vector_zero, (refl, refl))
    orbit_exists (suc n) y p =
        let first = crosses_some s surface v some y p in
        let rest = orbit_exists n first.0 (crosses_within s surface v some y first.0 first.1 first.2 first.3).1 in
        (rest.0, plus first.1 rest.1, (first.0, first.1, rest.1, first.2, first.3, rest.2, refl))

    -- one alone
    pub orbit_unique : (n : ℕ) (y z w : Quadratic) (h g : PlaneVector) → Orbit s v n y z h → Orbit s v n y w g → (z ≡ w) × (h ≡ g)
    orbit_unique zero y z w h g o k = (o.0 ∙ sym k.0, o.1 ∙ sym k.1)
    orbit_unique (suc n) y z w h g o k =
        let first = (map_of_positions s surface v some).one y o.0 k.0 o.1 k.1 o.3 k.3 o.4 k.4 in
        let rest = orbit_unique n k.0 z w o.2 k.2 (subst (λ y. Orbit s v n y z o.2) first.0 o.5) k.5 in
        (rest.0, o.6 ∙ (λ i. plus (first.1 i) (rest.1 i)) ∙ sym k.6)

    -- orbits of one length that lead to one position are from one
    pub orbit_one_to_one : (n : ℕ) (y x z : Quadratic) (h g : PlaneVector) → Orbit s v n y z h → Orbit s v n x z g → y ≡ x
    orbit_one_to_one zero y x z h g o k = sym o.0 ∙ k.0
    orbit_one_to_one (suc n) y x z h g o k =
        let rest = orbit_one_to_one n o.0 k.0 z o.2 k.2 o.5 k.5 in
        (map_of_positions s surface v some).one_to_one y x k.0 o.1 k.1 o.3 k.3 (subst (λ u. Crosses s v y u o.1 o.3) rest o.4) k.4

    -- there is an orbit of each length to each position
    pub orbit_onto : (n : ℕ) (z : Quadratic) → IsPosition s v z → (y : Quadratic) × (h : PlaneVector) × Orbit s v n y z h × IsPosition s v y
    orbit_onto zero z p = (z, vector_zero, (refl, refl), p)
    orbit_onto (suc n) z p =
        let rest = orbit_onto n z p in
        let first = crosses_onto s surface v some rest.0 rest.3 in (
          first.0,
          plus first.1 rest.1,
          (rest.0, first.1, rest.1, first.2, first.3, rest.2, refl),
          (crosses_within s surface v some first.0 rest.0 first.1 first.2 first.3).0,
        )

    -- what an orbit passes after its first crossings is what the rest of it begins at
    pub orbit_rest : (m n : ℕ) (y u z : Quadratic) (g h : PlaneVector) → Orbit s v m y u g → Orbit s v (m + n) y z h → (k : PlaneVector) × Orbit s v n u z k × (h ≡ plus g k)
    orbit_rest m n y u z g h first whole =
        let parts = orbit_cut m n y z h whole in
        let same = orbit_unique m y parts.0 u parts.1 g parts.3 first in
        (parts.2, subst (λ u. Orbit s v n u z parts.2) same.0 parts.4, parts.5 ∙ ap (λ a. plus a parts.2) same.1)
