-- Intervals that the flow carries along as a whole: those whose positions, but for the first, meet no left end of an outgoing side on the way. A library for crates to come.
use Rattle.std.proofs.Common.{◌≡◌, ◌≢◌, ℕ, zero, suc, ◌+◌, ◌<◌, ◌≤◌, [], ◌∷◌, length, refl, sym, ap, ◌∙◌, subst, inl, inr, arith}
use Rattle.fs_ring.specs.OrderedRing.{IsOrderedRing, IsAtMost}
use Rattle.fs_ring.proofs.Order as order
use Rattle.fs_ring.proofs.Signs as signs
use Rattle.fs_ring.proofs.Solver.{identity, derived, ◌⊕◌, ◌⊖◌, ◌≐◌, ◌from◌, numeral}
use Rattle.fs_quadratic.specs.Ring.{Quadratic, quadratic, IsPositive, IsLess, add, zero as nil}
use Rattle.fs_plane.specs.declared.corners.Corner.{Corner}
use Rattle.fs_plane.specs.Vector.{PlaneVector, vector_zero}
use Rattle.fs_gluing.specs.CrossingMap.{IsOutgoing, side_width, block_start, outgoing_left, incoming_left, IsPosition, Crosses, Orbit, IsOutMark}
use Rattle.fs_gluing.specs.Surface.{GluedPolygons, IsTranslationSurface}
use Rattle.fs_gluing.specs.SurfaceSides.{partner}
use Rattle.fs_iet.proofs.Intervals.{tiles_right_is_left}
use Rattle.fs_iet.proofs.ShiftedIntervals.{moved, moved_from_left, moved_before_right, moved_back}
use Rattle.fs_iet.proofs.SideMeasures.{surface_order}
use Rattle.fs_iet.proofs.SideRows.{top_row_exists, top_row_tiles}
use Rattle.fs_iet.proofs.SidesOfRows.{row_side, in_top_row}
use Rattle.fs_iet.proofs.Orbits.{orbit_of_crossing, crossing_of_orbit, orbit_join, orbit_cut, orbit_within}

-- within m crossings no position strictly inside the interval of length w from t on is at the left end of an outgoing side
abbrev pub IsClear : GluedPolygons → PlaneVector → Quadratic → Quadratic → ℕ → Type 0
IsClear s v t w m =
    (i : ℕ) (y u : Quadratic) (g : PlaneVector) → i < m → IsLess s.d t y → IsLess s.d y (add t w) → Orbit s v i y u g → ¬ ((f : Corner) × IsOutMark s v u f)

module _ (s : GluedPolygons) (surface : IsTranslationSurface s) (v : PlaneVector) (some : v ≢ vector_zero) where
  L : IsOrderedRing (quadratic s.d) (IsPositive s.d)
  L = surface_order s surface

  abbrev AtMost : Quadratic → Quadratic → Type 0
  AtMost x y = IsAtMost (quadratic s.d) (IsPositive s.d) x y

  abbrev end : Quadratic
  end = block_start s v (length s.polygons)

  -- where an outgoing side ends another begins, or the positions end
  pub outgoing_right_mark : (f : Corner) → IsOutgoing s v f → IsLess s.d (add (outgoing_left s v f) (side_width s v f)) end
      → (e : Corner) × IsOutMark s v (add (outgoing_left s v f) (side_width s v f)) e
  outgoing_right_mark f o less =
      let top = top_row_exists s surface v some in
      elim (tiles_right_is_left (quadratic s.d) (outgoing_left s v) (side_width s v) nil end top.0 (top_row_tiles s surface v some top.0 top.1) f (in_top_row s surface v some top.1 f o)) [
        | inl e ↦ absurd (order.less-ne L (add (outgoing_left s v f) (side_width s v f)) end less e)
        | inr k ↦ (k.0, record { outgoing = row_side top.1 k.0 k.1; at = sym k.2 })
      ]

  module _ (t w : Quadratic) (from_zero : AtMost nil t) (to_end : AtMost (add t w) end) where
    inside : (y : Quadratic) → AtMost t y → IsLess s.d y (add t w) → IsPosition s v y
    inside y h k = record { from_zero = order.at_most_trans L nil t y from_zero h; below_total = order.less_of_less_at_most L y (add t w) end k to_end }

    -- the positions of the interval are carried along with its first one for i crossings
    abbrev Carried : ℕ → Type 0
    Carried i =
        (q : Quadratic) (g : PlaneVector) → Orbit s v i t q g → (y : Quadratic) → AtMost t y → IsLess s.d y (add t w) → Orbit s v i y (moved (quadratic s.d) t q y) g

    -- then the interval that they are at is in that of one side
    within_side : (m i : ℕ) → IsClear s v t w m → i < m → Carried i → (q z : Quadratic) (g h : PlaneVector) (f : Corner) → Orbit s v i t q g → Crosses s v q z h f
        → AtMost (add q w) (add (outgoing_left s v f) (side_width s v f))
    within_side m i clear l carried q z g h f o c less =
        let right = add (outgoing_left s v f) (side_width s v f) in
        let y = moved (quadratic s.d) q t right in
        let after : IsLess s.d t y = signs.positive_by L (q ∷ t ∷ right ∷ []) (λ q t r. ((r ⊖ q) ⊕ t) ⊖ t ≐ r ⊖ q) refl c.before_right in
        let before : IsLess s.d y (add t w) = signs.positive_by L (q ∷ t ∷ right ∷ w ∷ []) (λ q t r w. (t ⊕ w) ⊖ ((r ⊖ q) ⊕ t) ≐ (q ⊕ w) ⊖ r) refl less in
        let from_t = order.at_most_of_less L t y after in
        let there : Orbit s v i y right g = subst (λ x. Orbit s v i y x g) (moved_back L t q right) (carried q g o y from_t before) in
        clear i y right g l after before there (outgoing_right_mark f c.outgoing (orbit_within s v surface some i y right g (inside y from_t before) there).below_total)

    moved_same : (q y : Quadratic) → q ≡ t → moved (quadratic s.d) t q y ≡ y
    moved_same q y e = ap (λ q. moved (quadratic s.d) t q y) e ∙ identity L.ring (t ∷ y ∷ []) (λ t y. (y ⊖ t) ⊕ t ≐ y) refl

    -- a side that is crossed from the first position is crossed from each
    crosses_along : {q z : Quadratic} {h : PlaneVector} {f : Corner} (y : Quadratic) → Crosses s v q z h f → AtMost (add q w) (add (outgoing_left s v f) (side_width s v f)) → AtMost t y → IsLess s.d y (add t w)
        → Crosses s v (moved (quadratic s.d) t q y) (moved (quadratic s.d) t z y) h f
    crosses_along {q} {z} {h} {f} y c fits from_t before =
        let left = outgoing_left s v f in
        let right = add left (side_width s v f) in
        let other = incoming_left s v (partner s.polygons f) in
        record {
          outgoing = c.outgoing;
          from_left = order.at_most_trans L left q (moved (quadratic s.d) t q y) c.from_left (moved_from_left L t q y from_t);
          before_right = order.less_of_less_at_most L (moved (quadratic s.d) t q y) (add q w) right (moved_before_right L t q w y before) fits;
          beyond =
              derived L.ring (t ∷ q ∷ y ∷ z ∷ left ∷ other ∷ []) (λ t q y z l o. (y ⊖ t) ⊕ z ≐ (((y ⊖ t) ⊕ q) ⊖ l) ⊕ o from (numeral 1, z ≐ (q ⊖ l) ⊕ o) ∷ []) refl (c.beyond, tt);
          put = c.put;
        }

    -- the positions of an interval whose inside meets no left end of an outgoing side within m crossings are carried along with its first one
    pub carried_along : (m : ℕ) → IsClear s v t w m → (i : ℕ) → i ≤ m → Carried i
    carried_along m clear zero l q g o y from_t before = (moved_same q y o.0, o.1)
    carried_along m clear (suc i) l q g o y from_t before =
        let one_more : suc i ≡ i + 1 = omega arith in
        let carried : Carried i = carried_along m clear i (omega arith) in
        let parts = orbit_cut s v i 1 t q g (subst (λ (n : ℕ). Orbit s v n t q g) one_more o) in
        let crossing = crossing_of_orbit s v parts.4 in
        let fits = within_side m i clear (omega arith) carried parts.0 q parts.1 parts.2 crossing.0 parts.3 crossing.1 in
        let next = orbit_of_crossing s v (crosses_along y crossing.1 fits from_t before) in
        subst (λ (n : ℕ). Orbit s v n y (moved (quadratic s.d) t q y) g) (sym one_more)
        (subst (Orbit s v (i + 1) y (moved (quadratic s.d) t q y)) (sym parts.5)
        (orbit_join s v i 1 y (moved (quadratic s.d) t parts.0 y) (moved (quadratic s.d) t q y) parts.1 parts.2 (carried parts.0 parts.1 parts.3 y from_t before) next))

    -- and before each crossing they are in the interval of one side
    pub carried_within_side : (m : ℕ) → IsClear s v t w m → (i : ℕ) → i < m → (q z : Quadratic) (g h : PlaneVector) (f : Corner) → Orbit s v i t q g → Crosses s v q z h f
        → AtMost (outgoing_left s v f) q × AtMost (add q w) (add (outgoing_left s v f) (side_width s v f))
    carried_within_side m clear i l q z g h f o c = (c.from_left, within_side m i clear l (carried_along m clear i (omega arith)) q z g h f o c)
