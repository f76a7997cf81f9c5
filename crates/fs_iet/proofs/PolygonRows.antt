-- The sides of a polygon in a row of the exchange are one run, from the leftmost one to the right.
use Rattle.std.proofs.Common.{◌≡◌, ◌≢◌, ◌⊎◌, ℕ, zero, suc, ◌+◌, ◌-◌, ◌<◌, ◌≤◌, List, length, refl, sym, ap, ◌∙◌, subst, inl, inr, arith, add-zero}
use Rattle.std.specs.Option.{IfSome}
use Rattle.std.specs.List.{slice_get}
use Rattle.fs_lists.proofs.Items.{item_inside, value_holds}
use Rattle.fs_cycles.specs.Cycles.{iterate}
use Rattle.fs_cycles.proofs.Iterates.{iterate_after}
use Rattle.fs_ring.proofs.Signs as signs
use Rattle.fs_quadratic.specs.Ring.{IsPositive, neg}
use Rattle.fs_plane.specs.declared.corners.Corner.{Corner}
use Rattle.fs_plane.specs.Vector.{PlaneVector, vector_zero}
use Rattle.fs_gluing.specs.declared.surfaces.Side.{Side}
use Rattle.fs_gluing.specs.CrossingMap.{across}
use Rattle.fs_gluing.specs.Exchanges.{IsChainIn}
use Rattle.fs_gluing.specs.NextCorner.{corner_after, side_before, side_count, length_or_0}
use Rattle.fs_gluing.specs.Polygons.{HasSide}
use Rattle.fs_gluing.specs.Surface.{GluedPolygons, IsTranslationSurface}
use Rattle.fs_gluing.proofs.Sides.AllSides.{corner}
use Rattle.fs_gluing.proofs.SurfaceCalls.NextCorner.{has_before, has_after, before-after_corner, after-before_corner}
use Rattle.fs_iet.specs.declared.rows.Row.{Row}
use Rattle.fs_iet.specs.declared.rows.Row.TheVariants.{Top, Bottom}
use Rattle.fs_iet.specs.Rows.{IsInRow, IsLeftmost, to_right_in, to_left_in}
use Rattle.fs_iet.proofs.ItemRuns.{IsRun, walk, less_or_not, run_members, run_once, run_first, before_run, run_ends, run_goes_on, walk_chain}
use Rattle.fs_iet.proofs.PolygonMeasures.{RunsAcross, runs_across, first_corner, outgoing_numbered, incoming_numbered}
use Rattle.fs_iet.proofs.PolygonSides.{numbered, numbered_next, numbered_polygon, numbered_side, numbered_again, number_below, number_from}
use Rattle.fs_iet.proofs.SideMeasures.{surface_order}

-- ---- runs on a cycle

-- the items come again after n, each is next of the one before, and they are all items with P
record IsCycle {X : Type 0} (next prev : X → X) (P : X → Type 0) (item : ℕ → X) (n : ℕ) : Type 0 where
  in_turn : (k : ℕ) → item (suc k) ≡ next (item k)
  back : (k : ℕ) → prev (item (suc k)) ≡ item k
  again : (k : ℕ) → item (n + k) ≡ item k
  each : (x : X) → P x → (k : ℕ) × (k < n) × (item k ≡ x)

module _ {X : Type 0} {next prev : X → X} {P : X → Type 0} {item : ℕ → X} {n : ℕ} (cycle : IsCycle next prev P item n) where
  forwards : (k a : ℕ) → iterate next k (item a) ≡ item (a + k)
  forwards zero a = ap item (sym (add-zero a))
  forwards (suc k) a = ap (iterate next k) (sym (cycle.in_turn a)) ∙ forwards k (suc a) ∙ ap item (let e : suc a + k ≡ a + suc k = omega arith in e)

  backwards : (k a j : ℕ) → j + k ≡ a → iterate prev k (item a) ≡ item j
  backwards zero a j e = ap item (let f : a ≡ j = omega arith in f)
  backwards (suc k) a j e =
      let one_more : a ≡ suc (j + k) = omega arith in
      ap (λ (m : ℕ). iterate prev k (prev (item m))) one_more ∙ ap (iterate prev k) (cycle.back (j + k)) ∙ backwards k (j + k) j refl

  -- the items with the property from number a to before number h are a run
  upward_run : (a h : ℕ) → a < h → h ≤ n → h - a < n → ((k : ℕ) → a ≤ k → k < h → P (item k)) → ((k : ℕ) → k < n → (k < a) ⊎ (h ≤ k) → ¬ P (item k)) → IsRun next P (item a) (h - a) n
  upward_run a h some within more inside outside = record {
    some = omega arith;
    more = more;
    inside = λ k l. subst P (sym (forwards k a)) (inside (a + k) (omega arith) (omega arith));
    outside = λ k l m p. go k l m (less_or_not (a + k) n) (subst P (forwards k a) p);
    returns = forwards n a ∙ ap item (let e : a + n ≡ n + a = omega arith in e) ∙ cycle.again a;
    each = λ x p. let r = cycle.each x p in from x r.0 r.1 r.2 (less_or_not r.0 a) (less_or_not r.0 h) p;
  }
    where
      go : (k : ℕ) → h - a ≤ k → k < n → (a + k < n) ⊎ (n ≤ a + k) → ¬ P (item (a + k))
      go k l m (inl less) p = outside (a + k) less (inr (omega arith)) p
      go k l m (inr most) p =
          let rest : a + k ≡ n + (a + k - n) = omega arith in
          outside (a + k - n) (omega arith) (inl (omega arith)) (subst P (ap item rest ∙ cycle.again (a + k - n)) p)

      from : (x : X) (k : ℕ) → k < n → item k ≡ x → (k < a) ⊎ (a ≤ k) → (k < h) ⊎ (h ≤ k) → P x → (j : ℕ) × (j < n) × (iterate next j (item a) ≡ x)
      from x k l e (inl less) m p = absurd (outside k l (inl less) (subst P (sym e) p))
      from x k l e (inr most) (inr more) p = absurd (outside k l (inr more) (subst P (sym e) p))
      from x k l e (inr most) (inl less) p = let rest : a + (k - a) ≡ k = omega arith in (k - a, omega arith, forwards (k - a) a ∙ ap item rest ∙ e)

  -- the items with the property from number p on are a run backwards
  downward_run : (p : ℕ) → 0 < p → p < n → ((k : ℕ) → p ≤ k → k < n → P (item k)) → ((k : ℕ) → k < p → ¬ P (item k)) → IsRun prev P (item (n - 1)) (n - p) n
  downward_run p positive less inside outside = record {
    some = omega arith;
    more = omega arith;
    inside = λ k l. subst P (sym (backwards k (n - 1) (n - 1 - k) (omega arith))) (inside (n - 1 - k) (omega arith) (omega arith));
    outside = λ k l m h. outside (n - 1 - k) (omega arith) (subst P (backwards k (n - 1) (n - 1 - k) (omega arith)) h);
    returns =
        let last : suc (n - 1) ≡ n = omega arith in
        ap (λ (j : ℕ). iterate prev j (item (n - 1))) (sym last)
        ∙ iterate_after prev (n - 1) (item (n - 1))
        ∙ ap prev (backwards (n - 1) (n - 1) 0 (omega arith) ∙ sym (cycle.again 0) ∙ ap item (let e : n + 0 ≡ suc (n - 1) = omega arith in e))
        ∙ cycle.back (n - 1);
    each = λ x h.
        let r = cycle.each x h in
        let l = r.1 in
        (n - 1 - r.0, omega arith, backwards (n - 1 - r.0) (n - 1) r.0 (omega arith) ∙ r.2);
  }

-- ---- the rows of a polygon

-- a side of polygon i that is in a row
abbrev pub IsOfPolygon : GluedPolygons → PlaneVector → Row → ℕ → Corner → Type 0
IsOfPolygon s v row i e = (e.polygon ≡ i) × IsInRow s v row e

-- a side in a row exists
row_side : (s : GluedPolygons) (v : PlaneVector) (row : Row) (e : Corner) → IsInRow s v row e → HasSide s.polygons e
row_side s v Top e h = h.side
row_side s v Bottom e h = h.side

-- the side to the left of the one to the right is the side
left-right : (s : GluedPolygons) (row : Row) (e : Corner) → HasSide s.polygons e → to_left_in s row (to_right_in s row e) ≡ e
left-right s Top e h = after-before_corner s.polygons e h
left-right s Bottom e h = before-after_corner s.polygons e h

-- the sides to the right and to the left are of the same polygon, and exist
pub has_right : (s : GluedPolygons) (row : Row) (e : Corner) → HasSide s.polygons e → HasSide s.polygons (to_right_in s row e)
has_right s Top e h = has_before s.polygons e h
has_right s Bottom e h = has_after s.polygons e h

left_polygon : (s : GluedPolygons) (row : Row) (e : Corner) → (to_left_in s row e).polygon ≡ e.polygon
left_polygon s Top e = refl
left_polygon s Bottom e = refl

right_polygon : (s : GluedPolygons) (row : Row) (e : Corner) → (to_right_in s row e).polygon ≡ e.polygon
right_polygon s Top e = refl
right_polygon s Bottom e = refl

nth_right_polygon : (s : GluedPolygons) (row : Row) (k : ℕ) (e : Corner) → (iterate (to_right_in s row) k e).polygon ≡ e.polygon
nth_right_polygon s row zero e = refl
nth_right_polygon s row (suc k) e = nth_right_polygon s row k (to_right_in s row e) ∙ right_polygon s row e

has_nth_right : (s : GluedPolygons) (row : Row) (k : ℕ) (e : Corner) → HasSide s.polygons e → HasSide s.polygons (iterate (to_right_in s row) k e)
has_nth_right s row zero e h = h
has_nth_right s row (suc k) e h = has_nth_right s row k (to_right_in s row e) (has_right s row e h)

module _ {s : GluedPolygons} (surface : IsTranslationSurface s) {v : PlaneVector} (some : v ≢ vector_zero) (i : ℕ) (there : i < length s.polygons) where
  abbrev side : ℕ → Corner
  side k = numbered s.polygons i k

  abbrev count : ℕ
  count = side_count s.polygons i

  module _ (r a h p : ℕ) (four : RunsAcross s surface v i r a h p) where
    cycle : (row : Row) → IsCycle (corner_after s.polygons) (side_before s.polygons) (IsOfPolygon s v row i) (λ k. side (r + k)) count
    cycle row = record {
      in_turn = λ k. ap side (let e : r + suc k ≡ suc (r + k) = omega arith in e) ∙ numbered_next s.polygons i (r + k);
      back = λ k.
          ap (side_before s.polygons) (ap side (let e : r + suc k ≡ suc (r + k) = omega arith in e) ∙ numbered_next s.polygons i (r + k))
          ∙ before-after_corner s.polygons (side (r + k)) (numbered_side s.polygons i (first_corner s surface i there) (r + k));
      again = λ k. ap side (let e : r + (count + k) ≡ count + (r + k) = omega arith in e) ∙ numbered_again s.polygons i (first_corner s surface i there) (r + k);
      each = λ e h. number_from s.polygons i (first_corner s surface i there) r e (row_side s v row e h.1) h.0;
    }

    not_incoming : (k : ℕ) → k < count → (k < a) ⊎ (h ≤ k) → (k < p) ⊎ (p ≤ k) → ¬ IsPositive s.d (across s v (side (r + k)))
    not_incoming k l (inl less) m x = signs.positive-ne-zero (surface_order s surface) x (four.first_zeros k less)
    not_incoming k l (inr most) (inl less) x = signs.positive-ne-zero (surface_order s surface) x (four.second_zeros k most less)
    not_incoming k l (inr most) (inr more) x = signs.not_both_signs (surface_order s surface) x (four.negative k more l)

    not_outgoing : (k : ℕ) → k < p → (k < a) ⊎ (a ≤ k) → (k < h) ⊎ (h ≤ k) → ¬ IsPositive s.d (neg (across s v (side (r + k))))
    not_outgoing k l (inl less) m x = signs.negative-ne-zero (surface_order s surface) x (four.first_zeros k less)
    not_outgoing k l (inr most) (inl less) x = signs.not_both_signs (surface_order s surface) (four.positive k most less) x
    not_outgoing k l (inr most) (inr more) x = signs.negative-ne-zero (surface_order s surface) x (four.second_zeros k more l)

    bottom_run : IsRun (corner_after s.polygons) (IsOfPolygon s v Bottom i) (side (r + a)) (h - a) count
    bottom_run =
        let some = four.some_positive in
        let order = four.in_order in
        let less = four.some_negative in
        upward_run (cycle Bottom) a h some (omega arith) (omega arith) (λ k l m. (numbered_polygon s.polygons i (r + k), incoming_numbered s surface v i there four k l m))
        (λ k l out x. not_incoming k l out (less_or_not k p) x.1.enters)

    top_run : IsRun (side_before s.polygons) (IsOfPolygon s v Top i) (side (r + (count - 1))) (count - p) count
    top_run =
        let some = four.some_positive in
        let order = four.in_order in
        let less = four.some_negative in
        downward_run (cycle Top) p (omega arith) less (λ k l m. (numbered_polygon s.polygons i (r + k), outgoing_numbered s surface v i there four k l m))
        (λ k l x. not_outgoing k l (less_or_not k a) (less_or_not k h) x.1.leaves)

  -- the sides of polygon i in a row are a run to the right
  pub record HasRowRun (row : Row) : Type 0 where
    pub start : Corner
    pub size : ℕ
    pub run : IsRun (to_right_in s row) (IsOfPolygon s v row i) start size (side_count s.polygons i)

  pub row_run : (row : Row) → HasRowRun row
  row_run Top = let t = runs_across s surface v some i there in record { start = side (t.0 + (count - 1)); size = count - t.3; run = top_run t.0 t.1 t.2 t.3 t.4 }
  row_run Bottom = let t = runs_across s surface v some i there in record { start = side (t.0 + t.1); size = t.2 - t.1; run = bottom_run t.0 t.1 t.2 t.3 t.4 }

  -- one of the sides of polygon i is its leftmost one
  pub leftmost_exists : (row : Row) → ((k : ℕ) → k < side_count s.polygons i → ¬ IsLeftmost s v row i (corner i k)) → ⊥
  leftmost_exists row none =
      let r = row_run row in
      let here = r.run.inside 0 r.run.some in
      let has = row_side s v row r.start here.1 in
      let same : corner i r.start.side ≡ r.start = ap (λ k. corner k r.start.side) (sym here.0) in
      let below : r.start.side < side_count s.polygons i = number_below s.polygons i (first_corner s surface i there) r.start has here.0 in
      none r.start.side below
      (subst (IsLeftmost s v row i) (sym same)
      (record {
        polygon = here.0;
        there = here.1;
        first = λ h.
            before_run r.run (to_left_in s row)
            (λ k. ap (to_left_in s row) (iterate_after (to_right_in s row) k r.start) ∙ left-right s row (iterate (to_right_in s row) k r.start) (has_nth_right s row k r.start has))
            (left_polygon s row r.start ∙ here.0, h);
      }))

  module _ {row : Row} {start : Corner} (left : IsLeftmost s v row i start) where
    -- the run begins at the leftmost side
    leftmost_run : IsRun (to_right_in s row) (IsOfPolygon s v row i) start (row_run row).size (side_count s.polygons i)
    leftmost_run =
        let r = row_run row in
        let same : start ≡ r.start = run_first r.run (to_left_in s row) start (λ e h. left-right s row e (row_side s v row e h.1)) (left.polygon, left.there) (λ h. left.first h.1) in
        subst (λ e. IsRun (to_right_in s row) (IsOfPolygon s v row i) e r.size (side_count s.polygons i)) (sym same) r.run

    of_polygon : (k : ℕ) → IsInRow s v row (iterate (to_right_in s row) k start) → IsOfPolygon s v row i (iterate (to_right_in s row) k start)
    of_polygon k h = (nth_right_polygon s row k start ∙ left.polygon, h)

    -- k sides to the right, while this one is in the row too, aren't all sides of the polygon
    pub chain_goes_on : (k : ℕ) → ((j : ℕ) → j < k → IsInRow s v row (iterate (to_right_in s row) j start)) → IsInRow s v row (iterate (to_right_in s row) k start)
        → k < side_count s.polygons i
    chain_goes_on k all here =
        let more = leftmost_run.more in
        let less : k < (row_run row).size = run_goes_on leftmost_run k (λ j l. of_polygon j (all j l)) (of_polygon k here) in
        omega arith

    -- from the leftmost side to the right, up to one that isn't in the row, they are the chain of the row
    pub chain_ends : (k : ℕ) → ((j : ℕ) → j < k → IsInRow s v row (iterate (to_right_in s row) j start)) → ¬ IsInRow s v row (iterate (to_right_in s row) k start)
        → IsChainIn (to_right_in s row) (IsInRow s v row) i (walk (to_right_in s row) k start)
    chain_ends k all stop =
        let same : (row_run row).size ≡ k = sym (run_ends leftmost_run k (λ j l. of_polygon j (all j l)) (λ h. stop h.1)) in
        subst (λ n. IsChainIn (to_right_in s row) (IsInRow s v row) i (walk (to_right_in s row) n start)) same
        (record { sides = run_members leftmost_run; once = run_once leftmost_run; in_turn = walk_chain (to_right_in s row) (row_run row).size start })

-- the number of sides that is read
pub read_sides : (polygons : List (List Side)) (i n : ℕ) → i < length polygons → IfSome (slice_get polygons i) (λ polygon. n ≡ length polygon) → n ≡ side_count polygons i
read_sides polygons i n l h =
    let polygon = item_inside polygons i l in
    value_holds (slice_get polygons i) (λ polygon. n ≡ length polygon) polygon.value polygon.is h ∙ sym (ap length_or_0 polygon.is)
