-- The measures of the corners of one polygon: they go from the beginning of its block of positions to the beginning of the next.
use Rattle.std.proofs.Common.{◌≡◌, ◌≢◌, ℕ, suc, ◌+◌, ◌-◌, ◌<◌, ◌≤◌, Option, Some, None, List, [], ◌∷◌, map, length, take, refl, sym, ap, ◌∙◌, subst, arith}
use Rattle.std.proofs.lemmas.List.FromFn.{map-range_with_len_more}
use Rattle.std.specs.List.{slice_get, range_with_len}
use Rattle.std.specs.Option.{IsSome, option_and_then}
use Rattle.std.proofs.lemmas.List.{length-map}
use Rattle.fs_gluing.specs.declared.surfaces.Side.{Side}
use Rattle.fs_lists.specs.Members.{IsIn}
use Rattle.fs_lists.proofs.Members.{in_map, in_map_cases}
use Rattle.fs_lists.proofs.Items.{some_of_inside}
use Rattle.fs_lists.proofs.All.{All-slice_get}
use Rattle.fs_ring.specs.OrderedRing.{IsOrderedRing, IsAtMost}
use Rattle.fs_ring.proofs.Signs as signs
use Rattle.fs_ring.proofs.Solver.{identity, derived, ◌⊕◌, ◌⊖◌, ◌≐◌, ◌from◌, numeral}
use Rattle.fs_quadratic.specs.Ring.{Quadratic, quadratic, IsPositive, add, sub, total}
use Rattle.fs_quadratic.proofs.Laws.{quadratic_ring}
use Rattle.fs_quadratic.proofs.Totals.{total-append}
use Rattle.fs_plane.specs.declared.corners.Corner.{Corner}
use Rattle.fs_plane.specs.Vector.{PlaneVector, vector_zero, vector_total_from, cross}
use Rattle.fs_convex.proofs.Runs.{IsFourRuns, four_runs}
use Rattle.fs_convex.proofs.Measures.{sum_from, HasSteps, at_first_positive, at_first_negative, first_is_least, sum_of_positive}
use Rattle.fs_paths.proofs.Developments.{put_polygon}
use Rattle.fs_gluing.specs.CrossingMap.{positive_part, across, IsIncoming, IsOutgoing, width, block_start, to_right, leftmost, measure, outgoing_left}
use Rattle.fs_gluing.specs.NextCorner.{side_count, corner_after}
use Rattle.fs_gluing.specs.Polygons.{HasSide}
use Rattle.fs_gluing.specs.Positions.{positions_from}
use Rattle.fs_gluing.specs.Surface.{GluedPolygons, IsTranslationSurface, IsPolygon, side_vectors}
use Rattle.fs_gluing.specs.SurfaceSides.{vector_of}
use Rattle.fs_gluing.proofs.Sides.AllSides.{corner}
use Rattle.fs_gluing.proofs.Sides.GluedSurface.{path_laws}
use Rattle.fs_iet.proofs.GreatestMeasures.{second_end_is_greatest}
use Rattle.fs_iet.proofs.ComputedMeasures.{least_is, positive_part_of_positive, positive_part_of_other}
use Rattle.fs_iet.proofs.PolygonSides.{numbered, numbered_next, numbered_below, numbered_polygon, numbered_side, some_side, numbered_again, number_below, number_from, vectors, count_vectors, vector_numbered, total_by_numbers, in_positions, positions_in}
use Rattle.fs_iet.proofs.SideMeasures.{surface_order, surface_no_square, to_right_after}

-- the block of the next polygon begins where that of a polygon ends
pub block_next : (s : GluedPolygons) (v : PlaneVector) (i : ℕ) → block_start s v (suc i) ≡ add (block_start s v i) (width s v i)
block_next s v i =
    ap (λ (n : ℕ). total (map (width s v) (range_with_len 0 n))) (let e : suc i ≡ i + 1 = omega arith in e)
    ∙ ap total (map-range_with_len_more (width s v) 0 i i (omega arith))
    ∙ total-append (map (width s v) (range_with_len 0 i)) (width s v i ∷ [])
    ∙ ap (add (block_start s v i)) ((quadratic_ring 0).add_zero (width s v i))

module _ (s : GluedPolygons) (surface : IsTranslationSurface s) where
  -- corner 0 of each polygon
  pub first_corner : (i : ℕ) → i < length s.polygons → HasSide s.polygons (corner i 0)
  first_corner i l = go (slice_get s.polygons i) (some_of_inside s.polygons i l) refl
    where
      go : (o : Option (List Side)) → IsSome o → slice_get s.polygons i ≡ o → IsSome (option_and_then (λ polygon. slice_get polygon 0) o)
      go None h e = cc
      go (Some polygon) h e =
          let p : IsPolygon s.straight s.d (side_vectors polygon) = All-slice_get (λ polygon. IsPolygon s.straight s.d (side_vectors polygon)) s.polygons i polygon surface.each e in
          let three = p.three in
          let same = length-map polygon (λ (side : Side). side.vector) in
          some_of_inside polygon 0 (omega arith)

  -- the four runs of polygon i: the sides that are parallel to the flow, those by which it enters, parallel ones, those by which it leaves
  abbrev pub RunsAcross : PlaneVector → ℕ → ℕ → ℕ → ℕ → ℕ → Type 0
  RunsAcross v i r a h p = IsFourRuns (quadratic s.d) (IsPositive s.d) (λ j. across s v (numbered s.polygons i j)) (side_count s.polygons i) r a h p

  pub runs_across : (v : PlaneVector) → v ≢ vector_zero → (i : ℕ) → i < length s.polygons → (r a h p : ℕ) × RunsAcross v i r a h p
  runs_across v some i l =
      let laws = path_laws s surface in
      let inside = first_corner i l in
      let runs = four_runs laws.order laws.test (put_polygon laws.order laws.test laws.glued (corner i 0) (laws.glued.position (corner i 0)) inside) some in (
        runs.0,
        runs.1,
        runs.2,
        runs.3,
        subst (λ (n : ℕ). IsFourRuns (quadratic s.d) (IsPositive s.d) (λ j. across s v (numbered s.polygons i j)) n runs.0 runs.1 runs.2 runs.3) (laws.counted (corner i 0)) runs.4,
      )

  module _ (v : PlaneVector) (i : ℕ) (l : i < length s.polygons) {r a h p : ℕ} (runs : RunsAcross v i r a h p) where
    L : IsOrderedRing (quadratic s.d) (IsPositive s.d)
    L = surface_order s surface

    abbrev AtMost : Quadratic → Quadratic → Type 0
    AtMost x y = IsAtMost (quadratic s.d) (IsPositive s.d) x y

    abbrev n : ℕ
    n = side_count s.polygons i

    abbrev side : ℕ → Corner
    side k = numbered s.polygons i k

    abbrev w : ℕ → Quadratic
    w j = across s v (side j)

    abbrev x : ℕ → Quadratic
    x j = to_right s v (side j)

    inside : HasSide s.polygons (corner i 0)
    inside = first_corner i l

    steps : HasSteps (quadratic s.d) x w
    steps j = ap (to_right s v) (numbered_next s.polygons i j) ∙ to_right_after s surface v (side j) (numbered_side s.polygons i inside j)

    w_again : (j : ℕ) → w (n + j) ≡ w j
    w_again j = ap (across s v) (numbered_again s.polygons i inside j)

    x_again : (j : ℕ) → x (n + j) ≡ x j
    x_again j = ap (to_right s v) (numbered_again s.polygons i inside j)

    round : x (r + n) ≡ x r
    round = ap x (let e : r + n ≡ n + r = omega arith in e) ∙ x_again r

    lowest : (c : Corner) → HasSide s.polygons c → c.polygon ≡ i → AtMost (x r) (to_right s v c)
    lowest c has same =
        let k = number_from s.polygons i inside r c has same in
        subst (AtMost (x r)) (ap (to_right s v) k.2) (first_is_least L steps runs round k.0 (let m = k.1 in omega arith))

    highest : (c : Corner) → HasSide s.polygons c → c.polygon ≡ i → AtMost (to_right s v c) (x (r + h))
    highest c has same =
        let k = number_from s.polygons i inside (r + h) c has same in
        subst (λ t. AtMost t (x (r + h))) (ap (to_right s v) k.2) (second_end_is_greatest L steps runs w_again x_again k.0 (let m = k.1 in omega arith))

    -- ---- the leftmost corner, and the width

    abbrev vs : List PlaneVector
    vs = vectors s.polygons i inside

    at_corner : (k : ℕ) → k < n → HasSide s.polygons (corner i k)
    at_corner k m = subst (HasSide s.polygons) (numbered_below s.polygons i k m) (numbered_side s.polygons i inside k)

    leftmost_is : leftmost s v i ≡ x r
    leftmost_is =
        let k = (side r).side in
        let there : side r ≡ corner i k = ap (λ (q : ℕ). corner q k) (numbered_polygon s.polygons i r) in
        let below : k < n = number_below s.polygons i inside (side r) (numbered_side s.polygons i inside r) (numbered_polygon s.polygons i r) in
        let count = count_vectors s.polygons i inside l in
        let f : PlaneVector → Quadratic = λ p. cross s.d p v in
        least_is (surface_no_square s surface) (map f (positions_from vector_zero vs)) (x r)
        (subst (λ t. IsIn t (map f (positions_from vector_zero vs))) (sym (ap (to_right s v) there))
        (in_map f (vector_total_from vector_zero (take k vs)) (positions_from vector_zero vs) (in_positions vector_zero vs k (omega arith))))
        (λ y m.
        let source = in_map_cases f y (positions_from vector_zero vs) m in
        let number = positions_in vector_zero vs source.0 source.1 in
        let less = number.1 in
        subst (AtMost (x r)) (sym (source.2 ∙ ap f number.2)) (lowest (corner i number.0) (at_corner number.0 (omega arith)) refl))

    width_is : add (x r) (width s v i) ≡ x (r + h)
    width_is =
        ap (add (x r))
        (total_by_numbers s.d (λ u. positive_part s.d (cross s.d u v)) (λ j. vector_of s.polygons (side j)) 0 vs
        (λ k m u e f. ap (λ (j : ℕ). vector_of s.polygons (side j)) (let z : m ≡ k = omega arith in z) ∙ vector_numbered s.polygons i inside l k u f)
        ∙ ap (sum_from (quadratic s.d) (λ j. positive_part s.d (w j)) 0) (sym (count_vectors s.polygons i inside l)))
        ∙ sum_of_positive L steps runs {g = λ j. positive_part s.d (w j)}
        (record {
          of_positive = λ j q. positive_part_of_positive (surface_no_square s surface) (w j) q;
          of_other = λ j q. positive_part_of_other (surface_no_square s surface) (w j) q;
        }) (λ j. ap (positive_part s.d) (w_again j))

    -- ---- measures

    -- the measure of a corner of the polygon
    measure_is : (c : Corner) → c.polygon ≡ i → measure s v c ≡ add (block_start s v i) (sub (to_right s v c) (x r))
    measure_is c same =
        ap (λ (k : ℕ). add (block_start s v k) (sub (to_right s v c) (leftmost s v k))) same
        ∙ ap (λ m. add (block_start s v i) (sub (to_right s v c) m)) leftmost_is

    block_end : block_start s v (suc i) ≡ add (block_start s v i) (sub (x (r + h)) (x r))
    block_end =
        block_next s v i
        ∙ ap (add (block_start s v i))
        (derived L.ring (x r ∷ width s v i ∷ x (r + h) ∷ []) (λ x w g. w ≐ g ⊖ x from (numeral 1, x ⊕ w ≐ g) ∷ []) refl (width_is, tt))

    -- no corner is left of the beginning of its polygon's block
    pub from_block_start : (c : Corner) → HasSide s.polygons c → c.polygon ≡ i → AtMost (block_start s v i) (measure s v c)
    from_block_start c has same =
        subst (AtMost (block_start s v i)) (sym (measure_is c same))
        (λ k. lowest c has same (signs.positive_by L (block_start s v i ∷ x r ∷ to_right s v c ∷ []) (λ b x t. x ⊖ t ≐ b ⊖ (b ⊕ (t ⊖ x))) refl k))

    -- nor right of the beginning of the next block
    pub to_block_end : (c : Corner) → HasSide s.polygons c → c.polygon ≡ i → AtMost (measure s v c) (block_start s v (suc i))
    to_block_end c has same =
        subst (λ m. AtMost m (block_start s v (suc i))) (sym (measure_is c same))
        (subst (AtMost (add (block_start s v i) (sub (to_right s v c) (x r)))) (sym block_end)
        (λ k. highest c has same
        (signs.positive_by L (block_start s v i ∷ x r ∷ to_right s v c ∷ x (r + h) ∷ []) (λ b x t g. t ⊖ g ≐ (b ⊕ (t ⊖ x)) ⊖ (b ⊕ (g ⊖ x))) refl k)))

    -- corners that are as far right as the first of the runs have the measure where the block begins
    pub at_start : (k : ℕ) → x k ≡ x r → measure s v (side k) ≡ block_start s v i
    at_start k e =
        measure_is (side k) (numbered_polygon s.polygons i k) ∙ ap (λ t. add (block_start s v i) (sub t (x r))) e
        ∙ identity L.ring (block_start s v i ∷ x r ∷ []) (λ b x. b ⊕ (x ⊖ x) ≐ b) refl

    -- and those as far right as the end of the incoming ones that where it ends
    pub at_end : (k : ℕ) → x k ≡ x (r + h) → measure s v (side k) ≡ block_start s v (suc i)
    at_end k e =
        measure_is (side k) (numbered_polygon s.polygons i k) ∙ ap (λ t. add (block_start s v i) (sub t (x r))) e ∙ sym block_end

    -- ---- the first and the last side of each kind

    pub outgoing_numbered : (j : ℕ) → p ≤ j → j < n → IsOutgoing s v (side (r + j))
    outgoing_numbered j m q = record { side = numbered_side s.polygons i inside (r + j); leaves = runs.negative j m q }

    pub incoming_numbered : (j : ℕ) → a ≤ j → j < h → IsIncoming s v (side (r + j))
    incoming_numbered j m q = record { side = numbered_side s.polygons i inside (r + j); enters = runs.positive j m q }

    -- the last outgoing side of the boundary ends at the beginning of the block
    pub first_outgoing : outgoing_left s v (side (r + (n - 1))) ≡ block_start s v i
    first_outgoing =
        ap (measure s v) (sym (numbered_next s.polygons i (r + (n - 1))))
        ∙ at_start (suc (r + (n - 1))) (ap x (let some = some_side s.polygons i inside in let e : suc (r + (n - 1)) ≡ r + n = omega arith in e) ∙ round)

    -- the first one begins at its end
    pub last_outgoing : measure s v (side (r + p)) ≡ block_start s v (suc i)
    last_outgoing = at_end (r + p) (at_first_negative L steps runs)

    -- the first incoming side begins at the beginning of the block
    pub first_incoming : measure s v (side (r + a)) ≡ block_start s v i
    first_incoming = at_start (r + a) (at_first_positive L steps runs)

    -- the last one ends at its end
    pub last_incoming : measure s v (corner_after s.polygons (side (r + (h - 1)))) ≡ block_start s v (suc i)
    last_incoming =
        ap (measure s v) (sym (numbered_next s.polygons i (r + (h - 1))))
        ∙ at_end (suc (r + (h - 1))) (ap x (let some = runs.some_positive in let e : suc (r + (h - 1)) ≡ r + h = omega arith in e))
