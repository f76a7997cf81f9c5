-- The sides of a polygon in turn, from any of them: by their numbers, by the positions of their corners, and how often they rise. A library for crates to come.
use Rattle.std.proofs.Common.{◌≡◌, ◌⊎◌, ℕ, zero, suc, ◌+◌, ◌-◌, ◌<◌, Bool, ◌&&◌, Option, Some, None, List, [], ◌∷◌, length, cond, count_by, unwrap_or, inl, inr, sym, ap, ◌∙◌, refl, arith, add-zero}
use Rattle.std.proofs.lemmas.Bool.Decides.{nat_tests}
use Rattle.std.proofs.lemmas.List.{length-map}
use Rattle.std.proofs.lemmas.List.Sums.{sum_by-cons}
use Rattle.std.proofs.lemmas.Option.{same_Some, slice_get_within, slice_get-map}
use Rattle.std.specs.Option.{option_and_then, option_map}
use Rattle.std.specs.List.{slice_get}
use Rattle.fs_lists.proofs.Counts.{one_if}
use Rattle.fs_lists.proofs.Items.{item_inside}
use Rattle.fs_cycles.specs.Cycles.{iterate}
use Rattle.fs_cycles.proofs.Iterates.{iterate-add, iterate_after}
use Rattle.fs_ring.specs.Vector.{unit_vector}
use Rattle.fs_quadratic.specs.Ring.{quadratic}
use Rattle.fs_plane.specs.declared.corners.Corner.{Corner}
use Rattle.fs_plane.specs.Vector.{vector_zero, vector_add, vector_neg, PlaneVector}
use Rattle.fs_convex.specs.Counts.{count_below}
use Rattle.fs_convex.specs.Turning.{rises}
use Rattle.fs_convex.proofs.Counts.{count_below-agree}
use Rattle.fs_convex.proofs.Boundary.{rises-shift}
use Rattle.fs_paths.specs.SideGluing.{nth_side, sides_from}
use Rattle.fs_gluing.specs.declared.surfaces.Side.{Side}
use Rattle.fs_gluing.specs.Convex.{corner_position, corners_of, corners_from, last_side, is_rise}
use Rattle.fs_gluing.specs.Polygons.{HasSide}
use Rattle.fs_gluing.specs.Surface.{IsPolygon, side_vectors}
use Rattle.fs_gluing.specs.NextCorner.{side_count, length_or_0, corner_after}
use Rattle.fs_gluing.specs.SurfaceSides.{vector_or, vector_of, polygon_sides, is_ahead}
use Rattle.fs_gluing.proofs.Polygon.ConvexCorners.{last_side_is}
use Rattle.fs_gluing.proofs.SurfaceCalls.NextCorner.{IsInPolygon, in_polygon, after}
use Rattle.fs_gluing.proofs.SurfaceCalls.Positions.{next_in, last_in}
use Rattle.fs_gluing.proofs.Sides.AllSides.{corner}
use Rattle.fs_gluing.proofs.Sides.HalfPlaneTests.{is_ahead-unit, is_ahead-opposite}

-- ---- the numbers after 0, modulo n

after_more : (n k : ℕ) → k + 1 < n → after n k ≡ k + 1
after_more n k l = grind (arith, nat_tests)

after_last : (n k : ℕ) → k + 1 ≡ n → after n k ≡ 0
after_last n k e = grind (arith, nat_tests)

nth_after : (n k : ℕ) → k < n → iterate (after n) k 0 ≡ k
nth_after n zero l = refl
nth_after n (suc k) l =
    let one_more : k + 1 ≡ suc k = omega arith in
    iterate_after (after n) k 0 ∙ ap (after n) (nth_after n k (omega arith)) ∙ after_more n k (omega arith) ∙ one_more

all_after : (n : ℕ) → 0 < n → iterate (after n) n 0 ≡ 0
all_after zero l = absurd (omega arith)
all_after (suc m) l = iterate_after (after (suc m)) m 0 ∙ ap (after (suc m)) (nth_after (suc m) m (omega arith)) ∙ after_last (suc m) m (omega arith)

more_or_last : (j n : ℕ) → j < n → (j + 1 < n) ⊎ (j + 1 ≡ n)
more_or_last j n l = grind arith

-- ---- the rises of a list of sides, as those of a sequence

rises-next : (d : ℕ) (b s : PlaneVector) (sides : List PlaneVector) → count_by (is_rise d) (corners_from b (s ∷ sides)) ≡ one_if (is_rise d (record { before = b; after = s })) + count_by (is_rise d) (corners_from s sides)
rises-next d b s sides = sum_by-cons (λ corner_sides. cond (is_rise d corner_sides) 1 0) (record { before = b; after = s }) (corners_from s sides)

-- the corner from side j of a sequence to the next passes (1,0)
abbrev rise_at : ℕ → (ℕ → PlaneVector) → ℕ → Bool
rise_at d t j = is_rise d (record { before = t j; after = t (suc j) })

count_below-first : (f : ℕ → Bool) (k : ℕ) → count_below f (suc k) ≡ one_if (f 0) + count_below (λ j. f (suc j)) k
count_below-first f zero = omega arith
count_below-first f (suc k) = let rest = count_below-first f k in omega arith

rises_from : (d : ℕ) (t : ℕ → PlaneVector) (b : PlaneVector) (sides : List PlaneVector) → t 0 ≡ b → ((k : ℕ) (v : PlaneVector) → slice_get sides k ≡ Some v → t (suc k) ≡ v)
    → count_by (is_rise d) (corners_from b sides) ≡ count_below (rise_at d t) (length sides)
rises_from d t b [] e h = refl
rises_from d t b (s ∷ sides) e h =
    let first : t 1 ≡ s = h 0 s refl in
    let here : one_if (is_rise d (record { before = b; after = s })) ≡ one_if (rise_at d t 0) = λ i. one_if (is_rise d (record { before = sym e i; after = sym first i })) in
    let rest = rises_from d (λ j. t (suc j)) s sides first (λ k v f. h (suc k) v f) in
    let next = rises-next d b s sides in
    let whole : count_below (rise_at d t) (suc (length sides)) ≡ one_if (rise_at d t 0) + count_below (rise_at d (λ j. t (suc j))) (length sides) = count_below-first (rise_at d t) (length sides) in
    omega arith

-- the rises at (1,0) are those of the definition of a polygon
rises-unit : (d : ℕ) (t : ℕ → PlaneVector) (n : ℕ) → rises (quadratic d) (is_ahead d) (unit_vector (quadratic d)) t n ≡ count_below (rise_at d t) n
rises-unit d t n =
    count_below-agree _ _ n
    (λ j l. λ i. (is_ahead-opposite d (unit_vector (quadratic d)) (t j) ∙ is_ahead-unit d (vector_neg (t j))) i && is_ahead-unit d (t (suc j)) i)

vector_in : (o : Option Side) (v : PlaneVector) → option_map (λ (s : Side). s.vector) o ≡ Some v → vector_or o ≡ v
vector_in None v e = cc
vector_in (Some side) v e = same_Some side.vector v e

-- a side leads from the position of its corner to that of the next
position_in : {straight : Bool} {d : ℕ} (polygon : List Side) (n j : ℕ) (side : Side) → IsPolygon straight d (side_vectors polygon) → n ≡ length polygon → slice_get polygon j ≡ Some side
    → corner_position (side_vectors polygon) (after n j) ≡ vector_add (corner_position (side_vectors polygon) j) side.vector
position_in {straight} {d} polygon n j side p e f = go (more_or_last j n (let l = slice_get_within polygon j side f in omega arith))
  where
    go : (j + 1 < n) ⊎ (j + 1 ≡ n) → corner_position (side_vectors polygon) (after n j) ≡ vector_add (corner_position (side_vectors polygon) j) side.vector
    go (inl more) = ap (corner_position (side_vectors polygon)) (after_more n j more) ∙ sym (next_in polygon j side f)
    go (inr last) = ap (corner_position (side_vectors polygon)) (after_last n j last) ∙ sym (last_in straight d polygon j side p f (last ∙ e))

-- ---- the sides of a polygon of a list

-- the sides of polygon i, or none where there is no such polygon
abbrev polygon_at : List (List Side) → ℕ → List Side
polygon_at polygons i = unwrap_or (slice_get polygons i) []

-- the position of a corner in its polygon, in which corner 0 is at (0,0)
abbrev pub position_of : List (List Side) → Corner → PlaneVector
position_of polygons c = corner_position (side_vectors (polygon_at polygons c.polygon)) c.side

module _ (polygons : List (List Side)) where
  -- k sides after side j of polygon i
  nth_corner : (k i j : ℕ) → iterate (corner_after polygons) k (corner i j) ≡ corner i (iterate (after (side_count polygons i)) k j)
  nth_corner zero i j = refl
  nth_corner (suc k) i j = nth_corner k i (after (side_count polygons i) j)

  module _ (c : Corner) (h : HasSide polygons c) where
    abbrev there : IsInPolygon polygons c
    there = in_polygon polygons c h

    abbrev count : ℕ
    count = side_count polygons c.polygon

    abbrev first : Corner
    first = corner c.polygon 0

    count_is : count ≡ length there.polygon
    count_is = ap length_or_0 there.is

    below_count : c.side < count
    below_count = let l = there.inside in let e = count_is in omega arith

    -- the corners of the polygon, from its first one on
    nth_from_first : (k : ℕ) → k < count → nth_side (polygon_sides polygons) first k ≡ corner c.polygon k
    nth_from_first k l = nth_corner k c.polygon 0 ∙ ap (corner c.polygon) (nth_after count k l)

    first_returns : nth_side (polygon_sides polygons) first count ≡ first
    first_returns = nth_corner count c.polygon 0 ∙ ap (corner c.polygon) (all_after count (let l = below_count in omega arith))

    from_first : (k : ℕ) → nth_side (polygon_sides polygons) c k ≡ nth_side (polygon_sides polygons) first (c.side + k)
    from_first k = sym (iterate-add (corner_after polygons) c.side k first ∙ ap (iterate (corner_after polygons) k) (nth_from_first c.side below_count))

    -- as many steps to the next side as the polygon has sides lead back
    pub returns_after : nth_side (polygon_sides polygons) c count ≡ c
    returns_after =
        from_first count
        ∙ ap (λ (n : ℕ). nth_side (polygon_sides polygons) first n) (let e : c.side + count ≡ count + c.side = omega arith in e)
        ∙ iterate-add (corner_after polygons) count c.side first
        ∙ ap (iterate (corner_after polygons) c.side) first_returns
        ∙ nth_from_first c.side below_count

    -- ---- the vectors of its sides

    abbrev vectors : List PlaneVector
    vectors = side_vectors there.polygon

    count_is_length : count ≡ length vectors
    count_is_length = count_is ∙ sym (length-map there.polygon (λ (side : Side). side.vector))

    -- the vectors from the first side on
    abbrev sequence : ℕ → PlaneVector
    sequence = sides_from (polygon_sides polygons) first

    item_is : (k : ℕ) (v : PlaneVector) → slice_get vectors k ≡ Some v → sequence k ≡ v
    item_is k v e =
        let l = slice_get_within vectors k v e in
        let same = count_is_length in
        ap (vector_of polygons) (nth_from_first k (omega arith))
        ∙ ap (λ (o : Option (List Side)). vector_or (option_and_then (λ polygon. slice_get polygon k) o)) there.is
        ∙ vector_in (slice_get there.polygon k) v (sym (slice_get-map (λ (side : Side). side.vector) there.polygon k) ∙ e)

    sequence_repeats : (j : ℕ) → sequence (count + j) ≡ sequence j
    sequence_repeats j = ap (vector_of polygons) (iterate-add (corner_after polygons) count j first ∙ ap (iterate (corner_after polygons) j) first_returns)

    last_item_is : sequence (count - 1) ≡ last_side vectors
    last_item_is =
        let same = count_is_length in
        let l = below_count in
        let last = item_inside vectors (count - 1) (omega arith) in
        let number : count - 1 ≡ length vectors - 1 = omega arith in
        item_is (count - 1) last.value last.is
        ∙ sym (ap (λ o. unwrap_or o vector_zero) last.is)
        ∙ ap (λ n. unwrap_or (slice_get vectors n) vector_zero) number
        ∙ last_side_is vectors

    rises_of_polygon : (d : ℕ) → rises (quadratic d) (is_ahead d) (unit_vector (quadratic d)) sequence count ≡ count_by (is_rise d) (corners_of vectors)
    rises_of_polygon d =
        let l = below_count in
        let whole : (k : ℕ) → count - 1 + suc k ≡ count + k = λ k. omega arith in
        sym (rises-shift (quadratic d) (is_ahead d) (unit_vector (quadratic d)) sequence count (count - 1) sequence_repeats)
        ∙ rises-unit d (λ j. sequence (count - 1 + j)) count
        ∙ ap (count_below (rise_at d (λ j. sequence (count - 1 + j)))) count_is_length
        ∙ sym (rises_from d (λ j. sequence (count - 1 + j)) (last_side vectors) vectors (ap sequence (add-zero (count - 1)) ∙ last_item_is)
        (λ k v e. ap sequence (whole k) ∙ sequence_repeats k ∙ item_is k v e))

    -- the rises of the boundary from any of its sides are those of the polygon
    pub rises_from_corner : (d : ℕ) → rises (quadratic d) (is_ahead d) (unit_vector (quadratic d)) (sides_from (polygon_sides polygons) c) count ≡ count_by (is_rise d) (corners_of vectors)
    rises_from_corner d =
        (λ i. rises (quadratic d) (is_ahead d) (unit_vector (quadratic d)) (λ k. vector_of polygons (from_first k i)) count)
        ∙ rises-shift (quadratic d) (is_ahead d) (unit_vector (quadratic d)) sequence count c.side sequence_repeats
        ∙ rises_of_polygon d

    -- a side leads from the position of its corner to that of the next one
    pub position_after : {straight : Bool} {d : ℕ} → IsPolygon straight d vectors
        → position_of polygons (corner_after polygons c) ≡ vector_add (position_of polygons c) (vector_of polygons c)
    position_after p =
        let side = item_inside there.polygon c.side there.inside in
        let vector : vector_of polygons c ≡ side.value.vector
        = ap (λ (o : Option (List Side)). vector_or (option_and_then (λ polygon. slice_get polygon c.side) o)) there.is ∙ ap vector_or side.is in
        ap (λ (o : Option (List Side)). corner_position (side_vectors (unwrap_or o [])) (after count c.side)) there.is
        ∙ position_in there.polygon count c.side side.value p count_is side.is
        ∙ (λ i. vector_add (corner_position (side_vectors (unwrap_or (sym there.is i) [])) c.side) (sym vector i))
