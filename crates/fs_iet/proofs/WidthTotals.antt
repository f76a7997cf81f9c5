-- The sum of the widths of all incoming sides is where the last polygon's block of positions ends.
use Rattle.std.proofs.Common.{◌≡◌, ℕ, suc, ◌+◌, if◌then◌else◌, Bool, true, false, Result, Ok, Err, Some, List, [], ◌∷◌, length, map, sym, ap, ◌∙◌, refl, arith}
use Rattle.std.proofs.lemmas.List.{map-append}
use Rattle.std.proofs.lemmas.Option.{get_or_from_slice_get}
use Rattle.std.proofs.lemmas.Simd.{map-map}
use Rattle.std.specs.List.{slice_get, range_with_len}
use Rattle.std.specs.Option.{option_and_then}
use Rattle.std.specs.Ordering.{is_gt}
use Rattle.fs_ring.proofs.RingLaws.{zero_add}
use Rattle.fs_quadratic.specs.Checked.{◌>>=◌, checked_sum}
use Rattle.fs_quadratic.specs.Ring as ring
use Rattle.fs_quadratic.specs.Ring.{Quadratic, add, total, sign}
use Rattle.fs_quadratic.specs.Width.{is_fitting}
use Rattle.fs_quadratic.specs.declared.steps.Place.{Place}
use Rattle.fs_quadratic.proofs.StepChains.{step_value}
use Rattle.fs_quadratic.proofs.Laws.{quadratic_ring}
use Rattle.fs_quadratic.proofs.Totals.{total-append}
use Rattle.fs_plane.specs.declared.corners.Corner.{Corner}
use Rattle.fs_plane.specs.Formulas.{cross_after}
use Rattle.fs_plane.specs.Vector.{PlaneVector, cross}
use Rattle.fs_plane.proofs.FormulaLaws.{cross_value}
use Rattle.fs_gluing.specs.CrossingMap.{positive_part, across, width, block_start}
use Rattle.fs_gluing.specs.declared.surfaces.Side.{Side}
use Rattle.fs_gluing.specs.Gluing.{sides_between}
use Rattle.fs_gluing.specs.Polygons.{sides_from, all_sides}
use Rattle.fs_gluing.specs.Surface.{GluedPolygons, side_vectors}
use Rattle.fs_gluing.specs.SurfaceSides.{vector_or, vector_of}
use Rattle.fs_gluing.proofs.Sides.AllSides.{corner}
use Rattle.fs_iet.specs.ExchangeSites.{add_side, sum_after, measured, checked_total}

-- ---- sums

-- a map of numbers that gives what a map of the items of a list gives
map_by_index : {X Y : Type 0} (f : ℕ → Y) (g : X → Y) (a : ℕ) (xs : List X) → ((k : ℕ) (x : X) → slice_get xs k ≡ Some x → f (a + k) ≡ g x) → map f (range_with_len a (length xs)) ≡ map g xs
map_by_index f g a [] h = refl
map_by_index f g a (x ∷ xs) h = λ i. (ap f (let e : a ≡ a + 0 = omega arith in e) ∙ h 0 x refl) i ∷ map_by_index f g (a + 1) xs (λ k y e. ap f (let n : a + 1 + k ≡ a + suc k = omega arith in n) ∙ h (suc k) y e) i

module _ (s : GluedPolygons) (v : PlaneVector) where
  -- the width of a side where it is incoming, else 0
  abbrev incoming_width : Corner → Quadratic
  incoming_width e = positive_part s.d (across s v e)

  -- ---- the sum as it is computed

  -- a width added where it is above 0
  added : (sum x next : Quadratic) (test : Bool) → is_gt (sign s.d x) ≡ test → (if test then checked_sum 4 sum x else Ok sum) ≡ Ok next → next ≡ add sum (positive_part s.d x)
  added sum x next true is e = step_value 4 (is_fitting (add sum x)) (add sum x) next e ∙ ap (λ t. add sum (if t then x else ring.zero)) (sym is)
  added sum x next false is e =
      let same : next ≡ sum = cc in
      same ∙ sym ((quadratic_ring s.d).add_zero sum) ∙ ap (λ t. add sum (if t then x else ring.zero)) (sym is)

  side_by_width : (sum next : Quadratic) (e : Corner) (r : Result Quadratic Place) → cross_after 0 s.d (vector_of s.polygons e) v ≡ r
      → r >>= (λ width. if is_gt (sign s.d width) then checked_sum 4 sum width else Ok sum) ≡ Ok next → next ≡ add sum (incoming_width e)
  side_by_width sum next e (Ok x) is h =
      added sum x next (is_gt (sign s.d x)) refl h ∙ ap (λ (y : Quadratic). add sum (positive_part s.d y)) (cross_value 0 s.d (vector_of s.polygons e) v x is)
  side_by_width sum next e (Err stop) is h = cc

  side_value : (sum next : Quadratic) (e : Corner) → add_side s v sum e ≡ Ok next → next ≡ add sum (incoming_width e)
  unfolding add_side
  side_value sum next e h = side_by_width sum next e (cross_after 0 s.d (vector_of s.polygons e) v) refl h

  first_value : (sum all : Quadratic) (e : Corner) (sides : List Corner) (r : Result Quadratic Place) → add_side s v sum e ≡ r → measured s v e r (λ next. sum_after s v next sides) ≡ Ok all
      → ((next : Quadratic) → sum_after s v next sides ≡ Ok all → all ≡ add next (total (map incoming_width sides))) → all ≡ add sum (total (map incoming_width (e ∷ sides)))
  first_value sum all e sides (Ok next) is h rest =
      rest next h
      ∙ ap (λ (n : Quadratic). add n (total (map incoming_width sides))) (side_value sum next e is)
      ∙ (quadratic_ring s.d).add_assoc sum (incoming_width e) (total (map incoming_width sides))
  first_value sum all e sides (Err stop) is h rest = cc

  sum_value : (sum all : Quadratic) (sides : List Corner) → sum_after s v sum sides ≡ Ok all → all ≡ add sum (total (map incoming_width sides))
  sum_value sum all [] h = let same : all ≡ sum = cc in same ∙ sym ((quadratic_ring s.d).add_zero sum)
  sum_value sum all (e ∷ sides) h = first_value sum all e sides (add_side s v sum e) refl h (λ next. sum_value next all sides)

  -- ---- polygon by polygon

  -- the width of a polygon is the sum over its sides
  width_of_sides : (i : ℕ) (polygon : List Side) → slice_get s.polygons i ≡ Some polygon → total (map incoming_width (sides_between i 0 (length polygon))) ≡ width s v i
  width_of_sides i polygon there =
      let vector_at : (k : ℕ) (side : Side) → slice_get polygon k ≡ Some side → vector_of s.polygons (corner i (0 + k)) ≡ side.vector
      = λ k side e.
      ap (λ (n : ℕ). vector_of s.polygons (corner i n)) (let z : 0 + k ≡ k = omega arith in z)
      ∙ ap (λ o. vector_or (option_and_then (λ row. slice_get row k) o)) there
      ∙ ap vector_or e in
      ap total
      (map-map incoming_width (corner i) (range_with_len 0 (length polygon))
      ∙ map_by_index (λ j. incoming_width (corner i j)) (λ side. positive_part s.d (cross s.d side.vector v)) 0 polygon
      (λ k side e. ap (λ (x : PlaneVector). positive_part s.d (cross s.d x v)) (vector_at k side e))
      ∙ sym (map-map (λ side. positive_part s.d (cross s.d side v)) (λ (side : Side). side.vector) polygon)
      ∙ ap (λ row. map (λ side. positive_part s.d (cross s.d side v)) (side_vectors row)) (sym (get_or_from_slice_get s.polygons i polygon [] there)))

  -- the widths of the polygons from i on are the sum over their sides
  widths_of_sides : (i : ℕ) (rest : List (List Side)) → ((k : ℕ) → slice_get s.polygons (i + k) ≡ slice_get rest k)
      → total (map incoming_width (sides_from i rest)) ≡ total (map (width s v) (range_with_len i (length rest)))
  widths_of_sides i [] same = refl
  widths_of_sides i (polygon ∷ rest) same =
      let here : slice_get s.polygons i ≡ Some polygon = ap (slice_get s.polygons) (let e : i ≡ i + 0 = omega arith in e) ∙ same 0 in
      ap total (map-append incoming_width (sides_between i 0 (length polygon)) (sides_from (i + 1) rest))
      ∙ total-append (map incoming_width (sides_between i 0 (length polygon))) (map incoming_width (sides_from (i + 1) rest))
      ∙ (λ t. add (width_of_sides i polygon here t) (widths_of_sides (i + 1) rest (λ k. ap (slice_get s.polygons) (let e : i + 1 + k ≡ i + suc k = omega arith in e) ∙ same (suc k)) t))

  -- the sum that is computed is the sum of the widths of all polygons
  pub total_is : (all : Quadratic) → checked_total s v ≡ Ok all → all ≡ block_start s v (length s.polygons)
  total_is all h =
      sum_value ring.zero all (all_sides s.polygons) h
      ∙ zero_add (quadratic_ring s.d) (total (map incoming_width (all_sides s.polygons)))
      ∙ widths_of_sides 0 s.polygons (λ k. ap (slice_get s.polygons) (let e : 0 + k ≡ k = omega arith in e))
