-- The sum of the triangles of a surface, polygon by polygon, and that it is twice the area.
use Rattle.std.proofs.Common.{◌≡◌, ℕ, ◌+◌, ◌-◌, ◌<◌, ◌≤◌, Bool, true, false, Result, Ok, Err, Some, List, [], ◌∷◌, ◌++◌, length, map, drop, get_or, sym, ap, ◌∙◌, refl, subst, arith}
use Rattle.std.proofs.lemmas.List.{drop_all, drop_more, length-map, length-drop}
use Rattle.std.proofs.lemmas.Option.{slice_get-map, slice_get_within, get_or_from_slice_get, IfSome_then}
use Rattle.std.specs.Option.{IfSome, option_map}
use Rattle.std.specs.Bool.{Decides}
use Rattle.std.specs.Result.{IfOk}
use Rattle.std.specs.List.{slice_get, AllByRecursion}
use Rattle.fs_lists.proofs.Sums.{each_length}
use Rattle.fs_lists.proofs.Items.{IsItem, drop_item, item_inside, value_holds}
use Rattle.fs_lists.proofs.All.{All-map, All-weaker, All-slice_get}
use Rattle.fs_ring.specs.Operations.{Operations}
use Rattle.fs_ring.specs.CommutativeRing.{IsCommutativeRing}
use Rattle.fs_ring.specs.Vector as plane
use Rattle.fs_ring.proofs.Solver.{expressions as E, ◌≐◌}
use Rattle.fs_ring.proofs.PlaneSolver.{plane_identity}
use Rattle.fs_quadratic.specs.Ring as ring
use Rattle.fs_quadratic.specs.Ring.{Quadratic, quadratic, add, total}
use Rattle.fs_quadratic.specs.Width.{Fits, is_fitting}
use Rattle.fs_quadratic.proofs.Laws.{quadratic_ring}
use Rattle.fs_quadratic.proofs.WidthTests.{Decides-is_fitting}
use Rattle.fs_plane.specs.declared.corners.Corner.{Corner}
use Rattle.fs_quadratic.specs.declared.steps.Place.{Place}
use Rattle.fs_plane.specs.declared.sites.Site.{Site}
use Rattle.fs_plane.specs.declared.sites.Site.TheVariants as sites
use Rattle.fs_plane.specs.Vector.{vector_zero, cross, PlaneVector}
use Rattle.fs_quadratic.specs.Checked.{◌>>=◌, checked_sum, step}
use Rattle.fs_plane.specs.Formulas.{cross_after}
use Rattle.fs_plane.proofs.FormulaLaws.{cross_value}
use Rattle.fs_gluing.specs.Limits.{most_polygons, most_sides}
use Rattle.fs_gluing.specs.declared.surfaces.Side.{Side}
use Rattle.fs_gluing.specs.Area.{Triangle, triangles_from, triangles_of, all_triangles, triangles, twice_triangle, twice_area, add_triangle, continued, sum_after}
use Rattle.fs_gluing.specs.Positions.{positions_from, all_positions}
use Rattle.fs_gluing.specs.Surface.{GluedPolygons, IsSurface, side_vectors}
use Rattle.fs_gluing.proofs.SurfaceCalls.Positions.{length-positions_from, row_positions}

-- ---- the sum over two lists of triangles

-- what comes next after a sum, or its site
abbrev go_on : Result Quadratic Site → (Quadratic → Result Quadratic Site) → Result Quadratic Site
go_on (Ok sum) next = next sum
go_on (Err site) next = Err site

continued-append : (d : ℕ) (t : Triangle) (r : Result Quadratic Place) (xs ys : List Triangle)
    → ((sum : Quadratic) → sum_after d sum (xs ++ ys) ≡ go_on (sum_after d sum xs) (λ next. sum_after d next ys))
    → continued t r (λ sum. sum_after d sum (xs ++ ys)) ≡ go_on (continued t r (λ sum. sum_after d sum xs)) (λ next. sum_after d next ys)
continued-append d t (Ok sum) xs ys h = h sum
continued-append d t (Err stop) xs ys h = refl

sum_after-append : (d : ℕ) (sum : Quadratic) (xs ys : List Triangle) → sum_after d sum (xs ++ ys) ≡ go_on (sum_after d sum xs) (λ next. sum_after d next ys)
sum_after-append d sum [] ys = refl
sum_after-append d sum (t ∷ xs) ys = continued-append d t (add_triangle d sum t) xs ys (λ next. sum_after-append d next xs ys)

-- where the first list has a sum, the second is added to it
sum_after-ok : (d : ℕ) (sum next : Quadratic) (xs ys : List Triangle) → Ok next ≡ sum_after d sum xs → sum_after d sum (xs ++ ys) ≡ sum_after d next ys
sum_after-ok d sum next xs ys e = sum_after-append d sum xs ys ∙ ap (λ r. go_on r (λ n. sum_after d n ys)) (sym e)

-- where the first list has a site, it is the site of both
sum_after-stop : (d : ℕ) (sum : Quadratic) (site : Site) (xs ys : List Triangle) → Err site ≡ sum_after d sum xs → sum_after d sum (xs ++ ys) ≡ Err site
sum_after-stop d sum site xs ys e = sum_after-append d sum xs ys ∙ ap (λ r. go_on r (λ n. sum_after d n ys)) (sym e)

-- ---- one triangle

stops_by : (t : Triangle) (test : Bool) (P : Type 0) (value : Quadratic) → Decides test P → ¬ P → Err (sites.Area t.polygon t.corner 4) ≡ continued t (step 4 test value) (λ next. Ok next)
stops_by t true P value decides n = absurd (n (decides.0 refl))
stops_by t false P value decides n = refl

-- the sum overflows at place 4
pub triangle_stops : (d : ℕ) (sum part : Quadratic) (t : Triangle) (site : Site) → site ≡ sites.Area t.polygon t.corner 4
    → Ok part ≡ cross_after 0 d t.one t.two → ¬ Fits (add sum part) → Err site ≡ sum_after d sum (t ∷ [])
triangle_stops d sum part t site is crossed n =
    ap (λ s. Err s) is
    ∙ stops_by t (is_fitting (add sum part)) (Fits (add sum part)) (add sum part) (Decides-is_fitting (add sum part)) n
    ∙ ap (λ c. continued t (c >>= (λ x. checked_sum 4 sum x)) (λ next. Ok next)) crossed

-- ---- the triangles of one polygon

-- the triangles from corner k on
abbrev pub triangles_at : ℕ → ℕ → List PlaneVector → List Triangle
triangles_at i k positions = triangles_from i k (drop k positions)

-- the triangle of corner k and the next one, by their positions
abbrev pub triangle : ℕ → ℕ → PlaneVector → PlaneVector → Triangle
triangle i k one two = record { polygon = i; corner = k; one = one; two = two }

triangles_at-more : (i k : ℕ) (positions : List PlaneVector) (one two : PlaneVector) → IsItem positions k one → IsItem positions (k + 1) two
    → triangles_at i k positions ≡ triangle i k one two ∷ triangles_at i (k + 1) positions
triangles_at-more i k positions one two first second =
    ap (triangles_from i k) (drop_item positions k one first ∙ ap (λ ps. one ∷ ps) (drop_item positions (k + 1) two second))
    ∙ ap (λ ps. triangle i k one two ∷ triangles_from i (k + 1) ps) (sym (drop_item positions (k + 1) two second))

triangles_from-short : (i k : ℕ) (positions : List PlaneVector) → length positions ≤ 1 → triangles_from i k positions ≡ []
triangles_from-short i k [] l = refl
triangles_from-short i k (one ∷ []) l = refl
triangles_from-short i k (one ∷ (two ∷ positions)) l = absurd (omega arith)

-- the triangles of polygon i before the corners j - 1 and j are in the sum
pub record AddsTrianglesUpTo (d : ℕ) (sum : Quadratic) (i : ℕ) (positions : List PlaneVector) (j : ℕ) (total : Quadratic) : Type 0 where
  pub is : sum_after d sum (triangles_at i 1 positions) ≡ sum_after d total (triangles_at i (j - 1) positions)

-- the triangle of the corners j - 1 and j is the first of the rest
next_triangle : (i j : ℕ) (positions : List PlaneVector) (one two : PlaneVector) → 2 ≤ j → IsItem positions (j - 1) one → IsItem positions j two
    → triangles_at i (j - 1) positions ≡ triangle i (j - 1) one two ∷ triangles_at i (j + 1 - 1) positions
next_triangle i j positions one two l first second =
    let there : j ≡ j - 1 + 1 = omega arith in
    let next : j - 1 + 1 ≡ j + 1 - 1 = omega arith in
    triangles_at-more i (j - 1) positions one two first (subst (λ k. IsItem positions k two) there second)
    ∙ ap (λ k. triangle i (j - 1) one two ∷ triangles_at i k positions) next

-- one more triangle is added
pub added_more : (d : ℕ) (sum : Quadratic) (i : ℕ) (positions : List PlaneVector) (j : ℕ) (total next : Quadratic) (one two : PlaneVector) (c : Corner) → c ≡ record { polygon = i; side = j - 1 } → 2 ≤ j
    → IsItem positions (j - 1) one → IsItem positions j two → Ok next ≡ sum_after d total (triangle c.polygon c.side one two ∷ []) → AddsTrianglesUpTo d sum i positions j total
    → AddsTrianglesUpTo d sum i positions (j + 1) next
added_more d sum i positions j total next one two c is l first second e a = record {
  is = a.is
      ∙ ap (sum_after d total) (next_triangle i j positions one two l first second)
      ∙ sum_after-ok d total next (triangle i (j - 1) one two ∷ []) (triangles_at i (j + 1 - 1) positions) (e ∙ ap (λ (k : Corner). sum_after d total (triangle k.polygon k.side one two ∷ [])) is);
}

-- after all positions the sum has all triangles of the polygon
pub added_all : (d : ℕ) (sum : Quadratic) (i : ℕ) (positions : List PlaneVector) (j : ℕ) (total : Quadratic) → length positions ≤ j → AddsTrianglesUpTo d sum i positions j total
    → Ok total ≡ sum_after d sum (triangles_at i 1 positions)
added_all d sum i positions j total l a =
    let short : length (drop (j - 1) positions) ≤ 1 = omega (arith, length-drop (j - 1) positions) in
    sym (a.is ∙ ap (sum_after d total) (triangles_from-short i (j - 1) (drop (j - 1) positions) short))

-- ---- polygon by polygon

-- there is a row of positions for each polygon
rows_count : (polygons : List (List Side)) → length (all_positions (map side_vectors polygons)) ≡ length polygons
rows_count polygons = length-map (map side_vectors polygons) (positions_from vector_zero) ∙ length-map polygons side_vectors

-- a surface has at most 256 rows of positions
pub few_rows : (s : GluedPolygons) (positions : List (List PlaneVector)) → IsSurface s → positions ≡ all_positions (map side_vectors s.polygons) → length positions ≤ most_polygons
few_rows s positions surface same = subst (λ n. n ≤ most_polygons) (sym (ap length same ∙ rows_count s.polygons)) surface.polygons

-- each of them has at most 1,024 positions
pub short_rows : (s : GluedPolygons) (positions : List (List PlaneVector)) → IsSurface s → positions ≡ all_positions (map side_vectors s.polygons)
    → AllByRecursion (λ row. length row ≤ most_sides) positions
short_rows s positions surface same =
    let short : (polygon : List Side) → length polygon ≤ most_sides → length (positions_from vector_zero (side_vectors polygon)) ≤ most_sides =
    λ polygon l. subst (λ n. n ≤ most_sides) (sym (length-positions_from vector_zero (side_vectors polygon) ∙ length-map polygon (λ side. side.vector))) l in
    subst (AllByRecursion (λ (row : List PlaneVector). length row ≤ most_sides)) (sym same)
    (All-map (positions_from vector_zero) (λ row. length row ≤ most_sides) (map side_vectors s.polygons)
    (All-map side_vectors (λ vectors. length (positions_from vector_zero vectors) ≤ most_sides) s.polygons
    (All-weaker s.polygons short (each_length s.polygons most_sides surface.sides))))

-- a row of them, too
pub row_short : (positions : List (List PlaneVector)) (i : ℕ) (row : List PlaneVector) → AllByRecursion (λ row. length row ≤ most_sides) positions → IsItem positions i row → length row ≤ most_sides
row_short positions i row short item =
    let v = item_inside positions i item.inside in
    subst (λ n. n ≤ most_sides) (ap length (sym (item.is ∙ get_or_from_slice_get positions i v.value row v.is)))
    (All-slice_get (λ row. length row ≤ most_sides) positions i v.value short v.is)

-- the triangles of a polygon, by the row of its positions, are added to a sum
polygon_added : (polygons : List (List Side)) (positions : List (List PlaneVector)) (i d : ℕ) (sum : Quadratic) (row : List PlaneVector) (r : Result Quadratic Site)
    → positions ≡ all_positions (map side_vectors polygons) → IsItem positions i row → r ≡ sum_after d sum (triangles_at i 1 row)
    → IfSome (slice_get polygons i) (λ polygon. r ≡ sum_after d sum (triangles_of i (side_vectors polygon)))
polygon_added polygons positions i d sum row r same item e =
    IfSome_then (slice_get polygons i) (row_positions polygons i row (item.is ∙ ap (λ ps. get_or ps i row) same))
    (λ polygon here. e ∙ ap (λ ps. sum_after d sum (triangles_at i 1 ps)) here)

-- the triangles of the polygons from i on
abbrev triangles_after : List (List Side) → ℕ → List Triangle
triangles_after polygons i = all_triangles i (drop i (map side_vectors polygons))

polygon_next : (polygons : List (List Side)) (i : ℕ) (polygon : List Side) → slice_get polygons i ≡ Some polygon
    → triangles_after polygons i ≡ triangles_of i (side_vectors polygon) ++ triangles_after polygons (i + 1)
polygon_next polygons i polygon there =
    let rows : List (List PlaneVector) = map side_vectors polygons in
    let row : List PlaneVector = side_vectors polygon in
    let at : slice_get rows i ≡ Some row = slice_get-map side_vectors polygons i ∙ ap (option_map side_vectors) there in
    ap (all_triangles i) (drop_more rows i row (slice_get_within rows i row at) ∙ ap (λ r. r ∷ drop (i + 1) rows) (get_or_from_slice_get rows i row row at))

-- the polygons before i are in the sum
pub record SumsPolygonsUpTo (d : ℕ) (polygons : List (List Side)) (i : ℕ) (sum : Quadratic) : Type 0 where
  pub is : sum_after d ring.zero (triangles_after polygons 0) ≡ sum_after d sum (triangles_after polygons i)

-- one more polygon is added
summed_more : (d : ℕ) (polygons : List (List Side)) (i : ℕ) (sum next : Quadratic) → i < length polygons
    → IfSome (slice_get polygons i) (λ polygon. Ok next ≡ sum_after d sum (triangles_of i (side_vectors polygon))) → SumsPolygonsUpTo d polygons i sum → SumsPolygonsUpTo d polygons (i + 1) next
summed_more d polygons i sum next l h s =
    let v = item_inside polygons i l in
    record {
      is = s.is
          ∙ ap (sum_after d sum) (polygon_next polygons i v.value v.is)
          ∙ sum_after-ok d sum next (triangles_of i (side_vectors v.value)) (triangles_after polygons (i + 1))
          (value_holds (slice_get polygons i) (λ polygon. Ok next ≡ sum_after d sum (triangles_of i (side_vectors polygon))) v.value v.is h);
    }

-- the next polygon has a site, and it is the site of the whole sum
summed_stops : (d : ℕ) (polygons : List (List Side)) (i : ℕ) (sum : Quadratic) (site : Site) → i < length polygons
    → IfSome (slice_get polygons i) (λ polygon. Err site ≡ sum_after d sum (triangles_of i (side_vectors polygon))) → SumsPolygonsUpTo d polygons i sum
    → Err site ≡ sum_after d ring.zero (triangles_after polygons 0)
summed_stops d polygons i sum site l h s =
    let v = item_inside polygons i l in
    sym (s.is
    ∙ ap (sum_after d sum) (polygon_next polygons i v.value v.is)
    ∙ sum_after-stop d sum site (triangles_of i (side_vectors v.value)) (triangles_after polygons (i + 1))
    (value_holds (slice_get polygons i) (λ polygon. Err site ≡ sum_after d sum (triangles_of i (side_vectors polygon))) v.value v.is h))

-- after all polygons the sum has all triangles
summed_all : (d : ℕ) (polygons : List (List Side)) (n : ℕ) (sum : Quadratic) → length polygons ≤ n → SumsPolygonsUpTo d polygons n sum
    → Ok sum ≡ sum_after d ring.zero (triangles_after polygons 0)
summed_all d polygons n sum l s =
    let rows : List (List PlaneVector) = map side_vectors polygons in
    let long : length rows ≤ n = omega (arith, length-map polygons side_vectors) in
    sym (s.is ∙ ap (λ r. sum_after d sum (all_triangles n r)) (drop_all n rows long))

-- ---- row by row of positions

-- one more row is added
pub row_summed : (d : ℕ) (polygons : List (List Side)) (positions : List (List PlaneVector)) (i : ℕ) (sum next : Quadratic) (row : List PlaneVector)
    → positions ≡ all_positions (map side_vectors polygons) → IsItem positions i row → Ok next ≡ sum_after d sum (triangles_at i 1 row) → SumsPolygonsUpTo d polygons i sum
    → SumsPolygonsUpTo d polygons (i + 1) next
row_summed d polygons positions i sum next row same item e s =
    summed_more d polygons i sum next (subst (λ n. i < n) (ap length same ∙ rows_count polygons) item.inside) (polygon_added polygons positions i d sum row (Ok next) same item e) s

-- the next row has a site, and it is the site of the whole sum
pub row_stops : (d : ℕ) (polygons : List (List Side)) (positions : List (List PlaneVector)) (i : ℕ) (sum : Quadratic) (site : Site) (row : List PlaneVector)
    → positions ≡ all_positions (map side_vectors polygons) → IsItem positions i row → Err site ≡ sum_after d sum (triangles_at i 1 row) → SumsPolygonsUpTo d polygons i sum
    → Err site ≡ sum_after d ring.zero (all_triangles 0 (map side_vectors polygons))
row_stops d polygons positions i sum site row same item e s =
    summed_stops d polygons i sum site (subst (λ n. i < n) (ap length same ∙ rows_count polygons) item.inside) (polygon_added polygons positions i d sum row (Err site) same item e) s

-- after all rows the sum has all triangles
pub rows_summed : (d : ℕ) (polygons : List (List Side)) (positions : List (List PlaneVector)) (n : ℕ) (sum : Quadratic) → positions ≡ all_positions (map side_vectors polygons)
    → length positions ≤ n → SumsPolygonsUpTo d polygons n sum → Ok sum ≡ sum_after d ring.zero (all_triangles 0 (map side_vectors polygons))
rows_summed d polygons positions n sum same l s = summed_all d polygons n sum (subst (λ k. k ≤ n) (ap length same ∙ rows_count polygons) l) s

-- ---- what the sum is

module _ {A : Type 0} {R : Operations A} (L : IsCommutativeRing R) where
  twice_area-from_zero : (a b : plane.Vector A) → plane.twice_area R (plane.zero_vector R) a b ≡ plane.cross R a b
  twice_area-from_zero a b = plane_identity L [] (a ∷ b ∷ []) (λ a b. plane.twice_area E (plane.zero_vector E) a b ≐ plane.cross E a b) refl

cross_of : (d : ℕ) (t : Triangle) → cross d t.one t.two ≡ twice_triangle d t
cross_of d t = sym (twice_area-from_zero (quadratic_ring d) t.one t.two)

value_of_step : {A : Type 0} (n : ℕ) (test : Bool) (value x : A) → step n test value ≡ Ok x → x ≡ value
value_of_step n true value x e = cc
value_of_step n false value x e = cc

sum_of_part : (d : ℕ) (sum next : Quadratic) (t : Triangle) (r : Result Quadratic Place) → cross_after 0 d t.one t.two ≡ r
    → r >>= (λ part. checked_sum 4 sum part) ≡ Ok next → next ≡ add sum (twice_triangle d t)
sum_of_part d sum next t (Ok x) e f =
    value_of_step 4 (is_fitting (add sum x)) (add sum x) next f ∙ ap (add sum) (cross_value 0 d t.one t.two x e ∙ cross_of d t)
sum_of_part d sum next t (Err stop) e f = cc

triangle_value : (d : ℕ) (sum next : Quadratic) (t : Triangle) → add_triangle d sum t ≡ Ok next → next ≡ add sum (twice_triangle d t)
triangle_value d sum next t e = sum_of_part d sum next t (cross_after 0 d t.one t.two) refl e

value_continued : (d : ℕ) (sum : Quadratic) (t : Triangle) (r : Result Quadratic Place) (ts : List Triangle) (x : Quadratic) → add_triangle d sum t ≡ r
    → continued t r (λ next. sum_after d next ts) ≡ Ok x → ((next : Quadratic) → sum_after d next ts ≡ Ok x → x ≡ add next (total (map (twice_triangle d) ts)))
    → x ≡ add sum (total (map (twice_triangle d) (t ∷ ts)))
value_continued d sum t (Ok next) ts x e f h =
    h next f
    ∙ (ap (λ (n : Quadratic). add n (total (map (twice_triangle d) ts))) (triangle_value d sum next t e)
    ∙ (quadratic_ring d).add_assoc sum (twice_triangle d t) (total (map (twice_triangle d) ts)))
value_continued d sum t (Err stop) ts x e f h = cc

same_sum : (sum x : Quadratic) → ◌≡◌ {A = Result Quadratic Site} (Ok sum) (Ok x) → x ≡ sum
same_sum sum x e = cc

sum_value : (d : ℕ) (sum : Quadratic) (ts : List Triangle) (x : Quadratic) → sum_after d sum ts ≡ Ok x → x ≡ add sum (total (map (twice_triangle d) ts))
sum_value d sum [] x e = same_sum sum x e ∙ sym ((quadratic_ring d).add_zero sum)
sum_value d sum (t ∷ ts) x e = value_continued d sum t (add_triangle d sum t) ts x refl e (λ next. sum_value d next ts x)

-- a sum that doesn't overflow is twice the area
pub area_of_sum : (s : GluedPolygons) (r : Result Quadratic Site) → r ≡ sum_after s.d ring.zero (triangles s) → IfOk r (λ x. x ≡ twice_area s)
area_of_sum s (Ok x) e =
    sum_value s.d ring.zero (triangles s) x (sym e)
    ∙ ((quadratic_ring s.d).add_comm ring.zero (twice_area s) ∙ (quadratic_ring s.d).add_zero (twice_area s))
area_of_sum s (Err site) e = tt
