-- The tests of scaling, side by side and polygon by polygon.
use Rattle.std.proofs.Common.{◌≡◌, ℕ, ℤ, pos, ◌+◌, ◌/◌, ◌*ℤ◌, ◌<◌, ◌^◌, List, [], ◌∷◌, ◌++◌, drop, map, sym, ap, ◌∙◌, refl, subst, append_assoc, arith, to_z, of_z}
use Rattle.std.proofs.lemmas.Int.{ints}
use Rattle.std.proofs.Math.Nat.{div-le_self}
use Rattle.std.specs.Int.{w128}
use Rattle.std.specs.List.{AllByRecursion}
use Rattle.fs_lists.proofs.Items.{IsItem, drop_item}
use Rattle.fs_quadratic.specs.Width.{InWidth}
use Rattle.fs_fraction.proofs.Inverses.{through_bits}
use Rattle.fs_plane.specs.Vector.{PlaneVector}
use Rattle.fs_plane.specs.declared.corners.Corner.{Corner}
use Rattle.fs_plane.specs.declared.sites.Site.TheVariants as sites
use Rattle.fs_gluing.specs.declared.shapes.Point.{Point}
use Rattle.fs_gluing.specs.declared.faults.BuildStop.{BuildStop}
use Rattle.fs_gluing.specs.declared.faults.BuildStop.TheVariants as stops
use Rattle.fs_gluing.specs.Scaling.{NumberedSide, numbered_sides, numbered_from, all_numbered, common_multiple, common_from, common_den, scaled_vector, ScaleTest, common_fits, part_fits, PassesScale, common_tests, part_tests, scale_tests}
use Rattle.fs_gluing.specs.FirstFault.{of_scaling, stop_of}
use Rattle.fs_gluing.specs.TestsInOrder.{PassesBefore, IsFirstStop}
use Rattle.fs_gluing.proofs.Base.TestsInOrder.{passes_before_more, passes_before_same, first_stop_of_rest, first_stop_of_head, first_stop_of_prefix}

-- the stop of a test of scaling
abbrev pub scale_stop : ScaleTest → BuildStop
scale_stop test = stop_of (of_scaling test)

-- ---- polygon i from side j on, and the polygons from i on
next_side : (i : ℕ) (points : List Point) (j : ℕ) (point : Point) → IsItem points j point
    → numbered_sides i j (drop j points) ≡ numbered_sides i j (point ∷ []) ++ numbered_sides i (j + 1) (drop (j + 1) points)
next_side i points j point item = ap (numbered_sides i j) (drop_item points j point item)

-- the sides from polygon i on are those of polygon i and those from polygon i + 1 on
next_polygon : (polygons : List (List Point)) (i : ℕ) (points : List Point) → IsItem polygons i points
    → numbered_from i (drop i polygons) ≡ numbered_sides i 0 points ++ numbered_from (i + 1) (drop (i + 1) polygons)
next_polygon polygons i points item = ap (numbered_from i) (drop_item polygons i points item)

-- ---- the common denominator

common_from-append : (m : ℕ) (xs ys : List NumberedSide) → common_from m (xs ++ ys) ≡ common_from (common_from m xs) ys
common_from-append m [] ys = refl
common_from-append m (s ∷ xs) ys = common_from-append (common_multiple (common_multiple m s.vector.x.den) s.vector.y.den) xs ys

common_tests-append : (m : ℕ) (xs ys : List NumberedSide) → common_tests m (xs ++ ys) ≡ common_tests m xs ++ common_tests (common_from m xs) ys
common_tests-append m [] ys = refl
common_tests-append m (s ∷ xs) ys =
    let with_x = common_multiple m s.vector.x.den in
    let with_y = common_multiple with_x s.vector.y.den in
    ap (λ ts. common_fits s.polygon s.side 1 m s.vector.x.den ∷ common_fits s.polygon s.side 2 with_x s.vector.y.den ∷ ts) (common_tests-append with_y xs ys)

-- den is the common multiple of m and of the denominators of all sides before the rest
pub record HasCommonUpTo (m : ℕ) (all rest : List NumberedSide) (den : ℕ) : Type 0 where
  pub positive : 0 < den
  pub within : den < 2 ^ 127
  pub value : common_from den rest ≡ common_from m all
  pub passed : PassesBefore PassesScale (common_tests m all) (common_tests den rest)

left_same : (m : ℕ) (all rest others : List NumberedSide) (den : ℕ) → rest ≡ others → HasCommonUpTo m all rest den → HasCommonUpTo m all others den
left_same m all rest others den e c = subst (λ (ss : List NumberedSide). HasCommonUpTo m all ss den) e c

before_rest : (m : ℕ) (all xs rest : List NumberedSide) (den : ℕ) → HasCommonUpTo m all (xs ++ rest) den
    → PassesBefore PassesScale (common_tests m all) (common_tests den xs ++ common_tests (common_from den xs) rest)
before_rest m all xs rest den c = passes_before_same _ _ _ _ (common_tests-append den xs rest) c.passed

common_more : (m : ℕ) (all xs rest : List NumberedSide) (den k : ℕ) → HasCommonUpTo m all (xs ++ rest) den → 0 < k → k < 2 ^ 127 → k ≡ common_from den xs
    → AllByRecursion PassesScale (common_tests den xs) → HasCommonUpTo m all rest k
common_more m all xs rest den k c up within is a = record {
  positive = up;
  within = within;
  value = ap (λ n. common_from n rest) is ∙ sym (common_from-append den xs rest) ∙ c.value;
  passed = passes_before_same _ _ _ _ (ap (λ n. common_tests n rest) (sym is)) (passes_before_more _ _ (common_tests den xs) _ (before_rest m all xs rest den c) a);
}

common_fails : (m : ℕ) (all xs rest : List NumberedSide) (den : ℕ) (e : BuildStop) → HasCommonUpTo m all (xs ++ rest) den
    → IsFirstStop PassesScale (common_tests den xs) scale_stop e → IsFirstStop PassesScale (common_tests m all) scale_stop e
common_fails m all xs rest den e c a = first_stop_of_rest _ _ _ _ _ (before_rest m all xs rest den c) (first_stop_of_prefix _ _ _ _ _ a)

-- for the sides of one polygon
abbrev pub HasCommonOfSides : ℕ → ℕ → List Point → ℕ → ℕ → Type 0
HasCommonOfSides m i points j den = HasCommonUpTo m (numbered_sides i 0 points) (numbered_sides i j (drop j points)) den

-- the common multiple after one more side
pub row_more : (m i : ℕ) (points : List Point) (j den k : ℕ) (point : Point) (c : Corner) → c ≡ record { polygon = i; side = j } → IsItem points j point → HasCommonOfSides m i points j den → 0 < k → k < 2 ^ 127
    → k ≡ common_from den (numbered_sides c.polygon c.side (point ∷ [])) → AllByRecursion PassesScale (common_tests den (numbered_sides c.polygon c.side (point ∷ []))) → HasCommonOfSides m i points (j + 1) k
row_more m i points j den k point c is item h up within value a =
    common_more m _ (numbered_sides i j (point ∷ [])) _ den k (left_same m _ _ _ den (next_side i points j point item) h) up within
    (value ∙ ap (λ (e : Corner). common_from den (numbered_sides e.polygon e.side (point ∷ []))) is)
    (subst (λ (e : Corner). AllByRecursion PassesScale (common_tests den (numbered_sides e.polygon e.side (point ∷ [])))) is a)

-- a denominator of the next side overflows
pub row_fails : (m i : ℕ) (points : List Point) (j den : ℕ) (point : Point) (e : BuildStop) (c : Corner) → c ≡ record { polygon = i; side = j } → IsItem points j point → HasCommonOfSides m i points j den
    → IsFirstStop PassesScale (common_tests den (numbered_sides c.polygon c.side (point ∷ []))) scale_stop e → IsFirstStop PassesScale (common_tests m (numbered_sides i 0 points)) scale_stop e
row_fails m i points j den point e c is item h a =
    common_fails m _ (numbered_sides i j (point ∷ [])) _ den e (left_same m _ _ _ den (next_side i points j point item) h)
    (subst (λ (k : Corner). IsFirstStop PassesScale (common_tests den (numbered_sides k.polygon k.side (point ∷ []))) scale_stop e) is a)

-- for all polygons
abbrev pub HasCommonOfPolygons : List (List Point) → ℕ → ℕ → Type 0
HasCommonOfPolygons polygons i den = HasCommonUpTo 1 (all_numbered polygons) (numbered_from i (drop i polygons)) den

-- the common multiple after one more polygon
pub polygons_more : (polygons : List (List Point)) (i den k : ℕ) (points : List Point) → IsItem polygons i points → HasCommonOfPolygons polygons i den → 0 < k → k < 2 ^ 127
    → k ≡ common_from den (numbered_sides i 0 points) → AllByRecursion PassesScale (common_tests den (numbered_sides i 0 points)) → HasCommonOfPolygons polygons (i + 1) k
polygons_more polygons i den k points item c =
    common_more 1 _ (numbered_sides i 0 points) _ den k (left_same 1 _ _ _ den (next_polygon polygons i points item) c)

-- a denominator of the next polygon overflows
pub polygons_fail : (polygons : List (List Point)) (i den : ℕ) (points : List Point) (e : BuildStop) → IsItem polygons i points → HasCommonOfPolygons polygons i den
    → IsFirstStop PassesScale (common_tests den (numbered_sides i 0 points)) scale_stop e → IsFirstStop PassesScale (common_tests 1 (all_numbered polygons)) scale_stop e
polygons_fail polygons i den points e item c =
    common_fails 1 _ (numbered_sides i 0 points) _ den e (left_same 1 _ _ _ den (next_polygon polygons i points item) c)

-- ---- one side

-- scaling overflows at place p of side c
abbrev pub stop_at : Corner → ℕ → BuildStop
stop_at c p = stops.Overflow (sites.Scale c.polygon c.side p)

-- the common multiple with the denominator of x overflows
pub x_den_fails : (m : ℕ) (c : Corner) (point : Point) (e : BuildStop) → e ≡ stop_at c 1 → ¬ InWidth (pos (common_multiple m point.x.den))
    → IsFirstStop PassesScale (common_tests m (numbered_sides c.polygon c.side (point ∷ []))) scale_stop e
x_den_fails m c point e is fails = first_stop_of_head PassesScale _ _ scale_stop e is fails

-- the common multiple with the denominator of y overflows
pub y_den_fails : (m : ℕ) (c : Corner) (point : Point) (with_x : ℕ) (e : BuildStop) → e ≡ stop_at c 2 → InWidth (pos (common_multiple m point.x.den)) → with_x ≡ common_multiple m point.x.den
    → ¬ InWidth (pos (common_multiple with_x point.y.den)) → IsFirstStop PassesScale (common_tests m (numbered_sides c.polygon c.side (point ∷ []))) scale_stop e
y_den_fails m c point with_x e is fits same fails =
    let first = common_fits c.polygon c.side 1 m point.x.den in
    let second = common_fits c.polygon c.side 2 (common_multiple m point.x.den) point.y.den in
    first_stop_of_rest PassesScale (first ∷ second ∷ []) (second ∷ []) scale_stop e
    (record { before = first ∷ []; whole = refl; passed = (fits, tt) })
    (first_stop_of_head PassesScale second [] scale_stop e is (λ w. fails (subst (λ n. InWidth (pos (common_multiple n point.y.den))) (sym same) w)))

-- ---- the parts

part_tests-append : (den : ℕ) (xs ys : List NumberedSide) → part_tests den (xs ++ ys) ≡ part_tests den xs ++ part_tests den ys
part_tests-append den [] ys = refl
part_tests-append den (s ∷ xs) ys =
    let kx = den / s.vector.x.den in
    let ky = den / s.vector.y.den in
    ap (λ ts. part_fits s.polygon s.side 3 kx s.vector.x.num.p ∷ part_fits s.polygon s.side 4 kx s.vector.x.num.q
    ∷ part_fits s.polygon s.side 5 ky s.vector.y.num.p ∷ part_fits s.polygon s.side 6 ky s.vector.y.num.q ∷ ts) (part_tests-append den xs ys)

-- the sides before the rest pass, and ys are the values of f at the first j items
pub record HasScaledUpTo {X Y : Type 0} (f : X → Y) (xs : List X) (j : ℕ) (ys : List Y) (den : ℕ) (all rest : List NumberedSide) : Type 0 where
  pub values : ys ++ map f (drop j xs) ≡ map f xs
  pub passed : PassesBefore PassesScale (part_tests den all) (part_tests den rest)

module _ {X Y : Type 0} (f : X → Y) (xs : List X) (den : ℕ) (all : List NumberedSide) where
  before_parts : (own rest left : List NumberedSide) → rest ≡ own ++ left → PassesBefore PassesScale (part_tests den all) (part_tests den rest)
      → PassesBefore PassesScale (part_tests den all) (part_tests den own ++ part_tests den left)
  before_parts own rest left next b = passes_before_same _ _ _ _ (ap (part_tests den) next ∙ part_tests-append den own left) b

  parts_more : (j : ℕ) (ys ys' : List Y) (own rest left : List NumberedSide) (x : X) (y : Y) → IsItem xs j x → rest ≡ own ++ left → HasScaledUpTo f xs j ys den all rest
      → y ≡ f x → ys' ≡ ys ++ y ∷ [] → AllByRecursion PassesScale (part_tests den own) → HasScaledUpTo f xs (j + 1) ys' den all left
  parts_more j ys ys' own rest left x y item next p is more a = record {
    values = ap (λ zs. zs ++ map f (drop (j + 1) xs)) more
        ∙ append_assoc ys (y ∷ []) (map f (drop (j + 1) xs))
        ∙ ap (λ z. ys ++ (z ∷ map f (drop (j + 1) xs))) is
        ∙ ap (λ zs. ys ++ map f zs) (sym (drop_item xs j x item))
        ∙ p.values;
    passed = passes_before_more _ _ (part_tests den own) _ (before_parts own rest left next p.passed) a;
  }

  parts_fail : (j : ℕ) (ys : List Y) (own rest left : List NumberedSide) (e : BuildStop) → rest ≡ own ++ left → HasScaledUpTo f xs j ys den all rest
      → IsFirstStop PassesScale (part_tests den own) scale_stop e → IsFirstStop PassesScale (part_tests den all) scale_stop e
  parts_fail j ys own rest left e next p a = first_stop_of_rest _ _ _ _ _ (before_parts own rest left next p.passed) (first_stop_of_prefix _ _ _ _ _ a)

-- for the sides of one polygon
abbrev pub HasScaledSides : ℕ → ℕ → List Point → ℕ → List PlaneVector → Type 0
HasScaledSides den i points j row = HasScaledUpTo (scaled_vector den) points j row den (numbered_sides i 0 points) (numbered_sides i j (drop j points))

-- one more side is scaled
pub row_scaled_more : (den i : ℕ) (points : List Point) (j : ℕ) (row row' : List PlaneVector) (point : Point) (vector : PlaneVector) (c : Corner) → c ≡ record { polygon = i; side = j } → IsItem points j point
    → HasScaledSides den i points j row → vector ≡ scaled_vector den point → row' ≡ row ++ vector ∷ [] → AllByRecursion PassesScale (part_tests den (numbered_sides c.polygon c.side (point ∷ [])))
    → HasScaledSides den i points (j + 1) row'
row_scaled_more den i points j row row' point vector c is item h value more a =
    parts_more (scaled_vector den) points den (numbered_sides i 0 points) j row row' (numbered_sides i j (point ∷ [])) _ _ point vector item (next_side i points j point item) h value more
    (subst (λ (e : Corner). AllByRecursion PassesScale (part_tests den (numbered_sides e.polygon e.side (point ∷ [])))) is a)

-- a part of the next side overflows
pub row_scaled_fails : (den i : ℕ) (points : List Point) (j : ℕ) (row : List PlaneVector) (point : Point) (e : BuildStop) (c : Corner) → c ≡ record { polygon = i; side = j } → IsItem points j point
    → HasScaledSides den i points j row → IsFirstStop PassesScale (part_tests den (numbered_sides c.polygon c.side (point ∷ []))) scale_stop e
    → IsFirstStop PassesScale (part_tests den (numbered_sides i 0 points)) scale_stop e
row_scaled_fails den i points j row point e c is item h a =
    parts_fail (scaled_vector den) points den (numbered_sides i 0 points) j row (numbered_sides i j (point ∷ [])) _ _ e (next_side i points j point item) h
    (subst (λ (k : Corner). IsFirstStop PassesScale (part_tests den (numbered_sides k.polygon k.side (point ∷ []))) scale_stop e) is a)

-- for all polygons
abbrev pub HasScaledPolygons : ℕ → List (List Point) → ℕ → List (List PlaneVector) → Type 0
HasScaledPolygons den polygons i rows = HasScaledUpTo (map (scaled_vector den)) polygons i rows den (all_numbered polygons) (numbered_from i (drop i polygons))

-- one more polygon is scaled
pub polygons_scaled_more : (den : ℕ) (polygons : List (List Point)) (i : ℕ) (rows rows' : List (List PlaneVector)) (points : List Point) (row : List PlaneVector) → IsItem polygons i points → HasScaledPolygons den polygons i rows
    → row ≡ map (scaled_vector den) points → rows' ≡ rows ++ row ∷ [] → AllByRecursion PassesScale (part_tests den (numbered_sides i 0 points)) → HasScaledPolygons den polygons (i + 1) rows'
polygons_scaled_more den polygons i rows rows' points row item =
    parts_more (map (scaled_vector den)) polygons den (all_numbered polygons) i rows rows' (numbered_sides i 0 points) _ _ points row item (next_polygon polygons i points item)

-- a part of the next polygon overflows
pub polygons_scaled_fail : (den : ℕ) (polygons : List (List Point)) (i : ℕ) (rows : List (List PlaneVector)) (points : List Point) (e : BuildStop) → IsItem polygons i points → HasScaledPolygons den polygons i rows
    → IsFirstStop PassesScale (part_tests den (numbered_sides i 0 points)) scale_stop e → IsFirstStop PassesScale (part_tests den (all_numbered polygons)) scale_stop e
polygons_scaled_fail den polygons i rows points e item =
    parts_fail (map (scaled_vector den)) polygons den (all_numbered polygons) i rows (numbered_sides i 0 points) _ _ e (next_polygon polygons i points item)

-- ---- one coordinate

-- ---- a factor and a part after they were stored in 128 bits

-- a part after it was stored
pub part_passed : (w z : ℤ) → InWidth z → w ≡ z → to_z w128 (of_z w128 w) ≡ z
part_passed w z within is = through_bits w (subst InWidth (sym is) within) ∙ is

-- a denominator after it was stored
pub den_passed : (n : ℤ) (den : ℕ) → den < 2 ^ 127 → n ≡ pos den → to_z w128 (of_z w128 n) ≡ pos den
den_passed n den below is = part_passed n (pos den) (omega (arith, ints), omega (arith, ints)) is

-- the factor after it was stored
pub factor_passed : (den m : ℕ) (f : ℤ) → den < 2 ^ 127 → f ≡ pos (den / m) → to_z w128 (of_z w128 f) ≡ pos (den / m)
factor_passed den m f below is =
    let small = div-le_self den m in
    den_passed f (den / m) (omega arith) is

along : (f w z : ℤ) (k : ℕ) → f ≡ pos k → w ≡ z → f *ℤ w ≡ pos k *ℤ z
along f w z k same_f same_w = ap (λ n. n *ℤ w) same_f ∙ ap (λ n. pos k *ℤ n) same_w

-- the part without √d overflows
pub p_fails : (i j place k : ℕ) (f w z y : ℤ) (e : BuildStop) → e ≡ stops.Overflow (sites.Scale i j place) → f ≡ pos k → w ≡ z → ¬ InWidth (f *ℤ w)
    → IsFirstStop PassesScale (part_fits i j place k z ∷ part_fits i j (place + 1) k y ∷ []) scale_stop e
p_fails i j place k f w z y e is same_f same_w fails =
    first_stop_of_head PassesScale _ _ scale_stop e is (λ fits. fails (subst InWidth (sym (along f w z k same_f same_w)) fits))

-- the product doesn't overflow
pub part_is_within : (f w z : ℤ) (k : ℕ) → f ≡ pos k → w ≡ z → InWidth (f *ℤ w) → InWidth (pos k *ℤ z)
part_is_within f w z k same_f same_w fits = subst InWidth (along f w z k same_f same_w) fits

-- the part of √d overflows
pub q_fails : (i j place k : ℕ) (f w z y : ℤ) (e : BuildStop) → e ≡ stops.Overflow (sites.Scale i j (place + 1)) → InWidth (pos k *ℤ z) → f ≡ pos k → w ≡ y → ¬ InWidth (f *ℤ w)
    → IsFirstStop PassesScale (part_fits i j place k z ∷ part_fits i j (place + 1) k y ∷ []) scale_stop e
q_fails i j place k f w z y e is fits same_f same_w fails =
    let first = part_fits i j place k z in
    let second = part_fits i j (place + 1) k y in
    first_stop_of_rest PassesScale (first ∷ second ∷ []) (second ∷ []) scale_stop e
    (record { before = first ∷ []; whole = refl; passed = (fits, tt) })
    (first_stop_of_head PassesScale second [] scale_stop e is (λ w. fails (subst InWidth (sym (along f _ y k same_f same_w)) w)))

-- ---- both coordinates of a side, and both passes over all sides

-- the tests of the parts of x
abbrev x_parts : ℕ → Corner → Point → List ScaleTest
x_parts den c point = part_fits c.polygon c.side 3 (den / point.x.den) point.x.num.p ∷ part_fits c.polygon c.side 4 (den / point.x.den) point.x.num.q ∷ []

-- the tests of the parts of y
abbrev y_parts : ℕ → Corner → Point → List ScaleTest
y_parts den c point = part_fits c.polygon c.side 5 (den / point.y.den) point.y.num.p ∷ part_fits c.polygon c.side 6 (den / point.y.den) point.y.num.q ∷ []

after : (xs ys : List ScaleTest) (e : BuildStop) → AllByRecursion PassesScale xs → IsFirstStop PassesScale ys scale_stop e → IsFirstStop PassesScale (xs ++ ys) scale_stop e
after xs ys e a f = first_stop_of_rest PassesScale (xs ++ ys) ys scale_stop e (record { before = xs; whole = refl; passed = a }) f

-- a part of y overflows, after those of x passed
pub y_parts_fail : (den : ℕ) (c : Corner) (point : Point) (e : BuildStop) → AllByRecursion PassesScale (x_parts den c point)
    → IsFirstStop PassesScale (y_parts den c point) scale_stop e → IsFirstStop PassesScale (part_tests den (numbered_sides c.polygon c.side (point ∷ []))) scale_stop e
y_parts_fail den c point e a f = after (x_parts den c point) (y_parts den c point) e a f

-- a part overflows, after all denominators passed
pub parts_of_shape_fail : (polygons : List (List Point)) (den : ℕ) (e : BuildStop) → den ≡ common_den polygons → AllByRecursion PassesScale (common_tests 1 (all_numbered polygons))
    → IsFirstStop PassesScale (part_tests den (all_numbered polygons)) scale_stop e → IsFirstStop PassesScale (scale_tests polygons) scale_stop e
parts_of_shape_fail polygons den e is a f =
    after (common_tests 1 (all_numbered polygons)) (part_tests (common_den polygons) (all_numbered polygons)) e a
    (subst (λ n. IsFirstStop PassesScale (part_tests n (all_numbered polygons)) scale_stop e) is f)
