-- The copies of a table have as many times its area, and are polygons where images of polygons are.
use Rattle.std.proofs.Common.{◌≡◌, ◌≢◌, ℕ, suc, ℤ, pos, ◌+◌, ◌*◌, ◌*ℤ◌, ◌+ℤ◌, ◌<◌, Bool, true, false, if◌then◌else◌, reverse, List, [], ◌∷◌, length, map, refl, sym, ap, ◌∙◌, subst, arith}
use Rattle.std.proofs.lemmas.List.{append-nil, map-append}
use Rattle.std.specs.List.{AllByRecursion}
use Rattle.fs_lists.proofs.All.{All-of_map, All-map, All-weaker}
use Rattle.fs_ring.proofs.Integers.{integer_ring}
use Rattle.fs_ring.proofs.Signs as signs
use Rattle.fs_ring.proofs.Solver.{identity, derived, numeral, ◌⊗◌, ◌⊕◌, ◌≐◌, ◌from◌}
use Rattle.fs_quadratic.specs.Radicand.{IsNoSquare}
use Rattle.fs_quadratic.specs.Ring.{Quadratic, IsPositive, add, mul, total, zero as nil}
use Rattle.fs_quadratic.proofs.Laws.{quadratic_eq, quadratic_ring, quadratic_order}
use Rattle.fs_quadratic.proofs.SquareRoot.{radicand_no_square}
use Rattle.fs_quadratic.proofs.Totals.{total-append}
use Rattle.fs_fraction.specs.Fraction.{scale}
use Rattle.fs_fraction.proofs.Values.{whole, whole-positive}
use Rattle.fs_plane.specs.Vector.{PlaneVector, vector_zero, norm}
use Rattle.fs_gluing.specs.declared.shapes.Point.{Point}
use Rattle.fs_gluing.specs.declared.shapes.Shape.{Shape}
use Rattle.fs_gluing.specs.Area.{twice_triangle, triangles_of, all_triangles}
use Rattle.fs_gluing.specs.Scaling.{all_numbered, common_den, scaled_vector, IsMultipleOf}
use Rattle.fs_gluing.specs.Shape.{polygons_of}
use Rattle.fs_gluing.specs.Surface.{IsPolygon}
use Rattle.fs_gluing.proofs.Scale.CommonDenominator.{numbered_all, common_den_least}
use Rattle.fs_unfold.specs.declared.matrices.Matrix.{Matrix}
use Rattle.fs_unfold.specs.Copies.{is_turned, opposite, copy}
use Rattle.fs_unfold.specs.Matrices.{image}
use Rattle.fs_unfold.specs.Products.{mirrors, AreProducts}
use Rattle.fs_unfold.specs.Tables.{IsTable}
use Rattle.fs_unfold.specs.Unfolding.{alone, HasAreas, twice_area_of}
use Rattle.fs_unfold.proofs.Frames.{image_canonical}
use Rattle.fs_unfold.proofs.ListedFrames.{IsFramed, listed_framed}
use Rattle.fs_unfold.proofs.Ratios.{cancel, product_not_zero, whole-product}
use Rattle.fs_unfold.proofs.TableTests.{HasDens, common_positive, den_of, scaled_table, table_polygon, table_side}
use Rattle.fs_unfold.proofs.CopyAreas.{image_area}
use Rattle.fs_unfold.proofs.CopyImages.{copy_images}
use Rattle.fs_unfold.proofs.ReversedLists.{All-of_members, All-reverse}
use Rattle.fs_unfold.proofs.Images.{AreImages, copied}

-- ---- multiples

scale_sum : (m n : ℕ) (x : Quadratic) → scale (m + n) x ≡ add (scale m x) (scale n x)
scale_sum m n x = quadratic_eq (by x.p) (by x.q)
  where
    by : (z : ℤ) → pos (m + n) *ℤ z ≡ pos m *ℤ z +ℤ pos n *ℤ z
    by z = identity integer_ring (pos m ∷ pos n ∷ z ∷ []) (λ m n z. (m ⊕ n) ⊗ z ≐ (m ⊗ z) ⊕ (n ⊗ z)) refl

scale_add : (m : ℕ) (x y : Quadratic) → scale m (add x y) ≡ add (scale m x) (scale m y)
scale_add m x y = quadratic_eq (by x.p y.p) (by x.q y.q)
  where
    by : (z w : ℤ) → pos m *ℤ (z +ℤ w) ≡ pos m *ℤ z +ℤ pos m *ℤ w
    by z w = identity integer_ring (pos m ∷ z ∷ w ∷ []) (λ m z w. m ⊗ (z ⊕ w) ≐ (m ⊗ z) ⊕ (m ⊗ w)) refl

scale_nothing : (m : ℕ) (x : Quadratic) → scale m nil ≡ scale 0 x
scale_nothing m x = quadratic_eq (by x.p) (by x.q)
  where
    by : (z : ℤ) → pos m *ℤ pos 0 ≡ pos 0 *ℤ z
    by z = identity integer_ring (pos m ∷ z ∷ []) (λ m z. m ⊗ numeral 0 ≐ numeral 0 ⊗ z) refl

-- ---- the common denominator of polygons

-- it is above 0 where the denominators are
common_den_positive : (polygons : List (List Point)) → AllByRecursion (AllByRecursion (λ p. (0 < p.x.den) × (0 < p.y.den))) polygons → 0 < common_den polygons
common_den_positive polygons all = common_positive 1 (all_numbered polygons) (let l : 0 < 1 = omega arith in l) (numbered_all HasDens 0 polygons all)

-- ---- the copies

module _ (d : ℕ) (table : List Point) (is : IsTable d table) where
  -- the table's area, twice, over its own denominator
  abbrev table_area : Quadratic
  table_area = total (map (twice_triangle d) (triangles_of 0 (scaled_table table)))

  not_zero : {k : Quadratic} → IsPositive d k → k ≢ nil
  not_zero up = signs.positive-ne-zero (quadratic_order (radicand_no_square is.radicand)) up

  table_den_positive : 0 < den_of table
  table_den_positive = common_den_positive (table ∷ []) (All-weaker table (λ p l. (l.0.positive, l.1.positive)) is.lowest, tt)

  -- the denominators of a copy are above 0
  pub copy_dens : (m : Matrix) → IsFramed d m → AllByRecursion HasDens (copy d table m)
  copy_dens m h = by (is_turned d m)
    where
      image_dens : AllByRecursion (λ p. HasDens (image d m p)) table
      image_dens = All-of_members (λ p. HasDens (image d m p)) table (λ p i.
          let c = image_canonical (radicand_no_square is.radicand) m h.f h.k h.turned h.frame (den_of table) p (scaled_vector (den_of table) p) (table_side d table is p i) in
          (c.0.positive, c.1.positive))

      by : (t : Bool) → AllByRecursion HasDens (if t then reverse (map (λ p. opposite (image d m p)) table) else map (image d m) table)
      by false = All-map (image d m) HasDens table image_dens
      by true = All-reverse HasDens (map (λ p. opposite (image d m p)) table) (All-map (λ p. opposite (image d m p)) HasDens table image_dens)

  module _ (D : ℕ) (up : 0 < D) where
    abbrev scaled_copy : Matrix → List PlaneVector
    scaled_copy m = map (scaled_vector D) (copy d table m)

    squares : (k T X A E : Quadratic) → k ≢ nil → mul d (mul d (mul d k T) (mul d k T)) X ≡ mul d (mul d (mul d E E) (mul d k k)) A → mul d (mul d T T) X ≡ mul d (mul d E E) A
    squares k T X A E some e =
        cancel (radicand_no_square is.radicand) (mul d k k) (mul d (mul d T T) X) (mul d (mul d E E) A) (product_not_zero (radicand_no_square is.radicand) k k some some)
        (derived (quadratic_ring d) (k ∷ T ∷ X ∷ A ∷ E ∷ [])
        (λ k T X A E. (k ⊗ k) ⊗ ((T ⊗ T) ⊗ X) ≐ (k ⊗ k) ⊗ ((E ⊗ E) ⊗ A) from (numeral 1, ((k ⊗ T) ⊗ (k ⊗ T)) ⊗ X ≐ ((E ⊗ E) ⊗ (k ⊗ k)) ⊗ A) ∷ []) refl (e, tt))

    -- the area of one copy
    copy_area : (i : ℕ) (m : Matrix) → IsFramed d m → AllByRecursion (IsMultipleOf D) (copy d table m)
        → scale (den_of table * den_of table) (total (map (twice_triangle d) (triangles_of i (scaled_copy m)))) ≡ scale (D * D) table_area
    copy_area i m h multiples =
        let no_square = radicand_no_square is.radicand in
        let c = copy_images d table is m h.f h.k h.turned h.frame D up multiples in
        let polygon = table_polygon d table is.passes in
        let T = whole (den_of table) in
        let some : mul d h.k T ≢ nil = product_not_zero no_square h.k T (not_zero h.frame.positive) (not_zero (whole-positive d (den_of table) table_den_positive)) in
        let X = total (map (twice_triangle d) (triangles_of i (scaled_copy m))) in
        let e : mul d (mul d (mul d h.k T) (mul d h.k T)) X ≡ mul d (mul d (mul d (whole D) (whole D)) (mul d h.k h.k)) table_area =
        ap (λ vs. mul d (mul d (mul d h.k T) (mul d h.k T)) (total (map (twice_triangle d) (triangles_of i vs)))) c.1
        ∙ image_area no_square h.f h.turned (mul d h.k T) (whole D) some i 0 (scaled_table table) c.0 c.2 polygon.closed
        ∙ ap (λ n. mul d (mul d (mul d (whole D) (whole D)) n) table_area) h.frame.length in
        sym (whole-product d (den_of table) (den_of table) X) ∙ squares h.k T X table_area (whole D) (not_zero h.frame.positive) e ∙ whole-product d D D table_area

    -- the areas of some copies
    copies_area : (i : ℕ) (ms : List Matrix) → AllByRecursion (IsFramed d) ms → AllByRecursion (λ m. AllByRecursion (IsMultipleOf D) (copy d table m)) ms
        → scale (den_of table * den_of table) (total (map (twice_triangle d) (all_triangles i (map (map (scaled_vector D)) (map (copy d table) ms))))) ≡ scale (length ms * (D * D)) table_area
    copies_area i [] framed multiples =
        let none : 0 ≡ 0 * (D * D) = omega arith in
        scale_nothing (den_of table * den_of table) table_area ∙ ap (λ n. scale n table_area) none
    copies_area i (m ∷ ms) framed multiples =
        let B = den_of table * den_of table in
        let first = triangles_of i (scaled_copy m) in
        let rest = all_triangles (i + 1) (map (map (scaled_vector D)) (map (copy d table) ms)) in
        let more : D * D + length ms * (D * D) ≡ suc (length ms) * (D * D) = omega arith in
        ap (scale B) (ap total (map-append (twice_triangle d) first rest) ∙ total-append (map (twice_triangle d) first) (map (twice_triangle d) rest))
        ∙ scale_add B (total (map (twice_triangle d) first)) (total (map (twice_triangle d) rest))
        ∙ (λ t. add (copy_area i m framed.0 multiples.0 t) (copies_area (i + 1) ms framed.1 multiples.1 t))
        ∙ sym (scale_sum (D * D) (length ms * (D * D)) table_area)
        ∙ ap (λ n. scale n table_area) more

  -- ---- all copies

  module _ (list : List Matrix) (are : AreProducts d (mirrors d table) list) where
    abbrev Ps : List (List Point)
    Ps = map (copy d table) list

    framed_list : AllByRecursion (IsFramed d) list
    framed_list = All-of_members (IsFramed d) list (λ m i. listed_framed d table is list (length list) 0 are m i)

    list_positive : 0 < common_den Ps
    list_positive = common_den_positive Ps (All-map (copy d table) (AllByRecursion HasDens) list (All-weaker list copy_dens framed_list))

    list_multiples : AllByRecursion (λ m. AllByRecursion (IsMultipleOf (common_den Ps)) (copy d table m)) list
    list_multiples = All-of_map (copy d table) (AllByRecursion (IsMultipleOf (common_den Ps))) list (common_den_least Ps).multiple

    table_whole : twice_area_of d (polygons_of (alone table)) ≡ table_area
    table_whole = ap (λ ts. total (map (twice_triangle d) ts)) (append-nil (triangles_of 0 (scaled_table table)))

    areas_here : scale (den_of table * den_of table) (twice_area_of d (map (map (scaled_vector (common_den Ps))) Ps)) ≡ scale (length list * (common_den Ps * common_den Ps)) (twice_area_of d (polygons_of (alone table)))
    areas_here =
        copies_area (common_den Ps) list_positive 0 list framed_list list_multiples
        ∙ ap (scale (length list * (common_den Ps * common_den Ps))) (sym table_whole)

-- the copies have as many times the area of the table
pub unfolding_areas : (d : ℕ) (table : List Point) → IsTable d table → (list : List Matrix) → AreProducts d (mirrors d table) list → (shape : Shape) → shape.polygons ≡ map (copy d table) list
    → HasAreas d table (length list) shape
unfolding_areas d table is list are shape copies =
    subst (λ ps. scale (den_of table * den_of table) (twice_area_of d (map (map (scaled_vector (common_den ps))) ps)) ≡ scale (length list * (common_den ps * common_den ps)) (twice_area_of d (polygons_of (alone table))))
    (sym copies) (areas_here d table is list are)

-- ---- polygons

-- the copies are polygons where the images of a polygon's sides make one
pub copies_are_polygons : (d : ℕ)
    → ((f : PlaneVector) (turned : Bool) (α β : Quadratic) → f ≢ vector_zero → IsPositive d α → IsPositive d β → (vs qs : List PlaneVector) → AreImages d f turned α β vs qs → IsPolygon false d vs
    → IsPolygon false d (copied turned qs))
    → (table : List Point) → IsTable d table → (list : List Matrix) → AreProducts d (mirrors d table) list → (shape : Shape) → shape.polygons ≡ map (copy d table) list
    → AllByRecursion (IsPolygon false d) (polygons_of shape)
copies_are_polygons d image_polygon table is list are shape copies =
    subst (λ ps. AllByRecursion (IsPolygon false d) (map (map (scaled_vector (common_den ps))) ps)) (sym copies)
    (All-map (map (scaled_vector D)) (IsPolygon false d) (map (copy d table) list) (All-map (copy d table) (λ ps. IsPolygon false d (map (scaled_vector D) ps)) list
    (each list (framed_list d table is list are) (list_multiples d table is list are))))
  where
    D : ℕ
    D = common_den (map (copy d table) list)

    no_square : IsNoSquare d
    no_square = radicand_no_square is.radicand

    up : 0 < D
    up = list_positive d table is list are

    frame_nonzero : (f : PlaneVector) (k : Quadratic) → IsPositive d k → norm d f ≡ mul d k k → f ≢ vector_zero
    frame_nonzero f k kp e z =
        signs.positive-ne-zero (quadratic_order no_square) ((quadratic_order no_square).mul_positive kp kp)
        (sym e ∙ ap (norm d) z ∙ identity (quadratic_ring d) [] ((numeral 0 ⊗ numeral 0) ⊕ (numeral 0 ⊗ numeral 0) ≐ numeral 0) refl)

    one : (m : Matrix) → IsFramed d m → AllByRecursion (IsMultipleOf D) (copy d table m) → IsPolygon false d (map (scaled_vector D) (copy d table m))
    one m h multiples =
        let c = copy_images d table is m h.f h.k h.turned h.frame D up multiples in
        let T_up = whole-positive d (den_of table) (table_den_positive d table is) in
        subst (IsPolygon false d) (sym c.1)
        (image_polygon h.f h.turned (mul d h.k (whole (den_of table))) (whole D) (frame_nonzero h.f h.k h.frame.positive h.frame.length)
        ((quadratic_order no_square).mul_positive h.frame.positive T_up) (whole-positive d D up) (scaled_table table) c.0 c.2 (table_polygon d table is.passes))

    each : (ms : List Matrix) → AllByRecursion (IsFramed d) ms → AllByRecursion (λ m. AllByRecursion (IsMultipleOf D) (copy d table m)) ms → AllByRecursion (λ m. IsPolygon false d (map (scaled_vector D) (copy d table m))) ms
    each [] framed multiples = tt
    each (m ∷ ms) framed multiples = (one m framed.0 multiples.0, each ms framed.1 multiples.1)
