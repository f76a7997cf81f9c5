-- The glued polygons: their sides, and that they are a surface.
use Rattle.std.proofs.Common.{◌≡◌, ◌≢◌, inl, inr, ℕ, Bool, ◌+◌, ◌<◌, ◌≤◌, ℤ, pos, ◌<ℤ◌, Option, Some, None, List, [], ◌∷◌, ◌++◌, length, sum_by, sym, ap, ◌∙◌, refl, subst, map, unwrap_or, arith, suc, zero}
use Rattle.std.proofs.lemmas.List.Sums.{sum_by-cons}
use Rattle.std.specs.Option.{IsSome, option_map, option_and_then}
use Rattle.std.specs.List.{AllByRecursion, slice_get}
use Rattle.fs_lists.proofs.All.{All-suffix, All-prefix, All-of_map}
use Rattle.fs_lists.proofs.Items.{value_of, comes_from}
use Rattle.fs_quadratic.specs.Radicand.{IsRadicand}
use Rattle.fs_plane.specs.declared.corners.Corner.{Corner}
use Rattle.fs_plane.specs.Vector.{vector_neg, IsAllowedCorner, PlaneVector}
use Rattle.fs_gluing.specs.Limits.{most_polygons, most_sides}
use Rattle.fs_gluing.specs.declared.shapes.Glue.{Glue}
use Rattle.fs_gluing.specs.declared.surfaces.Side.{Side}
use Rattle.fs_gluing.specs.Convex.{CornerSides, corners_of}
use Rattle.fs_gluing.specs.Polygons.{HasSide, at_side, all_sides, sides_from}
use Rattle.fs_gluing.specs.Reached.{IsReached}
use Rattle.fs_gluing.specs.Shape.{AreGlued}
use Rattle.fs_gluing.specs.Surface.{side_vectors, IsPolygon, AreNeighbours, IsGlued, IsSurface}
use Rattle.fs_gluing.specs.FirstFault.{polygon_closes, turning_number_one, PassesIn, polygon_tests, position_tests, corner_tests, of_polygon, Passes, PassesLine, line_tests, AreOpposite, Joins, tests_from, Test}
use Rattle.fs_gluing.specs.Gluing.{ArePartners, IsPairOf, sides_between, glued_polygon, glued_polygons}
use Rattle.fs_gluing.proofs.Gluing.GlueLines.{lines_hold}
use Rattle.fs_gluing.proofs.Gluing.Partners.{partner_back, pair_other, pair_opposite}
use Rattle.fs_gluing.proofs.Gluing.GluedSides.{side_of}

-- ---- the glued polygons have the same vectors

row_vectors : (p : Corner → Option Corner) (i j : ℕ) (polygon : List PlaneVector) → side_vectors (glued_polygon p i j polygon) ≡ polygon
row_vectors p i j [] = refl
row_vectors p i j (v ∷ polygon) = ap (λ vs. v ∷ vs) (row_vectors p i (j + 1) polygon)

-- the glued polygons have the vectors of the polygons
pub rows_vectors : (p : Corner → Option Corner) (i : ℕ) (polygons : List (List PlaneVector)) → map side_vectors (glued_polygons p i polygons) ≡ polygons
rows_vectors p i [] = refl
rows_vectors p i (polygon ∷ polygons) =
    ap (λ row. row ∷ map side_vectors (glued_polygons p (i + 1) polygons)) (row_vectors p i 0 polygon)
    ∙ ap (λ rows. polygon ∷ rows) (rows_vectors p (i + 1) polygons)

row_length : (p : Corner → Option Corner) (i j : ℕ) (polygon : List PlaneVector) → length (glued_polygon p i j polygon) ≡ length polygon
row_length p i j [] = refl
row_length p i j (v ∷ polygon) = ap (λ n. suc n) (row_length p i (j + 1) polygon)

-- there are as many glued polygons as polygons
pub rows_length : (p : Corner → Option Corner) (i : ℕ) (polygons : List (List PlaneVector)) → length (glued_polygons p i polygons) ≡ length polygons
rows_length p i [] = refl
rows_length p i (polygon ∷ polygons) = ap (λ n. suc n) (rows_length p (i + 1) polygons)

rows_sum : (p : Corner → Option Corner) (i : ℕ) (polygons : List (List PlaneVector)) → sum_by length (glued_polygons p i polygons) ≡ sum_by length polygons
rows_sum p i [] = refl
rows_sum p i (polygon ∷ polygons) =
    sum_by-cons length (glued_polygon p i 0 polygon) (glued_polygons p (i + 1) polygons)
    ∙ ap (λ n. n + sum_by length (glued_polygons p (i + 1) polygons)) (row_length p i 0 polygon)
    ∙ ap (λ n. length polygon + n) (rows_sum p (i + 1) polygons)
    ∙ sym (sum_by-cons length polygon polygons)

-- ---- the polygons are closed and convex

corners_convex : (straight : Bool) (d : ℕ) (polygon : List PlaneVector) (j : ℕ) (corners : List CornerSides) → AllByRecursion (PassesIn straight d polygon) (corner_tests j corners)
    → AllByRecursion (λ corner. IsAllowedCorner straight d corner.before corner.after) corners
corners_convex straight d polygon j [] a = tt
corners_convex straight d polygon j (corner ∷ corners) a = (a.1.1.1.1.1.1.0, corners_convex straight d polygon (j + 1) corners a.1.1.1.1.1.1.1)

is_polygon : (straight : Bool) (d : ℕ) (polygon : List PlaneVector) → AllByRecursion (PassesIn straight d polygon) (polygon_tests polygon) → IsPolygon straight d polygon
is_polygon straight d polygon a =
    let closing = All-suffix (PassesIn straight d polygon) (position_tests (length polygon)) (polygon_closes ∷ (corner_tests 0 (corners_of polygon) ++ turning_number_one ∷ [])) a.1 in
    record {
      three = a.0;
      closed = closing.0;
      convex = corners_convex straight d polygon 0 (corners_of polygon) (All-prefix (PassesIn straight d polygon) (corner_tests 0 (corners_of polygon)) (turning_number_one ∷ []) closing.1);
      turning_number = (All-suffix (PassesIn straight d polygon) (corner_tests 0 (corners_of polygon)) (turning_number_one ∷ []) closing.1).0;
    }

rows_each : (straight : Bool) (d : ℕ) (all : List (List PlaneVector)) (glues : List Glue) (p : Corner → Option Corner) (i : ℕ) (polygons : List (List PlaneVector)) → AllByRecursion (Passes straight d all glues) (tests_from i polygons)
    → AllByRecursion (λ row. IsPolygon straight d (side_vectors row)) (glued_polygons p i polygons)
rows_each straight d all glues p i [] a = tt
rows_each straight d all glues p i (polygon ∷ polygons) a =
    let here : List Test = map (of_polygon i polygon) (polygon_tests polygon) in
    let later : List Test = tests_from (i + 1) polygons in (
      subst (IsPolygon straight d) (sym (row_vectors p i 0 polygon))
          (is_polygon straight d polygon (All-of_map (of_polygon i polygon) (Passes straight d all glues) (polygon_tests polygon) (All-prefix (Passes straight d all glues) here later a))),
      rows_each straight d all glues p (i + 1) polygons (All-suffix (Passes straight d all glues) here later a),
    )

-- ---- the sides of the glued polygons

slice_get_row : (p : Corner → Option Corner) (i j : ℕ) (polygon : List PlaneVector) (k : ℕ) → slice_get (glued_polygon p i j polygon) k ≡ option_map (side_of p (record { polygon = i; side = j + k })) (slice_get polygon k)
slice_get_row p i j [] k = refl
slice_get_row p i j (v ∷ polygon) zero =
    let same : j ≡ j + 0 = omega arith in
    ap (λ n. Some (side_of p (record { polygon = i; side = n }) v)) same
slice_get_row p i j (v ∷ polygon) (suc k) =
    let same : j + 1 + k ≡ j + suc k = omega arith in
    slice_get_row p i (j + 1) polygon k ∙ ap (λ n. option_map (side_of p (record { polygon = i; side = n })) (slice_get polygon k)) same

slice_get_rows : (p : Corner → Option Corner) (i : ℕ) (polygons : List (List PlaneVector)) (k : ℕ) → slice_get (glued_polygons p i polygons) k ≡ option_map (glued_polygon p (i + k) 0) (slice_get polygons k)
slice_get_rows p i [] k = refl
slice_get_rows p i (polygon ∷ polygons) zero =
    let same : i ≡ i + 0 = omega arith in
    ap (λ n. Some (glued_polygon p n 0 polygon)) same
slice_get_rows p i (polygon ∷ polygons) (suc k) =
    let same : i + 1 + k ≡ i + suc k = omega arith in
    slice_get_rows p (i + 1) polygons k ∙ ap (λ n. option_map (glued_polygon p n 0) (slice_get polygons k)) same

side_in_row : (p : Corner → Option Corner) (c : Corner) (o : Option (List PlaneVector)) → option_and_then (λ row. slice_get row c.side) (option_map (glued_polygon p (0 + c.polygon) 0) o)
    ≡ option_map (side_of p c) (option_and_then (λ polygon. slice_get polygon c.side) o)
side_in_row p c None = refl
side_in_row p c (Some polygon) =
    let one : 0 + c.polygon ≡ c.polygon = omega arith in
    let two : 0 + c.side ≡ c.side = omega arith in
    slice_get_row p (0 + c.polygon) 0 polygon c.side
    ∙ ap (λ n. option_map (side_of p (record { polygon = n; side = 0 + c.side })) (slice_get polygon c.side)) one
    ∙ ap (λ n. option_map (side_of p (record { polygon = c.polygon; side = n })) (slice_get polygon c.side)) two

at_side_rows : (p : Corner → Option Corner) (polygons : List (List PlaneVector)) (c : Corner) → at_side (glued_polygons p 0 polygons) c ≡ option_map (side_of p c) (at_side polygons c)
at_side_rows p polygons c = ap (option_and_then (λ row. slice_get row c.side)) (slice_get_rows p 0 polygons c.polygon) ∙ side_in_row p c (slice_get polygons c.polygon)

-- ---- what holds of all sides holds of one that exists

row_holds : (P : Corner → Type 0) (i j : ℕ) (polygon : List PlaneVector) (k : ℕ) (a : PlaneVector) → AllByRecursion P (sides_between i j (length polygon)) → slice_get polygon k ≡ Some a → P (record { polygon = i; side = j + k })
row_holds P i j [] k a h e = cc
row_holds P i j (x ∷ polygon) zero a h e =
    let same : j ≡ j + 0 = omega arith in
    subst (λ n. P (record { polygon = i; side = n })) same h.0
row_holds P i j (x ∷ polygon) (suc k) a h e =
    let same : j + 1 + k ≡ j + suc k = omega arith in
    subst (λ n. P (record { polygon = i; side = n })) same (row_holds P i (j + 1) polygon k a h.1 e)

-- what holds of all sides of the polygons from i on holds of side j of polygon i + k
pub rows_hold : (P : Corner → Type 0) (i : ℕ) (polygons : List (List PlaneVector)) (k j : ℕ) (a : PlaneVector) → AllByRecursion P (sides_from i polygons)
    → option_and_then (λ polygon. slice_get polygon j) (slice_get polygons k) ≡ Some a → P (record { polygon = i + k; side = j })
rows_hold P i [] k j a h e = cc
rows_hold P i (polygon ∷ polygons) zero j a h e =
    let one : i ≡ i + 0 = omega arith in
    let two : 0 + j ≡ j = omega arith in
    subst (λ n. P (record { polygon = n; side = j })) one (subst (λ n. P (record { polygon = i; side = n })) two
    (row_holds P i 0 polygon j a (All-prefix P (sides_between i 0 (length polygon)) (sides_from (i + 1) polygons) h) e))
rows_hold P i (polygon ∷ polygons) (suc k) j a h e =
    let same : i + 1 + k ≡ i + suc k = omega arith in
    subst (λ n. P (record { polygon = n; side = j })) same (rows_hold P (i + 1) polygons k j a (All-suffix P (sides_between i 0 (length polygon)) (sides_from (i + 1) polygons) h) e)

has_partner : (p : Corner → Option Corner) (polygons : List (List PlaneVector)) (c : Corner) (a : PlaneVector) → AllByRecursion (λ c. IsSome (p c)) (all_sides polygons) → at_side polygons c ≡ Some a → IsSome (p c)
has_partner p polygons c a h e =
    let same : 0 + c.polygon ≡ c.polygon = omega arith in
    subst (λ n. IsSome (p (record { polygon = n; side = c.side }))) same (rows_hold (λ c. IsSome (p c)) 0 polygons c.polygon c.side a h e)

-- the polygons and the lines pass their tests, and p gives every side its partner
pub record IsPaired (straight : Bool) (d : ℕ) (polygons : List (List PlaneVector)) (glues : List Glue) (p : Corner → Option Corner) : Type 0 where
  pub each : AllByRecursion (Passes straight d polygons glues) (tests_from 0 polygons)
  pub lines : AllByRecursion (PassesLine polygons) (line_tests [] glues)
  pub partners : ArePartners glues p
  pub sides : AllByRecursion (λ c. IsSome (p c)) (all_sides polygons)

-- where the lines are read from an equal list
pub paired_by : (straight : Bool) (d : ℕ) (polygons : List (List PlaneVector)) (read glues : List Glue) (p : Corner → Option Corner) → read ≡ glues → ((gs : List Glue) → AllByRecursion (Passes straight d polygons gs) (tests_from 0 polygons))
    → AllByRecursion (PassesLine polygons) (line_tests [] read) → ArePartners read p → AllByRecursion (λ c. IsSome (p c)) (all_sides polygons) → IsPaired straight d polygons glues p
paired_by straight d polygons read glues p same each lines partners sides = record {
  each = each glues;
  lines = subst (λ (gs : List Glue). AllByRecursion (PassesLine polygons) (line_tests [] gs)) same lines;
  partners = subst (λ (gs : List Glue). ArePartners gs p) same partners;
  sides = sides;
}

some_opposite : (v : PlaneVector) (o : Option PlaneVector) → AreOpposite (Some v) o → o ≡ Some (vector_neg v)
some_opposite v None h = absurd h
some_opposite v (Some w) h = ap (λ x. Some x) h

module _ (straight : Bool) (d : ℕ) (polygons : List (List PlaneVector)) (glues : List Glue) (p : Corner → Option Corner) (h : IsPaired straight d polygons glues p) where
  -- the glued polygons
  abbrev rows : List (List Side)
  rows = glued_polygons p 0 polygons

  lines_present : AllByRecursion (λ g. HasSide polygons g.one × HasSide polygons g.two) glues
  lines_present = lines_hold polygons (λ g. HasSide polygons g.one × HasSide polygons g.two) (λ earlier g present single opposite. present) [] glues h.lines

  lines_differ : AllByRecursion (λ g. g.one ≢ g.two) glues
  lines_differ = lines_hold polygons (λ g. g.one ≢ g.two) (λ earlier g present single opposite. single.0) [] glues h.lines

  lines_opposite : AllByRecursion (λ g. AreOpposite (at_side polygons g.one) (at_side polygons g.two)) glues
  lines_opposite = lines_hold polygons (λ g. AreOpposite (at_side polygons g.one) (at_side polygons g.two)) (λ earlier g present single opposite. opposite) [] glues h.lines

  -- the partner's vector exists and is the opposite one
  opposite_vector : (c e : Corner) (v : PlaneVector) → at_side polygons c ≡ Some v → p c ≡ Some e → at_side polygons e ≡ Some (vector_neg v)
  opposite_vector c e v there is =
      some_opposite v _ (subst (λ o. AreOpposite o (at_side polygons e)) there (pair_opposite (λ k. at_side polygons k) glues c e lines_opposite (h.partners.only c e is)))

  side_is_glued : (c e : Corner) (v : PlaneVector) → at_side polygons c ≡ Some v → p c ≡ Some e → IsGlued rows c (side_of p c v)
  side_is_glued c e v there is =
      let partner_is : unwrap_or (p c) c ≡ e = ap (λ o. unwrap_or o c) is in
      let back_is : unwrap_or (p e) e ≡ c = ap (λ o. unwrap_or o e) (partner_back glues p c e h.partners is) in
      record {
        other = λ same. pair_other glues c e lines_differ (h.partners.only c e is) (sym partner_is ∙ same);
        back = ap (at_side rows) partner_is
            ∙ at_side_rows p polygons e
            ∙ ap (option_map (side_of p e)) (opposite_vector c e v there is)
            ∙ ap (λ k. Some (record { vector = vector_neg v; partner = k })) back_is;
      }

  -- every side of the glued polygons is glued
  pub rows_are_glued : (c : Corner) (side : Side) → at_side rows c ≡ Some side → IsGlued rows c side
  rows_are_glued c side there =
      let a = comes_from (side_of p c) (at_side polygons c) side (sym (at_side_rows p polygons c) ∙ there) in
      let e = value_of (p c) (has_partner p polygons c a.from h.sides a.there) in
      subst (IsGlued rows c) a.is (side_is_glued c e.value a.from a.there e.is)

  -- ---- the same neighbours by glued sides and by glue lines

  -- polygons that are neighbours by a side are joined by a line
  pub neighbours_joined : (i j : ℕ) → AreNeighbours rows i j → Joins glues i j
  neighbours_joined i j n =
      let a = comes_from (side_of p n.corner) (at_side polygons n.corner) n.side (sym (at_side_rows p polygons n.corner) ∙ n.there) in
      let e = value_of (p n.corner) (has_partner p polygons n.corner a.from h.sides a.there) in
      let partner_is : e.value ≡ n.side.partner = sym (ap (λ o. unwrap_or o n.corner) e.is) ∙ ap (λ (s : Side). s.partner) a.is in
      record { one = n.corner; two = e.value; pair = h.partners.only n.corner e.value e.is; from = n.from; to = ap (λ (c : Corner). c.polygon) partner_is ∙ n.to }

  pair_present : (gs : List Glue) (c e : Corner) → AllByRecursion (λ g. HasSide polygons g.one × HasSide polygons g.two) gs → IsPairOf gs c e → HasSide polygons c
  pair_present [] c e a k = absurd k
  pair_present (g ∷ gs) c e a k = elim k [
    | inl s ↦ subst (HasSide polygons) s.0 a.0.0
    | inr r ↦ elim r [ inl s ↦ subst (HasSide polygons) s.0 a.0.1 | inr t ↦ pair_present gs c e a.1 t ]
  ]

  pair_partner : (gs : List Glue) (c e : Corner) → AllByRecursion (λ g. (p g.one ≡ Some g.two) × (p g.two ≡ Some g.one)) gs → IsPairOf gs c e → p c ≡ Some e
  pair_partner [] c e a k = absurd k
  pair_partner (g ∷ gs) c e a k = elim k [
    | inl s ↦ ap p (sym s.0) ∙ a.0.0 ∙ ap Some s.1
    | inr r ↦ elim r [ inl s ↦ ap p (sym s.0) ∙ a.0.1 ∙ ap Some s.1 | inr t ↦ pair_partner gs c e a.1 t ]
  ]

  -- polygons that are joined by a line are neighbours by a side
  pub joined_neighbours : (i j : ℕ) → Joins glues i j → AreNeighbours rows i j
  joined_neighbours i j k =
      let a = value_of (at_side polygons k.one) (pair_present glues k.one k.two lines_present k.pair) in
      let partner_is : unwrap_or (p k.one) k.one ≡ k.two = ap (λ o. unwrap_or o k.one) (pair_partner glues k.one k.two h.partners.of_lines k.pair) in
      record {
        corner = k.one;
        side = side_of p k.one a.value;
        there = at_side_rows p polygons k.one ∙ ap (option_map (side_of p k.one)) a.is;
        from = k.from;
        to = ap (λ (c : Corner). c.polygon) partner_is ∙ k.to;
      }

  -- ---- the surface

  glued_forth : (one two : Corner) → HasSide polygons one → p one ≡ Some two → (side : Side) × (at_side rows one ≡ Some side) × (side.partner ≡ two)
  glued_forth one two there is =
      let a = value_of (at_side polygons one) there in
      (side_of p one a.value, at_side_rows p polygons one ∙ ap (option_map (side_of p one)) a.is, ap (λ o. unwrap_or o one) is)

  lines_glued_of : (gs : List Glue) → AllByRecursion (λ g. HasSide polygons g.one × HasSide polygons g.two) gs
      → AllByRecursion (λ g. (p g.one ≡ Some g.two) × (p g.two ≡ Some g.one)) gs → AllByRecursion (λ g. AreGlued rows g.one g.two) gs
  lines_glued_of [] there is = tt
  lines_glued_of (g ∷ gs) there is = (
    record { forth = glued_forth g.one g.two there.0.0 is.0.0; back = glued_forth g.two g.one there.0.1 is.0.1 },
    lines_glued_of gs there.1 is.1,
  )

  -- the sides on each line are glued to each other
  pub lines_are_glued : AllByRecursion (λ g. AreGlued rows g.one g.two) glues
  lines_are_glued = lines_glued_of glues lines_present h.partners.of_lines

  -- the glued polygons are a surface where they are connected
  pub is_surface : (den : ℤ) → IsRadicand d → pos 0 <ℤ den → 0 < length polygons → length polygons ≤ most_polygons → sum_by length polygons ≤ most_sides
      → ((k : ℕ) → k < length rows → IsReached (AreNeighbours rows) k) → IsSurface (record { d = d; straight = straight; den = den; polygons = rows })
  is_surface den radicand positive some few sides connected = record {
    surface = record {
      radicand = radicand;
      den = positive;
      some_polygon = subst (λ n. 0 < n) (sym (rows_length p 0 polygons)) some;
      each = rows_each straight d polygons glues p 0 polygons h.each;
      glued = rows_are_glued;
      connected = connected;
    };
    polygons = subst (λ n. n ≤ most_polygons) (sym (rows_length p 0 polygons)) few;
    sides = subst (λ n. n ≤ most_sides) (sym (rows_sum p 0 polygons)) sides;
  }
