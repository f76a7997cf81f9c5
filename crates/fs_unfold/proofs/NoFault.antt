-- The shape of the copies has no fault, where they are polygons.
use Rattle.std.proofs.Common.{◌≡◌, ◌⊎◌, ℕ, zero, suc, ◌+◌, ◌<◌, false, IsSome, Option, Some, None, List, [], ◌∷◌, ◌++◌, length, map, Contains, refl, sym, ap, ◌∙◌, subst, inl, inr, arith}
use Rattle.std.proofs.lemmas.List.{length-map}
use Rattle.std.proofs.lemmas.Option.{slice_get-map}
use Rattle.std.specs.List.{AllByRecursion, slice_get, flat_map, range_with_len}
use Rattle.std.specs.Option.{option_map, option_and_then}
use Rattle.fs_lists.specs.Members.{IsIn}
use Rattle.fs_lists.proofs.All.{All-append, All-map}
use Rattle.fs_lists.proofs.Items.{inside_of_some}
use Rattle.fs_lists.proofs.Members.{All-member}
use Rattle.fs_ring.proofs.RingLaws as ring
use Rattle.fs_quadratic.proofs.Laws.{quadratic_ring}
use Rattle.fs_plane.specs.declared.corners.Corner.{Corner}
use Rattle.fs_plane.specs.Vector.{PlaneVector, vector_neg, IsAllowedCorner}
use Rattle.fs_gluing.specs.declared.faults.Fault.{Fault}
use Rattle.fs_gluing.specs.declared.faults.BuildStop.TheVariants as stops
use Rattle.fs_gluing.specs.declared.shapes.Glue.{Glue}
use Rattle.fs_gluing.specs.declared.shapes.Point.{Point}
use Rattle.fs_gluing.specs.declared.shapes.Shape.{Shape}
use Rattle.fs_gluing.specs.Convex.{CornerSides, corners_of}
use Rattle.fs_gluing.specs.FirstFault.{PolygonTest, x_fits, y_fits, polygon_closes, turning_number_one, position_tests, corner_tests, polygon_tests, PassesLine, AreOpposite, line_tests, Test, of_scaling, of_polygon, of_line, side_glued, polygon_reached, PassesOf, tests_from, stop_of, tests_of}
use Rattle.fs_gluing.specs.Gluing.{sides_between}
use Rattle.fs_gluing.specs.Polygons.{HasSide, at_side, sides_from, all_sides}
use Rattle.fs_gluing.specs.Scaling.{ScaleTest, common_fits, part_fits, common_den, scaled_vector, scale_tests}
use Rattle.fs_gluing.specs.Shape.{glued_sides, polygons_of}
use Rattle.fs_gluing.specs.Surface.{IsPolygon}
use Rattle.fs_gluing.proofs.Scale.ScaledVectors.{at_side-map}
use Rattle.fs_gluing.proofs.Sides.AllSides.{in_all_sides, all_sides_in, all_sides_distinct}
use Rattle.fs_unfold.specs.declared.matrices.Matrix.{Matrix}
use Rattle.fs_unfold.specs.Copies.{opposite, copy, IsPair, AreLines}
use Rattle.fs_unfold.specs.Tables.{IsTable}
use Rattle.fs_unfold.specs.Matrices.{mirror, times}
use Rattle.fs_unfold.specs.Products.{mirrors, AreProducts}
use Rattle.fs_unfold.specs.Unfolding.{HasNoFault}
use Rattle.fs_unfold.proofs.CopyImages.{scaled_opposite}
use Rattle.fs_unfold.proofs.Connected.{has_side, copies_reached}
use Rattle.fs_unfold.proofs.GlueTests.{lines_pass, sides_glued}
use Rattle.fs_unfold.proofs.Partners.{copy_length, pair_symmetric, pair_apart, pair_exists, pair_vectors}
use Rattle.fs_unfold.proofs.ProductLists.{get_inside, listed_once}
use Rattle.fs_unfold.proofs.UnfoldingUnique.{pair_unique}

-- ---- scaled copies

twice_opposite : (a : PlaneVector) → vector_neg (vector_neg a) ≡ a
twice_opposite a = λ i. record { x = ring.neg_neg (quadratic_ring 0) a.x i; y = ring.neg_neg (quadratic_ring 0) a.y i }

-- mapped polygons have the same sides
sides_of_map : {X Y : Type 0} (f : X → Y) (i : ℕ) (rows : List (List X)) → sides_from i (map (map f) rows) ≡ sides_from i rows
sides_of_map f i [] = refl
sides_of_map f i (row ∷ rows) = λ t. sides_between i 0 (length-map row f t) ++ sides_of_map f (i + 1) rows t

module _ (d : ℕ) (shape : Shape) where
  -- the shape passes the test, if that gives a fault
  abbrev IsFaultless : Test → Type 0
  IsFaultless test = (fault : Fault) → stop_of test ≡ stops.Fault fault → PassesOf d shape test

  -- ---- scaling gives sites

  scaling_faultless : (tests : List ScaleTest) → AllByRecursion (λ test. IsFaultless (of_scaling test)) tests
  scaling_faultless [] = tt
  scaling_faultless (common_fits i j p m n ∷ tests) = ((λ fault e. cc), scaling_faultless tests)
  scaling_faultless (part_fits i j p k z ∷ tests) = ((λ fault e. cc), scaling_faultless tests)

  -- ---- polygons

  module _ (strict : shape.straight ≡ false) (i : ℕ) (polygon : List PlaneVector) (is : IsPolygon false d polygon) where
    abbrev Q : PolygonTest → Type 0
    Q test = IsFaultless (of_polygon i polygon test)

    positions_faultless : (js : List ℕ) → AllByRecursion Q (flat_map (λ j. x_fits j ∷ y_fits j ∷ []) js)
    positions_faultless [] = tt
    positions_faultless (j ∷ js) = ((λ fault e. cc), ((λ fault e. cc), positions_faultless js))

    allowed : (a b : PlaneVector) → IsAllowedCorner false d a b → IsAllowedCorner shape.straight d a b
    allowed a b h = subst (λ s. IsAllowedCorner s d a b) (sym strict) h

    corners_faultless : (j : ℕ) (corners : List CornerSides) → AllByRecursion (λ corner. IsAllowedCorner false d corner.before corner.after) corners → AllByRecursion Q (corner_tests j corners)
    corners_faultless j [] all = tt
    corners_faultless j (corner ∷ corners) all =
        ((λ fault e. cc), ((λ fault e. cc), ((λ fault e. cc), ((λ fault e. cc), ((λ fault e. cc), ((λ fault e. cc), ((λ fault e. allowed corner.before corner.after all.0), corners_faultless (j + 1) corners all.1)))))))

    polygon_faultless : AllByRecursion Q (polygon_tests polygon)
    polygon_faultless = (
      (λ fault e. is.three),
      All-append Q (position_tests (length polygon)) (polygon_closes ∷ (corner_tests 0 (corners_of polygon) ++ turning_number_one ∷ [])) (positions_faultless (range_with_len 0 (length polygon))) (
        (λ fault e. is.closed),
        All-append Q (corner_tests 0 (corners_of polygon)) (turning_number_one ∷ []) (corners_faultless 0 (corners_of polygon) is.convex) ((λ fault e. is.turning_number), tt),
      ),
    )

  polygons_faultless : shape.straight ≡ false → (i : ℕ) (polygons : List (List PlaneVector)) → AllByRecursion (IsPolygon false d) polygons → AllByRecursion IsFaultless (tests_from i polygons)
  polygons_faultless strict i [] all = tt
  polygons_faultless strict i (polygon ∷ polygons) all =
      All-append IsFaultless (map (of_polygon i polygon) (polygon_tests polygon)) (tests_from (i + 1) polygons)
      (All-map (of_polygon i polygon) IsFaultless (polygon_tests polygon) (polygon_faultless strict i polygon all.0)) (polygons_faultless strict (i + 1) polygons all.1)

  weaker : {X : Type 0} (f : X → Test) (xs : List X) → AllByRecursion (λ x. PassesOf d shape (f x)) xs → AllByRecursion (λ x. IsFaultless (f x)) xs
  weaker f [] all = tt
  weaker f (x ∷ xs) all = ((λ fault e. all.0), weaker f xs all.1)

  -- a shape whose polygons, lines and gluing pass has no fault
  no_fault_of : shape.straight ≡ false → AllByRecursion (IsPolygon false d) (polygons_of shape) → AllByRecursion (PassesLine (polygons_of shape)) (line_tests [] shape.glues)
      → AllByRecursion (λ c. Contains (glued_sides shape.glues) c) (all_sides (polygons_of shape)) → AllByRecursion (λ i. PassesOf d shape (polygon_reached i)) (range_with_len 0 (length (polygons_of shape)))
      → HasNoFault d shape
  no_fault_of strict pass lines glued reached test fault test_in e =
      All-member IsFaultless (tests_of shape) test all test_in fault e
    where
      P : List (List PlaneVector)
      P = polygons_of shape

      all : AllByRecursion IsFaultless (tests_of shape)
      all =
          All-append IsFaultless (map of_scaling (scale_tests shape.polygons)) _ (All-map of_scaling IsFaultless (scale_tests shape.polygons) (scaling_faultless (scale_tests shape.polygons)))
          (All-append IsFaultless (tests_from 0 (polygons_of shape)) _ (polygons_faultless strict 0 (polygons_of shape) pass)
          (All-append IsFaultless (map of_line (line_tests [] shape.glues)) _ (All-map of_line IsFaultless (line_tests [] shape.glues) (weaker of_line (line_tests [] shape.glues) lines))
          (All-append IsFaultless (map side_glued (all_sides (polygons_of shape))) _ (All-map side_glued IsFaultless (all_sides (polygons_of shape)) (weaker side_glued (all_sides (polygons_of shape)) glued))
          (All-map polygon_reached IsFaultless (range_with_len 0 (length (polygons_of shape))) (weaker polygon_reached (range_with_len 0 (length (polygons_of shape))) reached)))))

-- ---- the shape of the copies

module _ (d : ℕ) (table : List Point) (is : IsTable d table) (list : List Matrix) (are : AreProducts d (mirrors d table) list) where
  abbrev Ps : List (List Point)
  Ps = map (copy d table) list

  abbrev Paired : Corner → Corner → Type 0
  Paired = IsPair d (length table) (mirrors d table) list

  unique : (c e f : Corner) → Paired c e → Paired c f → e ≡ f
  unique c e f p q = pair_unique d (length table) (mirrors d table) list (length-map table (mirror d)) (listed_once list (length list) 0 are) c e f p q

  at_copy : (c : Corner) (m : Matrix) (q : Point) → slice_get list c.polygon ≡ Some m → slice_get (copy d table m) c.side ≡ Some q → at_side Ps c ≡ Some q
  at_copy c m q at there =
      ap (option_and_then (λ polygon. slice_get polygon c.side)) (slice_get-map (copy d table) list c.polygon ∙ ap (option_map (copy d table)) at) ∙ there

  -- a side of a copy is below the bounds
  pub inside : (c : Corner) → HasSide Ps c → (c.polygon < length list) × (c.side < length table)
  inside c h = by (slice_get list c.polygon) refl (slice_get-map (copy d table) list c.polygon)
    where
      by : (o : Option Matrix) → slice_get list c.polygon ≡ o → slice_get Ps c.polygon ≡ option_map (copy d table) (slice_get list c.polygon) → (c.polygon < length list) × (c.side < length table)
      by None e f = absurd (none (subst (λ (x : Option (List Point)). IsSome (option_and_then (λ polygon. slice_get polygon c.side) x)) (f ∙ ap (option_map (copy d table)) e) h))
        where
          none : IsSome (option_and_then (λ (polygon : List Point). slice_get polygon c.side) None) → ⊥
          none k = cc
      by (Some m) e f = (
        get_inside list c.polygon m e,
        subst (λ k. c.side < k) (copy_length d table m) (inside_of_some (copy d table m) c.side (subst (λ (x : Option (List Point)). IsSome (option_and_then (λ polygon. slice_get polygon c.side) x)) (f ∙ ap (option_map (copy d table)) e) h)),
      )

  module _ (glues : List Glue) (lines : AreLines Paired (all_sides Ps) glues) where
    abbrev S : Shape
    S = record { polygons = Ps; glues = glues; straight = false }

    abbrev D : ℕ
    D = common_den Ps

    same_sides : all_sides (polygons_of S) ≡ all_sides Ps
    same_sides = sides_of_map (scaled_vector D) 0 Ps

    scaled_at : (c : Corner) (q : Point) → at_side Ps c ≡ Some q → at_side (polygons_of S) c ≡ Some (scaled_vector D q)
    scaled_at c q at = at_side-map (scaled_vector D) Ps c ∙ ap (option_map (scaled_vector D)) at

    pair_passes : (c e : Corner) → Paired c e → HasSide (polygons_of S) c × HasSide (polygons_of S) e × AreOpposite (at_side (polygons_of S) c) (at_side (polygons_of S) e)
    pair_passes c e p =
        let v = pair_vectors d table is list are c e p in
        let q = v.0 in
        let x = v.1 in
        let at_c = scaled_at c q (at_copy c p.from q p.from_there v.2) in
        let at_e = scaled_at e x (at_copy e (times d p.from p.mirror) x p.to_there v.3) in (
          subst (λ (o : Option PlaneVector). IsSome o) (sym at_c) refl,
          subst (λ (o : Option PlaneVector). IsSome o) (sym at_e) refl,
          subst (λ (o : Option PlaneVector). AreOpposite o (at_side (polygons_of S) e)) (sym at_c) (subst (λ (o : Option PlaneVector). AreOpposite (Some (scaled_vector D q)) o) (sym at_e) (by q x v.4)),
        )
      where
        by : (q x : Point) → (q ≡ opposite x) ⊎ (x ≡ opposite q) → scaled_vector D x ≡ vector_neg (scaled_vector D q)
        by q x (inl e) = sym (twice_opposite (scaled_vector D x)) ∙ ap vector_neg (sym (scaled_opposite D x) ∙ sym (ap (scaled_vector D) e))
        by q x (inr e) = ap (scaled_vector D) e ∙ scaled_opposite D q

    sides_on_lines : AllByRecursion (λ c. Contains (glued_sides glues) c) (all_sides (polygons_of S))
    sides_on_lines = subst (λ cs. AllByRecursion (λ c. Contains (glued_sides glues) c) cs) (sym same_sides) (each (all_sides Ps) (λ c h. h))
      where
        one : (c : Corner) → IsIn c (all_sides Ps) → Contains (glued_sides glues) c
        one c h =
            let i = inside c (all_sides_in Ps c h) in
            let e = pair_exists d table is list are c i.0 i.1 in
            sides_glued Paired (pair_symmetric d table is list are) unique (all_sides Ps) glues lines c e.0 h (in_all_sides Ps e.0 (has_side d table is list are e.0 e.2 e.3)) e.1 (pair_apart d table is list are c e.0 e.1)

        each : (cs : List Corner) → ((c : Corner) → IsIn c cs → IsIn c (all_sides Ps)) → AllByRecursion (λ c. Contains (glued_sides glues) c) cs
        each [] within = tt
        each (c ∷ cs) within = (one c (within c (inl refl)), each cs (λ b h. within b (inr h)))

    polygons_reached : AllByRecursion (λ i. PassesOf d S (polygon_reached i)) (range_with_len 0 (length (polygons_of S)))
    polygons_reached = each 0 (length (polygons_of S)) (let same = length-map Ps (map (scaled_vector D)) in let many = length-map list (copy d table) in omega (arith, same, many))
      where
        each : (i k : ℕ) → i + k ≡ length list → AllByRecursion (λ i. PassesOf d S (polygon_reached i)) (range_with_len i k)
        each i zero e = tt
        each i (suc k) e = (copies_reached d table is list are glues lines i (omega (arith, e)), each (i + 1) k (omega (arith, e)))

    no_fault_here : AllByRecursion (IsPolygon false d) (polygons_of S) → HasNoFault d S
    no_fault_here pass =
        no_fault_of d S refl pass
        (lines_pass Paired (pair_symmetric d table is list are) unique (polygons_of S) pair_passes (all_sides Ps) glues (all_sides_distinct Ps) lines)
        sides_on_lines polygons_reached

  -- the shape of the copies has no fault
  pub no_fault : (shape : Shape) → shape.polygons ≡ map (copy d table) list → AreLines Paired (all_sides shape.polygons) shape.glues → shape.straight ≡ false
      → AllByRecursion (IsPolygon false d) (polygons_of shape) → HasNoFault d shape
  no_fault shape copies lines strict pass =
      let as_record : record { polygons = map (copy d table) list; glues = shape.glues; straight = false } ≡ shape = λ i. record { polygons = sym copies i; glues = shape.glues; straight = sym strict i } in
      let here : AreLines Paired (all_sides (map (copy d table) list)) shape.glues = subst (λ ps. AreLines Paired (all_sides ps) shape.glues) copies lines in
      let polygons : AllByRecursion (IsPolygon false d) (polygons_of (record { polygons = map (copy d table) list; glues = shape.glues; straight = false })) =
      subst (λ (s : Shape). AllByRecursion (IsPolygon false d) (polygons_of s)) (sym as_record) pass in
      subst (HasNoFault d) as_record (no_fault_here shape.glues here polygons)
