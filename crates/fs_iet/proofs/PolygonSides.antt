-- The sides of a polygon by their numbers from corner 0 on, again and again round it.
use Rattle.std.proofs.Common.{◌≡◌, ℕ, zero, suc, ◌+◌, ◌<◌, ◌%◌, ◌==◌, if◌then◌else◌, Option, Some, None, List, [], ◌∷◌, map, length, get_or, take, refl, sym, ap, ◌∙◌, subst, inl, inr, arith, add-zero, mod-lt, zero-lt-suc}
use Rattle.std.proofs.lemmas.Bool.Decides.{nat_tests}
use Rattle.std.proofs.lemmas.Option.{slice_get-get_or, slice_get_within, slice_get-map}
use Rattle.std.specs.Option.{option_and_then, option_map}
use Rattle.std.specs.List.{slice_get}
use Rattle.fs_lists.specs.Members.{IsIn}
use Rattle.fs_cycles.specs.Cycles.{iterate, LeadsTo}
use Rattle.fs_cycles.proofs.Iterates.{iterate-add, iterate_after, iterate-mod, leads_back, leads_trans}
use Rattle.fs_plane.specs.declared.corners.Corner.{Corner}
use Rattle.fs_plane.specs.Vector.{PlaneVector, vector_add, vector_total_from}
use Rattle.fs_quadratic.specs.Ring.{Quadratic, quadratic, add, total}
use Rattle.fs_convex.proofs.Measures.{sum_from}
use Rattle.fs_paths.specs.SideGluing.{nth_side}
use Rattle.fs_gluing.specs.declared.surfaces.Side.{Side}
use Rattle.fs_gluing.specs.NextCorner.{side_count, length_or_0, corner_after}
use Rattle.fs_gluing.specs.Polygons.{HasSide}
use Rattle.fs_gluing.specs.Positions.{positions_from}
use Rattle.fs_gluing.specs.Surface.{side_vectors}
use Rattle.fs_gluing.specs.SurfaceSides.{polygon_sides, vector_of, vector_or}
use Rattle.fs_gluing.proofs.Sides.AllSides.{corner}
use Rattle.fs_gluing.proofs.Sides.SidesInTurn.{returns_after}
use Rattle.fs_gluing.proofs.SurfaceCalls.NextCorner.{in_polygon, count_is, has_after}

next_number : (n k : ℕ) → suc k < n → (if k + 1 == n then 0 else k + 1) ≡ suc k
next_number n k l = grind (arith, nat_tests)

-- some number from m on, fewer than N later, comes to where any later one comes
reach_below : {X : Type 0} (f : X → X) (x y : X) (n : ℕ) → 0 < n → iterate f n x ≡ x → LeadsTo f x y → (j : ℕ) × (j < n) × (iterate f j x ≡ y)
reach_below f x y zero l e h = absurd (omega arith)
reach_below f x y (suc n) l e h = (h.0 % suc n, mod-lt h.0 (zero-lt-suc n), sym (iterate-mod f n x e h.0) ∙ h.1)

reach_back : {X : Type 0} (f : X → X) (x y : X) (n : ℕ) → 0 < n → iterate f n x ≡ x → LeadsTo f x y → LeadsTo f y x
reach_back f x y zero l e h = absurd (omega arith)
reach_back f x y (suc n) l e h = leads_back f n x y e h

module _ (polygons : List (List Side)) (i : ℕ) where
  -- side k of polygon i, from corner 0 on, round the polygon
  abbrev pub numbered : ℕ → Corner
  numbered k = nth_side (polygon_sides polygons) (corner i 0) k

  pub numbered_next : (k : ℕ) → numbered (suc k) ≡ corner_after polygons (numbered k)
  numbered_next k = iterate_after (corner_after polygons) k (corner i 0)

  -- the first sides are those with these numbers
  pub numbered_below : (k : ℕ) → k < side_count polygons i → numbered k ≡ corner i k
  numbered_below zero l = refl
  numbered_below (suc k) l =
      numbered_next k ∙ ap (corner_after polygons) (numbered_below k (omega arith)) ∙ ap (corner i) (next_number (side_count polygons i) k l)

  -- each is one of the polygon
  pub numbered_polygon : (k : ℕ) → (numbered k).polygon ≡ i
  numbered_polygon zero = refl
  numbered_polygon (suc k) = ap (λ (c : Corner). c.polygon) (numbered_next k) ∙ numbered_polygon k

  module _ (inside : HasSide polygons (corner i 0)) where
    -- each exists
    pub numbered_side : (k : ℕ) → HasSide polygons (numbered k)
    numbered_side zero = inside
    numbered_side (suc k) = subst (HasSide polygons) (sym (numbered_next k)) (has_after polygons (numbered k) (numbered_side k))

    -- the polygon has sides
    pub some_side : 0 < side_count polygons i
    some_side =
        let s = in_polygon polygons (corner i 0) inside in
        let e = count_is polygons (corner i 0) s in
        let l = s.inside in
        omega arith

    numbered_returns : (m : ℕ) → iterate (corner_after polygons) (side_count polygons i) (numbered m) ≡ numbered m
    numbered_returns m =
        subst (λ (k : ℕ). iterate (corner_after polygons) (side_count polygons k) (numbered m) ≡ numbered m) (numbered_polygon m)
        (returns_after polygons (numbered m) (numbered_side m))

    -- they come again after as many as the polygon has
    pub numbered_again : (m : ℕ) → numbered (side_count polygons i + m) ≡ numbered m
    numbered_again m =
        ap numbered (let e : side_count polygons i + m ≡ m + side_count polygons i = omega arith in e)
        ∙ iterate-add (corner_after polygons) m (side_count polygons i) (corner i 0) ∙ numbered_returns m

    -- a side of the polygon has a number below that
    pub number_below : (c : Corner) → HasSide polygons c → c.polygon ≡ i → c.side < side_count polygons i
    number_below c h same =
        let s = in_polygon polygons c h in
        let l = s.inside in
        let e : side_count polygons i ≡ length s.polygon = ap (side_count polygons) (sym same) ∙ count_is polygons c s in
        omega arith

    -- and it has a number from any on
    pub number_from : (m : ℕ) (c : Corner) → HasSide polygons c → c.polygon ≡ i → (j : ℕ) × (j < side_count polygons i) × (numbered (m + j) ≡ c)
    number_from m c h same =
        let n = side_count polygons i in
        let f = corner_after polygons in
        let there : numbered c.side ≡ c = numbered_below c.side (number_below c h same) ∙ ap (λ (k : ℕ). corner k c.side) (sym same) in
        let back : LeadsTo f (numbered m) (corner i 0) = reach_back f (corner i 0) (numbered m) n some_side (numbered_returns 0) (m, refl) in
        let found = reach_below f (numbered m) c n some_side (numbered_returns m) (leads_trans f (numbered m) (corner i 0) c back (c.side, there)) in
        (found.0, found.1, iterate-add f m found.0 (corner i 0) ∙ found.2)

    -- ---- the vectors of the sides

    abbrev pub listed : List Side
    listed = get_or polygons i []

    listed_is : i < length polygons → slice_get polygons i ≡ Some listed
    listed_is l = slice_get-get_or polygons i [] l

    abbrev pub vectors : List PlaneVector
    vectors = side_vectors listed

    -- the polygon has as many vectors as sides
    pub count_vectors : i < length polygons → side_count polygons i ≡ length vectors
    count_vectors l = ap length_or_0 (listed_is l) ∙ sym (length-map' listed)
      where
        length-map' : (polygon : List Side) → length (side_vectors polygon) ≡ length polygon
        length-map' [] = refl
        length-map' (side ∷ polygon) = ap (λ (n : ℕ). suc n) (length-map' polygon)

    -- the k-th is that of side k
    pub vector_numbered : i < length polygons → (k : ℕ) (u : PlaneVector) → slice_get vectors k ≡ Some u → vector_of polygons (numbered k) ≡ u
    vector_numbered l k u e =
        let n = count_vectors l in
        let m = slice_get_within vectors k u e in
        ap (vector_of polygons) (numbered_below k (omega arith))
        ∙ ap (λ o. vector_or (option_and_then (λ polygon. slice_get polygon k) o)) (listed_is l)
        ∙ of_mapped (slice_get listed k) u (sym (slice_get-map (λ (side : Side). side.vector) listed k) ∙ e)
      where
        of_mapped : (o : Option Side) (u : PlaneVector) → option_map (λ (side : Side). side.vector) o ≡ Some u → vector_or o ≡ u
        of_mapped None u e = cc
        of_mapped (Some side) u e = let f : Some side.vector ≡ Some u = e in cc

-- ---- sums and positions of a list by numbers

-- a sum over a list is one over the numbers of its items
pub total_by_numbers : {X : Type 0} (d : ℕ) (f : X → Quadratic) (item : ℕ → X) (b : ℕ) (xs : List X) → ((k m : ℕ) (x : X) → b + k ≡ m → slice_get xs k ≡ Some x → item m ≡ x)
    → total (map f xs) ≡ sum_from (quadratic d) (λ j. f (item j)) b (length xs)
total_by_numbers d f item b [] at = refl
total_by_numbers d f item b (x ∷ xs) at =
    λ i. add (f (sym (at 0 b x (add-zero b) refl) i)) (total_by_numbers d f item (suc b) xs (λ k m y e g. at (suc k) m y (omega arith) g) i)

-- the positions of corners are the sums of the first sides
pub in_positions : (start : PlaneVector) (sides : List PlaneVector) (k : ℕ) → k < length sides → IsIn (vector_total_from start (take k sides)) (positions_from start sides)
in_positions start [] k l = absurd (omega arith)
in_positions start (u ∷ sides) zero l = inl refl
in_positions start (u ∷ sides) (suc k) l = inr (in_positions (vector_add start u) sides k (omega arith))

pub positions_in : (start : PlaneVector) (sides : List PlaneVector) (p : PlaneVector) → IsIn p (positions_from start sides)
    → (k : ℕ) × (k < length sides) × (p ≡ vector_total_from start (take k sides))
positions_in start [] p h = absurd h
positions_in start (u ∷ sides) p (inl e) = (0, omega arith, e)
positions_in start (u ∷ sides) p (inr h) =
    let r = positions_in (vector_add start u) sides p h in (suc r.0, omega (arith, r.1), r.2)
