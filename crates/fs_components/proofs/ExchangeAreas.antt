-- The areas of the letters of an exchange, each its length times its return vector along the flow, sum to that of the surface.
use Rattle.std.proofs.Common.{◌≡◌, ◌≢◌, List, [], ◌∷◌, ◌++◌, map, refl, sym, ap, ◌∙◌, subst, inl, inr}
use Rattle.std.proofs.lemmas.List.{map-append}
use Rattle.std.proofs.lemmas.Option.{unwrap_or-slice_get}
use Rattle.std.proofs.lemmas.Simd.{map-map}
use Rattle.fs_lists.specs.Members.{IsIn, IsDistinct}
use Rattle.fs_lists.proofs.All.{All-slice_get}
use Rattle.fs_lists.proofs.Members.{in_append_left, in_append_right, in_append_cases, apart_append, in_map, in_map_cases, apart_map}
use Rattle.fs_lists.proofs.Removal.{without, in_without, without_or, apart_without}
use Rattle.fs_ring.specs.CommutativeRing.{IsCommutativeRing}
use Rattle.fs_ring.specs.OrderedRing.{Sign, positive, null, negative}
use Rattle.fs_ring.specs.Operations.{Operations}
use Rattle.fs_ring.specs.Vector as plane
use Rattle.fs_ring.specs.Vector.{Vector, add_vector, sub_vector, neg_vector}
use Rattle.fs_ring.proofs.PlaneSolver.{plane_identity}
use Rattle.fs_ring.proofs.RingLaws as ring_laws
use Rattle.fs_ring.proofs.Solver.{expressions as E, ◌⊕◌, ◌⊗◌, ◌≐◌}
use Rattle.fs_quadratic.specs.Ring.{Quadratic, quadratic, IsPositive, add, mul, neg, total, zero as nil}
use Rattle.fs_quadratic.proofs.Laws.{quadratic_ring}
use Rattle.fs_plane.specs.declared.corners.Corner.{Corner}
use Rattle.fs_plane.specs.Vector.{PlaneVector, vector_zero, vector_add, dot, norm}
use Rattle.fs_gluing.specs.Area.{twice_area}
use Rattle.fs_gluing.specs.Convex.{corner_position}
use Rattle.fs_gluing.specs.CrossingMap.{across, IsIncoming, IsOutgoing, side_width, gluing_vector}
use Rattle.fs_gluing.specs.Exchanges.{Letter, Component, IsTopRow, IsBottomRow, IsExchange}
use Rattle.fs_gluing.specs.FirstCut.{position_in}
use Rattle.fs_gluing.specs.NextCorner.{corner_after}
use Rattle.fs_gluing.specs.Polygons.{HasSide, all_sides}
use Rattle.fs_gluing.specs.Surface.{GluedPolygons, IsTranslationSurface, IsPolygon, side_vectors}
use Rattle.fs_gluing.specs.SurfaceSides.{partner, vector_of}
use Rattle.fs_gluing.proofs.Sides.AllSides.{all_sides_distinct, in_all_sides, all_sides_in}
use Rattle.fs_gluing.proofs.Sides.PartnerSides.{partner-partner, vector-partner}
use Rattle.fs_gluing.proofs.Sides.SidesInTurn.{position_of, position_after}
use Rattle.fs_gluing.proofs.SurfaceCalls.NextCorner.{in_polygon}
use Rattle.fs_iet.proofs.ListsInTurn.{maps_equal}
use Rattle.fs_iet.proofs.Rearrangements.{total_of_members, not_in_without}
use Rattle.fs_iet.proofs.SideMeasures.{surface_order, outgoing_width, partner_incoming, partner_outgoing, not_both_ways}
use Rattle.fs_iet.proofs.SidesOfRows.{row_side, in_top_row, in_bottom_row, top_row_distinct, bottom_row_distinct}
use Rattle.fs_quadratic.proofs.Totals.{total-append}
use Rattle.fs_components.proofs.PolygonAreas.{share, side_share, sides_area}

-- ---- sums

-- the sum of sums
total-add : {X : Type 0} (f g : X → Quadratic) (xs : List X) → add (total (map f xs)) (total (map g xs)) ≡ total (map (λ x. add (f x) (g x)) xs)
total-add f g [] = (quadratic_ring 0).add_zero nil
total-add f g (x ∷ xs) =
    ring_laws.add_interchange (quadratic_ring 0) (f x) (total (map f xs)) (g x) (total (map g xs)) ∙ ap (add (add (f x) (g x))) (total-add f g xs)

-- the sum of a list of different items is a member's value and the sum of the rest
total-without : {X : Type 0} (f : X → Quadratic) (x : X) (xs : List X) (h : IsIn x xs) → IsDistinct xs → total (map f xs) ≡ add (f x) (total (map f (without x xs h)))
total-without f x xs h p =
    total_of_members f xs (x ∷ without x xs h) p ((λ y m e. not_in_without x xs h p (subst (λ z. IsIn z (without x xs h)) (sym e) m)), apart_without (λ u v. u ≡ v) x xs h p) (without_or x xs h)
    (λ y m. elim m [ inl e ↦ subst (λ z. IsIn z xs) (sym e) h | inr k ↦ in_without x xs h y k ])

-- different members of a list of different items sum to what the list does, where all others are 0
total_of_some : {X : Type 0} (f : X → Quadratic) (xs ys : List X) → IsDistinct xs → IsDistinct ys → ((x : X) → IsIn x xs → IsIn x ys)
    → ((y : X) → IsIn y ys → ¬ IsIn y xs → f y ≡ nil) → total (map f xs) ≡ total (map f ys)
total_of_some f [] [] p q to zeros = refl
total_of_some f [] (y ∷ ys) p q to zeros =
    sym ((quadratic_ring 0).add_zero nil)
    ∙ (λ i. add (sym (zeros y (inl refl) (λ h. h)) i) (total_of_some f [] ys tt q.1 (λ x h. absurd h) (λ z h n. zeros z (inr h) n) i))
total_of_some f (x ∷ xs) ys p q to zeros =
    let h = to x (inl refl) in
    ap (add (f x))
    (total_of_some f xs (without x ys h) p.1 (apart_without (λ u v. u ≡ v) x ys h q)
    (λ y m. elim (without_or x ys h y (to y (inr m))) [ inl e ↦ absurd (p.0 y m (sym e)) | inr k ↦ k ])
    (λ y m n. zeros y (in_without x ys h y m) (λ k. elim k [ inl e ↦ not_in_without x ys h q (subst (λ z. IsIn z (without x ys h)) e m) | inr k ↦ n k ])))
    ∙ sym (total-without f x ys h q)

-- ---- one letter

module _ {A : Type 0} {R : Operations A} (L : IsCommutativeRing R) where
  -- the width of a side u at p times the vector from its partner's end at q to its own, along the flow, is half of both shares
  both_shares : (v p q u : Vector A)
      → R.add (R.mul (R.neg (plane.cross R u v)) (plane.dot R v (sub_vector R (add_vector R p u) q))) (R.mul (R.neg (plane.cross R u v)) (plane.dot R v (sub_vector R (add_vector R p u) q)))
      ≡ R.add (share R v p u) (share R v q (neg_vector R u))
  both_shares v p q u =
      plane_identity L [] (v ∷ p ∷ q ∷ u ∷ [])
      (λ v p q u.
      E.neg (plane.cross E u v) ⊗ plane.dot E v (sub_vector E (add_vector E p u) q) ⊕ E.neg (plane.cross E u v) ⊗ plane.dot E v (sub_vector E (add_vector E p u) q)
      ≐ share E v p u ⊕ share E v q (neg_vector E u)) refl

  -- a side that is parallel to v adds nothing
  no_share : (v p u : Vector A) → plane.cross R u v ≡ R.zero → share R v p u ≡ R.zero
  no_share v p u e =
      ap (λ w. R.mul (R.neg w) (R.add (plane.dot R v p) (plane.dot R v (add_vector R p u)))) e
      ∙ ap (λ w. R.mul w (R.add (plane.dot R v p) (plane.dot R v (add_vector R p u)))) (ring_laws.neg_zero L)
      ∙ ring_laws.zero_mul L (R.add (plane.dot R v p) (plane.dot R v (add_vector R p u)))

module _ (s : GluedPolygons) (surface : IsTranslationSurface s) (v : PlaneVector) where
  position_is : (c : Corner) → position_in s c.polygon c.side ≡ position_of s.polygons c
  position_is c = ap (λ polygon. corner_position (side_vectors polygon) c.side) (sym (unwrap_or-slice_get s.polygons c.polygon []))

  -- a side ends at its position plus its vector
  end_is : (c : Corner) → HasSide s.polygons c
      → position_in s (corner_after s.polygons c).polygon (corner_after s.polygons c).side ≡ vector_add (position_in s c.polygon c.side) (vector_of s.polygons c)
  end_is c h =
      let there = in_polygon s.polygons c h in
      position_is (corner_after s.polygons c)
      ∙ position_after s.polygons c h (All-slice_get (λ polygon. IsPolygon s.straight s.d (side_vectors polygon)) s.polygons c.polygon there.polygon surface.each there.is)
      ∙ ap (λ p. vector_add p (vector_of s.polygons c)) (sym (position_is c))

  -- the width of an outgoing side times the vector of its gluing along the flow
  abbrev side_area : Corner → Quadratic
  side_area f = mul s.d (side_width s v f) (dot s.d v (gluing_vector s v f))

  -- twice that is the shares of the side and of its partner
  twice_side_area : (f : Corner) → IsOutgoing s v f → add (side_area f) (side_area f) ≡ add (side_share s v f) (side_share s v (partner s.polygons f))
  twice_side_area f o =
      let e = partner s.polygons f in
      let p = position_in s f.polygon f.side in
      let q = position_in s e.polygon e.side in
      let u = vector_of s.polygons f in
      let area : side_area f ≡ mul s.d (neg (across s v f)) (dot s.d v (sub_vector (quadratic s.d) (vector_add p u) q))
      = λ i. mul s.d (outgoing_width s surface v f o i) (dot s.d v (sub_vector (quadratic s.d) (end_is f o.side i) q)) in
      (λ i. add (area i) (area i))
      ∙ both_shares (quadratic_ring s.d) v p q u
      ∙ ap (λ w. add (side_share s v f) (share (quadratic s.d) v q w)) (sym (vector-partner s.polygons surface.glued f o.side))

  -- ---- both rows

  -- a side that the flow doesn't cross adds nothing
  share_of_other : (e : Corner) → HasSide s.polygons e → ¬ IsOutgoing s v e → ¬ IsIncoming s v e → side_share s v e ≡ nil
  share_of_other e h not_out not_in = go ((surface_order s surface).trichotomy (across s v e))
    where
      go : Sign (quadratic s.d) (IsPositive s.d) (across s v e) → side_share s v e ≡ nil
      go (positive p) = absurd (not_in (record { side = h; enters = p }))
      go (null z) = no_share (quadratic_ring s.d) v (position_in s e.polygon e.side) (vector_of s.polygons e) z
      go (negative p) = absurd (not_out (record { side = h; leaves = p }))

  module _ (some : v ≢ vector_zero) {top bottom : List Corner} (out : IsTopRow s v top) (enter : IsBottomRow s v bottom) where
    -- the partners of the sides of the top row are those of the bottom row
    partners_total : (f : Corner → Quadratic) → total (map (λ e. f (partner s.polygons e)) top) ≡ total (map f bottom)
    partners_total f =
        ap total (sym (map-map f (partner s.polygons) top))
        ∙ total_of_members f (map (partner s.polygons) top) bottom
        (apart_map (partner s.polygons) (λ x y. x ≡ y) (λ x y. x ≡ y) top (λ x w hx hw e. sym (back x hx) ∙ ap (partner s.polygons) e ∙ back w hw) (top_row_distinct s surface v some out))
        (bottom_row_distinct s surface v some enter)
        (λ e h.
        let r = in_map_cases (partner s.polygons) e top h in
        subst (λ c. IsIn c bottom) (sym r.2) (in_bottom_row s surface v some enter (partner s.polygons r.0) (partner_incoming s surface v r.0 (row_side out r.0 r.1))))
        (λ e h.
        let i = row_side enter e h in
        subst (λ c. IsIn c (map (partner s.polygons) top)) (partner-partner s.polygons surface.glued e i.side)
        (in_map (partner s.polygons) (partner s.polygons e) top (in_top_row s surface v some out (partner s.polygons e) (partner_outgoing s surface v e i))))
      where
        back : (x : Corner) → IsIn x top → partner s.polygons (partner s.polygons x) ≡ x
        back x h = partner-partner s.polygons surface.glued x (row_side out x h).side

    -- the shares of both rows are those of all sides
    rows_total : total (map (side_share s v) (top ++ bottom)) ≡ total (map (side_share s v) (all_sides s.polygons))
    rows_total =
        total_of_some (side_share s v) (top ++ bottom) (all_sides s.polygons)
        (apart_append (λ x y. x ≡ y) top bottom (top_row_distinct s surface v some out) (bottom_row_distinct s surface v some enter)
        (λ f e hf he same. not_both_ways s surface v e (row_side enter e he) (subst (IsOutgoing s v) same (row_side out f hf))))
        (all_sides_distinct s.polygons)
        (λ e h. in_all_sides s.polygons e (elim (in_append_cases e top bottom h) [ inl k ↦ (row_side out e k).side | inr k ↦ (row_side enter e k).side ]))
        (λ e h n.
        share_of_other e (all_sides_in s.polygons e h)
        (λ o. n (in_append_left e top bottom (in_top_row s surface v some out e o)))
        (λ i. n (in_append_right e top bottom (in_bottom_row s surface v some enter e i))))

    -- twice the areas of the sides of the top row sum to twice the area of the surface, scaled
    row_area : let sum = total (map side_area top) in add sum sum ≡ mul s.d (norm s.d v) (twice_area s)
    row_area =
        total-add side_area side_area top
        ∙ ap total (map_on (λ f. add (side_area f) (side_area f)) (λ f. add (side_share s v f) (side_share s v (partner s.polygons f))) top (λ f h. twice_side_area f (row_side out f h)))
        ∙ sym (total-add (side_share s v) (λ f. side_share s v (partner s.polygons f)) top)
        ∙ ap (add (total (map (side_share s v) top))) (partners_total (side_share s v))
        ∙ sym (total-append (map (side_share s v) top) (map (side_share s v) bottom))
        ∙ ap total (sym (map-append (side_share s v) top bottom))
        ∙ rows_total
        ∙ sides_area s v surface
      where
        map_on : {X Y : Type 0} (f g : X → Y) (xs : List X) → ((x : X) → IsIn x xs → f x ≡ g x) → map f xs ≡ map g xs
        map_on f g [] h = refl
        map_on f g (x ∷ xs) h = λ i. h x (inl refl) i ∷ map_on f g xs (λ y m. h y (inr m)) i

  -- the areas of the letters of the exchange, scaled by the squared length of the direction, sum to that of the surface: twice the one is twice the other
  pub exchange_area : v ≢ vector_zero → (c : Component) → IsExchange s v c
      → let sum = total (map (λ letter. mul s.d letter.length (dot s.d v letter.back)) c.top) in add sum sum ≡ mul s.d (norm s.d v) (twice_area s)
  exchange_area some c exchange =
      let same : map (λ letter. mul s.d letter.length (dot s.d v letter.back)) c.top ≡ map side_area exchange.outgoing
      = maps_equal (λ (letter : Letter). mul s.d letter.length (dot s.d v letter.back)) side_area c.top exchange.outgoing exchange.as_many
      (λ n letter f here there. let is = exchange.letters n f letter there here in λ i. mul s.d (is.length i) (dot s.d v (is.back i))) in
      (λ i. add (total (same i)) (total (same i))) ∙ row_area some exchange.top_row exchange.bottom_row
