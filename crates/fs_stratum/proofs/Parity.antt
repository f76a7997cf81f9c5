-- The number of vertices, polygons and edges is even: the step to the next corner is the step to the side before, followed by the step to the partner.
use Rattle.std.proofs.Common.{◌≡◌, inl, inr, ℕ, ◌<◌, Option, Some, None, List, [], ◌∷◌, length, map, sym, ap, ◌∙◌, refl, subst, arith}
use Rattle.std.proofs.lemmas.List.{length-map}
use Rattle.std.specs.Option.{IsSome, IfSome}
use Rattle.std.specs.List.{AllByRecursion, slice_get}
use Rattle.std.specs.declared.cmp.Ordering.TheVariants.{Less}
use Rattle.std.proofs.lemmas.Option.{slice_get_within}
use Rattle.fs_lists.specs.Members.{IsIn, AreApart}
use Rattle.fs_lists.proofs.Members.{in_of_contains, in_map, in_map_cases, All-member}
use Rattle.fs_lists.proofs.Counts.{tally}
use Rattle.fs_lists.proofs.Items.{some_of_inside, value_of}
use Rattle.fs_lists.proofs.All.{All-slice_get}
use Rattle.fs_cycles.specs.Cycles as cycles
use Rattle.fs_cycles.specs.Blocks.{StepsBack}
use Rattle.fs_cycles.proofs.Blocks.{even_with_blocks}
use Rattle.fs_plane.specs.declared.corners.Corner.{Corner}
use Rattle.fs_gluing.specs.declared.surfaces.Side.{Side}
use Rattle.fs_gluing.specs.Gluing.{corner_cmp}
use Rattle.fs_gluing.specs.Polygons.{at_side, HasSide, all_sides}
use Rattle.fs_gluing.specs.Surface.{GluedPolygons, IsTranslationSurface, IsPolygon, side_vectors}
use Rattle.fs_gluing.specs.NextCorner.{IsNextCorner, side_before, side_count}
use Rattle.fs_gluing.specs.Vertices.{AreOneVertex}
use Rattle.fs_gluing.proofs.SurfaceCalls.NextCorner.{has_before, in_polygon, next_corner_one_to_one, before, before_suc}
use Rattle.fs_gluing.proofs.Base.Equality.{corner_eq, same_corner}
use Rattle.fs_stratum.specs.declared.cones.Cone.{Cone}
use Rattle.fs_stratum.specs.VertexList.{IsVertex, AreVertices, AreAscending}
use Rattle.fs_gluing.proofs.Sides.CornerOrder.{less_trans}
use Rattle.fs_gluing.proofs.Sides.AllSides.{corner, in_all_sides, all_sides_in, all_sides_distinct}
use Rattle.fs_gluing.specs.SurfaceSides.{partner, partner_or}
use Rattle.fs_gluing.proofs.Sides.PartnerSides.{pairs}
use Rattle.fs_gluing.proofs.Sides.VertexOrbits.{next, is_next_corner, leads_of, one_vertex_of, one_vertex_comm}
use Rattle.fs_stratum.proofs.VerticesFound.{has_in_row}
use Rattle.fs_stratum.proofs.HeldCorners.{low_at}
use Rattle.fs_stratum.proofs.RaisedSides.{low-half}
use Rattle.fs_stratum.proofs.EulerSum.{HasEvenSum}

-- ---- least corners

-- the least corners of the vertices
abbrev pub firsts : List Cone → List Corner
firsts cones = map (λ (cone : Cone). cone.first) cones

-- the tail of an ascending list is ascending
pub ascending_tail : (x : Cone) (rest : List Cone) → AreAscending (firsts (x ∷ rest)) → AreAscending (firsts rest)
ascending_tail x [] a = tt
ascending_tail x (y ∷ rest) a = a.1

-- the head of an ascending list is less than all after it
pub ascending_less : (x : Cone) (rest : List Cone) → AreAscending (firsts (x ∷ rest)) → (e : Corner) → IsIn e (firsts rest) → corner_cmp x.first e ≡ Less
ascending_less x [] a e h = absurd h
ascending_less x (y ∷ rest) a e h = elim h [
  | inl same ↦ subst (λ c. corner_cmp x.first c ≡ Less) (sym same) a.0
  | inr k ↦ less_trans x.first y.first e a.0 (ascending_less y rest a.1 e k)
]

module _ (s : GluedPolygons) (surface : IsTranslationSurface s) where
  cone_of : (cones : List Cone) → AllByRecursion (IsVertex s) cones → (e : Corner) → IsIn e (firsts cones) → (cone : Cone) × IsVertex s cone × (e ≡ cone.first)
  cone_of cones all e i = let r = in_map_cases (λ (cone : Cone). cone.first) e cones i in (r.0, All-member (IsVertex s) cones r.0 all r.1, r.2)

  apart_firsts : (cones : List Cone) → AllByRecursion (IsVertex s) cones → AreAscending (firsts cones) → AreApart (cycles.LeadsTo (next s.polygons)) (firsts cones)
  apart_firsts [] all a = tt
  apart_firsts (x ∷ rest) all a = (
    (λ e i leads.
        let z = cone_of rest all.1 e i in
        let there = all.0.there in
        let one = one_vertex_comm s.polygons surface.glued x.first e there (one_vertex_of s.polygons surface.glued x.first e there leads) in
        z.1.least x.first (subst (λ c. AreOneVertex s.polygons c x.first) z.2 one) (subst (λ c. corner_cmp x.first c ≡ Less) z.2 (ascending_less x rest a e i))),
    apart_firsts rest all.1 (ascending_tail x rest a),
  )

  -- the least corners represent the cycles of the step to the next corner
  represents : (cones : List Cone) → AreVertices s cones → cycles.Represents (next s.polygons) (all_sides s.polygons) (firsts cones)
  represents cones a = record {
    there = λ r i. let z = cone_of cones a.each r i in in_all_sides s.polygons r (subst (HasSide s.polygons) (sym z.2) z.1.there);
    each = λ x i.
        let z = a.all x (all_sides_in s.polygons x i) in
        (z.0.first, in_map (λ (cone : Cone). cone.first) z.0 cones (in_of_contains z.0 cones z.1), leads_of s.polygons z.0.first x z.2);
    apart = apart_firsts cones a.each a.ascending;
  }

  before_one_to_one : (x y : Corner) → HasSide s.polygons x → HasSide s.polygons y → side_before s.polygons x ≡ side_before s.polygons y → x ≡ y
  before_one_to_one x y h k e =
      let t : IsNextCorner s.polygons x (next s.polygons x) = is_next_corner s.polygons x h in
      let u : IsNextCorner s.polygons y (next s.polygons x) = record { side = t.side; there = ap (at_side s.polygons) (sym e) ∙ t.there; is = t.is } in
      next_corner_one_to_one s.polygons y x (next s.polygons x) surface.glued k h u t

  partner-same : (a b : Corner) (o : Option Side) → IsSome o → partner_or a o ≡ partner_or b o
  partner-same a b None h = cc
  partner-same a b (Some side) h = refl

  followed : cycles.FollowedByPairs (side_before s.polygons) (partner s.polygons) (next s.polygons) (all_sides s.polygons)
  followed = record {
    distinct = all_sides_distinct s.polygons;
    permutes = record {
      inside = λ x i. in_all_sides s.polygons (side_before s.polygons x) (has_before s.polygons x (all_sides_in s.polygons x i));
      one_to_one = λ x y i j e. before_one_to_one x y (all_sides_in s.polygons x i) (all_sides_in s.polygons y j) e;
    };
    pairs = pairs s.polygons surface.glued;
    followed = λ x i. partner-same x (side_before s.polygons x) (at_side s.polygons (side_before s.polygons x)) (has_before s.polygons x (all_sides_in s.polygons x i));
  }

  head_has : (i : ℕ) → i < length s.polygons → HasSide s.polygons (corner i 0)
  head_has i l =
      let r = value_of (slice_get s.polygons i) (some_of_inside s.polygons i l) in
      let three = (All-slice_get (λ polygon. IsPolygon s.straight s.d (side_vectors polygon)) s.polygons i r.value surface.each r.is).three in
      let long = length-map r.value (λ (side : Side). side.vector) in
      has_in_row s i 0 (length r.value) l (subst (λ o. IfSome o (λ (polygon : List Side). length r.value ≡ length polygon)) (sym r.is) refl) (omega arith)

  -- the step to the side before goes round each polygon
  steps_back : StepsBack (side_before s.polygons) (all_sides s.polygons) (length s.polygons) (λ c. c.polygon) (λ c. c.side) (λ i. corner i 0)
  steps_back = record {
    below = λ x i. let st = in_polygon s.polygons x (all_sides_in s.polygons x i) in slice_get_within s.polygons x.polygon st.polygon st.is;
    stays = λ x i. refl;
    steps = λ x i p e. ap (before (side_count s.polygons x.polygon)) e ∙ before_suc (side_count s.polygons x.polygon) p;
    arrives = λ x i e. corner_eq refl e;
    there = λ i l. in_all_sides s.polygons (corner i 0) (head_has i l);
    named = λ i l. refl;
  }

  -- the number of polygons, vertices and edges is even
  pub has_even_sum : (cones : List Cone) → AreVertices s cones → HasEvenSum s cones
  has_even_sum cones a =
      let half = low-half s surface in
      let r = even_with_blocks same_corner (firsts cones) (length s.polygons) (tally (low_at s.d s.polygons) (all_sides s.polygons)) followed steps_back (represents cones a) (omega arith) in
      let even = r.1 in
      let long = length-map cones (λ (cone : Cone). cone.first) in
      (r.0, omega arith)
