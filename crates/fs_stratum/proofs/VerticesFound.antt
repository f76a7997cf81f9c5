-- The vertices that are found corner by corner, and the order of corners.
use Rattle.std.proofs.Common.{◌≡◌, inl, inr, ℕ, ◌+◌, ◌<◌, Bool, true, false, List, [], ◌∷◌, ◌++◌, length, map, sym, ap, ◌∙◌, subst, arith}
use Rattle.std.proofs.lemmas.Bool.{cases_eq, cases_Bool}
use Rattle.std.proofs.lemmas.List.Elements.{Contains-append_left, Contains-push, Contains-push_cases}
use Rattle.std.specs.Bool.{IsTrue}
use Rattle.std.specs.Option.{IsSome, IfSome, option_and_then}
use Rattle.std.specs.List.{AllByRecursion, Contains, slice_get}
use Rattle.std.specs.declared.cmp.Ordering.TheVariants.{Less}
use Rattle.std.proofs.lemmas.Option.{slice_get_within}
use Rattle.fs_lists.proofs.All.{All-append, All-weaker}
use Rattle.fs_lists.proofs.Items.{some_of_inside, value_of}
use Rattle.fs_plane.specs.declared.corners.Corner.{Corner}
use Rattle.fs_gluing.specs.declared.surfaces.Side.{Side}
use Rattle.fs_gluing.specs.Gluing.{corner_cmp}
use Rattle.fs_gluing.specs.Polygons.{HasSide}
use Rattle.fs_gluing.specs.Surface.{GluedPolygons, IsTranslationSurface}
use Rattle.fs_gluing.specs.Vertices.{AreOneVertex, IsConeNumber}
use Rattle.fs_gluing.proofs.SurfaceCalls.NextCorner.{in_polygon}
use Rattle.fs_stratum.specs.declared.cones.Cone.{Cone}
use Rattle.fs_stratum.specs.VertexList.{IsVertex, AreAscending, AreVertices}
use Rattle.fs_stratum.specs.CornerMarks.{is_marked, AreUnmarked, MarksVertex}
use Rattle.fs_stratum.specs.VerticesFound.{AreFoundBefore}
use Rattle.fs_gluing.proofs.Sides.CornerOrder.{less_of, of_less, to_next, here_next, next_cases, to_row}
use Rattle.fs_gluing.proofs.Sides.AllSides.{corner}
use Rattle.fs_gluing.proofs.Sides.VertexOrbits.{has_one_vertex, one_vertex_self, one_vertex_trans, one_vertex_comm}
use Rattle.fs_stratum.proofs.VertexMarks.{not_both}

-- ---- lists of vertices

-- a list that ascends up to a greater corner ascends with it
pub ascending_push : (cones : List Cone) (cone : Cone) → AreAscending (map (λ (c : Cone). c.first) cones) → AllByRecursion (λ c. corner_cmp c.first cone.first ≡ Less) cones
    → AreAscending (map (λ (c : Cone). c.first) (cones ++ cone ∷ []))
ascending_push [] cone h a = tt
ascending_push (x ∷ []) cone h a = (a.0, tt)
ascending_push (x ∷ (y ∷ cones)) cone h a = (h.0, ascending_push (y ∷ cones) cone h.1 a.1)

module _ (s : GluedPolygons) where
  -- the corner is of one of these vertices
  abbrev pub IsListed : List Cone → Corner → Type 0
  IsListed cones e = (cone : Cone) × Contains cones cone × AreOneVertex s.polygons cone.first e

  -- before the first corner no vertex is found
  pub found_none : (marks : List (List Bool)) → AreUnmarked s.polygons marks → AreFoundBefore s (corner 0 0) marks []
  found_none marks u = record {
    covers = u.covers;
    each = tt;
    ascending = tt;
    earlier = tt;
    marked = λ e. ((λ h. absurd (not_both h (u.none e))), (λ h. let l = h.1.1 in absurd (omega arith)));
    passed = λ e has h. elim (of_less e (corner 0 0) h) [ inl l ↦ absurd (omega arith) | inr k ↦ let l = k.1 in absurd (omega arith) ];
  }

  -- the same for equal marks and equal lists
  pub found_same : (c : Corner) {marks more : List (List Bool)} {cones others : List Cone} → more ≡ marks → others ≡ cones → AreFoundBefore s c marks cones → AreFoundBefore s c more others
  found_same c {marks} {more} {cones} {others} e f found = subst (λ x. AreFoundBefore s c more x) (sym f) (subst (λ x. AreFoundBefore s c x cones) (sym e) found)

  -- a greater corner, where the corners between are of vertices that were found
  found_later : (c e : Corner) (marks : List (List Bool)) (cones : List Cone) → AreFoundBefore s c marks cones → ((x : Corner) → corner_cmp x c ≡ Less → corner_cmp x e ≡ Less)
      → ((x : Corner) → HasSide s.polygons x → corner_cmp x e ≡ Less → IsTrue (is_marked marks x)) → AreFoundBefore s e marks cones
  found_later c e marks cones f later passed = record {
    covers = f.covers;
    each = f.each;
    ascending = f.ascending;
    earlier = All-weaker cones (λ x. later x.first) f.earlier;
    marked = f.marked;
    passed = passed;
  }

  -- a marked corner is of a vertex that was found
  pub found_seen : (i j : ℕ) (marks : List (List Bool)) (cones : List Cone) → AreFoundBefore s (corner i j) marks cones → is_marked marks (corner i j) ≡ true → AreFoundBefore s (corner i (j + 1)) marks cones
  found_seen i j marks cones f seen =
      found_later (corner i j) (corner i (j + 1)) marks cones f (λ x. to_next x i j)
      (λ e has h. elim (next_cases e i j h) [ inl l ↦ f.passed e has l | inr same ↦ ap (is_marked marks) (sym same) ∙ seen ])

  -- after the last corner of a polygon comes the first of the next
  pub found_row : (i n : ℕ) (marks : List (List Bool)) (cones : List Cone) → AreFoundBefore s (corner i n) marks cones → IfSome (slice_get s.polygons i) (λ polygon. n ≡ length polygon)
      → AreFoundBefore s (corner (i + 1) 0) marks cones
  found_row i n marks cones f is =
      found_later (corner i n) (corner (i + 1) 0) marks cones f (λ x. to_row x i n)
      (λ e has h. f.passed e has (less_of e (corner i n) (elim (of_less e (corner (i + 1) 0) h) [
        | inl l ↦ elim (cases_eq e.polygon i) [
          | inl same ↦
              let st = in_polygon s.polygons e has in
              let long : n ≡ length st.polygon = subst (λ o. IfSome o (λ (polygon : List Side). n ≡ length polygon)) (ap (slice_get s.polygons) (sym same) ∙ st.is) is in
              let inside = st.inside in
              inr (same, omega arith)
          | inr apart ↦ inl (omega arith)
        ]
        | inr k ↦ let l = k.1 in absurd (omega arith)
      ])))

  -- side j of polygon i exists
  pub has_in_row : (i j n : ℕ) → i < length s.polygons → IfSome (slice_get s.polygons i) (λ polygon. n ≡ length polygon) → j < n → HasSide s.polygons (corner i j)
  has_in_row i j n l is m =
      let r = value_of (slice_get s.polygons i) (some_of_inside s.polygons i l) in
      let long : n ≡ length r.value = subst (λ o. IfSome o (λ (polygon : List Side). n ≡ length polygon)) r.is is in
      subst (λ o. IsSome (option_and_then (λ (polygon : List Side). slice_get polygon j) o)) (sym r.is) (some_of_inside r.value j (omega arith))

  -- so does the corner with these numbers
  pub has_corner_in_row : {c : Corner} {i j n : ℕ} → c ≡ corner i j → i < length s.polygons → IfSome (slice_get s.polygons i) (λ polygon. n ≡ length polygon) → j < n → HasSide s.polygons c
  has_corner_in_row {c} {i} {j} {n} same l is m = subst (HasSide s.polygons) (sym same) (has_in_row i j n l is m)

  module _ (surface : IsTranslationSurface s) where
    -- where a corner isn't marked, no corner of its vertex is
    pub fresh_of_unmarked : (c : Corner) (marks : List (List Bool)) (cones : List Cone) → HasSide s.polygons c → ((e : Corner) → (IsTrue (is_marked marks e) → IsListed cones e) × (IsListed cones e → IsTrue (is_marked marks e)))
        → is_marked marks c ≡ false → (e : Corner) → AreOneVertex s.polygons c e → is_marked marks e ≡ false
    fresh_of_unmarked c marks cones has marked free e o = elim (cases_Bool (is_marked marks e)) [
      | inl h ↦
          let found = (marked e).0 h in
          absurd (not_both ((marked c).1 (found.0, found.1, one_vertex_trans s.polygons found.0.first e c found.2 (one_vertex_comm s.polygons surface.glued c e has o))) free)
      | inr h ↦ h
    ]

    found_at : (i j k : ℕ) (marks more : List (List Bool)) (cones : List Cone) → HasSide s.polygons (corner i j) → AreFoundBefore s (corner i j) marks cones → is_marked marks (corner i j) ≡ false
        → IsConeNumber s (corner i j) k → MarksVertex s.polygons (corner i j) marks more → AreFoundBefore s (corner i (j + 1)) more (cones ++ (record { first = corner i j; k = k }) ∷ [])
    found_at i j k marks more cones has f free number m =
        let c = corner i j in
        let cone : Cone = record { first = c; k = k } in
        let fresh = fresh_of_unmarked c marks cones has f.marked free in
        let kept : (e : Corner) → IsTrue (is_marked marks e) → IsTrue (is_marked more e) = λ e h. (m.marked e).1 (inl h) in
        record {
          covers = m.covers;
          each = All-append (IsVertex s) cones (cone ∷ []) f.each (
            record {
              there = has;
              least = λ e o l. not_both (f.passed e (has_one_vertex s.polygons surface.glued c e has o) l) (fresh e o);
              number = number;
            },
            tt,
          );
          ascending = ascending_push cones cone f.ascending f.earlier;
          earlier = All-append (λ x. corner_cmp x.first (corner i (j + 1)) ≡ Less) cones (cone ∷ [])
              (All-weaker cones (λ x. to_next x.first i j) f.earlier) (here_next i j, tt);
          marked = λ e. (
            (λ h. elim ((m.marked e).0 h) [
              | inl old ↦ let found = (f.marked e).0 old in (found.0, Contains-append_left cones (cone ∷ []) found.0 found.1, found.2)
              | inr o ↦ (cone, Contains-push cones cone, o)
            ]),
            (λ found. elim (Contains-push_cases cones cone found.0 found.1) [
              | inl old ↦ kept e ((f.marked e).1 (found.0, old, found.2))
              | inr same ↦ (m.marked e).1 (inr (subst (λ (x : Cone). AreOneVertex s.polygons x.first e) (sym same) found.2))
            ]),
          );
          passed = λ e h l. elim (next_cases e i j l) [
            | inl before ↦ kept e (f.passed e h before)
            | inr same ↦ (m.marked e).1 (inr (subst (AreOneVertex s.polygons c) same (one_vertex_self s.polygons c)))
          ];
        }

    -- a corner that isn't marked is the least of a new vertex
    pub found_new : (i j k : ℕ) (marks more : List (List Bool)) (cones : List Cone) (c : Corner) → c ≡ corner i j → HasSide s.polygons c → AreFoundBefore s (corner i j) marks cones → is_marked marks c ≡ false
        → IsConeNumber s c k → MarksVertex s.polygons c marks more → AreFoundBefore s (corner i (j + 1)) more (cones ++ (record { first = c; k = k }) ∷ [])
    found_new i j k marks more cones c is has f free number m =
        subst (λ (x : Corner). AreFoundBefore s (corner i (j + 1)) more (cones ++ (record { first = x; k = k }) ∷ [])) (sym is)
        (found_at i j k marks more cones (subst (HasSide s.polygons) is has) f (subst (λ x. is_marked marks x ≡ false) is free)
        (subst (λ x. IsConeNumber s x k) is number) (subst (λ x. MarksVertex s.polygons x marks more) is m))

  -- ---- after the last polygon

  module _ (n : ℕ) (marks : List (List Bool)) (cones : List Cone) (f : AreFoundBefore s (corner n 0) marks cones) (all : n ≡ length s.polygons) where
    all_marked : (e : Corner) → HasSide s.polygons e → IsTrue (is_marked marks e)
    all_marked e has =
        let st = in_polygon s.polygons e has in
        let l = slice_get_within s.polygons e.polygon st.polygon st.is in
        f.passed e has (less_of e (corner n 0) (inl (omega arith)))

    -- after the last polygon all vertices are found
    pub found_all : AreVertices s cones
    found_all = record { each = f.each; ascending = f.ascending; all = λ c has. (f.marked c).0 (all_marked c has) }
