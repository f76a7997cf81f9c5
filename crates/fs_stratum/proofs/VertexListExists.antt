-- A surface has a list of vertices.
use Rattle.std.proofs.Common.{◌≡◌, ◌⊎◌, inl, inr, ℕ, zero, suc, ◌+◌, List, [], ◌∷◌, ◌++◌, length, map, sym, refl, subst, arith}
use Rattle.std.proofs.lemmas.List.Elements.{Contains-append_left, Contains-push}
use Rattle.std.specs.List.{AllByRecursion}
use Rattle.std.specs.declared.cmp.Ordering.TheVariants.{Less}
use Rattle.fs_lists.specs.Members.{IsIn}
use Rattle.fs_lists.proofs.All.{All-append, All-weaker}
use Rattle.fs_lists.proofs.Members.{in_append_cases}
use Rattle.fs_plane.specs.declared.corners.Corner.{Corner}
use Rattle.fs_gluing.specs.Gluing.{corner_cmp, sides_between}
use Rattle.fs_gluing.specs.Polygons.{HasSide, sides_from, all_sides}
use Rattle.fs_gluing.specs.Surface.{GluedPolygons, IsTranslationSurface}
use Rattle.fs_gluing.specs.Vertices.{AreOneVertex, HoldsEast, IsCount, IsConeNumber}
use Rattle.fs_stratum.specs.declared.cones.Cone.{Cone}
use Rattle.fs_stratum.specs.VertexList.{IsVertex, AreVertices, AreAscending}
use Rattle.fs_gluing.proofs.Sides.CornerOrder.{less_of, not_less_itself, not_less_both_ways}
use Rattle.fs_gluing.proofs.Sides.AllSides.{corner, row_in, sides_from_in, in_all_sides, all_sides_in}
use Rattle.fs_gluing.proofs.Sides.VertexOrbits.{has_one_vertex, one_vertex_self, one_vertex_trans, one_vertex_comm}
use Rattle.fs_stratum.proofs.VerticesFound.{ascending_push, IsListed}

-- ---- what isn't refuted

either : (P : Type 0) → (P ⊎ ¬ P → ⊥) → ⊥
either P refuted = refuted (inr (λ p. refuted (inl p)))

count_exists : (P : Corner → Type 0) (xs : List Corner) → ((k : ℕ) → IsCount P xs k → ⊥) → ⊥
count_exists P [] refuted = refuted 0 refl
count_exists P (x ∷ xs) refuted =
    count_exists P xs (λ k h. either (P x) (λ c. elim c [
      | inl p ↦ refuted (suc k) (inl (p, (k, refl, h)))
      | inr q ↦ refuted k (inr (q, h))
    ]))

-- ---- the sides are in order

-- each corner is less than all after it in the list
abbrev IsSorted : List Corner → Type 0
IsSorted [] = Unit {0}
IsSorted (c ∷ corners) = ((e : Corner) → IsIn e corners → corner_cmp c e ≡ Less) × IsSorted corners

sorted-append : (xs ys : List Corner) → IsSorted xs → IsSorted ys → ((x y : Corner) → IsIn x xs → IsIn y ys → corner_cmp x y ≡ Less) → IsSorted (xs ++ ys)
sorted-append [] ys a b less = b
sorted-append (x ∷ xs) ys a b less = (
  (λ e h. elim (in_append_cases e xs ys h) [ inl k ↦ a.0 e k | inr k ↦ less x e (inl refl) k ]),
  sorted-append xs ys a.1 b (λ u v h k. less u v (inr h) k),
)

row_sorted : (i a n : ℕ) → IsSorted (sides_between i a n)
row_sorted i a zero = tt
row_sorted i a (suc n) = (
  (λ e h. let r = row_in i (a + 1) n e h in let p = r.0 in let l = r.1 in less_of (corner i a) e (inr (omega arith, omega arith))),
  row_sorted i (a + 1) n,
)

sides_from_sorted : {X : Type 0} (i : ℕ) (polygons : List (List X)) → IsSorted (sides_from i polygons)
sides_from_sorted i [] = tt
sides_from_sorted i (polygon ∷ polygons) =
    sorted-append (sides_between i 0 (length polygon)) (sides_from (i + 1) polygons) (row_sorted i 0 (length polygon)) (sides_from_sorted (i + 1) polygons)
    (λ c e h k.
    let p = (row_in i 0 (length polygon) c h).0 in
    let q = (sides_from_in (i + 1) polygons e k).is in
    less_of c e (inl (omega arith)))

-- ---- corner after corner

module _ (s : GluedPolygons) (surface : IsTranslationSurface s) where
  -- the cones are the vertices of the corners that aren't in the rest
  record AreBefore (rest : List Corner) (cones : List Cone) : Type 0 where
    each : AllByRecursion (IsVertex s) cones
    ascending : AreAscending (map (λ (cone : Cone). cone.first) cones)
    earlier : AllByRecursion (λ (cone : Cone). (e : Corner) → IsIn e rest → corner_cmp cone.first e ≡ Less) cones
    there : (e : Corner) → IsIn e rest → HasSide s.polygons e
    sorted : IsSorted rest
    listed : (e : Corner) → HasSide s.polygons e → IsIn e rest ⊎ IsListed s cones e

  kept : (cones : List Cone) (cone : Cone) (e : Corner) → IsListed s cones e → IsListed s (cones ++ cone ∷ []) e
  kept cones cone e h = (h.0, Contains-append_left cones (cone ∷ []) h.0 h.1, h.2)

  before_none : AreBefore (all_sides s.polygons) []
  before_none = record {
    each = tt;
    ascending = tt;
    earlier = tt;
    there = all_sides_in s.polygons;
    sorted = sides_from_sorted 0 s.polygons;
    listed = λ e h. inl (in_all_sides s.polygons e h);
  }

  -- the corner is of a listed vertex
  before_seen : (c : Corner) (rest : List Corner) (cones : List Cone) → AreBefore (c ∷ rest) cones → IsListed s cones c → AreBefore rest cones
  before_seen c rest cones b seen = record {
    each = b.each;
    ascending = b.ascending;
    earlier = All-weaker cones (λ cone f e i. f e (inr i)) b.earlier;
    there = λ e i. b.there e (inr i);
    sorted = b.sorted.1;
    listed = λ e h. elim (b.listed e h) [
      | inl i ↦ elim i [ inl same ↦ inr (subst (IsListed s cones) (sym same) seen) | inr j ↦ inl j ]
      | inr l ↦ inr l
    ];
  }

  -- the corner is the least of its vertex
  before_new : (c : Corner) (rest : List Corner) (cones : List Cone) (k : ℕ) → AreBefore (c ∷ rest) cones → ¬ IsListed s cones c → IsConeNumber s c k
      → AreBefore rest (cones ++ (record { first = c; k = k }) ∷ [])
  before_new c rest cones k b new number =
      let cone : Cone = record { first = c; k = k } in
      let has = b.there c (inl refl) in
      record {
        each = All-append (IsVertex s) cones (cone ∷ []) b.each (
          record {
            there = has;
            least = λ e o l. elim (b.listed e (has_one_vertex s.polygons surface.glued c e has o)) [
              | inl i ↦ elim i [
                | inl same ↦ not_less_itself c (subst (λ x. corner_cmp x c ≡ Less) same l)
                | inr j ↦ not_less_both_ways c e (b.sorted.0 e j) l
              ]
              | inr f ↦ new (f.0, f.1, one_vertex_trans s.polygons f.0.first e c f.2 (one_vertex_comm s.polygons surface.glued c e has o))
            ];
            number = number;
          },
          tt,
        );
        ascending = ascending_push cones cone b.ascending
            (All-weaker cones (λ x f. f c (inl refl)) b.earlier);
        earlier = All-append (λ (x : Cone). (e : Corner) → IsIn e rest → corner_cmp x.first e ≡ Less) cones (cone ∷ [])
            (All-weaker cones (λ x f e i. f e (inr i)) b.earlier)
            (b.sorted.0, tt);
        there = λ e i. b.there e (inr i);
        sorted = b.sorted.1;
        listed = λ e h. elim (b.listed e h) [
          | inl i ↦ elim i [
            | inl same ↦ inr (cone, Contains-push cones cone, subst (AreOneVertex s.polygons c) (sym same) (one_vertex_self s.polygons c))
            | inr j ↦ inl j
          ]
          | inr l ↦ inr (kept cones cone e l)
        ];
      }

  list_from : (rest : List Corner) (cones : List Cone) → AreBefore rest cones → ((cones : List Cone) → AreVertices s cones → ⊥) → ⊥
  list_from [] cones b refuted = refuted cones (record { each = b.each; ascending = b.ascending; all = λ c h. elim (b.listed c h) [ inl i ↦ absurd i | inr l ↦ l ] })
  list_from (c ∷ rest) cones b refuted = either (IsListed s cones c) (λ known. elim known [
    | inl seen ↦ list_from rest cones (before_seen c rest cones b seen) refuted
    | inr new ↦ count_exists (λ e. AreOneVertex s.polygons c e × HoldsEast s e) (all_sides s.polygons)
        (λ k number. list_from rest (cones ++ (record { first = c; k = k }) ∷ []) (before_new c rest cones k b new number) refuted)
  ])

  pub vertex_list_exists : ((cones : List Cone) → AreVertices s cones → ⊥) → ⊥
  vertex_list_exists refuted = list_from (all_sides s.polygons) [] before_none refuted
