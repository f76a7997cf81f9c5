-- The saddle list of a mesh is that of its surface.
use Rattle.std.proofs.Common.{◌≡◌, ◌⊎◌, ◌==◌, ◌&&◌, ℕ, Bool, false, Ok, List, [], ◌∷◌, refl, sym, ap, ◌∙◌, subst, inl, inr}
use Rattle.std.specs.Bool.{Decides}
use Rattle.std.specs.List.{AllByRecursion, IsDistinct}
use Rattle.std.specs.Ordering.{eq_by_cmp}
use Rattle.std.specs.Cmp.{Equal-is, eq_by_cmp_equiv}
use Rattle.std.proofs.lemmas.Bool.{cases_Bool}
use Rattle.std.proofs.lemmas.Bool.Decides.{Decides-eqb, Decides-and, Decides-like}
use Rattle.std.proofs.lemmas.List.Sorted.{IsPermutation-sym}
use Rattle.std.proofs.lemmas.Map.Keys.{IsDistinct-IsPermutation}
use mathlib.Core.HLevel.{⊥_prop}
use mathlib.Core.Logic.{∥∥₁_map, ∥∥₁_elim}
use Rattle.fs_lists.specs.Members as members
use Rattle.fs_lists.specs.Members.{IsIn}
use Rattle.fs_lists.proofs.Members.{All-member}
use Rattle.fs_ring.specs.Operations.{Operations}
use Rattle.fs_ring.specs.OrderedRing.{IsOrderedRing}
use Rattle.fs_ring.specs.Vector.{Vector}
use Rattle.fs_convex.specs.Turning.{DecidesHalfPlanes}
use Rattle.fs_quadratic.specs.Ring.{Quadratic, quadratic, IsPositive}
use Rattle.fs_quadratic.proofs.Laws.{field_order}
use Rattle.fs_plane.specs.declared.corners.Corner.{Corner}
use Rattle.fs_plane.specs.declared.listing.Listed.{Listed}
use Rattle.fs_plane.specs.EqualVectors.{Decides-is_same_vector}
use Rattle.fs_plane.specs.ListedLaws.{listed_total}
use Rattle.fs_plane.specs.ListedOrder.{listed_cmp}
use Rattle.fs_plane.specs.Vector.{PlaneVector, is_same_vector}
use Rattle.fs_plane.proofs.EqualListed.{listed_exact}
use Rattle.fs_paths.specs.SideGluing.{SideGluing, IsSide, AreGluedPolygons}
use Rattle.fs_paths.proofs.CornerRounds.{nth_corner_there}
use Rattle.fs_paths.proofs.Words.{sector_of_reaches}
use Rattle.fs_cuts.proofs.SegmentsAfter.{LeadsToCorner}
use Rattle.fs_cuts.proofs.Steps.{IsDirectionAt}
use Rattle.fs_carried.specs.Carried.{IsCarriedTo}
use Rattle.fs_carried.proofs.EqualSegments.{carried_to, carried_to_unique, carried_to_from_unique, leads_to, leads_from}
use Rattle.fs_gluing.specs.Homes.{home_of}
use Rattle.fs_gluing.specs.Polygons.{HasSide}
use Rattle.fs_gluing.specs.SurfaceSides.{polygon_sides, is_ahead}
use Rattle.fs_gluing.specs.Triangulation.{face_sides}
use Rattle.fs_gluing.proofs.Sides.GluedSurface.{glued_polygons}
use Rattle.fs_gluing.proofs.Sides.HalfPlaneTests.{decides_half_planes}
use Rattle.fs_mesh.specs.Meshes.{MeshValue, IsMesh, IsCutWithHomes}
use Rattle.fs_mesh.proofs.HalfEdgeNumbers.{number_of_side}
use Rattle.fs_mesh.proofs.HomesCarried.{carried_from_found}
use Rattle.fs_fan.specs.declared.fans.Ray.{Ray}
use Rattle.fs_fan.specs.Search.{IsShort, IsShortSegment}
use Rattle.fs_saddles.specs.Saddles.{bound_of, IsEntryOf, AreEntriesOf, IsSaddlesOf}
use Rattle.fs_saddles.specs.WholeLists.{LeadsToVertex, IsSaddle, IsSaddleListOf}
use Rattle.fs_saddles.proofs.OrderedEntries.{each_entry, some_entry, all_permuted, strictly_sorted}

-- a vector that leads to a corner from a side's start is a direction there
direction_of_lead : {A : Type 0} (R : Operations A) (IsPositive : A → Type 0) {X : Type 0} (G : SideGluing X A) (c : X) (v : Vector A)
    → IsSide G c → LeadsToCorner R IsPositive G c v → IsDirectionAt R IsPositive G c v
direction_of_lead R IsPositive G c v side l = record { corner = side; sector = sector_of_reaches R IsPositive G v c l.0 l.2.last l.2.put l.2.reached }

-- ---- entries by corner and vector

-- an entry has this corner and this vector
abbrev IsAt : Corner → PlaneVector → Listed → Type 0
IsAt c v entry = (entry.start ≡ c) × (entry.v ≡ v)

abbrev is_at : Corner → PlaneVector → Listed → Bool
is_at c v entry = ((entry.start.polygon == c.polygon) && (entry.start.side == c.side)) && is_same_vector entry.v v

Decides-same_corner : (a b : Corner) → Decides ((a.polygon == b.polygon) && (a.side == b.side)) (a ≡ b)
Decides-same_corner a b = Decides-like _
    (λ e i. record { polygon = e.0 i; side = e.1 i })
    (λ e. (ap (λ (c : Corner). c.polygon) e, ap (λ (c : Corner). c.side) e))
    (Decides-and _ _ (Decides-eqb a.polygon b.polygon) (Decides-eqb a.side b.side))

Decides-is_at : (c : Corner) (v : PlaneVector) (entry : Listed) → Decides (is_at c v entry) (IsAt c v entry)
Decides-is_at c v entry = Decides-and _ _ (Decides-same_corner entry.start c) (Decides-is_same_vector entry.v v)

-- some entry of the list has them, or none
find_entry : (c : Corner) (v : PlaneVector) (list : List Listed) → ((entry : Listed) × IsIn entry list × IsAt c v entry) ⊎ AllByRecursion (λ entry. ¬ IsAt c v entry) list
find_entry c v [] = inr tt
find_entry c v (entry ∷ list) = elim (cases_Bool (is_at c v entry)) [
  | inl e ↦ inl (entry, inl refl, (Decides-is_at c v entry).0 e)
  | inr e ↦ elim (find_entry c v list) [
    | inl r ↦ inl (r.0, inr r.1, r.2)
    | inr none ↦ inr ((λ at. let f = sym e ∙ (Decides-is_at c v entry).1 at in cc), none)
  ]
]

module _ (m : MeshValue) (mesh : IsMesh m) where
  abbrev L : IsOrderedRing (quadratic m.surface.d) (IsPositive m.surface.d)
  L = field_order mesh.surface.radicand

  abbrev test : DecidesHalfPlanes (quadratic m.surface.d) (IsPositive m.surface.d) (is_ahead m.surface.d)
  test = decides_half_planes mesh.surface.radicand

  glued : AreGluedPolygons (quadratic m.surface.d) (IsPositive m.surface.d) (is_ahead m.surface.d) (polygon_sides m.surface.polygons)
  glued = glued_polygons m.surface mesh.surface.surface

  abbrev Cut : Type 0
  Cut = IsCutWithHomes m.surface m.triangles m.homes

  abbrev Carried : Cut → Corner → PlaneVector → ℕ → Type 0
  Carried k c v h = IsCarriedTo (quadratic m.surface.d) (IsPositive m.surface.d) (is_ahead m.surface.d) k.equal c v h

  abbrev AtCorner : Corner → PlaneVector → Type 0
  AtCorner c v = IsDirectionAt (quadratic m.surface.d) (IsPositive m.surface.d) (polygon_sides m.surface.polygons) c v

  lead_at_corner : (c : Corner) (v : PlaneVector) → HasSide m.surface.polygons c → LeadsToVertex m.surface c v → AtCorner c v
  lead_at_corner c v side l = direction_of_lead (quadratic m.surface.d) (IsPositive m.surface.d) (polygon_sides m.surface.polygons) c v side l

  module _ (limit : Quadratic) where
    abbrev Short : ℕ → PlaneVector → Type 0
    Short h v = IsShortSegment m.surface.d m.triangles (bound_of m.surface.d m.surface.den limit) h v

    -- ---- the entry of a ray

    module _ (ray : Ray) (entry : Listed) (is : IsEntryOf m ray entry) (segment : Short ray.half_edge ray.v) where
      entry_direction : AtCorner entry.start ray.v
      entry_direction = record {
        corner = subst (IsSide (polygon_sides m.surface.polygons)) (sym is.corner.is)
            (nth_corner_there glued is.corner.corners (home_of m.homes ray.half_edge) (mesh.homes.corner ray.half_edge segment.there));
        sector = is.corner.holds;
      }

      -- it is carried to the ray
      entry_carried : (k : Cut) → Carried k entry.start ray.v ray.half_edge
      entry_carried k =
          carried_from_found m mesh ray.half_edge segment.there ray.v (Ok entry.start) is.corner k.equal k.carried
          (sector_of_reaches (quadratic m.surface.d) (IsPositive m.surface.d) (face_sides m.triangles) ray.v ray.half_edge segment.word segment.segment.last segment.segment.put segment.segment.reached)

      -- and is a saddle connection of the surface
      entry_saddle : IsSaddle m.surface limit entry.start entry.v
      entry_saddle = subst (λ v. IsSaddle m.surface limit entry.start v) (sym is.vector) (record {
        corner = entry_direction.corner;
        leads = ∥∥₁_map mesh.cut (λ k. leads_from L test glued k.equal entry.start ray.v ray.half_edge entry_direction (entry_carried k) (segment.word, segment.end, segment.segment));
        short = segment.short;
      })

    module _ (list : List Listed) (saddles : IsSaddlesOf m limit list) where
      segment_of : (ray : Ray) → IsIn ray saddles.found → Short ray.half_edge ray.v
      segment_of ray h = (saddles.segments ray.half_edge ray.v).0 h

      -- what holds of the entry of each ray holds of each entry of the list
      all_listed : (P : Listed → Type 0) → ((ray : Ray) (entry : Listed) → IsIn ray saddles.found → IsEntryOf m ray entry → P entry) → (entry : Listed) → IsIn entry list → P entry
      all_listed P f entry h =
          All-member P list entry
          (all_permuted P saddles.entries.entries list saddles.entries.all (each_entry m P saddles.found saddles.entries.entries saddles.entries.each f)) h

      only : (entry : Listed) → IsIn entry list → IsSaddle m.surface limit entry.start entry.v
      only = all_listed (λ entry. IsSaddle m.surface limit entry.start entry.v) (λ ray entry h is. entry_saddle ray entry is (segment_of ray h))

      -- ---- each saddle connection is in the list

      not_absent : (c : Corner) (v : PlaneVector) → HasSide m.surface.polygons c → IsShort m.surface.d (bound_of m.surface.d m.surface.den limit) v
          → Cut → LeadsToVertex m.surface c v → ¬ AllByRecursion (λ entry. ¬ IsAt c v entry) list
      not_absent c v side short k lead none =
          let a = lead_at_corner c v side lead in
          let r = carried_to L test glued k.equal c v a in
          let l = leads_to L test glued k.equal c v r.0 a r.1 lead in
          let segment : Short r.0 v = record { there = number_of_side m.triangles r.0 r.2.corner; word = l.0; end = l.1; segment = l.2; short = short } in
          let ray : Ray = record { half_edge = r.0; v = v } in
          let entry = some_entry m (λ entry. ¬ IsAt c v entry) saddles.found saddles.entries.entries saddles.entries.each ray ((saddles.segments r.0 v).1 segment)
          (all_permuted (λ entry. ¬ IsAt c v entry) list saddles.entries.entries (IsPermutation-sym saddles.entries.entries list saddles.entries.all) none) in
          let same = carried_to_from_unique L test glued k.equal entry.0.start c v r.0 (entry_direction ray entry.0 entry.1 segment) a (entry_carried ray entry.0 entry.1 segment k) r.1 in
          entry.2 (same, entry.1.vector)

      all : (c : Corner) (v : PlaneVector) → IsSaddle m.surface limit c v → (entry : Listed) × IsIn entry list × (entry.start ≡ c) × (entry.v ≡ v)
      all c v saddle = elim (find_entry c v list) [
        | inl r ↦ (r.0, r.1, r.2.0, r.2.1)
        | inr none ↦ absurd {A = (entry : Listed) × IsIn entry list × (entry.start ≡ c) × (entry.v ≡ v)}
            (∥∥₁_elim mesh.cut ⊥_prop (λ k. ∥∥₁_elim saddle.leads ⊥_prop (λ lead. not_absent c v saddle.corner saddle.short k lead none)))
      ]

      -- ---- no entry is in it twice

      same_ray : (one other : Ray) (entry its : Listed) → IsEntryOf m one entry → IsEntryOf m other its → Short one.half_edge one.v → Short other.half_edge other.v
          → entry ≡ its → Cut → one ≡ other
      same_ray one other entry its is is_too segment segment_too e k =
          let vectors = sym is.vector ∙ ap (λ (l : Listed). l.v) e ∙ is_too.vector in
          let carried = subst (λ v. Carried k its.start v other.half_edge) (sym vectors) (entry_carried other its is_too segment_too k) in
          let half_edges = carried_to_unique L test glued k.equal entry.start one.v one.half_edge other.half_edge (entry_carried one entry is segment k)
          (subst (λ c. Carried k c one.v other.half_edge) (sym (ap (λ (l : Listed). l.start) e)) carried) in
          λ i. record { half_edge = half_edges i; v = vectors i }

      tell_apart : (rays : List Ray) (entries : List Listed) → AreEntriesOf m rays entries → members.IsDistinct rays → ((ray : Ray) → IsIn ray rays → Short ray.half_edge ray.v)
          → IsDistinct (eq_by_cmp listed_cmp) entries
      unfolding IsDistinct
      tell_apart [] [] are once segments = tt
      tell_apart [] (entry ∷ entries) are once segments = absurd are
      tell_apart (ray ∷ rays) [] are once segments = absurd are
      tell_apart (ray ∷ rays) (entry ∷ entries) are once segments = (
        each_entry m (λ its. eq_by_cmp listed_cmp entry its ≡ false) rays entries are.1 (λ other its h is. elim (cases_Bool (eq_by_cmp listed_cmp entry its)) [
          | inl e ↦ absurd (∥∥₁_elim mesh.cut ⊥_prop (λ k. once.0 other h
              (same_ray ray other entry its are.0 is (segments ray (inl refl)) (segments other (inr h)) (listed_exact entry its ((Equal-is (listed_cmp entry its)).0 e)) k)))
          | inr e ↦ e
        ]),
        tell_apart rays entries are.1 once.1 (λ other h. segments other (inr h)),
      )

      whole : IsSaddleListOf m.surface limit list
      whole = record {
        ascending = strictly_sorted listed_total list saddles.entries.ascending
            (IsDistinct-IsPermutation (eq_by_cmp listed_cmp) (eq_by_cmp_equiv listed_total).symm saddles.entries.entries list saddles.entries.all
            (tell_apart saddles.found saddles.entries.entries saddles.entries.each saddles.once segment_of));
        field = all_listed (λ entry. entry.field.d ≡ m.surface.d) (λ ray entry h is. is.field);
        only = only;
        all = all;
      }

-- the saddle list of a mesh is that of its surface
pub whole_list : (m : MeshValue) → IsMesh m → (limit : Quadratic) (list : List Listed) → IsSaddlesOf m limit list → IsSaddleListOf m.surface limit list
whole_list m mesh limit list saddles = whole m mesh limit list saddles
