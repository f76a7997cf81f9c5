-- A list of vertices has a genus.
use Rattle.std.proofs.Common.{◌⊎◌, inl, inr, ℕ, ◌≤◌, List, [], ◌∷◌, sum_by, sym, refl, subst}
use Rattle.std.proofs.lemmas.List.Sums.{sum_by-cons}
use Rattle.std.specs.List.{AllByRecursion}
use Rattle.fs_lists.specs.Members.{IsIn}
use Rattle.fs_lists.proofs.Members.{in_of_contains, in_map, All-member}
use Rattle.fs_plane.specs.declared.corners.Corner.{Corner}
use Rattle.fs_gluing.specs.Polygons.{all_sides}
use Rattle.fs_gluing.specs.Surface.{GluedPolygons, IsTranslationSurface}
use Rattle.fs_gluing.specs.Vertices.{AreOneVertex, HoldsEast, IsCount}
use Rattle.fs_stratum.specs.declared.cones.Cone.{Cone}
use Rattle.fs_stratum.specs.VertexList.{IsVertex, AreVertices, AreAscending, HasGenus}
use Rattle.fs_gluing.proofs.Sides.AllSides.{all_sides_in}
use Rattle.fs_gluing.proofs.Sides.VertexOrbits.{one_vertex_trans, one_vertex_comm}
use Rattle.fs_stratum.proofs.CornerCounts.{count_same, count_none, count_join}
use Rattle.fs_stratum.proofs.ConeNumberPositive.{cone_number_positive}
use Rattle.fs_stratum.proofs.Parity.{firsts, ascending_tail, ascending_less, has_even_sum}
use Rattle.fs_stratum.proofs.EulerSum.{has_genus}

module _ (s : GluedPolygons) (surface : IsTranslationSurface s) where
  all_positive : (cones : List Cone) → AllByRecursion (IsVertex s) cones → AllByRecursion (λ cone. 1 ≤ cone.k) cones
  all_positive [] all = tt
  all_positive (x ∷ cones) all = (cone_number_positive s surface x.first x.k all.0.there all.0.number, all_positive cones all.1)

  -- the corner is of one of these vertices
  abbrev IsOfThese : List Cone → Corner → Type 0
  IsOfThese cones e = (cone : Cone) × IsIn cone cones × AreOneVertex s.polygons cone.first e

  of_these_cases : (x : Cone) (cones : List Cone) (e : Corner) → IsOfThese (x ∷ cones) e → AreOneVertex s.polygons x.first e ⊎ IsOfThese cones e
  of_these_cases x cones e h = elim h.1 [ inl same ↦ inl (subst (λ (cone : Cone). AreOneVertex s.polygons cone.first e) same h.2) | inr i ↦ inr (h.0, i, h.2) ]

  -- a vertex isn't listed later again
  not_of_later : (x : Cone) (cones : List Cone) → AllByRecursion (IsVertex s) (x ∷ cones) → AreAscending (firsts (x ∷ cones)) → (e : Corner) → AreOneVertex s.polygons x.first e → IsOfThese cones e → ⊥
  not_of_later x cones all a e o h =
      let there = all.0.there in
      (All-member (IsVertex s) cones h.0 all.1 h.1).least x.first
      (one_vertex_trans s.polygons h.0.first e x.first h.2 (one_vertex_comm s.polygons surface.glued x.first e there o))
      (ascending_less x cones a h.0.first (in_map (λ (cone : Cone). cone.first) h.0 cones h.1))

  -- each corner of these vertices that holds (1,0) is counted at its vertex
  total_of_these : (cones : List Cone) → AllByRecursion (IsVertex s) cones → AreAscending (firsts cones)
      → IsCount (λ e. IsOfThese cones e × HoldsEast s e) (all_sides s.polygons) (sum_by (λ (cone : Cone). cone.k) cones)
  total_of_these [] all a = count_none _ (all_sides s.polygons) (λ e i p. p.0.1)
  total_of_these (x ∷ cones) all a =
      subst (IsCount (λ e. IsOfThese (x ∷ cones) e × HoldsEast s e) (all_sides s.polygons)) (sym (sum_by-cons (λ (cone : Cone). cone.k) x cones))
      (count_join (λ e. AreOneVertex s.polygons x.first e × HoldsEast s e) (λ e. IsOfThese cones e × HoldsEast s e) (λ e. IsOfThese (x ∷ cones) e × HoldsEast s e)
      (all_sides s.polygons) x.k (sum_by (λ (cone : Cone). cone.k) cones)
      (λ e p q. not_of_later x cones all a e p.0 q.0) (λ e p. ((x, inl refl, p.0), p.1)) (λ e q. ((q.0.0, inr q.0.1, q.0.2), q.1))
      (λ e r. elim (of_these_cases x cones e r.0) [ inl o ↦ inl (o, r.1) | inr h ↦ inr (h, r.1) ])
      all.0.number (total_of_these cones all.1 (ascending_tail x cones a)))

  total_of_all : (cones : List Cone) → AreVertices s cones → IsCount (HoldsEast s) (all_sides s.polygons) (sum_by (λ (cone : Cone). cone.k) cones)
  total_of_all cones c =
      count_same (λ e. IsOfThese cones e × HoldsEast s e) (HoldsEast s) (all_sides s.polygons) _ (λ e i p. p.1)
      (λ e i h. let f = c.all e (all_sides_in s.polygons e i) in ((f.0, in_of_contains f.0 cones f.1, f.2), h))
      (total_of_these cones c.each c.ascending)

  -- a list of vertices has a genus
  pub genus_exists : (cones : List Cone) → AreVertices s cones → (g : ℕ) × HasGenus s cones g
  genus_exists cones c = has_genus s surface cones (all_positive cones c.each) (total_of_all cones c) (has_even_sum s surface cones c)
