-- Runs with the numbers by which they are computed: what passes isn't illegal, what fails is, and checked runs are runs.
use Rattle.std.proofs.Common.{◌≡◌, ◌⊎◌, ℕ, zero, suc, ◌<◌, Ok, Err, Result, List, length, refl, sym, ap, ◌∙◌, subst, inl, inr, arith}
use Rattle.std.proofs.lemmas.Bool.{cases_order, cases_lt}
use Rattle.fs_lists.proofs.Results.{ok_equal, ok_not_err}
use Rattle.fs_quadratic.specs.Ring.{Quadratic, IsPositive}
use Rattle.fs_quadratic.specs.Radicand.{IsRadicand}
use Rattle.fs_quadratic.proofs.Laws.{field_order}
use Rattle.fs_quadratic.specs.declared.steps.Place.{Place}
use Rattle.fs_ring.specs.OrderedRing.{positive, null, negative}
use Rattle.fs_ring.proofs.Signs as signs
use Rattle.fs_plane.proofs.CircleLaws.{circle_value}
use Rattle.fs_gluing.specs.Triangulation.{Triangulation, IsEdge, edge_twin}
use Rattle.fs_mesh.specs.FlippedMeshes.{IsFlipOf}
use Rattle.fs_mesh.specs.Meshes.{MeshValue, edge_circle, edge_circle_after, IsIllegal, hinge_after, hinge_before, hinge_after_twin, hinge_before_twin}
use Rattle.fs_delaunay.specs.Runs.{IsDelaunay, IsFirstIllegal, LeadsByFlips, no_flip, flip}
use Rattle.fs_delaunay.specs.CheckedRuns as checked
use Rattle.fs_delaunay.specs.CheckedRuns.{Passes, Fails, AllPass, IsReached, LeadsByChecks}

-- ---- an edge

module _ (d : ℕ) (t : Triangulation) (e : ℕ) where
  -- what the formula gives is the circle value
  pub edge_value : (value : Quadratic) → edge_circle_after d t e ≡ Ok value → value ≡ edge_circle d t e
  edge_value = circle_value 0 d (hinge_after t e) (hinge_before t e) (hinge_after_twin t e) (hinge_before_twin t e)

  -- an edge that passes is legal
  pub legal_of_passes : Passes d t e → ¬ IsIllegal d t e
  legal_of_passes p i = p.legal (subst (IsPositive d) (sym (edge_value p.value p.given)) i)

  -- one that fails is illegal
  pub illegal_of_fails : Fails d t e → IsIllegal d t e
  illegal_of_fails f = subst (IsPositive d) (edge_value f.value f.given) f.illegal

  pub not_passes_and_fails : Passes d t e → Fails d t e → ⊥
  not_passes_and_fails p f = p.legal (subst (IsPositive d) (ok_equal f.value p.value (sym f.given ∙ p.given)) f.illegal)

  pub not_passes_and_overflows : Passes d t e → (place : Place) → edge_circle_after d t e ≡ Err place → ⊥
  not_passes_and_overflows p place o = ok_not_err p.value place (sym p.given ∙ o)

  pub not_fails_and_overflows : Fails d t e → (place : Place) → edge_circle_after d t e ≡ Err place → ⊥
  not_fails_and_overflows f place o = ok_not_err f.value place (sym f.given ∙ o)

  -- the formula overflows at some place
  pub record Overflows : Type 0 where
    pub place : Place
    pub given : edge_circle_after d t e ≡ Err place

  pub not_passes_and_stops : Passes d t e → (Fails d t e ⊎ Overflows) → ⊥
  not_passes_and_stops p (inl f) = not_passes_and_fails p f
  not_passes_and_stops p (inr o) = not_passes_and_overflows p o.place o.given

  -- an edge passes, fails, or its formula overflows
  pub tested : IsRadicand d → Passes d t e ⊎ (Fails d t e ⊎ Overflows)
  tested radicand = by (edge_circle_after d t e) (λ i. edge_circle_after d t e)
    where
      by : (result : Result Quadratic Place) → edge_circle_after d t e ≡ result → Passes d t e ⊎ (Fails d t e ⊎ Overflows)
      by (Err place) given = inr (inr (record { place = place; given = given }))
      by (Ok value) given = elim ((field_order radicand).trichotomy value) [
        | positive p ↦ inr (inl (record { value = value; given = given; illegal = p }))
        | null n ↦ inl (record { value = value; given = given; legal = λ p. signs.positive-ne-zero (field_order radicand) p n })
        | negative n ↦ inl (record { value = value; given = given; legal = λ p. signs.not_both_signs (field_order radicand) p n })
      ]

-- ---- runs

-- where each edge passes the triangulation is Delaunay
pub delaunay_of_all_pass : (d : ℕ) (t : Triangulation) → AllPass d t → IsDelaunay d t
delaunay_of_all_pass d t pass e edge = legal_of_passes d t e (pass e edge)

-- the first edge that doesn't pass, where it fails, is the first illegal one
pub first_illegal : (d : ℕ) (t : Triangulation) (e : ℕ) → IsReached d t e → Fails d t e → IsFirstIllegal d t e
first_illegal d t e r f = record {
  edge = r.edge;
  illegal = illegal_of_fails d t e f;
  first = λ o edge below. legal_of_passes d t o (r.before o edge below);
}

-- flips keep the surface
pub surface_of_checks : (start : MeshValue) (edges : List ℕ) (m : MeshValue) → LeadsByChecks start edges m → m.surface ≡ start.surface
surface_of_checks start _ _ checked.no_flip = refl
surface_of_checks start _ _ (checked.flip edges e m after run r f is_flip) = is_flip.surface ∙ surface_of_checks start edges m run

-- a checked run is a run
pub run_of_checks : (start : MeshValue) (edges : List ℕ) (m : MeshValue) → LeadsByChecks start edges m → LeadsByFlips start.surface.d start.triangles edges m.triangles
run_of_checks start _ _ checked.no_flip = no_flip
run_of_checks start _ _ (checked.flip edges e m after run r f is_flip) =
    let same : m.surface.d ≡ start.surface.d = ap (λ s. s.d) (surface_of_checks start edges m run) in
    flip edges e m.triangles after.triangles (run_of_checks start edges m run) (subst (λ d. IsFirstIllegal d m.triangles e) same (first_illegal m.surface.d m.triangles e r f))
    (subst (λ d. IsFlipOf d m.triangles e after.triangles) same is_flip.triangles)

-- ---- the first edge that doesn't pass

module _ (d : ℕ) (t : Triangulation) where
  -- the first edge that doesn't pass is one edge
  pub reached_unique : (e f : ℕ) → IsReached d t e → (Fails d t e ⊎ Overflows d t e) → IsReached d t f → (Fails d t f ⊎ Overflows d t f) → e ≡ f
  reached_unique e f r p s q = elim (cases_order e f) [
    | inl same ↦ same
    | inr (inl below) ↦ absurd (not_passes_and_stops d t e (s.before e r.edge below) p)
    | inr (inr above) ↦ absurd (not_passes_and_stops d t f (r.before f s.edge above) q)
  ]

  -- and there is none where each edge passes
  pub reached_not_all : (e : ℕ) → IsReached d t e → (Fails d t e ⊎ Overflows d t e) → AllPass d t → ⊥
  reached_not_all e r p pass = not_passes_and_stops d t e (pass e r.edge) p

  -- each edge passes, or there is a first one that doesn't
  pub record FirstStop : Type 0 where
    pub edge : ℕ
    pub reached : IsReached d t edge
    pub stops : Fails d t edge ⊎ Overflows d t edge

  -- each edge below m passes
  abbrev AllPassBelow : ℕ → Type 0
  AllPassBelow m = (o : ℕ) → IsEdge t o → o < m → Passes d t o

  -- so does each one below the next number, or that is the first one that doesn't
  passes_next : IsRadicand d → (m : ℕ) → AllPassBelow m → AllPassBelow (suc m) ⊎ FirstStop
  passes_next radicand m below = elim (cases_lt m (edge_twin t m)) [
    | inr not_lesser ↦ inl (λ o edge o_below. elim (cases_lt o m) [
      | inl lower ↦ below o edge lower
      | inr upper ↦ let same : o ≡ m = omega arith in let lesser = subst (λ k. k < edge_twin t k) same edge.lesser in absurd (omega arith)
    ])
    | inl lesser ↦ elim (cases_lt m (length t.vectors)) [
      | inr not_there ↦ inl (λ o edge o_below. let there = edge.there in below o edge (omega arith))
      | inl there ↦ elim (tested d t m radicand) [
        | inl passes ↦ inl (λ o edge o_below. elim (cases_lt o m) [
          | inl lower ↦ below o edge lower
          | inr upper ↦ let same : m ≡ o = omega arith in subst (Passes d t) same passes
        ])
        | inr stops ↦ inr (record { edge = m; reached = record { edge = record { there = there; lesser = lesser }; before = below }; stops = stops })
      ]
    ]
  ]

  first_stop_below : IsRadicand d → (m : ℕ) → AllPassBelow m ⊎ FirstStop
  first_stop_below radicand zero = inl (λ o edge below. absurd (omega arith))
  first_stop_below radicand (suc m) = elim (first_stop_below radicand m) [
    | inl below ↦ passes_next radicand m below
    | inr stop ↦ inr stop
  ]

  pub first_stop : IsRadicand d → AllPass d t ⊎ FirstStop
  first_stop radicand = elim (first_stop_below radicand (length t.vectors)) [
    | inl below ↦ inl (λ e edge. below e edge edge.there)
    | inr stop ↦ inr stop
  ]
