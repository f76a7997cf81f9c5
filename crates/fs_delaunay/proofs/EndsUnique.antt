-- A Delaunay run within a budget ends in exactly one way.
use Rattle.std.proofs.Common.{◌≡◌, ◌⊎◌, ℕ, zero, suc, ◌+◌, ◌<◌, ◌≤◌, Ok, Err, Result, List, [], ◌∷◌, ◌++◌, length, refl, sym, ap, ◌∙◌, subst, inl, inr, arith, length-append}
use Rattle.fs_lists.proofs.Results.{err_equal, ok_not_err}
use Rattle.fs_quadratic.specs.declared.steps.Place.{Place}
use Rattle.fs_plane.specs.declared.sites.Site.TheVariants.{Circle, Flip}
use Rattle.fs_plane.specs.declared.sites.Stop.{Stop}
use Rattle.fs_plane.specs.declared.sites.Stop.TheVariants.{Undecided, Overflow}
use Rattle.fs_gluing.specs.Triangulation.{Triangulation}
use Rattle.fs_mesh.specs.Meshes.{MeshValue, IsMesh, edge_circle_after}
use Rattle.fs_mesh.specs.FlippedMeshes.{IsMeshFlipped, NewEdge, FindsNewEdge}
use Rattle.fs_mesh.proofs.MeshAfterFlip.{mesh_after}
use Rattle.fs_mesh.proofs.NewEdges.{found_edge_unique, found_edge_exists}
use Rattle.fs_delaunay.specs.CheckedRuns as run
use Rattle.fs_delaunay.specs.CheckedRuns.{Flipped, AllPass, Fails, IsReached, LeadsByChecks, EndsRun}
use Rattle.fs_delaunay.specs.Steps.{EndsHere, all_pass, circle_overflows, flip_overflows, budget_spent}
use Rattle.fs_delaunay.proofs.FlipsUnique.{mesh_unique, flipped_mesh, is_flipped_mesh}
use Rattle.fs_delaunay.proofs.CheckedRunLaws.{illegal_of_fails, not_fails_and_overflows, reached_unique, reached_not_all, first_stop}

-- how it ends from there, with the flips to come
pub data EndsFrom (n : ℕ) : MeshValue → List ℕ → Result Flipped Stop → Type 0 where
  here : (m : MeshValue) (edges : List ℕ) (end : Result Flipped Stop) → EndsHere m edges n end → EndsFrom n m edges end
  after_flip : (m : MeshValue) (edges : List ℕ) (e : ℕ) (after : MeshValue) (end : Result Flipped Stop) → IsReached m.surface.d m.triangles e → Fails m.surface.d m.triangles e
      → IsMeshFlipped m e after → EndsFrom n after (edges ++ e ∷ []) end → EndsFrom n m edges end

module _ (n : ℕ) where
  -- ---- from the start, and from where flips lead

  -- a run that ends from where checked flips lead ends from the start
  from_start : (start : MeshValue) (edges : List ℕ) (m : MeshValue) (end : Result Flipped Stop) → LeadsByChecks start edges m → EndsFrom n m edges end → EndsFrom n start [] end
  from_start start _ _ end run.no_flip h = h
  from_start start _ _ end (run.flip edges e m after before r f is_flip) h = from_start start edges m end before (after_flip m edges e after end r f is_flip h)

  ends_from : (start : MeshValue) (end : Result Flipped Stop) → EndsRun start n end → EndsFrom n start [] end
  ends_from start _ (run.all_pass edges m leads few pass) = from_start start edges m _ leads (here m edges _ (all_pass few pass))
  ends_from start _ (run.circle_overflows edges m e place leads few r o) = from_start start edges m _ leads (here m edges _ (circle_overflows e place few r o))
  ends_from start _ (run.flip_overflows edges m e place leads few r f o) = from_start start edges m _ leads (here m edges _ (flip_overflows e place few r f o))
  ends_from start _ (run.budget_spent edges m e leads all r f) = from_start start edges m _ leads (here m edges _ (budget_spent e all r f))

  -- an end where checked flips lead is one of the run
  pub ends_here : (start : MeshValue) (edges : List ℕ) (m : MeshValue) (end : Result Flipped Stop) → LeadsByChecks start edges m → EndsHere m edges n end → EndsRun start n end
  ends_here start edges m _ leads (all_pass few pass) = run.all_pass edges m leads few pass
  ends_here start edges m _ leads (circle_overflows e place few r o) = run.circle_overflows edges m e place leads few r o
  ends_here start edges m _ leads (flip_overflows e place few r f o) = run.flip_overflows edges m e place leads few r f o
  ends_here start edges m _ leads (budget_spent e all r f) = run.budget_spent edges m e leads all r f

  -- ---- one end

  -- at most n flips are made
  here_within : (m : MeshValue) (edges : List ℕ) (end : Result Flipped Stop) → EndsHere m edges n end → length edges ≤ n
  here_within m edges _ (all_pass few pass) = few
  here_within m edges _ (circle_overflows e place few r o) = few
  here_within m edges _ (flip_overflows e place few r f o) = omega arith
  here_within m edges _ (budget_spent e all r f) = omega arith

  one_more : (edges : List ℕ) (e : ℕ) → length (edges ++ e ∷ []) ≡ length edges + 1
  one_more edges e = length-append edges (e ∷ [])

  from_within : (m : MeshValue) (edges : List ℕ) (end : Result Flipped Stop) → EndsFrom n m edges end → length edges ≤ n
  from_within _ _ _ (here m edges end h) = here_within m edges end h
  from_within _ _ _ (after_flip m edges e after end r f is_flip h) = let more = from_within after (edges ++ e ∷ []) end h in let longer = one_more edges e in omega arith

  module _ (m : MeshValue) where
    abbrev d : ℕ
    d = m.surface.d

    abbrev t : Triangulation
    t = m.triangles

    -- a new edge that is found overflows nowhere
    not_found : (e k : ℕ) (new : NewEdge) (place : Place) → e ≡ k → FindsNewEdge m e (Ok new) → FindsNewEdge m k (Err place) → ⊥
    not_found e k new place same found o = ok_not_err new place (found_edge_unique m k (Ok new) (Err place) (subst (λ x. FindsNewEdge m x (Ok new)) same found) o)

    -- a run that goes on by a flip doesn't end before it
    here_or_flip : (edges : List ℕ) (end : Result Flipped Stop) (e : ℕ) → EndsHere m edges n end → IsReached d t e → Fails d t e → (new : NewEdge) → FindsNewEdge m e (Ok new) → length edges < n → ⊥
    here_or_flip edges _ e (all_pass few pass) r f new found room = reached_not_all d t e r (inl f) pass
    here_or_flip edges _ e (circle_overflows k place few s o) r f new found room =
        let same = reached_unique d t e k r (inl f) s (inr (record { place = place; given = o })) in
        not_fails_and_overflows d t k (subst (Fails d t) same f) place o
    here_or_flip edges _ e (flip_overflows k place few s g o) r f new found room = not_found e k new place (reached_unique d t e k r (inl f) s (inl g)) found o
    here_or_flip edges _ e (budget_spent k all s g) r f new found room = omega arith

    circle_place : (e k : ℕ) (p q : Place) → e ≡ k → edge_circle_after d t e ≡ Err p → edge_circle_after d t k ≡ Err q → p ≡ q
    circle_place e k p q same o u = err_equal p q (sym o ∙ ap (edge_circle_after d t) same ∙ u)

    flip_place : (e k : ℕ) (p q : Place) → e ≡ k → FindsNewEdge m e (Err p) → FindsNewEdge m k (Err q) → p ≡ q
    flip_place e k p q same o u = err_equal p q (found_edge_unique m k (Err p) (Err q) (subst (λ x. FindsNewEdge m x (Err p)) same o) u)

    -- a circle value that overflows isn't that of the first edge that fails
    fails_or_overflows : (e k : ℕ) (place : Place) → IsReached d t e → Fails d t e → IsReached d t k → edge_circle_after d t k ≡ Err place → ⊥
    fails_or_overflows e k place r f s o =
        not_fails_and_overflows d t k (subst (Fails d t) (reached_unique d t e k r (inl f) s (inr (record { place = place; given = o }))) f) place o

    here_unique : (edges : List ℕ) (a b : Result Flipped Stop) → EndsHere m edges n a → EndsHere m edges n b → a ≡ b
    here_unique edges _ _ (all_pass few pass) (all_pass few_too pass_too) = refl
    here_unique edges _ _ (all_pass few pass) (circle_overflows k q few_too s u) = absurd (reached_not_all d t k s (inr (record { place = q; given = u })) pass)
    here_unique edges _ _ (all_pass few pass) (flip_overflows k q few_too s g u) = absurd (reached_not_all d t k s (inl g) pass)
    here_unique edges _ _ (all_pass few pass) (budget_spent k all s g) = absurd (reached_not_all d t k s (inl g) pass)
    here_unique edges _ _ (circle_overflows e p few r o) (all_pass few_too pass) = absurd (reached_not_all d t e r (inr (record { place = p; given = o })) pass)
    here_unique edges _ _ (circle_overflows e p few r o) (circle_overflows k q few_too s u) =
        let same = reached_unique d t e k r (inr (record { place = p; given = o })) s (inr (record { place = q; given = u })) in
        let same_place = circle_place e k p q same o u in
        λ i. Err (Overflow (Circle (length edges) (same i) ((same_place i).0)))
    here_unique edges _ _ (circle_overflows e p few r o) (flip_overflows k q few_too s g u) = absurd (fails_or_overflows k e p s g r o)
    here_unique edges _ _ (circle_overflows e p few r o) (budget_spent k all s g) = absurd (fails_or_overflows k e p s g r o)
    here_unique edges _ _ (flip_overflows e p few r f o) (all_pass few_too pass) = absurd (reached_not_all d t e r (inl f) pass)
    here_unique edges _ _ (flip_overflows e p few r f o) (circle_overflows k q few_too s u) = absurd (fails_or_overflows e k q r f s u)
    here_unique edges _ _ (flip_overflows e p few r f o) (flip_overflows k q few_too s g u) =
        let same = reached_unique d t e k r (inl f) s (inl g) in
        let same_place = flip_place e k p q same o u in
        λ i. Err (Overflow (Flip (length edges) (same i) ((same_place i).0)))
    here_unique edges _ _ (flip_overflows e p few r f o) (budget_spent k all s g) = absurd (omega arith)
    here_unique edges _ _ (budget_spent e all r f) (all_pass few_too pass) = absurd (reached_not_all d t e r (inl f) pass)
    here_unique edges _ _ (budget_spent e all r f) (circle_overflows k q few_too s u) = absurd (fails_or_overflows e k q r f s u)
    here_unique edges _ _ (budget_spent e all r f) (flip_overflows k q few_too s g u) = absurd (omega arith)
    here_unique edges _ _ (budget_spent e all r f) (budget_spent k all_too s g) = refl

  room : (m : MeshValue) (edges : List ℕ) (e : ℕ) (end : Result Flipped Stop) → EndsFrom n m (edges ++ e ∷ []) end → length edges < n
  room m edges e end h = let more = from_within m (edges ++ e ∷ []) end h in let longer = one_more edges e in omega arith

  from_unique : (m : MeshValue) (edges : List ℕ) (a b : Result Flipped Stop) → IsMesh m → EndsFrom n m edges a → EndsFrom n m edges b → a ≡ b
  from_unique _ _ _ _ mesh (here m edges a g) (here _ _ b h) = here_unique m edges a b g h
  from_unique _ _ _ _ mesh (here m edges a g) (after_flip _ _ e after b r f is_flip h) = absurd (here_or_flip m edges a e g r f is_flip.edge is_flip.found (room after edges e b h))
  from_unique _ _ _ _ mesh (after_flip m edges e after a r f is_flip g) (here _ _ b h) = absurd (here_or_flip m edges b e h r f is_flip.edge is_flip.found (room after edges e a g))
  from_unique _ _ _ _ mesh (after_flip m edges e after a r f is_flip g) (after_flip _ _ k other b s q is_flip_too h) =
      let same = reached_unique m.surface.d m.triangles k e s (inl q) r (inl f) in
      let one = mesh_unique m mesh e r.edge.there (subst (λ x. IsMeshFlipped m x other) same is_flip_too) is_flip in
      from_unique after (edges ++ e ∷ []) a b (mesh_after m mesh e r.edge.there is_flip (illegal_of_fails m.surface.d m.triangles e f)) g
      (subst (λ u. EndsFrom n u (edges ++ e ∷ []) b) one (subst (λ x. EndsFrom n other (edges ++ x ∷ []) b) same h))

  -- a run ends in one way
  pub end_unique : (start : MeshValue) (a b : Result Flipped Stop) → IsMesh start → EndsRun start n a → EndsRun start n b → a ≡ b
  end_unique start a b mesh g h = from_unique start [] a b mesh (ends_from start a g) (ends_from start b h)

  -- ---- there is an end

  -- where checked flips lead, the run ends, or it goes on by one flip
  pub record GoesOn (start m : MeshValue) (edges : List ℕ) : Type 0 where
    pub edge : ℕ
    pub after : MeshValue
    pub mesh : IsMesh after
    pub leads : LeadsByChecks start (edges ++ edge ∷ []) after

  pub record HasEnd (start : MeshValue) : Type 0 where
    pub end : Result Flipped Stop
    pub ends : EndsRun start n end

  module _ (start m : MeshValue) (edges : List ℕ) (mesh : IsMesh m) (leads : LeadsByChecks start edges m) where
    at_failing : length edges < n → (e : ℕ) → IsReached m.surface.d m.triangles e → Fails m.surface.d m.triangles e → (found : Result NewEdge Place) → FindsNewEdge m e found
        → HasEnd start ⊎ GoesOn start m edges
    at_failing few e r f (Err place) finds = inl (record { end = Err (Overflow (Flip (length edges) e place.0)); ends = run.flip_overflows edges m e place leads few r f finds })
    at_failing few e r f (Ok new) finds =
        let is_flip = is_flipped_mesh m mesh e r.edge.there new finds in
        inr (record {
          edge = e;
          after = flipped_mesh m mesh e r.edge.there new;
          mesh = mesh_after m mesh e r.edge.there is_flip (illegal_of_fails m.surface.d m.triangles e f);
          leads = run.flip edges e m (flipped_mesh m mesh e r.edge.there new) leads r f is_flip;
        })

    ends_or_goes_on : length edges < n → HasEnd start ⊎ GoesOn start m edges
    ends_or_goes_on few = elim (first_stop m.surface.d m.triangles mesh.surface.radicand) [
      | inl pass ↦ inl (record { end = Ok (record { edges = edges; mesh = m }); ends = run.all_pass edges m leads (omega arith) pass })
      | inr stop ↦ elim stop.stops [
        | inr o ↦ inl (record { end = Err (Overflow (Circle (length edges) stop.edge o.place.0)); ends = run.circle_overflows edges m stop.edge o.place leads (omega arith) stop.reached o.given })
        | inl f ↦
            let some = found_edge_exists m mesh stop.edge stop.reached.edge.there (illegal_of_fails m.surface.d m.triangles stop.edge f) in
            at_failing few stop.edge stop.reached f some.0 some.1
      ]
    ]

    ends_with_budget_spent : length edges ≡ n → HasEnd start
    ends_with_budget_spent all = elim (first_stop m.surface.d m.triangles mesh.surface.radicand) [
      | inl pass ↦ record { end = Ok (record { edges = edges; mesh = m }); ends = run.all_pass edges m leads (omega arith) pass }
      | inr stop ↦ elim stop.stops [
        | inr o ↦ record { end = Err (Overflow (Circle (length edges) stop.edge o.place.0)); ends = run.circle_overflows edges m stop.edge o.place leads (omega arith) stop.reached o.given }
        | inl f ↦ record { end = Err (Undecided n); ends = run.budget_spent edges m stop.edge leads all stop.reached f }
      ]
    ]

  ends_after : (left : ℕ) (start m : MeshValue) (edges : List ℕ) → IsMesh m → LeadsByChecks start edges m → length edges + left ≡ n → HasEnd start
  ends_after zero start m edges mesh leads all = ends_with_budget_spent start m edges mesh leads (omega arith)
  ends_after (suc left) start m edges mesh leads all = elim (ends_or_goes_on start m edges mesh leads (omega arith)) [
    | inl end ↦ end
    | inr more ↦ let longer = one_more edges more.edge in ends_after left start more.after (edges ++ more.edge ∷ []) more.mesh more.leads (omega arith)
  ]

  -- each run ends
  pub end_exists : (start : MeshValue) → IsMesh start → (end : Result Flipped Stop) × EndsRun start n end
  end_exists start mesh = let e = ends_after n start start [] mesh run.no_flip (omega arith) in (e.end, e.ends)
