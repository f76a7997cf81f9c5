-- The lists of a state whose current component closes.
use Rattle.std.proofs.Common.{◌≡◌, ℕ, List, ◌∷◌, take, refl, sym, ap, ◌∙◌, subst}
use Rattle.fs_quadratic.specs.Ring as ring
use Rattle.fs_gluing.specs.Exchanges.{Letter, Component}
use Rattle.fs_rauzy.specs.declared.events.Event.TheVariants.{Closed}
use Rattle.fs_rauzy.specs.declared.rows.Extent.{Extent}
use Rattle.fs_rauzy.specs.Events.{closes}
use Rattle.fs_rauzy.specs.Rule.{of_closed}
use Rattle.fs_rauzy.specs.States.{IsState}
use Rattle.fs_rauzy.specs.StatesInPlace.{component_at, opened, IsInPlace}
use Rattle.fs_rauzy.specs.Steps.{IsMadeBy}
use Rattle.fs_rauzy.proofs.OpenedRows.{rest_state, closed_in_place}

closing : (d : ℕ) (c : Component) (rest : List Component) → IsMadeBy d (λ event. event ≡ Closed) (c ∷ rest) (record { event = Closed; length = ring.zero; components = rest })
closing d c rest = record { kind = refl; made = closes c rest; fits = of_closed c rest }

module _ (letters : List Letter) (top bottom : List ℕ) {top2 bottom2 : List ℕ} {extents rest extents2 : List Extent} {e : Extent}
    (now : extents ≡ e ∷ rest) (new_top : top2 ≡ take e.first top) (new_bottom : bottom2 ≡ take e.first bottom) (new_extents : extents2 ≡ rest) where
  -- the others stay open
  pub others_open : opened letters top bottom extents ≡ component_at letters top bottom e ∷ opened letters top2 bottom2 extents2
  others_open =
      let back_top = sym new_top in
      let back_bottom = sym new_bottom in
      let back = sym new_extents in
      ap (λ (extents : List Extent). opened letters top bottom extents) now ∙ (λ i. component_at letters top bottom e ∷ opened letters (back_top i) (back_bottom i) (back i))

  -- the laws of a state hold again
  pub closed_state : {d : ℕ} → IsState (record { d = d; components = opened letters top bottom extents }) → IsState (record { d = d; components = opened letters top2 bottom2 extents2 })
  closed_state {d} h = rest_state (subst (λ (components : List Component). IsState (record { d = d; components = components })) others_open h)

  -- and the rows are in place
  pub closed_place : IsInPlace letters top bottom extents → IsInPlace letters top2 bottom2 extents2
  closed_place h =
      let back_top = sym new_top in
      let back_bottom = sym new_bottom in
      let back = sym new_extents in
      subst (λ t. IsInPlace letters t bottom2 extents2) back_top
      (subst (λ b. IsInPlace letters (take e.first top) b extents2) back_bottom
      (subst (λ x. IsInPlace letters (take e.first top) (take e.first bottom) x) back (closed_in_place (subst (λ x. IsInPlace letters top bottom x) now h))))

  -- the event is a closing
  pub closing_made : {d : ℕ} {components : List Component} → opened letters top bottom extents ≡ components
      → IsMadeBy d (λ event. event ≡ Closed) components (record { event = Closed; length = ring.zero; components = opened letters top2 bottom2 extents2 })
  closing_made {d} {components} e =
      subst (λ components. IsMadeBy d (λ event. event ≡ Closed) components (record { event = Closed; length = ring.zero; components = opened letters top2 bottom2 extents2 }))
      (sym others_open ∙ e) (closing d _ _)
