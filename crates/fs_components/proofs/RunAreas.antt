-- The areas of the parts of a run sum to that of the exchange.
use Rattle.std.proofs.Common.{◌≡◌, ℕ, List, [], ◌∷◌, map, refl, sym, ap, ◌∙◌, inl, inr}
use Rattle.std.specs.List.{AllByRecursion}
use Rattle.fs_ring.specs.OrderedRing.{IsOrderedRing}
use Rattle.fs_ring.proofs.Solver.{identity, numeral, ◌⊕◌, ◌≐◌}
use Rattle.fs_quadratic.specs.Ring.{Quadratic, quadratic, IsPositive, add, mul, total}
use Rattle.fs_quadratic.proofs.Laws.{quadratic_ring}
use Rattle.fs_plane.specs.Vector.{PlaneVector, dot}
use Rattle.fs_gluing.specs.Exchanges.{Letter as Long, Component, IsLawful}
use Rattle.fs_rauzy.specs.declared.parts.Part.{Part}
use Rattle.fs_rauzy.specs.Pairings.{letters_sum, paired_sum}
use Rattle.fs_rauzy.specs.Runs.{Point, start_of, Leads, no_event, event}
use Rattle.fs_rauzy.specs.States.{IsState}
use Rattle.fs_rauzy.proofs.PairedSums.{event_sum}
use Rattle.fs_rauzy.proofs.RunParts.{Closes, Continues, goes_on_by}
use Rattle.fs_rauzy.proofs.RunUnique.{led_state}
use Rattle.fs_components.specs.FlowMeaning.{scaled_area}
use Rattle.fs_components.proofs.PairedAreas.{numbers, along, along_pairing, letters_area}
use Rattle.fs_components.proofs.PartReturns.{kept_letter}

-- the areas of parts, scaled by the squared length of the direction, sum to this
abbrev pub parts_area : ℕ → PlaneVector → List Part → Quadratic
parts_area d v parts = total (map (λ (p : Part). scaled_area d v p.letters) parts)

module _ (d : ℕ) (v : PlaneVector) where
  -- the area of a component is that of the part that it becomes
  kept_area : (letters : List Long) → scaled_area d v (map kept_letter letters) ≡ letters_sum numbers (along d v) letters
  kept_area [] = refl
  kept_area (l ∷ ls) = ap (add (mul d l.length (dot d v l.back))) (kept_area ls)

  -- the areas of the open components and of the parts
  abbrev area_of : List Component → List Part → Quadratic
  area_of components parts = add (paired_sum numbers (along d v) components) (parts_area d v parts)

  abbrev area_at : Point → Quadratic
  area_at p = area_of p.components p.parts

  closes_area : (p q : Point) → Closes p q → area_at q ≡ area_at p
  closes_area p q k =
      let rest = paired_sum numbers (along d v) k.rest in
      let closed = letters_sum numbers (along d v) k.component.top in
      (λ i. area_of (k.becomes i) (k.parts i))
      ∙ ap (λ x. add rest (add x (parts_area d v p.parts))) (kept_area k.component.top)
      ∙ identity (quadratic_ring d) (rest ∷ closed ∷ parts_area d v p.parts ∷ []) (λ r c p. r ⊕ (c ⊕ p) ≐ (c ⊕ r) ⊕ p) refl
      ∙ ap (λ cs. area_of cs p.parts) (sym k.was)

  continues_area : (p q : Point) → AllByRecursion (IsLawful d) p.components → Continues d p q → area_at q ≡ area_at p
  continues_area p q lawful k =
      (λ i. area_of (k.becomes i) (k.parts i)) ∙ ap (λ x. add x (parts_area d v p.parts)) (event_sum (along_pairing d v) lawful k.made k.going)

  module _ (L : IsOrderedRing (quadratic d) (IsPositive d)) (components : List Component) (state : IsState (record { d = d; components = components })) where
    led_area : (p : Point) → Leads d (start_of components) p → area_at p ≡ paired_sum numbers (along d v) components
    led_area _ no_event = (quadratic_ring d).add_zero (paired_sum numbers (along d v) components)
    led_area p (event r _ before g) =
        let h = led_area r before in
        let lawful = (led_state L components r state before).lawful in
        elim (goes_on_by d r p g) [
          | inl k ↦ closes_area r p k ∙ h
          | inr k ↦ continues_area r p lawful k ∙ h
        ]

  -- where no component is open, the areas of the parts sum to that of the one at the start
  pub run_area : IsOrderedRing (quadratic d) (IsPositive d) → (c : Component) → IsState (record { d = d; components = c ∷ [] }) → (p : Point) → Leads d (start_of (c ∷ [])) p → p.components ≡ []
      → parts_area d v p.parts ≡ total (map (λ (letter : Long). mul d letter.length (dot d v letter.back)) c.top)
  run_area L c state p leads closed =
      identity (quadratic_ring d) (parts_area d v p.parts ∷ []) (λ x. x ≐ numeral 0 ⊕ x) refl
      ∙ ap (λ cs. area_of cs p.parts) (sym closed)
      ∙ led_area L (c ∷ []) state p leads
      ∙ (quadratic_ring d).add_zero (letters_sum numbers (along d v) c.top)
      ∙ letters_area d v c.top
