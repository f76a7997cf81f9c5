-- Each part of a run of the exchange of a direction is a closed component with towers, and the flow from each position meets the base of exactly one open component or part. A library for the crates above.
use Rattle.std.proofs.Common.{◌≡◌, ◌≢◌, ℕ, ◌<◌, List, [], ◌∷◌, ◌++◌, length, map, refl, sym, subst, inl, inr}
use Rattle.std.specs.List.{AllByRecursion}
use Rattle.fs_ring.specs.OrderedRing.{IsOrderedRing}
use Rattle.fs_quadratic.specs.Ring.{quadratic, IsPositive}
use Rattle.fs_plane.specs.Vector.{PlaneVector, vector_zero}
use Rattle.fs_gluing.specs.Exchanges.{Component, IsLawful, IsExchange}
use Rattle.fs_gluing.specs.Surface.{GluedPolygons, IsTranslationSurface}
use Rattle.fs_iet.proofs.SideMeasures.{surface_order}
use Rattle.fs_rauzy.specs.declared.events.Event.{Event}
use Rattle.fs_rauzy.specs.declared.events.Event.TheVariants.{Won, Merged, Split, Closed}
use Rattle.fs_rauzy.specs.declared.parts.Kind.{Kind}
use Rattle.fs_rauzy.specs.declared.parts.Kind.TheVariants.{Cylinder, Looped}
use Rattle.fs_rauzy.specs.declared.parts.Part.{Part}
use Rattle.fs_rauzy.specs.Events.{closes}
use Rattle.fs_rauzy.specs.Loops.{IsLoop}
use Rattle.fs_rauzy.specs.Runs.{Point, start_of, part_of, Leads, no_event, event}
use Rattle.fs_rauzy.specs.States.{IsState}
use Rattle.fs_rauzy.specs.Towers.{Base, base_of, HasTowers, IsTouched}
use Rattle.fs_rauzy.proofs.BasesKept.{closed_base, events_keep_bases}
use Rattle.fs_rauzy.proofs.BasesMet.{AreMetOnce, exchange_base_met}
use Rattle.fs_rauzy.proofs.RunLoops.{led_to_loop}
use Rattle.fs_rauzy.proofs.RunParts.{IsClosedAt, Closes, Continues, goes_on_by}
use Rattle.fs_rauzy.proofs.RunSteps.{closing}
use Rattle.fs_rauzy.proofs.RunUnique.{led_state}
use Rattle.fs_rauzy.proofs.TouchedKept.{exchange_is_touched, events_keep_touched}
use Rattle.fs_rauzy.proofs.TowersKept.{exchange_has_towers, all_returns_of_towers, events_keep_towers}

-- the base of a part
abbrev pub part_base : Part → Base
part_base p = record { start = p.base; width = p.width }

-- a component closes with one letter, or as a loop
abbrev pub IsClosedAs : ℕ → Component → Kind → Type 0
IsClosedAs d c Cylinder = length c.top ≡ 1
IsClosedAs d c (Looped from to) = (before : Component) × IsLoop d before c × (from < to)

-- an event that is no closing closes no base
none_closed : (event : Event) (components : List Component) → event ≢ Closed → closed_base event components ≡ []
none_closed (Won top) components going = refl
none_closed (Merged found) components going = refl
none_closed (Split k found) components going = refl
none_closed Closed components going = absurd (going refl)

module _ (s : GluedPolygons) (v : PlaneVector) where
  -- the part is a component that closed so
  pub record IsClosedPart (part : Part) : Type 0 where
    pub component : Component
    pub lawful : IsLawful s.d component
    pub towers : HasTowers s v component
    pub touched : IsTouched s v component
    pub is : part ≡ part_of component part.kind
    pub closed : IsClosedAs s.d component part.kind

  -- the open components have towers and are touched, the parts closed so, and each position meets one of their bases
  pub record HasParts (p : Point) : Type 0 where
    pub towers : AllByRecursion (HasTowers s v) p.components
    pub touched : AllByRecursion (IsTouched s v) p.components
    pub parts : AllByRecursion IsClosedPart p.parts
    pub met : AreMetOnce s v (map base_of p.components ++ map part_base p.parts)

  -- what it says of components and parts
  abbrev HaveParts : List Component → List Part → Type 0
  HaveParts components parts =
      AllByRecursion (HasTowers s v) components × AllByRecursion (IsTouched s v) components × AllByRecursion IsClosedPart parts × AreMetOnce s v (map base_of components ++ map part_base parts)

  read_parts : (p : Point) (components : List Component) (parts : List Part) → p.components ≡ components → p.parts ≡ parts → HaveParts components parts → HasParts p
  read_parts p components parts e f h =
      let k = subst (λ cs. HaveParts cs p.parts) (sym e) (subst (HaveParts components) (sym f) h) in
      record { towers = k.0; touched = k.1; parts = k.2; met = k.3 }

module _ (s : GluedPolygons) (v : PlaneVector) (surface : IsTranslationSurface s) (some : v ≢ vector_zero) where
  abbrev L : IsOrderedRing (quadratic s.d) (IsPositive s.d)
  L = surface_order s surface

  continues : (p q : Point) → AllByRecursion (IsLawful s.d) p.components → HasParts s v p → Continues s.d p q → HasParts s v q
  continues p q lawful h k =
      let returns = all_returns_of_towers s v p.components h.towers in
      read_parts s v q k.outcome.components p.parts k.becomes k.parts (
        events_keep_towers lawful k.made s v surface some refl h.towers,
        events_keep_touched lawful k.made s v surface some refl returns h.touched,
        h.parts,
        subst (λ bs. AreMetOnce s v (map base_of k.outcome.components ++ (bs ++ map part_base p.parts))) (none_closed k.outcome.event p.components k.going)
            (events_keep_bases lawful k.made s v surface some refl returns (map part_base p.parts) h.met),
      )

  closed_as : (components : List Component) → IsState (record { d = s.d; components = components }) → (p : Point) → Leads s.d (start_of components) p → (c : Component) (rest : List Component) → p.components ≡ c ∷ rest
      → (kind : Kind) → IsClosedAt p c kind → IsClosedAs s.d c kind
  closed_as components state p leads c rest was Cylinder h = h
  closed_as components state p leads c rest was (Looped from to) h =
      let k = led_to_loop L components state p leads h.1 c rest h.0 was h.2 in
      (h.0.component, k.0, subst (λ n. n < to) (sym h.3) (subst (λ n. h.0.number < n) (sym h.4) k.1))

  closes_part : (p q : Point) → AllByRecursion (IsLawful s.d) p.components → HasParts s v p → (k : Closes p q) → IsClosedAs s.d k.component k.kind → HasParts s v q
  closes_part p q lawful h k closed =
      let c = k.component in
      let rest = k.rest in
      let all = subst (AllByRecursion (IsLawful s.d)) k.was lawful in
      let towers = subst (AllByRecursion (HasTowers s v)) k.was h.towers in
      let touched = subst (AllByRecursion (IsTouched s v)) k.was h.touched in
      let met = subst (λ cs. AreMetOnce s v (map base_of cs ++ map part_base p.parts)) k.was h.met in
      read_parts s v q rest (part_of c k.kind ∷ p.parts) k.becomes k.parts (
        towers.1,
        touched.1,
        (record { component = c; lawful = all.0; towers = towers.0; touched = touched.0; is = refl; closed = closed }, h.parts),
        events_keep_bases {outcome = closing rest} all (closes c rest) s v surface some refl (all_returns_of_towers s v (c ∷ rest) towers) (map part_base p.parts) met,
      )

  module _ (c : Component) (exchange : IsExchange s v c) (state : IsState (record { d = s.d; components = c ∷ [] })) where
    -- so it is at each point of the run of the exchange
    pub run_has_parts : (p : Point) → Leads s.d (start_of (c ∷ [])) p → HasParts s v p
    run_has_parts _ no_event = record {
      towers = (exchange_has_towers s v surface some exchange, tt);
      touched = (exchange_is_touched s v surface some exchange, tt);
      parts = tt;
      met = exchange_base_met s v surface some exchange;
    }
    run_has_parts p (event r _ before g) =
        let h = run_has_parts r before in
        let lawful = (led_state L (c ∷ []) r state before).lawful in
        elim (goes_on_by s.d r p g) [
          | inl k ↦ closes_part r p lawful h k (closed_as (c ∷ []) state r before k.component k.rest k.was k.kind k.closed)
          | inr k ↦ continues r p lawful h k
        ]
