-- How the decomposition of a flow ends: with the parts of the induction's run, measured, and the connections; or where it stops.
use Rattle.std.specs.Prelude.{◌≡◌, ℕ, Result, Ok, Err, List, [], ◌∷◌, ◌++◌, length, unsigned_abs}
use Rattle.fs_quadratic.specs.declared.steps.Place.{Place}
use Rattle.fs_plane.specs.declared.listing.Listed.{Listed}
use Rattle.fs_plane.specs.declared.sites.Site.{Site}
use Rattle.fs_plane.specs.declared.sites.Site.TheVariants.{Value}
use Rattle.fs_plane.specs.declared.sites.Stop.{Stop}
use Rattle.fs_plane.specs.declared.sites.Stop.TheVariants.{Undecided, Overflow, NoMemory}
use Rattle.fs_plane.specs.Vector.{PlaneVector}
use Rattle.fs_gluing.specs.Exchanges.{Component}
use Rattle.fs_gluing.specs.Surface.{GluedPolygons}
use Rattle.fs_iet.specs.ExchangeSites.{GivesExchange}
use Rattle.fs_rauzy.specs.declared.parts.Kind.TheVariants.{Cylinder, Looped}
use Rattle.fs_rauzy.specs.declared.parts.Letter.{Letter}
use Rattle.fs_rauzy.specs.declared.parts.Part.{Part}
use Rattle.fs_rauzy.specs.declared.parts.Run.{Run}
use Rattle.fs_rauzy.specs.Runs.{EndsRun}
use Rattle.fs_components.specs.declared.flow.Flow.{Flow}
use Rattle.fs_components.specs.declared.flow.Measured.{Measured}
use Rattle.fs_components.specs.Connections.{EndsConnections}
use Rattle.fs_components.specs.Measures.{PartMeasures, checked_cylinder, checked_looped}

-- the part with these measures
abbrev pub measured : Part → PartMeasures → Measured
measured p m = record { part = p; holonomy_square = m.holonomy_square; height_square = m.height_square; area = m.area }

module _ (s : GluedPolygons) (v : PlaneVector) where
  -- what measuring a part gives
  pub data GivesMeasures (p : Part) : Result PartMeasures Place → Type 0 where
    of_cylinder : (letter : Letter) → p.kind ≡ Cylinder → p.letters ≡ letter ∷ [] → GivesMeasures p (checked_cylinder s.d (unsigned_abs s.den) v p.width letter.back)
    of_looped : (from to : ℕ) → p.kind ≡ Looped from to → GivesMeasures p (checked_looped s.d (unsigned_abs s.den) v p.letters)

  -- each part is measured
  abbrev pub AreMeasured : List Part → List Measured → Type 0
  AreMeasured [] [] = Unit {0}
  AreMeasured [] (m ∷ ms) = ⊥
  AreMeasured (p ∷ ps) [] = ⊥
  AreMeasured (p ∷ ps) (m ∷ ms) = ((measures : PartMeasures) × GivesMeasures p (Ok measures) × (m ≡ measured p measures)) × AreMeasured ps ms

  -- the first part whose measures overflow
  pub record StopsMeasuring (parts : List Part) (site : Site) : Type 0 where
    pub before : List Part
    pub part : Part
    pub after : List Part
    pub is : parts ≡ before ++ part ∷ after
    pub done : List Measured
    pub measured_before : AreMeasured before done
    pub stop : Place
    pub overflows : GivesMeasures part (Err stop)
    pub at : site ≡ Value (length before) stop.0

  -- how the decomposition ends within a budget of n steps: the sites of the exchange, of the run, of the connections and of the measures come in this order
  pub data EndsFlow (n : ℕ) : Result Flow Stop → Type 0 where
    exchange_stops : (site : Site) → GivesExchange s v (Err site) → EndsFlow n (Err (Overflow site))
    run_stops : (c : Component) (stop : Stop) → GivesExchange s v (Ok c) → EndsRun s.d n (c ∷ []) (Err stop) → EndsFlow n (Err stop)
    keep_stops : (c : Component) (run : Run) (stop : Stop) → GivesExchange s v (Ok c) → EndsRun s.d n (c ∷ []) (Ok run) → EndsConnections s v run.found (Err stop) → EndsFlow n (Err stop)
    value_stops : (c : Component) (run : Run) (list : List Listed) (site : Site) → GivesExchange s v (Ok c) → EndsRun s.d n (c ∷ []) (Ok run) → EndsConnections s v run.found (Ok list)
        → StopsMeasuring run.parts site → EndsFlow n (Err (Overflow site))
    decomposed : (c : Component) (run : Run) (list : List Listed) (parts : List Measured) → GivesExchange s v (Ok c) → EndsRun s.d n (c ∷ []) (Ok run) → EndsConnections s v run.found (Ok list)
        → AreMeasured run.parts parts → EndsFlow n (Ok (record { connections = list; parts = parts; steps = run.steps }))

-- what holds of the end holds of what a call returns; where memory runs out it returns neither
abbrev pub ReturnsFlow : (Result Flow Stop → Type 0) → Result Flow Stop → Type 0
ReturnsFlow P (Ok flow) = P (Ok flow)
ReturnsFlow P (Err NoMemory) = Unit {0}
ReturnsFlow P (Err (Undecided n)) = P (Err (Undecided n))
ReturnsFlow P (Err (Overflow site)) = P (Err (Overflow site))
