-- The parts of a run are measured, or there is a first one whose measures overflow.
use Rattle.std.proofs.Common.{◌≡◌, Result, Ok, Err, List, [], ◌∷◌, length, refl, ap}
use Rattle.std.specs.List.{AllByRecursion}
use Rattle.std.specs.Prelude.{unsigned_abs}
use Rattle.fs_quadratic.specs.declared.steps.Place.{Place}
use Rattle.fs_plane.specs.declared.sites.Site.{Site}
use Rattle.fs_plane.specs.declared.sites.Site.TheVariants.{Value}
use Rattle.fs_plane.specs.Vector.{PlaneVector}
use Rattle.fs_gluing.specs.Surface.{GluedPolygons}
use Rattle.fs_rauzy.specs.declared.parts.Kind.{Kind}
use Rattle.fs_rauzy.specs.declared.parts.Kind.TheVariants.{Cylinder, Looped}
use Rattle.fs_rauzy.specs.declared.parts.Part.{Part}
use Rattle.fs_components.specs.declared.flow.Measured.{Measured}
use Rattle.fs_components.specs.Flows.{measured, GivesMeasures, of_cylinder, of_looped}
use Rattle.fs_components.specs.Gathering.{IsShort}
use Rattle.fs_components.specs.Measures.{PartMeasures, checked_cylinder, checked_looped}
use Rattle.fs_components.proofs.MeasuresUnique.{MeasureAll, all_measured, one_stops}
use Rattle.fs_components.proofs.PartReturns.{one_item}

module _ (s : GluedPolygons) (v : PlaneVector) where
  -- a part has measures, or they overflow
  part_measures : (p : Part) → IsShort p → (r : Result PartMeasures Place) × GivesMeasures s v p r
  part_measures p short = by p.kind refl
    where
      by : (kind : Kind) → p.kind ≡ kind → (r : Result PartMeasures Place) × GivesMeasures s v p r
      by Cylinder is = let letter = one_item p.letters (short.one is) in (checked_cylinder s.d (unsigned_abs s.den) v p.width letter.0.back, of_cylinder letter.0 is letter.1)
      by (Looped from to) is = (checked_looped s.d (unsigned_abs s.den) v p.letters, of_looped from to is)

  -- one part is measured before the others
  after_measured : (p : Part) (ps : List Part) (m : PartMeasures) → GivesMeasures s v p (Ok m) → (r : Result (List Measured) Site) × MeasureAll s v ps r → (r : Result (List Measured) Site) × MeasureAll s v (p ∷ ps) r
  after_measured p ps m g rest = by rest.0 rest.1
    where
      by : (r : Result (List Measured) Site) → MeasureAll s v ps r → (r : Result (List Measured) Site) × MeasureAll s v (p ∷ ps) r
      by _ (all_measured list are) = (Ok (measured p m ∷ list), all_measured (measured p m ∷ list) ((m, g, refl), are))
      by _ (one_stops site stops) =
          let site : Site = Value (length (p ∷ stops.before)) stops.stop.0 in (
            Err site,
            one_stops site
                (record {
                  before = p ∷ stops.before;
                  part = stops.part;
                  after = stops.after;
                  is = ap (λ xs. p ∷ xs) stops.is;
                  done = measured p m ∷ stops.done;
                  measured_before = ((m, g, refl), stops.measured_before);
                  stop = stops.stop;
                  overflows = stops.overflows;
                  at = refl;
                }),
          )

  -- all parts are measured, or one overflows
  pub measure_all_exists : (parts : List Part) → AllByRecursion IsShort parts → (r : Result (List Measured) Site) × MeasureAll s v parts r
  measure_all_exists [] short = (Ok [], all_measured [] tt)
  measure_all_exists (p ∷ ps) short = let first = part_measures p short.0 in by first.0 first.1 (measure_all_exists ps short.1)
    where
      by : (r : Result PartMeasures Place) → GivesMeasures s v p r → (r : Result (List Measured) Site) × MeasureAll s v ps r → (r : Result (List Measured) Site) × MeasureAll s v (p ∷ ps) r
      by (Ok m) g rest = after_measured p ps m g rest
      by (Err stop) g rest =
          let site : Site = Value 0 stop.0 in
          (Err site, one_stops site (record { before = []; part = p; after = ps; is = refl; done = []; measured_before = tt; stop = stop; overflows = g; at = refl }))
