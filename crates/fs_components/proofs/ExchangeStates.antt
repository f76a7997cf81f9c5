-- The exchange of a flow is a state of the induction, with short runs, and the widths of all sides fit.
use Rattle.std.proofs.Common.{◌≡◌, ◌≢◌, ℕ, ◌+◌, ◌≤◌, Ok, List, [], ◌∷◌, length, sym, subst, arith}
use Rattle.std.specs.List.{AllByRecursion}
use Rattle.std.proofs.lemmas.List.{append-nil, length-map}
use Rattle.fs_lists.specs.Members.{IsDistinct}
use Rattle.fs_quadratic.proofs.Laws.{field_order}
use Rattle.fs_plane.specs.Vector.{PlaneVector, vector_zero}
use Rattle.fs_gluing.specs.Exchanges.{Letter, Component, names_of}
use Rattle.fs_gluing.specs.Surface.{GluedPolygons, IsSurface}
use Rattle.fs_iet.specs.ExchangeSites.{GivesExchange, exchanged}
use Rattle.fs_iet.specs.ExchangeValue.{most_letters}
use Rattle.fs_iet.specs.Rows.{HaveWidths}
use Rattle.fs_iet.proofs.ExchangeRows.{exchange_value}
use Rattle.fs_iet.proofs.FittingSides.{have_widths}
use Rattle.fs_rauzy.specs.declared.parts.Run.{Run}
use Rattle.fs_rauzy.specs.Runs.{EndsRun}
use Rattle.fs_rauzy.specs.States.{IsState, open_names}
use Rattle.fs_components.specs.Connections.{IsRunOf}
use Rattle.fs_components.specs.Gathering.{IsShort}
use Rattle.fs_components.proofs.RunSizes.{run_sizes}

module _ (s : GluedPolygons) (v : PlaneVector) where
  -- where the exchange is given, all widths fit
  pub given_widths : (c : Component) → GivesExchange s v (Ok c) → HaveWidths s v
  given_widths c (exchanged _ ok fits is) = have_widths s v ok

module _ (s : GluedPolygons) (surface : IsSurface s) (v : PlaneVector) (some : v ≢ vector_zero) (c : Component) where
  -- it is a state
  pub given_state : GivesExchange s v (Ok c) → IsState (record { d = s.d; components = c ∷ [] })
  given_state (exchanged _ ok fits is) =
      let x = exchange_value s surface v some c is in
      let names : open_names (c ∷ []) ≡ names_of c.top = append-nil (names_of c.top) in
      record {
        lawful = (x.lawful, tt);
        apart = subst IsDistinct (sym names) x.lawful.names;
        few = subst (λ (xs : List ℕ). length xs ≤ most_letters) (sym names) (let few = x.few in omega (arith, few, length-map c.top (λ (letter : Letter). letter.name)));
        in_order = tt;
      }

  -- its run has few connections and parts, and short parts
  pub given_sizes : GivesExchange s v (Ok c) → (n : ℕ) (run : Run) → EndsRun s.d n (c ∷ []) (Ok run) → (length run.found + length run.parts ≤ 1024) × AllByRecursion IsShort run.parts
  given_sizes g n run ends = run_sizes (field_order surface.radicand) c (given_state g) n run ends

-- so has the run of the exchange
pub run_few : (s : GluedPolygons) → IsSurface s → (v : PlaneVector) → v ≢ vector_zero → (run : Run) → IsRunOf s v run → length run.found ≤ 1024
run_few s surface v some run of = let sizes = (given_sizes s surface v some of.exchange of.given of.budget run of.ended).0 in omega arith
