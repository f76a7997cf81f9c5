-- All sides are listed, their widths are summed, and the return vectors tried; then the exchange is built.
use Rattle.std.proofs.Common.{◌≡◌, ◌↔◌, ℕ, Ok, sym, ap, ◌∙◌, subst}
use Rattle.fs_gluing.specs.CrossingMap.{Crosses}
use Rattle.fs_gluing.specs.Exchanges.{Letter, Takes}
use Rattle.fs_gluing.specs.SurfaceSides.{partner}
use Rattle.fs_iet.specs.ExchangeSites.{checked_returns}
use Rattle.fs_iet.proofs.CrossingMaps.{map_of_positions}
use Rattle.fs_iet.proofs.ExchangeCrossings.{crosses_iff_takes}
use Rattle.fs_iet.proofs.ExchangeResults.{sides_there, total_of_sides, total_fits, returns_fit, gives_letter, gives_shift, gives_exchange}
use Rattle.fs_iet.proofs.ExchangeUnique.{given_unique}
use Rattle.fs_iet.proofs.FittingSides.{have_widths, have_returns}
use Rattle.fs_iet.proofs.WidthTotals.{total_is}
use Rattle.fs_iet.proofs.exchanges.find_exchange.Goals as goal

pub returns-in_err-sides-clause-map : goal.returns-in_err-sides-clause-map
returns-in_err-sides-clause-map c = map_of_positions c.args.surface.now c.field.ensures.surface.surface c.args.v c.requires.direction

pub find_total-requires : goal.find_total-requires
find_total-requires c = record { there = sides_there c.args.surface.now c.args.v c.as_slice.result.now (c.as_slice.ensures ∙ c.in_ok-sides.ensures) }

pub returns-in-Err-clause-exchange : goal.returns-in-Err-clause-exchange
returns-in-Err-clause-exchange c = gives_letter c.args.surface.now c.args.v c.as_slice.result.now (c.as_slice.ensures ∙ c.in_ok-sides.ensures) c.in-Err.site (sym c.in-Err.is ∙ c.find_total.ensures)

pub returns-in-Err-clause-map : goal.returns-in-Err-clause-map
returns-in-Err-clause-map c = map_of_positions c.args.surface.now c.field.ensures.surface.surface c.args.v c.requires.direction

pub check_returns-requires-clause-there : goal.check_returns-requires-clause-there
check_returns-requires-clause-there c = sides_there c.args.surface.now c.args.v c.as_slice-2.result.now (c.as_slice-2.ensures ∙ c.in_ok-sides.ensures)

pub check_returns-requires-clause-widths : goal.check_returns-requires-clause-widths
check_returns-requires-clause-widths c = have_widths c.args.surface.now c.args.v (total_fits c.args.surface.now c.args.v c.as_slice.result.now (c.as_slice.ensures ∙ c.in_ok-sides.ensures) c.in-Ok.total (sym c.in-Ok.is ∙ c.find_total.ensures))

pub returns-in-Err-check_returns-clause-exchange : goal.returns-in-Err-check_returns-clause-exchange
returns-in-Err-check_returns-clause-exchange c =
    gives_shift c.args.surface.now c.args.v c.as_slice.result.now (c.as_slice.ensures ∙ c.in_ok-sides.ensures) c.in-Ok.total (sym c.in-Ok.is ∙ c.find_total.ensures) c.in-Err-check_returns.site
    (ap (checked_returns c.args.surface.now c.args.v) (c.as_slice.ensures ∙ sym c.as_slice-2.ensures) ∙ c.in-Err-check_returns.ensures.stops)

pub returns-in-Err-check_returns-clause-map : goal.returns-in-Err-check_returns-clause-map
returns-in-Err-check_returns-clause-map c = map_of_positions c.args.surface.now c.field.ensures.surface.surface c.args.v c.requires.direction

pub build-requires-clause-widths : goal.build-requires-clause-widths
build-requires-clause-widths c = have_widths c.args.surface.now c.args.v (total_fits c.args.surface.now c.args.v c.as_slice.result.now (c.as_slice.ensures ∙ c.in_ok-sides.ensures) c.in-Ok.total (sym c.in-Ok.is ∙ c.find_total.ensures))

pub build-requires-clause-returns : goal.build-requires-clause-returns
build-requires-clause-returns c = have_returns c.args.surface.now c.args.v (returns_fit c.args.surface.now c.args.v c.as_slice.result.now (c.as_slice.ensures ∙ c.in_ok-sides.ensures) c.in-Ok.total (sym c.in-Ok.is ∙ c.find_total.ensures)
    (ap (checked_returns c.args.surface.now c.args.v) (c.as_slice.ensures ∙ sym c.as_slice-2.ensures) ∙ c.in_default.ensures.returned))

pub build-requires-clause-total : goal.build-requires-clause-total
build-requires-clause-total c = total_is c.args.surface.now c.args.v c.in-Ok.total (total_of_sides c.args.surface.now c.args.v c.as_slice.result.now (c.as_slice.ensures ∙ c.in_ok-sides.ensures) _ (sym c.in-Ok.is ∙ c.find_total.ensures))

pub returns-in_err-build-clause-map : goal.returns-in_err-build-clause-map
returns-in_err-build-clause-map c = map_of_positions c.args.surface.now c.field.ensures.surface.surface c.args.v c.requires.direction

pub returns-clause-exchange : goal.returns-clause-exchange
returns-clause-exchange c =
    gives_exchange c.args.surface.now c.args.v c.as_slice.result.now (c.as_slice.ensures ∙ c.in_ok-sides.ensures) c.in-Ok.total (sym c.in-Ok.is ∙ c.find_total.ensures) c.in_ok-build.field-0.component
    (ap (checked_returns c.args.surface.now c.args.v) (c.as_slice.ensures ∙ sym c.as_slice-2.ensures) ∙ c.in_default.ensures.returned) c.in_ok-build.ensures.exchange

pub returns-clause-only : goal.returns-clause-only
returns-clause-only c = λ given gives.
    given_unique c.args.surface.now c.field.ensures.surface.surface c.args.v c.requires.direction (Ok c.in_ok-build.field-0.component) given
    (gives_exchange c.args.surface.now c.args.v c.as_slice.result.now (c.as_slice.ensures ∙ c.in_ok-sides.ensures) c.in-Ok.total (sym c.in-Ok.is ∙ c.find_total.ensures) c.in_ok-build.field-0.component
    (ap (checked_returns c.args.surface.now c.args.v) (c.as_slice.ensures ∙ sym c.as_slice-2.ensures) ∙ c.in_default.ensures.returned) c.in_ok-build.ensures.exchange) gives

pub returns-clause-crossing : goal.returns-clause-crossing
returns-clause-crossing c = λ y z h f.
    subst (λ (d : ℕ). Crosses c.args.surface.now c.args.v y z h f
    ↔ ((letter : Letter) × Takes d c.in_ok-build.field-0.component letter y z × (letter.back ≡ h) × (letter.corner ≡ partner c.args.surface.now.polygons f))) (sym c.in_ok-build.ensures.field)
    (crosses_iff_takes c.args.surface.now c.field.ensures.surface.surface c.args.v c.requires.direction c.in_ok-build.ensures.exchange y z h f)

pub returns-clause-map : goal.returns-clause-map
returns-clause-map c = map_of_positions c.args.surface.now c.field.ensures.surface.surface c.args.v c.requires.direction
