use Rattle.std.proofs.Common.{ℤ, pos, ◌<ℤ◌, refl, sym, subst, ◌∙◌}
use Rattle.fs_lists.proofs.Results.{at_exit}
use Rattle.fs_gluing.proofs.Base.ReadBack.{read_back}
use Rattle.fs_report.specs.Area.{GivesArea, at_triangle}
use Rattle.fs_report.proofs.UnscaledArea.{area_computed}
use Rattle.fs_report.proofs.areas.find_area.Goals as goal

pub returns-in_err-twice : goal.returns-in_err-twice
returns-in_err-twice c =
    at_exit (GivesArea c.args.surface.now) c.from_residual.result c.in_err-twice.field-0.0 c.from_residual.ensures.1
    (at_triangle c.in_err-twice.field-0.0 (sym c.in_err-twice.ensures.formula) refl)

pub returns : goal.returns
returns c =
    area_computed c.args.surface.now c.field.result.d c.in_ok-twice.twice _ c.unscale.result c.in_ok-twice.ensures.formula c.field.ensures.field c.in_ok-twice.ensures.area
    (read_back c.den.result (subst (λ (z : ℤ). pos 0 <ℤ z) (sym c.den.ensures.den) c.den.ensures.surface.den) c.den.type_inv ∙ c.den.ensures.den) c.unscale.ensures
