-- On the grid, or off it.
use Rattle.std.proofs.Common.{◌≡◌, ◌∙◌, ◌<ℤ◌, ℤ, pos, false, true, subst, sym}
use Rattle.fs_gluing.proofs.Base.ReadBack.{read_back}
use Rattle.fs_develop.proofs.ScaledVectors.{off_grid, on_grid, grid_overflows}
use Rattle.fs_develop.proofs.grid.scale_to_grid.Goals as goal

pub returns-then-not-is_on_grid : goal.returns-then-not-is_on_grid
returns-then-not-is_on_grid c =
    off_grid c.args.surface.now c.args.v _ _ c.unsigned_abs-den.ensures.value
    (read_back c.den.result (subst (λ (z : ℤ). pos 0 <ℤ z) (sym c.den.ensures.den) c.den.ensures.surface.den) c.den.type_inv ∙ c.den.ensures.den) (λ h. not_true (sym c.if-not-is_on_grid.true ∙ c.is_on_grid.ensures.1 h))
  where
    not_true : false ≡ true → ⊥
    not_true e = cc

pub returns-in-Ok : goal.returns-in-Ok
returns-in-Ok c =
    on_grid c.args.surface.now c.args.v _ _ c.unsigned_abs-den.ensures.value
    (read_back c.den.result (subst (λ (z : ℤ). pos 0 <ℤ z) (sym c.den.ensures.den) c.den.ensures.surface.den) c.den.type_inv ∙ c.den.ensures.den) c.in-Ok.scaled (c.is_on_grid.ensures.0 c.if-not-is_on_grid.false) (sym c.scale_to.ensures ∙ c.in-Ok.is)

pub returns-in-Err : goal.returns-in-Err
returns-in-Err c =
    grid_overflows c.args.surface.now c.args.v _ _ c.unsigned_abs-den.ensures.value
    (read_back c.den.result (subst (λ (z : ℤ). pos 0 <ℤ z) (sym c.den.ensures.den) c.den.ensures.surface.den) c.den.type_inv ∙ c.den.ensures.den) c.in-Err.field-0 (c.is_on_grid.ensures.0 c.if-not-is_on_grid.false) (sym c.scale_to.ensures ∙ c.in-Err.is)
