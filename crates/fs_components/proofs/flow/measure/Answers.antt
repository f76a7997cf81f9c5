-- The measures of a cylinder, or of any other part.
use Rattle.std.proofs.Common.{ℤ, sym, ap, ◌∙◌}
use Rattle.std.proofs.lemmas.Int.{to_z-of_z}
use Rattle.std.specs.Int.{w128}
use Rattle.std.specs.Prelude.{unsigned_abs}
use Rattle.fs_components.specs.Measures.{checked_cylinder, checked_looped}
use Rattle.fs_components.proofs.MeasuredParts.{cylinder_given, looped_given}
use Rattle.fs_components.proofs.flow.measure.Goals as goal

pub returns-in-Cylinder : goal.returns-in-Cylinder
returns-in-Cylinder c =
    cylinder_given c.args.surface.now c.args.v c.args.part.now c.field-field.result.d c.den.result c.field-field.ensures.field c.den.ensures.den c.as_slice-letters.result.now c.as_slice-letters.ensures
    c.measure_cylinder.result c.requires.short c.in-Cylinder.is c.index-letters-0.result c.index-letters-0.is
    (c.measure_cylinder.ensures ∙ (λ i. checked_cylinder c.field-field.result.d (unsigned_abs (to_z-of_z w128 c.den.result (record { sfits = c.den.type_inv }) i)) c.args.v c.args.part.now.width (sym c.index-letters-0.is i).back))

pub returns-in-Looped : goal.returns-in-Looped
returns-in-Looped c =
    looped_given c.args.surface.now c.args.v c.args.part.now c.field-field.result.d c.den-in-Looped.result c.field-field.ensures.field c.den-in-Looped.ensures.den c.as_slice-letters.result.now
    c.as_slice-letters.ensures c.measure_looped.result c.in-Looped.from c.in-Looped.to c.in-Looped.is
    (c.measure_looped.ensures ∙ ap (λ (z : ℤ). checked_looped c.field-field.result.d (unsigned_abs z) c.args.v c.as_slice-letters.result.now) (to_z-of_z w128 c.den-in-Looped.result (record { sfits = c.den-in-Looped.type_inv })))
