-- Part after part is measured.
use Rattle.std.proofs.Common.{List, ◌∷◌, [], ◌++◌, length, refl, sym, ap, ◌∙◌, subst, arith, append_assoc, length-append}
use Rattle.fs_rauzy.specs.declared.parts.Part.{Part}
use Rattle.fs_components.specs.Flows.{AreMeasured}
use Rattle.fs_components.proofs.MeasuredParts.{measured_more, as_many, measuring_stopped}
use Rattle.fs_components.proofs.flow.measure_parts.Goals as goal

pub overflow_cast-component : goal.overflow_cast-component
overflow_cast-component c =
    let many = as_many c.args.surface.now c.args.v c.loop-part.yielded c.loop-part.list c.loop-part.invariant.0 in
    let parts = ap (λ ps. length ps) (sym (c.into_iter-part-iterator.ensures.into_iter_gives.0 ∙ c.into_vec-part-items.ensures) ∙ c.loop-part.invariant.1) in
    let joined = length-append c.loop-part.yielded c.loop-part.part-iterator.rest.items in
    record { fits = omega arith }

pub loop-part-init : goal.loop-part-init
loop-part-init c = (subst (AreMeasured c.args.surface.now c.args.v []) (sym c.new-list.ensures) tt, refl)

pub loop-part-preserved : goal.loop-part-preserved
loop-part-preserved c = (
  subst (AreMeasured c.args.surface.now c.args.v (c.loop-part.yielded ++ c.in-Some.part ∷ [])) (sym c.in_ok-push_measured-in-Ok.ensures)
      (measured_more c.args.surface.now c.args.v c.loop-part.yielded c.loop-part.list c.in-Some.part c.in-Ok.measures c.in-Ok.ensures c.loop-part.invariant.0),
  c.loop-part.invariant.1
      ∙ ap (λ (rest : List Part). c.loop-part.yielded ++ rest) c.in-Some.ensures.steps.0
      ∙ sym (append_assoc c.loop-part.yielded (c.in-Some.part ∷ []) c.next.new.self.rest.items),
)

pub returns-in-Err-clause-stops : goal.returns-in-Err-clause-stops
returns-in-Err-clause-stops c =
    measuring_stopped c.args.surface.now c.args.v c.args.parts c.loop-part.yielded c.next.new.self.rest.items c.in-Some.part c.loop-part.list c.len-component.result c.in-Err.field-0
    (sym (c.into_iter-part-iterator.ensures.into_iter_gives.0 ∙ c.into_vec-part-items.ensures) ∙ c.loop-part.invariant.1 ∙ ap (λ (rest : List Part). c.loop-part.yielded ++ rest) c.in-Some.ensures.steps.0)
    c.loop-part.invariant.0 c.in-Err.ensures c.len-component.ensures
