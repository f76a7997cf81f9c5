use Rattle.std.proofs.Common.{Ok, Option, ◌∙◌, subst}
use Rattle.std.proofs.lemmas.Result.{IfOk-weaker}
use Rattle.fs_plane.specs.Vector.{PlaneVector}
use Rattle.fs_develop.specs.Grid.{GivesScaled}
use Rattle.fs_develop.proofs.ScaledVectors.{origin_of_scaled}
use Rattle.fs_report.proofs.SegmentUnique.{answered_along, answered_wide}
use Rattle.fs_report.proofs.segment.answer_segment.Goals as goal

pub answer_path-requires-clause-direction : goal.answer_path-requires-clause-direction
answer_path-requires-clause-direction c = λ e.
    c.requires.direction
    (origin_of_scaled c.args.surface.now c.args.v.now c.in-Ok-Some.scaled c.field.ensures.surface.den
    (subst (λ (found : Option PlaneVector). GivesScaled c.args.surface.now c.args.v.now (Ok found)) c.in-Ok-Some.field-0-is c.in-Ok-Some.ensures) e)

pub returns-in-Ok-Some : goal.returns-in-Ok-Some
returns-in-Ok-Some c =
    let scaled = subst (λ (found : Option PlaneVector). GivesScaled c.args.surface.now c.args.v.now (Ok found)) c.in-Ok-Some.field-0-is c.in-Ok-Some.ensures in
    IfOk-weaker c.answer_path.result _ _
    (λ answer path. answered_along c.args.surface.now c.args.budget c.args.start c.args.v.now _ _ _ c.in-Ok-Some.scaled scaled (c.deref-in-Ok-Some.ensures ∙ c.in_ok-words.ensures) path) c.answer_path.ensures

pub returns : goal.returns
returns c =
    IfOk-weaker c.overflow.result _ _
    (λ answer both. answered_wide c.args.surface.now c.args.budget c.args.start c.args.v.now _ _ _ c.in-Err.site c.in-Err.ensures (c.deref-in-Err.ensures ∙ c.in_ok-words.ensures) both.0 both.1)
    c.overflow.ensures
