-- A glue line passes its three tests, or fails the first of them that it can fail.
use Rattle.std.proofs.Common.{sym, ◌∙◌, List}
use Rattle.fs_lists.proofs.Items.{not_some}
use Rattle.fs_gluing.specs.FirstFault.{PassesLine, glued_once}
use Rattle.fs_gluing.specs.Polygons.{HasSide}
use Rattle.fs_gluing.specs.declared.shapes.Glue.{Glue}
use Rattle.fs_gluing.specs.Gluing.{ArePartners}
use Rattle.fs_gluing.specs.PartnerTable.{partner_of}
use Rattle.fs_gluing.proofs.Base.Equality.{same_from_eq, differ_from_eq, differ_from_ne, same_from_ne}
use Rattle.fs_gluing.proofs.Gluing.GlueLines.{sides_exist_by, absent_one, absent_two, absent_fails, twice_fails, opposite_fails, line_passes, glued_once_by, one_glued_before, two_glued_before, are_opposite, vectors_opposite}
use Rattle.fs_gluing.proofs.glue_lines.check_glue.Goals as goal
use Rattle.fs_gluing.proofs.glue_lines.check_glue.Goals.{After-ne}
use Rattle.fs_gluing.proofs.glue_lines.check_glue.Goals.{then-eq-via-then-eq, then-eq-via-else-eq+then-has, then-eq-via-else-eq+else-has+then-has-2}

pub returns-in_default-clause-failed : goal.returns-in_default-clause-failed
returns-in_default-clause-failed c = λ earlier a.
    absent_fails c.args.polygons.now earlier c.args.glue.now (absent_two c.args.polygons.now c.args.glue.now (sym c.vector_at-2.ensures ∙ c.in_default.is-1))

pub returns-in_default-2-clause-failed : goal.returns-in_default-2-clause-failed
returns-in_default-2-clause-failed c = λ earlier a.
    absent_fails c.args.polygons.now earlier c.args.glue.now (absent_one c.args.polygons.now c.args.glue.now (sym c.vector_at.ensures ∙ c.in_default.is-0))

pub returns-then-eq-clause-failed : goal.returns-then-eq-clause-failed
returns-then-eq-clause-failed c = λ earlier a.
    let present = sides_exist_by c.args.polygons.now c.args.glue.now c.in-Some-Some.one c.in-Some-Some.two (sym c.vector_at.ensures ∙ c.in-Some-Some.is-0) (sym c.vector_at-2.ensures ∙ c.in-Some-Some.is-1) in
    twice_fails c.args.polygons.now earlier c.args.glue.now present (elim c.then-eq.branch [
      | then-eq-via-then-eq w ↦ λ single. single.0 (same_from_eq c.args.glue.now.one c.args.glue.now.two c.eq.result c.eq.ensures w.if-eq.true)
      | then-eq-via-else-eq+then-has w ↦
          one_glued_before c.args.polygons.now earlier c.args.glue.now (partner_of c.args.partners.now) a (sym w.has.ensures ∙ w.if-has.true)
      | then-eq-via-else-eq+else-has+then-has-2 w ↦
          two_glued_before c.args.polygons.now earlier c.args.glue.now (partner_of c.args.partners.now) a (sym w.has-else-has.ensures ∙ w.if-has-2.true)
    ])

-- both sides exist
present : (c : After-ne) → HasSide c.args.polygons.now c.args.glue.now.one × HasSide c.args.polygons.now c.args.glue.now.two
present c =
    sides_exist_by c.args.polygons.now c.args.glue.now c.in-Some-Some.one c.in-Some-Some.two (sym c.vector_at.ensures ∙ c.in-Some-Some.is-0) (sym c.vector_at-2.ensures ∙ c.in-Some-Some.is-1)

-- and neither is on an earlier line
once : (c : After-ne) (earlier : List Glue) → ArePartners earlier (partner_of c.args.partners.now) → PassesLine c.args.polygons.now (glued_once earlier c.args.glue.now)
once c earlier a =
    glued_once_by c.args.polygons.now earlier c.args.glue.now (partner_of c.args.partners.now) a (differ_from_eq c.args.glue.now.one c.args.glue.now.two c.eq.result c.eq.ensures c.if-eq.false)
    (not_some _ (sym c.has.ensures ∙ c.if-has.false)) (not_some _ (sym c.has-else-has.ensures ∙ c.if-has-2.false))

pub returns-then-ne-clause-failed : goal.returns-then-ne-clause-failed
returns-then-ne-clause-failed c = λ earlier a.
    let at = (goal.at.returns-then-ne-clause-failed c).After-ne in
    let apart = differ_from_ne c.in-Some-Some.two c.neg.result c.ne.result c.ne.ensures c.if-ne.true in
    opposite_fails c.args.polygons.now earlier c.args.glue.now (present at) (once at earlier a)
    (λ h. apart (vectors_opposite _ _ c.in-Some-Some.one c.in-Some-Some.two (sym c.vector_at.ensures ∙ c.in-Some-Some.is-0) (sym c.vector_at-2.ensures ∙ c.in-Some-Some.is-1) h ∙ sym c.neg.ensures))

pub returns-clause-passed : goal.returns-clause-passed
returns-clause-passed c = λ earlier a.
    let at = (goal.at.returns-clause-passed c).After-ne in
    let same = same_from_ne c.in-Some-Some.two c.neg.result c.ne.result c.ne.ensures c.if-ne.false in
    line_passes c.args.polygons.now earlier c.args.glue.now (present at) (once at earlier a)
    (are_opposite _ _ c.in-Some-Some.one c.in-Some-Some.two (sym c.vector_at.ensures ∙ c.in-Some-Some.is-0) (sym c.vector_at-2.ensures ∙ c.in-Some-Some.is-1) (same ∙ c.neg.ensures))
