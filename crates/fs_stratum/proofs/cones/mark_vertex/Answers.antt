-- The corners of the vertex are marked one after another.
use Rattle.std.proofs.Common.{◌≤◌, inl, inr, refl, arith, sym, ◌∙◌}
use Rattle.fs_gluing.specs.Limits.{most_sides}
use Rattle.fs_stratum.proofs.VertexMarks.{vertex_marks_none, vertex_marks_more, has_corner, count_few, unmarked_falls, vertex_marked, vertex_counted, held_read, raised_read, lowered_read}
use Rattle.fs_stratum.proofs.cones.mark_vertex.Goals as goal
use Rattle.fs_stratum.proofs.cones.mark_vertex.Goals.{else-not-raised-via-then-not-raised+else-next_raised, else-not-raised-via-else-not-raised}

pub loop-field-init : goal.loop-field-init
loop-field-init c = record {
  marks = vertex_marks_none c.args.surface.now c.args.first c.args.marks.now c.requires.fresh c.requires.covers;
  vector = c.side.result;
  side = c.side.ensures;
  raised = c.is_raised-raised.ensures;
}

pub has-requires : goal.has-requires
has-requires c = c.loop-field.invariant.marks.covers.each c.loop-field.corner (has_corner c.field-field.ensures.surface.surface c.requires.there c.loop-field.invariant.marks)

pub mark-requires : goal.mark-requires
mark-requires c = c.loop-field.invariant.marks.covers.each c.loop-field.corner (has_corner c.field-field.ensures.surface.surface c.requires.there c.loop-field.invariant.marks)

pub turn-next-requires : goal.turn-next-requires
turn-next-requires c = has_corner c.field-field.ensures.surface.surface c.requires.there c.loop-field.invariant.marks

pub overflow_add-k : goal.overflow_add-k
overflow_add-k c =
    let l : c.loop-field.k ≤ most_sides = count_few c.field-field.ensures.surface.surface c.requires.there c.field-field.ensures.surface.sides c.loop-field.invariant.marks in
    omega arith

pub loop-field-smaller-then-next_raised : goal.loop-field-smaller-then-next_raised
loop-field-smaller-then-next_raised c =
    unmarked_falls c.args.surface.now.polygons c.loop-field.corner c.loop-field.marks c.mark.new.self (has_corner c.field-field.ensures.surface.surface c.requires.there c.loop-field.invariant.marks)
    (sym c.has.ensures ∙ c.loop-field-test.true) c.mark.ensures

pub loop-field-preserved-then-next_raised : goal.loop-field-preserved-then-next_raised
loop-field-preserved-then-next_raised c =
    let l = c.loop-field.invariant in
    let here = has_corner c.field-field.ensures.surface.surface c.requires.there l.marks in
    record {
      marks = vertex_marks_more c.field-field.ensures.surface.surface c.requires.there l.marks (sym c.has.ensures ∙ c.loop-field-test.true) c.mark.ensures c.turn-next.ensures.turn
          (inl (
            held_read c.args.surface.now c.field-field.ensures.surface.surface c.loop-field.corner c.turn-next.result here c.turn-next.ensures.there c.turn-next.ensures.turn c.field-field.result.d c.field-field.ensures.field
                l.vector c.side-in-loop-field.result c.loop-field.raised c.is_raised-next_raised.result l.side l.raised c.if-not-raised.true c.side-in-loop-field.ensures c.is_raised-next_raised.ensures c.if-next_raised.true,
            omega arith,
          ));
      vector = c.side-in-loop-field.result;
      side = c.side-in-loop-field.ensures;
      raised = c.is_raised-next_raised.ensures;
    }

pub loop-field-smaller : goal.loop-field-smaller
loop-field-smaller c =
    unmarked_falls c.args.surface.now.polygons c.loop-field.corner c.loop-field.marks c.mark.new.self (has_corner c.field-field.ensures.surface.surface c.requires.there c.loop-field.invariant.marks)
    (sym c.has.ensures ∙ c.loop-field-test.true) c.mark.ensures

pub loop-field-preserved : goal.loop-field-preserved
loop-field-preserved c =
    let l = c.loop-field.invariant in
    let here = has_corner c.field-field.ensures.surface.surface c.requires.there l.marks in
    record {
      marks = vertex_marks_more c.field-field.ensures.surface.surface c.requires.there l.marks (sym c.has.ensures ∙ c.loop-field-test.true) c.mark.ensures c.turn-next.ensures.turn
          (inr (
            elim c.else-not-raised.branch [
              | else-not-raised-via-then-not-raised+else-next_raised w ↦
                  lowered_read c.args.surface.now c.field-field.ensures.surface.surface c.loop-field.corner c.turn-next.result here c.turn-next.ensures.there c.turn-next.ensures.turn c.field-field.result.d c.field-field.ensures.field
                  c.side-in-loop-field.result c.is_raised-next_raised.result c.side-in-loop-field.ensures c.is_raised-next_raised.ensures w.if-next_raised.false
              | else-not-raised-via-else-not-raised w ↦
                  raised_read c.args.surface.now c.field-field.ensures.surface.surface c.loop-field.corner c.turn-next.result here c.turn-next.ensures.there c.turn-next.ensures.turn c.field-field.result.d c.field-field.ensures.field
                  l.vector c.loop-field.raised l.side l.raised w.if-not-raised.false
            ],
            refl,
          ));
      vector = c.side-in-loop-field.result;
      side = c.side-in-loop-field.ensures;
      raised = c.is_raised-next_raised.ensures;
    }

pub returns-clause-number : goal.returns-clause-number
returns-clause-number c = vertex_counted c.field-field.ensures.surface.surface c.requires.there c.loop-field.invariant.marks (sym c.has.ensures ∙ c.loop-field-test.false)

pub returns-clause-marks : goal.returns-clause-marks
returns-clause-marks c = vertex_marked c.field-field.ensures.surface.surface c.requires.there c.loop-field.invariant.marks (sym c.has.ensures ∙ c.loop-field-test.false)
