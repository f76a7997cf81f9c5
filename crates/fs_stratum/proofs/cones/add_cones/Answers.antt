-- The corners of a polygon are tried one after another.
use Rattle.std.proofs.Common.{◌≡◌, ◌∙◌, ap, sym, subst, List, length, arith}
use Rattle.std.specs.Option.{IfSome}
use Rattle.std.specs.List.{slice_get}
use Rattle.fs_gluing.specs.declared.surfaces.Side.{Side}
use Rattle.fs_stratum.specs.CornerMarks.{is_marked}
use Rattle.fs_stratum.proofs.VerticesFound.{found_same, found_seen, found_new, found_row, has_corner_in_row, fresh_of_unmarked}
use Rattle.fs_stratum.proofs.cones.add_cones.Goals as goal
use Rattle.fs_stratum.proofs.cones.add_cones.Goals.{then-not-has+in_ok-push, else-not-has}

pub has-requires : goal.has-requires
has-requires c =
    c.loop-j.invariant.covers.each c.new-first.result
    (has_corner_in_row c.args.surface.now c.new-first.ensures c.requires.there c.sides-j-end.ensures c.loop-j-test.true)

pub mark_vertex-k-requires-clause-there : goal.mark_vertex-k-requires-clause-there
mark_vertex-k-requires-clause-there c =
    has_corner_in_row c.args.surface.now c.new-first.ensures c.requires.there c.sides-j-end.ensures c.loop-j-test.true

pub mark_vertex-k-requires-clause-fresh : goal.mark_vertex-k-requires-clause-fresh
mark_vertex-k-requires-clause-fresh c =
    fresh_of_unmarked c.args.surface.now c.requires.surface.surface c.new-first.result c.loop-j.marks c.loop-j.cones
    (has_corner_in_row c.args.surface.now c.new-first.ensures c.requires.there c.sides-j-end.ensures c.loop-j-test.true)
    c.loop-j.invariant.marked (sym c.has.ensures ∙ c.if-not-has.true)

pub loop-j-preserved : goal.loop-j-preserved
loop-j-preserved c = elim c.if-not-has.branch [
  | then-not-has+in_ok-push w ↦
      let has = has_corner_in_row c.args.surface.now c.new-first.ensures c.requires.there c.sides-j-end.ensures c.loop-j-test.true in
      let new = found_new c.args.surface.now c.requires.surface.surface c.args.i c.loop-j.j w.mark_vertex-k.result c.loop-j.marks w.mark_vertex-k.new.marks c.loop-j.cones c.new-first.result c.new-first.ensures has
      c.loop-j.invariant (sym c.has.ensures ∙ w.if-not-has.true) w.mark_vertex-k.ensures.number w.mark_vertex-k.ensures.marks in
      found_same c.args.surface.now _ w.marks-is (w.cones-is ∙ w.in_ok-push.ensures.ok) new
  | else-not-has w ↦
      found_same c.args.surface.now _ w.marks-is w.cones-is
      (found_seen c.args.surface.now c.args.i c.loop-j.j c.loop-j.marks c.loop-j.cones c.loop-j.invariant (ap (is_marked c.loop-j.marks) (sym c.new-first.ensures) ∙ sym c.has.ensures ∙ w.if-not-has.false))
]

pub returns : goal.returns
returns c =
    let end : c.loop-j.j ≡ c.sides-j-end.result = omega arith in
    found_row c.args.surface.now c.args.i c.loop-j.j c.loop-j.marks c.loop-j.cones c.loop-j.invariant
    (subst (λ n. IfSome (slice_get c.args.surface.now.polygons c.args.i) (λ (polygon : List Side). n ≡ length polygon)) (sym end) c.sides-j-end.ensures)
