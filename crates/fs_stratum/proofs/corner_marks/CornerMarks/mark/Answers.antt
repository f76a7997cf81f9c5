-- One mark is set.
use Rattle.std.proofs.Common.{◌∙◌, ◌*◌, ◌+◌, ◌<◌, true, set, sym, subst, length}
use Rattle.std.proofs.lemmas.List.{length-set, with_items_is}
use Rattle.fs_gluing.specs.Polygons.{HasSide}
use Rattle.fs_stratum.specs.CornerMarks.{MarksCorner}
use Rattle.fs_stratum.specs.MarkRows.{rows}
use Rattle.fs_stratum.proofs.MarkRows.{index_inside, mark_set}
use Rattle.fs_stratum.proofs.corner_marks.CornerMarks.mark.Goals as goal

pub bounds-marks-c : goal.bounds-marks-c
bounds-marks-c c =
    subst (λ m. c.args.c.polygon * c.self.inside.width + c.args.c.side < length m) (sym c.as_mut_slice-marks.ensures.value)
    (index_inside c.self.inside.polygons c.self.inside.width c.self.inside.marks.items c.args.c (subst (λ m. HasSide m c.args.c) (sym c.self.view_is) c.requires) c.self.invariant)

pub returns : goal.returns
returns c =
    let n = c.self.inside.polygons in
    let width = c.self.inside.width in
    let marks = c.self.inside.marks.items in
    let i = c.args.c.polygon * width + c.args.c.side in
    let marked = set c.as_mut_slice-marks.result.now i true in
    let long = length-set c.as_mut_slice-marks.result.now i true ∙ c.as_mut_slice-marks.ensures.len in
    subst (λ m. MarksCorner c.args.c c.args.self.now (rows n width m)) (sym (with_items_is c.self.inside.marks marked long))
    (subst (λ old. MarksCorner c.args.c old (rows n width marked)) c.self.view_is
    (subst (λ m. MarksCorner c.args.c (rows n width marks) (rows n width (set m i true))) (sym c.as_mut_slice-marks.ensures.value)
    (mark_set n width marks c.args.c (subst (λ m. HasSide m c.args.c) (sym c.self.view_is) c.requires))))
