-- The mark of the corner is read.
use Rattle.std.proofs.Common.{◌∙◌, ◌*◌, ◌+◌, ◌<◌, sym, ap, subst, length, get_or, false}
use Rattle.fs_gluing.specs.Polygons.{HasSide}
use Rattle.fs_stratum.specs.CornerMarks.{is_marked}
use Rattle.fs_stratum.proofs.MarkRows.{index_inside, mark_read}
use Rattle.fs_stratum.proofs.corner_marks.CornerMarks.has.Goals as goal

pub bounds-marks-c : goal.bounds-marks-c
bounds-marks-c c =
    subst (λ m. c.args.c.polygon * c.self.inside.width + c.args.c.side < length m) (sym c.as_slice-marks.ensures.value)
    (index_inside c.self.inside.polygons c.self.inside.width c.self.inside.marks.items c.args.c (subst (λ m. HasSide m c.args.c) (sym c.self.view_is) c.requires) c.self.invariant)

pub returns : goal.returns
returns c =
    ap (λ m. get_or m (c.args.c.polygon * c.self.inside.width + c.args.c.side) false) c.as_slice-marks.ensures.value
    ∙ mark_read c.self.inside.polygons c.self.inside.width c.self.inside.marks.items c.args.c (subst (λ m. HasSide m c.args.c) (sym c.self.view_is) c.requires)
    ∙ ap (λ m. is_marked m c.args.c) c.self.view_is
