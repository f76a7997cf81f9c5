-- One number is written.
use Rattle.std.proofs.Common.{sym, ap, ◌∙◌, refl, subst}
use Rattle.fs_gluing.specs.Polygons.{at_side, HasSide}
use Rattle.fs_iet.proofs.SideTables.{written_here, written_others, written_sides}
use Rattle.fs_iet.proofs.numbers.Numbers.set.Goals as goal

pub returns-clause-here : goal.returns-clause-here
returns-clause-here c =
    written_here (λ row. row.items) c.self.inside.rows.items c.args.c c.index_mut-row.result.now _ c.args.number (subst (λ t. HasSide t c.args.c) (sym c.self.view_is) c.requires) c.index_mut-row.ensures.value refl

pub returns-clause-others : goal.returns-clause-others
returns-clause-others c = λ e n.
    written_others (λ row. row.items) c.self.inside.rows.items c.args.c c.index_mut-row.result.now _ c.args.number (subst (λ t. HasSide t c.args.c) (sym c.self.view_is) c.requires) c.index_mut-row.ensures.value refl e n
    ∙ ap (λ t. at_side t e) c.self.view_is

pub returns-clause-sides : goal.returns-clause-sides
returns-clause-sides c = λ e h.
    written_sides (λ row. row.items) c.self.inside.rows.items c.args.c c.index_mut-row.result.now _ c.args.number (subst (λ t. HasSide t c.args.c) (sym c.self.view_is) c.requires) c.index_mut-row.ensures.value refl e
    (subst (λ t. HasSide t e) (sym c.self.view_is) h)
