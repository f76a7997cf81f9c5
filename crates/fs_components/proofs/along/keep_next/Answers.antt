-- A connection is left out or kept.
use Rattle.std.proofs.Common.{sym, ap, subst}
use Rattle.fs_quadratic.specs.declared.radicand.Field.{Field}
use Rattle.fs_plane.specs.EqualVectors.{Decides-is_same_vector}
use Rattle.fs_plane.specs.Vector.{vector_zero}
use Rattle.fs_components.specs.Gathering.{IsKeptAfter, is_zero, is_kept}
use Rattle.fs_components.proofs.along.keep_next.Goals as goal

pub returns-then-eq-clause-kept : goal.returns-then-eq-clause-kept
returns-then-eq-clause-kept c = is_zero ((Decides-is_same_vector c.args.connection.v vector_zero).0 (sym c.if-eq.ensures))

pub returns-in_ok-push_entry-in-Ok-clause-kept : goal.returns-in_ok-push_entry-in-Ok-clause-kept
returns-in_ok-push_entry-in-Ok-clause-kept c =
    subst (IsKeptAfter c.args.field.d c.args.connection c.args.list.now.items) (sym c.in_ok-push_entry-in-Ok.ensures)
    (is_kept c.in-Ok.entry (λ e. let t = (Decides-is_same_vector c.args.connection.v vector_zero).1 e in let f = c.if-eq.ensures in absurd cc) c.in-Ok.ensures.which
    (record { field = ap (λ (f : Field). f.d) c.in-Ok.ensures.field; vector = c.in-Ok.ensures.v; corner = c.in-Ok.ensures.start }))
