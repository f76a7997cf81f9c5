-- The table passes where it is built, or where only a side isn't on a glue line; all other stops are those of its tests.
use Rattle.std.proofs.Common.{Err, subst}
use Rattle.std.specs.List.{AllByRecursion}
use Rattle.fs_gluing.specs.declared.shapes.Shape.{Shape}
use Rattle.fs_gluing.specs.FirstFault.{PassesOf, tests_of, IsBuildResult}
use Rattle.fs_unfold.proofs.TableAlone.{passes_of_surface, table_checked, table_stopped}
use Rattle.fs_unfold.proofs.unfolding.check_table.Goals as goal

pub returns-in-Ok-clause-passes : goal.returns-in-Ok-clause-passes
returns-in-Ok-clause-passes c = record {
  radicand = c.args.field.radicand;
  passes =
      passes_of_surface c.args.field.d c.args.table.now
      (subst (λ (shape : Shape). AllByRecursion (PassesOf c.args.field.d shape) (tests_of shape)) c.in_ok-shape.ensures.shape c.in-Ok.ensures.outcome.2);
  lowest = c.in_ok-shape.ensures.lowest;
  few = c.requires;
}

pub returns-clause-passes : goal.returns-clause-passes
returns-clause-passes c =
    table_checked c.args.field.d c.args.table.now c.in-Err.stop c.args.field.radicand c.in_ok-shape.ensures.lowest c.requires
    (subst (λ (shape : Shape). IsBuildResult c.args.field.d shape (Err c.in-Err.stop)) c.in_ok-shape.ensures.shape c.in-Err.ensures.outcome) c.check_stop.result c.check_stop.ensures.passes

pub returns-clause-fails : goal.returns-clause-fails
returns-clause-fails c =
    table_stopped c.args.field.d c.args.table.now c.in-Err.stop
    (subst (λ (shape : Shape). IsBuildResult c.args.field.d shape (Err c.in-Err.stop)) c.in_ok-shape.ensures.shape c.in-Err.ensures.outcome) c.check_stop.result c.check_stop.ensures.fails
