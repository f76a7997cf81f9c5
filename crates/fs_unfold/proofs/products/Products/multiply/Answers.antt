-- Each product is put into its place, or it stops.
use Rattle.std.proofs.Common.{◌∷◌, [], ◌++◌, refl, sym, ap, ◌∙◌, subst, arith}
use Rattle.std.specs.Result.{IfErr}
use Rattle.fs_lists.proofs.Results.{at_exit}
use Rattle.fs_unfold.specs.InPlace.{OrNoMemory, IsUnderWay, StopsAtProduct}
use Rattle.fs_unfold.proofs.ProductsInTurn.{product_stops, full_or_no_memory, under_way_few, under_way_next, under_way_row, still_there, few_mirrors}
use Rattle.fs_unfold.proofs.products.Products.multiply.Goals as goal

pub place_of-requires : goal.place_of-requires
place_of-requires c = under_way_few c.args.field.d c.args.mirrors.now c.args.g c.loop-i.i c.loop-i.self.list c.loop-i.self.neighbours c.loop-i.invariant.0

pub returns-in_err-place-in-Ok-clause-stops : goal.returns-in_err-place-in-Ok-clause-stops
returns-in_err-place-in-Ok-clause-stops c =
    at_exit (λ r. IfErr r (OrNoMemory (StopsAtProduct c.args.field.d c.args.mirrors.now))) c.from_residual.result c.in_err-place-in-Ok.field-0.0 c.from_residual.ensures.1
    (full_or_no_memory c.args.field.d c.args.mirrors.now c.requires.table c.args.g c.loop-i.i c.loop-i.self.list c.loop-i.self.neighbours c.loop-i.invariant.0 c.index-as_slice-g.result c.loop-i.invariant.1
    c.index-mirrors-i.result (record { inside = c.loop-i-test.true; is = c.index-mirrors-i.is }) c.in-Ok.rows (sym c.in-Ok.ensures) c.in_err-place-in-Ok.field-0.0 c.in_err-place-in-Ok.ensures.stops)

pub overflow_cast-result : goal.overflow_cast-result
overflow_cast-result c =
    let few = under_way_few c.args.field.d c.args.mirrors.now c.args.g 0 c.args.self.now.list c.args.self.now.neighbours c.requires.before in
    let there = c.requires.there in
    record { fits = omega (arith, few, there) }

pub overflow_cast-result-in-Err : goal.overflow_cast-result-in-Err
overflow_cast-result-in-Err c =
    let few = few_mirrors c.args.field.d c.args.mirrors.now c.requires.table in
    let inside = c.loop-i-test.true in
    record { fits = omega (arith, few, inside) }

pub returns-in-Err-clause-stops : goal.returns-in-Err-clause-stops
returns-in-Err-clause-stops c =
    product_stops c.args.field.d c.args.mirrors.now c.requires.table c.args.g c.loop-i.i c.loop-i.self.list c.loop-i.self.neighbours c.loop-i.invariant.0 c.index-as_slice-g.result c.loop-i.invariant.1
    c.index-mirrors-i.result (record { inside = c.loop-i-test.true; is = c.index-mirrors-i.is }) c.in-Err.field-0 (sym c.in-Err.ensures)

pub loop-i-preserved : goal.loop-i-preserved
loop-i-preserved c = (
  subst (IsUnderWay c.args.field.d c.args.mirrors.now c.args.g _ c.place_of.new.self.list) (sym (c.in_ok-push-in-Ok.ensures.ok ∙ ap (λ ns. ns ++ c.in_ok-place-in-Ok.place ∷ []) c.in_ok-place-in-Ok.ensures.kept))
      (under_way_next c.args.field.d c.args.mirrors.now c.requires.table c.args.g c.loop-i.i c.loop-i.self.list c.loop-i.self.neighbours c.loop-i.invariant.0 c.index-as_slice-g.result c.loop-i.invariant.1
      c.index-mirrors-i.result (record { inside = c.loop-i-test.true; is = c.index-mirrors-i.is }) c.in-Ok.rows (sym c.in-Ok.ensures) _ c.place_of.new.self.list c.in_ok-place-in-Ok.place refl
      c.in_ok-place-in-Ok.ensures.there c.in_ok-place-in-Ok.ensures.list),
  still_there c.in-Ok.rows _ c.loop-i.self.list c.place_of.new.self.list c.args.g c.index-as_slice-g.result c.in_ok-place-in-Ok.ensures.list c.loop-i.invariant.1,
)

pub returns-clause-after : goal.returns-clause-after
returns-clause-after c =
    under_way_row c.args.field.d c.args.mirrors.now c.requires.table c.args.g c.loop-i.i c.loop-i.self.list c.loop-i.self.neighbours (let last = c.loop-i-test.false in omega (arith, last)) c.loop-i.invariant.0
