-- A row of zeros for each polygon.
use Rattle.std.proofs.Common.{◌∷◌, [], ◌<◌, ap, ◌∙◌, arith, length, length-append}
use Rattle.std.proofs.lemmas.List.{length-replicate}
use Rattle.fs_iet.proofs.SideTables.{rows_more}
use Rattle.fs_iet.proofs.SidesOfRows.{polygon_exists}
use Rattle.fs_iet.proofs.numbers.Numbers.new.Goals as goal

pub loop-i-preserved : goal.loop-i-preserved
loop-i-preserved c =
    let whole = c.in_ok-push.ensures.items in
    let below : c.loop-i.i < length c.args.surface.now.polygons = let t = c.loop-i-test.true in let p = c.polygons-i-end.ensures.polygons in omega arith in
    record {
      as_many = let l = ap length whole ∙ length-append c.loop-i.rows.items (c.in_ok-vec.field-0 ∷ []) in let m = c.loop-i.invariant.as_many in omega arith;
      there =
          rows_more (λ row. row.items) c.loop-i.rows.items c.args.surface.now.polygons c.in_ok-vec.field-0 c.push.new.self.items c.loop-i.i c.sides.result whole c.loop-i.invariant.as_many below c.sides.ensures
          (ap length (c.in_ok-vec.ensures.items_if_clones_equal (λ x e. e)) ∙ length-replicate c.sides.result 0) c.loop-i.invariant.there;
    }

pub returns : goal.returns
returns c = λ e h.
    let out = c.loop-i-test.false in
    let polygons = c.polygons-i-end.ensures.polygons in
    let below = polygon_exists c.args.surface.now.polygons e h in
    c.loop-i.invariant.there e (omega arith) h
