-- The first side that is in the row while the one to its left isn't is the leftmost one, and there is one.
use Rattle.std.proofs.Common.{◌≡◌, true, ap, ◌∙◌, subst, sym, arith}
use borrow.Author.Count.{below_more}
use Rattle.fs_iet.specs.Rows.{IsInRow, to_left_in}
use Rattle.fs_iet.proofs.PolygonRows.{leftmost_exists, read_sides}
use Rattle.fs_iet.proofs.rows.find_leftmost.Goals as goal
use Rattle.fs_iet.proofs.rows.find_leftmost.Goals.{else-is_in_row-via-then-is_in_row+else-not-is_in_row, else-is_in_row-via-else-is_in_row}

pub loop-j-preserved : goal.loop-j-preserved
loop-j-preserved c =
    below_more _ _ c.loop-j.invariant
    (λ left. elim c.else-is_in_row.branch [
      | else-is_in_row-via-then-is_in_row+else-not-is_in_row w ↦
          left.first (subst (IsInRow c.args.surface.now c.args.v c.args.row) (w.to_the_left.ensures ∙ ap (to_left_in c.args.surface.now c.args.row) c.new-e.ensures) (w.is_in_row-then-is_in_row.ensures.0 w.if-not-is_in_row.false))
      | else-is_in_row-via-else-is_in_row w ↦
          let in_row : c.is_in_row.result ≡ true = c.is_in_row.ensures.1 (subst (IsInRow c.args.surface.now c.args.v c.args.row) (sym c.new-e.ensures) left.there) in
          let out = w.if-is_in_row.false in
          cc
    ])

pub unreachable-requires : goal.unreachable-requires
unreachable-requires c =
    leftmost_exists c.requires.surface c.requires.direction c.args.i c.requires.there c.args.row
    (λ k l. let n = read_sides c.args.surface.now.polygons c.args.i c.sides-j-end.result c.requires.there c.sides-j-end.ensures in let m = c.loop-j-test.false in c.loop-j.invariant k (omega arith))
