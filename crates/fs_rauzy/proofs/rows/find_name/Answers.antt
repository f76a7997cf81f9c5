-- The search for a name, from the end.
use Rattle.std.proofs.Common.{◌+◌, ◌-◌, ◌≡◌, arith}
use Rattle.fs_rauzy.proofs.RowMoves.{search_goes_on, search_more}
use Rattle.fs_rauzy.proofs.rows.find_name.Goals as goal

pub loop-place-preserved : goal.loop-place-preserved
loop-place-preserved c =
    let later = search_goes_on c.args.name c.args.row.now c.loop-place.place 0 c.loop-place-test.true c.loop-place.invariant in
    let next : c.loop-place.place - 1 + 1 ≡ c.loop-place.place = omega arith in
    search_more c.args.name c.args.row.now c.loop-place.place (c.loop-place.place - 1) 0 c.loop-place-test.true next c.loop-place.invariant
