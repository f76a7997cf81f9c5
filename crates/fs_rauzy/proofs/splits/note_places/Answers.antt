-- One place more.
use Rattle.std.proofs.Common.{◌<◌, ◌≡◌, length, get_or, refl, arith}
use Rattle.std.proofs.lemmas.Option.{slice_get_within}
use Rattle.fs_lists.proofs.Items.{item_of}
use Rattle.fs_iet.proofs.Items.{item_holds}
use Rattle.fs_rauzy.proofs.Places.{places_more}
use Rattle.fs_rauzy.proofs.splits.note_places.Goals as goal

pub loop-n-preserved : goal.loop-n-preserved
loop-n-preserved c =
    let row = c.args.row.now in
    let kept : length c.loop-n.places ≡ length c.args.places.now = c.loop-n.auto.places in
    let within : get_or row c.loop-n.n 0 < length c.args.places.now = item_holds (λ name. name < length c.args.places.now) row c.loop-n.n _ c.requires.within (item_of row row c.loop-n.n 0 refl c.loop-n-test.true) in
    places_more row c.loop-n.places c.loop-n.n 0 c.requires.apart c.loop-n-test.true (omega arith) c.loop-n.invariant

pub returns-clause-places : goal.returns-clause-places
returns-clause-places c = λ n name e.
    let all = c.loop-n-test.false in
    let inside = slice_get_within c.args.row.now n name e in
    c.loop-n.invariant n name (omega arith) e
