-- Both sums are within the width.
use Rattle.std.proofs.Common.{sym, subst}
use Rattle.fs_rauzy.specs.RoomForSums.{VectorHasRoom}
use Rattle.fs_rauzy.proofs.SumsInRoom.{room_add}
use Rattle.fs_rauzy.proofs.numbers.sum_in_room.Goals as goal

pub add_fitting-requires : goal.add_fitting-requires
add_fitting-requires c =
    let left = subst VectorHasRoom (sym c.a.view_is) c.requires.left in
    let right = subst VectorHasRoom (sym c.b.view_is) c.requires.right in
    room_add c.a.inside.x c.b.inside.x left.0 right.0

pub add_fitting-requires-2 : goal.add_fitting-requires-2
add_fitting-requires-2 c =
    let left = subst VectorHasRoom (sym c.a.view_is) c.requires.left in
    let right = subst VectorHasRoom (sym c.b.view_is) c.requires.right in
    room_add c.a.inside.y c.b.inside.y left.1 right.1
