-- The difference is within the width.
use Rattle.fs_rauzy.proofs.SumsInRoom.{room_sub}
use Rattle.fs_rauzy.proofs.numbers.difference_in_room.Goals as goal

pub sub_fitting-requires : goal.sub_fitting-requires
sub_fitting-requires c = room_sub c.args.x c.args.y c.requires.left c.requires.right
