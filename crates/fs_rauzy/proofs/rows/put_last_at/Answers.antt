-- The last name is taken from the end, and put in its place.
use Rattle.fs_rauzy.proofs.RowMoves.{put_in_place}
use Rattle.fs_rauzy.proofs.rows.put_last_at.Goals as goal

pub returns-in-Some : goal.returns-in-Some
returns-in-Some c = λ left right x y before was. put_in_place left right x y c.in-Some.last c.args.place c.args.row.now.items c.pop.new.self.items before was c.in-Some.ensures.items
