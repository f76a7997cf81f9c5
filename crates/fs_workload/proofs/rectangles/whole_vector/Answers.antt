-- Both coordinates are over 1.
use Rattle.fs_workload.proofs.WholeFractions.{whole-given}
use Rattle.fs_workload.proofs.rectangles.whole_vector.Goals as goal

pub returns : goal.returns
returns c = λ i. record { x = whole-given c.args.x c.new.result c.new.ensures.only i; y = whole-given c.args.y c.new-2.result c.new-2.ensures.only i }
