use Rattle.fs_fraction.proofs.LowestRatios.{whole-ratio}
use Rattle.fs_fraction.proofs.value.lowest_ratio.Goals as goal

pub invariant_of-result : goal.invariant_of-result
invariant_of-result c = record { lowest = whole-ratio c.number-over.result c.number-over.ensures.below }
