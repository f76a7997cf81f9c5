-- What is returned is the one end, the unfolding, and within the limits.
use Rattle.fs_unfold.proofs.UnfoldingEnds.{only_end, returned_means, returned_within, returned_too_many}
use Rattle.fs_unfold.proofs.unfolding.unfold.Goals as goal

pub returns-clause-only : goal.returns-clause-only
returns-clause-only c = λ given ends. only_end c.args.field.d c.args.table.now c.find_unfolding.result given c.find_unfolding.ensures.ends ends

pub returns-clause-means : goal.returns-clause-means
returns-clause-means c = returned_means c.args.field.d c.args.table.now c.args.field.radicand c.requires c.find_unfolding.result c.find_unfolding.ensures.lowest c.find_unfolding.ensures.ends

pub returns-clause-limits : goal.returns-clause-limits
returns-clause-limits c = returned_within c.args.field.d c.args.table.now c.requires c.find_unfolding.result c.find_unfolding.ensures.ends

pub returns-clause-too_large : goal.returns-clause-too_large
returns-clause-too_large c = λ e. returned_too_many c.args.field.d c.args.table.now c.find_unfolding.result c.find_unfolding.ensures.ends e
