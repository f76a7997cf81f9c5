use Rattle.std.proofs.Common.{rules}
use Rattle.fs_quadratic.proofs.Parts.{same_answer}
use Rattle.fs_quadratic.proofs.product.r_part.Goals as goal

pub returns-in-Some-Some : goal.returns-in-Some-Some
returns-in-Some-Some c = same_answer c.checked_sum.result _ _ _ _ c.checked_sum.ensures (search rules) (search rules) (search rules)
