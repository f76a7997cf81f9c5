-- Signs are equal where their numbers among the three are.
use Rattle.fs_components.proofs.AlongSides.{equal_signs}
use Rattle.fs_components.proofs.along.is_same_sign.Goals as goal

pub returns : goal.returns
returns c = equal_signs c.args.field.d c.args.x c.args.y c.sign.result c.sign-2.result c.eq.result c.sign.ensures.value c.sign-2.ensures.value c.eq.ensures
