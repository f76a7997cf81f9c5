-- Small numbers have a product within the width.
use Rattle.std.proofs.Common.{refl}
use Rattle.fs_rauzy.proofs.SmallProducts as small
use Rattle.fs_rauzy.proofs.comparing.find_product.Goals as goal

pub returns-then-is_small-2 : goal.returns-then-is_small-2
returns-then-is_small-2 c =
    small.small_product c.args.field.d c.args.place c.args.x c.args.y c.small_product.result c.args.field.radicand.greatest (c.if-is_small.ensures.0 refl) (c.if-is_small-2.ensures.0 refl)
    c.small_product.ensures
