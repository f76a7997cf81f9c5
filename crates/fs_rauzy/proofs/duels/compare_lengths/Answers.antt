-- Where the r parts are equal, the comparison of the rational parts is that of the numbers.
use Rattle.std.proofs.Common.{sym, ◌∙◌}
use Rattle.fs_quadratic.proofs.Comparison.{int_cmp-bits}
use Rattle.fs_quadratic.proofs.Signs.{greater_iff_less, less_iff_less}
use Rattle.fs_quadratic.proofs.SquareRoot.{radicand_no_square}
use Rattle.fs_rauzy.proofs.EqualParts.{by_rational_parts}
use Rattle.fs_rauzy.proofs.duels.compare_lengths.Goals as goal

pub returns-in-Equal-clause-greater : goal.returns-in-Equal-clause-greater
returns-in-Equal-clause-greater c =
    let p = int_cmp-bits c.cmp-in-Equal.ensures c.p.ensures.value c.p.ensures.within c.p-in-Equal.ensures.value c.p-in-Equal.ensures.within in
    let q = int_cmp-bits c.cmp.ensures c.q.ensures.value c.q.ensures.within c.q-2.ensures.value c.q-2.ensures.within in
    greater_iff_less (radicand_no_square c.args.field.radicand) c.cmp-in-Equal.result c.args.x c.args.y (by_rational_parts c.args.field.d c.args.x c.args.y c.cmp-in-Equal.result p (sym c.in-Equal.is ∙ q))

pub returns-in-Equal-clause-less : goal.returns-in-Equal-clause-less
returns-in-Equal-clause-less c =
    let p = int_cmp-bits c.cmp-in-Equal.ensures c.p.ensures.value c.p.ensures.within c.p-in-Equal.ensures.value c.p-in-Equal.ensures.within in
    let q = int_cmp-bits c.cmp.ensures c.q.ensures.value c.q.ensures.within c.q-2.ensures.value c.q-2.ensures.within in
    less_iff_less (radicand_no_square c.args.field.radicand) c.cmp-in-Equal.result c.args.x c.args.y (by_rational_parts c.args.field.d c.args.x c.args.y c.cmp-in-Equal.result p (sym c.in-Equal.is ∙ q))
