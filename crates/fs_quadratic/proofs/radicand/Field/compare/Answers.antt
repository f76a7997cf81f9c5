use Rattle.std.proofs.Common.{sym, ap, ◌∙◌}
use Rattle.std.specs.Ordering.{ordering_reverse}
use Rattle.fs_quadratic.proofs.Comparison.{int_cmp-bits, compare-equal_p, compare-greater_p, compare-less_p, compare-greater_less, compare-less_greater}
use Rattle.fs_quadratic.proofs.radicand.Field.compare.Goals as goal

pub returns-in-Greater-Less : goal.returns-in-Greater-Less
returns-in-Greater-Less c =
    let p = int_cmp-bits c.cmp-p.ensures c.p.ensures.value c.p.ensures.within c.p-2.ensures.value c.p-2.ensures.within in
    let q = int_cmp-bits c.cmp-q.ensures c.q.ensures.value c.q.ensures.within c.q-2.ensures.value c.q-2.ensures.within in
    c.compare_sizes.ensures ∙ compare-greater_less c.args.self.d c.args.x c.args.y (sym c.in-Greater-Less.is-0 ∙ p) (sym c.in-Greater-Less.is-1 ∙ q)

pub returns-in-Less-Greater : goal.returns-in-Less-Greater
returns-in-Less-Greater c =
    let p = int_cmp-bits c.cmp-p.ensures c.p.ensures.value c.p.ensures.within c.p-2.ensures.value c.p-2.ensures.within in
    let q = int_cmp-bits c.cmp-q.ensures c.q.ensures.value c.q.ensures.within c.q-2.ensures.value c.q-2.ensures.within in
    c.reverse.ensures
    ∙ ap ordering_reverse c.compare_sizes-in-Less-Greater.ensures
    ∙ compare-less_greater c.args.self.d c.args.x c.args.y (sym c.in-Less-Greater.is-0 ∙ p) (sym c.in-Less-Greater.is-1 ∙ q)

pub returns-in-Equal-default : goal.returns-in-Equal-default
returns-in-Equal-default c =
    let p = int_cmp-bits c.cmp-p.ensures c.p.ensures.value c.p.ensures.within c.p-2.ensures.value c.p-2.ensures.within in
    let q = int_cmp-bits c.cmp-q.ensures c.q.ensures.value c.q.ensures.within c.q-2.ensures.value c.q-2.ensures.within in
    compare-equal_p c.args.self.d c.args.x c.args.y c.cmp-q.result (sym c.in-Equal-default.is-0 ∙ p) q

pub returns-in_default : goal.returns-in_default
returns-in_default c =
    let p = int_cmp-bits c.cmp-p.ensures c.p.ensures.value c.p.ensures.within c.p-2.ensures.value c.p-2.ensures.within in
    let q = int_cmp-bits c.cmp-q.ensures c.q.ensures.value c.q.ensures.within c.q-2.ensures.value c.q-2.ensures.within in
    c.in_default.is-0 ∙ compare-greater_p c.args.self.d c.args.x c.args.y c.cmp-q.result (sym c.in_default.is-0 ∙ p) q c.in_default.not-Less-1

pub returns-in_default-2 : goal.returns-in_default-2
returns-in_default-2 c =
    let p = int_cmp-bits c.cmp-p.ensures c.p.ensures.value c.p.ensures.within c.p-2.ensures.value c.p-2.ensures.within in
    let q = int_cmp-bits c.cmp-q.ensures c.q.ensures.value c.q.ensures.within c.q-2.ensures.value c.q-2.ensures.within in
    c.in_default.is-0 ∙ compare-less_p c.args.self.d c.args.x c.args.y c.cmp-q.result (sym c.in_default.is-0 ∙ p) q c.in_default.not-Greater-1
