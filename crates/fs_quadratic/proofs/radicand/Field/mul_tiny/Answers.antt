use Rattle.std.proofs.Common.{◌∙◌, sym, ◌*ℤ◌, pos, ◌+ℤ◌}
use Rattle.fs_quadratic.proofs.Laws.{quadratic_eq, mul-is}
use Rattle.fs_quadratic.proofs.Tiny.{word_product, rational_fits, rational_read, r_read}
use Rattle.fs_quadratic.proofs.radicand.Field.mul_tiny.Goals as goal

pub overflow_add-p : goal.overflow_add-p
overflow_add-p c =
    rational_fits c.tiny_product.result c.tiny_product-2.result c.from.result c.args.self.d c.from.ensures c.args.self.radicand.greatest c.tiny_product.ensures.within c.tiny_product-2.ensures.within

pub returns : goal.returns
returns c =
    let pp = word_product c.tiny_product.ensures.value c.p.ensures.value c.p.ensures.within c.p-2.ensures.value c.p-2.ensures.within in
    let qq = word_product c.tiny_product-2.ensures.value c.q.ensures.value c.q.ensures.within c.q-2.ensures.value c.q-2.ensures.within in
    let pq = word_product c.tiny_product-3.ensures.value c.p-3.ensures.value c.p-3.ensures.within c.q-3.ensures.value c.q-3.ensures.within in
    let qp = word_product c.tiny_product-4.ensures.value c.q-4.ensures.value c.q-4.ensures.within c.p-4.ensures.value c.p-4.ensures.within in
    let d = c.args.self.d in
    c.new.ensures ∙ (quadratic_eq
    (rational_read c.tiny_product.result c.tiny_product-2.result c.from.result d c.from.ensures c.args.self.radicand.greatest c.tiny_product.ensures.within c.tiny_product-2.ensures.within c.from-2.ensures
    ∙ (λ i. pp i +ℤ (pos d *ℤ qq i)))
    (r_read c.tiny_product-3.result c.tiny_product-4.result c.tiny_product-3.ensures.within c.tiny_product-4.ensures.within c.from-3.ensures ∙ (λ i. pq i +ℤ qp i))
    ∙ sym (mul-is d c.args.x c.args.y))
