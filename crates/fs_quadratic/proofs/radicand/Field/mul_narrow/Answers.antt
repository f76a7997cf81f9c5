use Rattle.std.proofs.Common.{◌∙◌, sym}
use Rattle.fs_quadratic.proofs.Narrow.{parts_fit}
use Rattle.fs_quadratic.proofs.Bits.{of_bits-is, of_bits-mul, of_bits-product, of_bits-add, fits-mul, fits-add, within_of_eq, within_radicand}
use Rattle.fs_quadratic.proofs.Laws.{quadratic_eq, mul-is}
use Rattle.fs_quadratic.proofs.radicand.Field.mul_narrow.Goals as goal

pub overflow_mul-from : goal.overflow_mul-from
overflow_mul-from c =
    let fit = parts_fit c.args.self.d c.args.x c.args.y c.requires.fits in
    fits-mul (of_bits-is c.from.ensures (within_radicand c.args.self.radicand)) (of_bits-product c.narrow_product-2.ensures.value c.q.ensures.value c.q.ensures.within c.q-2.ensures.value c.q-2.ensures.within fit.0.1.0) fit.0.1.1

pub overflow_add-narrow_product : goal.overflow_add-narrow_product
overflow_add-narrow_product c =
    let fit = parts_fit c.args.self.d c.args.x c.args.y c.requires.fits in
    fits-add (of_bits-product c.narrow_product.ensures.value c.p.ensures.value c.p.ensures.within c.p-2.ensures.value c.p-2.ensures.within fit.0.0) (of_bits-mul (of_bits-is c.from.ensures (within_radicand c.args.self.radicand)) (of_bits-product c.narrow_product-2.ensures.value c.q.ensures.value c.q.ensures.within c.q-2.ensures.value c.q-2.ensures.within fit.0.1.0) fit.0.1.1) fit.0.2

pub overflow_add-narrow_product-2 : goal.overflow_add-narrow_product-2
overflow_add-narrow_product-2 c =
    let fit = parts_fit c.args.self.d c.args.x c.args.y c.requires.fits in
    fits-add (of_bits-product c.narrow_product-3.ensures.value c.p-3.ensures.value c.p-3.ensures.within c.q-3.ensures.value c.q-3.ensures.within fit.1.0) (of_bits-product c.narrow_product-4.ensures.value c.q-4.ensures.value c.q-4.ensures.within c.p-4.ensures.value c.p-4.ensures.within fit.1.1) fit.1.2

pub new-requires-clause-p : goal.new-requires-clause-p
new-requires-clause-p c =
    let fit = parts_fit c.args.self.d c.args.x c.args.y c.requires.fits in
    within_of_eq (of_bits-add (of_bits-product c.narrow_product.ensures.value c.p.ensures.value c.p.ensures.within c.p-2.ensures.value c.p-2.ensures.within fit.0.0) (of_bits-mul (of_bits-is c.from.ensures (within_radicand c.args.self.radicand)) (of_bits-product c.narrow_product-2.ensures.value c.q.ensures.value c.q.ensures.within c.q-2.ensures.value c.q-2.ensures.within fit.0.1.0) fit.0.1.1) fit.0.2) fit.0.2

pub new-requires-clause-q : goal.new-requires-clause-q
new-requires-clause-q c =
    let fit = parts_fit c.args.self.d c.args.x c.args.y c.requires.fits in
    within_of_eq (of_bits-add (of_bits-product c.narrow_product-3.ensures.value c.p-3.ensures.value c.p-3.ensures.within c.q-3.ensures.value c.q-3.ensures.within fit.1.0) (of_bits-product c.narrow_product-4.ensures.value c.q-4.ensures.value c.q-4.ensures.within c.p-4.ensures.value c.p-4.ensures.within fit.1.1) fit.1.2) fit.1.2

pub returns : goal.returns
returns c =
    let fit = parts_fit c.args.self.d c.args.x c.args.y c.requires.fits in
    c.new.ensures ∙ quadratic_eq (of_bits-add (of_bits-product c.narrow_product.ensures.value c.p.ensures.value c.p.ensures.within c.p-2.ensures.value c.p-2.ensures.within fit.0.0) (of_bits-mul (of_bits-is c.from.ensures (within_radicand c.args.self.radicand)) (of_bits-product c.narrow_product-2.ensures.value c.q.ensures.value c.q.ensures.within c.q-2.ensures.value c.q-2.ensures.within fit.0.1.0) fit.0.1.1) fit.0.2) (of_bits-add (of_bits-product c.narrow_product-3.ensures.value c.p-3.ensures.value c.p-3.ensures.within c.q-3.ensures.value c.q-3.ensures.within fit.1.0) (of_bits-product c.narrow_product-4.ensures.value c.q-4.ensures.value c.q-4.ensures.within c.p-4.ensures.value c.p-4.ensures.within fit.1.1) fit.1.2)
    ∙ sym (mul-is c.args.self.d c.args.x c.args.y)
