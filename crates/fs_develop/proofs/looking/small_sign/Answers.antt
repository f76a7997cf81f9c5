-- The sign of a small number is found from its parts and their squares.
use Rattle.std.proofs.Common.{◌≡◌, ℤ, pos, ◌*ℤ◌, refl, ap, ◌∙◌, subst}
use Rattle.fs_quadratic.specs.Ring.{Quadratic, mul}
use Rattle.fs_quadratic.specs.Width.{InWidth}
use Rattle.fs_quadratic.proofs.Bits.{of_bits-is}
use Rattle.fs_quadratic.proofs.Comparison.{int_cmp-bits}
use Rattle.fs_develop.proofs.PartSquares.{square_of_p, square_of_q, sign_by_squares}
use Rattle.fs_develop.proofs.looking.small_sign.Goals as goal

pub returns : goal.returns
returns c =
    let d = c.args.field.d in
    let x = c.args.x in
    let alone_p = c.new-p.ensures ∙ ap (λ (z : ℤ). let y : Quadratic = record { p = z; q = pos 0 } in y) (of_bits-is c.p.ensures.value c.p.ensures.within) in
    let alone_q = c.new-q.ensures ∙ ap (λ (z : ℤ). let y : Quadratic = record { p = pos 0; q = z } in y) (of_bits-is c.q.ensures.value c.q.ensures.within) in
    let square_p : c.mul_small.result.p ≡ x.p *ℤ x.p = ap (λ (y : Quadratic). y.p) (c.mul_small.ensures ∙ ap (λ (y : Quadratic). mul d y y) alone_p) ∙ square_of_p d x in
    let square_q : c.mul_small-2.result.p ≡ pos d *ℤ (x.q *ℤ x.q) = ap (λ (y : Quadratic). y.p) (c.mul_small-2.ensures ∙ ap (λ (y : Quadratic). mul d y y) alone_q) ∙ square_of_q d x in
    let squares =
    int_cmp-bits c.cmp-squares.ensures (c.p-2.ensures.value ∙ square_p) (subst InWidth square_p c.p-2.ensures.within) (c.p-3.ensures.value ∙ square_q) (subst InWidth square_q c.p-3.ensures.within) in
    let zero : InWidth (pos 0) = search in
    let p = int_cmp-bits c.cmp.ensures c.p-4.ensures.value c.p-4.ensures.within refl zero in
    let q = int_cmp-bits c.cmp-2.ensures c.q-2.ensures.value c.q-2.ensures.within refl zero in
    c.sign_by_parts.ensures ∙ sign_by_squares d x c.cmp.result c.cmp-2.result c.cmp-squares.result p q squares
