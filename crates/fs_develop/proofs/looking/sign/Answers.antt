-- A number without an r part has the sign of its rational part.
use Rattle.std.proofs.Common.{◌≡◌, ℕ, ℤ, pos, to_z, of_z, sym, ap, ◌∙◌}
use Rattle.std.specs.Int.{w128}
use Rattle.std.specs.Ordering.{int_cmp}
use Rattle.fs_fraction.proofs.Inverses.{through_bits}
use Rattle.fs_develop.proofs.Values.{rational_sign}
use Rattle.fs_develop.proofs.looking.sign.Goals as goal

pub returns-then-q-eq0 : goal.returns-then-q-eq0
returns-then-q-eq0 c =
    let within_p = c.p.ensures.within in
    let within_q = c.q.ensures.within in
    let p : to_z w128 (of_z w128 c.p.result) ≡ c.args.x.p = ap (λ (z : ℤ). to_z w128 (of_z w128 z)) c.p.ensures.value ∙ through_bits c.args.x.p within_p in
    let q : to_z w128 (of_z w128 c.q.result) ≡ c.args.x.q = ap (λ (z : ℤ). to_z w128 (of_z w128 z)) c.q.ensures.value ∙ through_bits c.args.x.q within_q in
    c.cmp.ensures ∙ ap (λ (z : ℤ). int_cmp z (pos 0)) p ∙ rational_sign c.args.field.d c.args.x (sym q ∙ ap (λ (n : ℕ). to_z w128 n) c.if-q-eq0.true)
