use Rattle.std.proofs.Common.{◌*◌, ap, ◌∙◌}
use Rattle.std.specs.Cmp.{ranks}
use Rattle.std.specs.Ordering.{nat_cmp}
use Rattle.fs_quadratic.proofs.Squares.{sign-by_squares}
use Rattle.fs_quadratic.proofs.radicand.Field.compare_squares.Goals as goal

pub returns : goal.returns
returns c =
    let p = c.args.p in
    let q = c.args.q in
    let d = c.args.self.d in
    c.cmp.ensures ∙ ap (λ k. nat_cmp (p * p) (k * (q * q))) c.from.ensures
    ∙ sign-by_squares d p q (nat_cmp (p * p) (d * (q * q))) c.requires.positive (ranks (p * p) (d * (q * q)))
