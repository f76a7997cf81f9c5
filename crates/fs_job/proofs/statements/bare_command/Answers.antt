-- The two last words, which the search doesn't reach.
use Rattle.std.proofs.Common.{◌≡◌, [], ◌∷◌, rules, sym, arith}
use Rattle.std.specs.Prelude.{codes}
use Rattle.std.proofs.lemmas.Slice.Eq.{bytes_eq-Decides}
use Rattle.fs_job.proofs.statements.bare_command.Goals as goal

pub returns-then-eq-3 : goal.returns-then-eq-3
returns-then-eq-3 c =
    let named : c.args.word.now ≡ codes "delaunay" = search (rules, bytes_eq-Decides) in
    ((3, omega arith, sym named), λ i. named i ∷ [], tt)

pub returns-then-eq-4 : goal.returns-then-eq-4
returns-then-eq-4 c =
    let named : c.args.word.now ≡ codes "cells" = search (rules, bytes_eq-Decides) in
    ((4, omega arith, sym named), λ i. named i ∷ [], tt)
