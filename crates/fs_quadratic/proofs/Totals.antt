-- The sum of two lists of numbers joined.
use Rattle.std.proofs.Common.{◌≡◌, List, [], ◌∷◌, ◌++◌, sym, ap, ◌∙◌}
use Rattle.fs_ring.proofs.RingLaws.{zero_add}
use Rattle.fs_quadratic.specs.Ring.{Quadratic, add, total}
use Rattle.fs_quadratic.proofs.Laws.{quadratic_ring}

pub total-append : (xs ys : List Quadratic) → total (xs ++ ys) ≡ add (total xs) (total ys)
total-append [] ys = sym (zero_add (quadratic_ring 0) (total ys))
total-append (x ∷ xs) ys = ap (add x) (total-append xs ys) ∙ sym ((quadratic_ring 0).add_assoc x (total xs) (total ys))
