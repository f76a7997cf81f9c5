use Rattle.std.proofs.Common.{◌∙◌}
use Rattle.fs_quadratic.proofs.Bits.{of_bits-is, of_bits-add}
use Rattle.fs_quadratic.proofs.Laws.{quadratic_eq}
use Rattle.fs_quadratic.proofs.element.Elem.add_fitting.Goals as goal

pub returns : goal.returns
returns c =
    c.new.ensures
    ∙ quadratic_eq (of_bits-add (of_bits-is c.p.ensures.value c.p.ensures.within) (of_bits-is c.p-2.ensures.value c.p-2.ensures.within) c.requires.0)
    (of_bits-add (of_bits-is c.q.ensures.value c.q.ensures.within) (of_bits-is c.q-2.ensures.value c.q-2.ensures.within) c.requires.1)
