-- One name more; the bottom row is as long as the top row.
use Rattle.std.proofs.Common.{◌∷◌, [], ◌++◌, sym, ap, ◌∙◌, arith}
use Rattle.std.proofs.lemmas.List.{take_all, length-map}
use Rattle.std.proofs.lemmas.List.Sorted.{length_permutation}
use Rattle.fs_gluing.specs.Exchanges.{names_of, Letter}
use Rattle.fs_rauzy.proofs.ListsSoFar.{take_next}
use Rattle.fs_rauzy.proofs.rows.read_bottom.Goals as goal

pub loop-n-preserved : goal.loop-n-preserved
loop-n-preserved c =
    let bottom = c.args.exchange.now.component.bottom in
    c.in_ok-push.ensures.items ∙ ap (λ row. row ++ c.bottom.result ∷ []) c.loop-n.invariant ∙ sym (take_next bottom c.loop-n.n c.bottom.result c.bottom.ensures)

pub returns : goal.returns
returns c =
    let component = c.args.exchange.now.component in
    let as_long = length_permutation (names_of component.top) component.bottom c.letters-n-end.ensures.kept.lawful.rows in
    let names = length-map component.top (λ (l : Letter). l.name) in
    let all = c.loop-n-test.false in
    let many = c.letters-n-end.ensures.letters in
    c.loop-n.invariant ∙ take_all c.loop-n.n component.bottom (omega arith)
