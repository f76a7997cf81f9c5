use Rattle.std.proofs.Common.{◌≡◌, ◌∷◌, rules, sym, arith}
use Rattle.std.specs.Prelude.{codes}
use Rattle.std.proofs.lemmas.Slice.Eq.{bytes_eq-Decides}
use Rattle.fs_job.specs.Pieces.{words_of}
use Rattle.fs_job.proofs.StatementWords.{not_segment_command, not_flow_command}
use Rattle.fs_job.proofs.statements.stated_command.Goals as goal

pub returns-in_err-start : goal.returns-in_err-start
returns-in_err-start c = rw c.from_residual.ensures
    (let named : c.args.word.now ≡ codes "segment" = search (rules, bytes_eq-Decides) in
    not_segment_command c.args.word.now (words_of c.args.words.now) named c.in_err-start.ensures)

pub returns-then-eq : goal.returns-then-eq
returns-then-eq c =
    let named : c.args.word.now ≡ codes "segment" = search (rules, bytes_eq-Decides) in
    let spelled = c.in_ok-start.ensures.0 in
    ((2, omega arith, sym named), (spelled.0, spelled.1, λ i. named i ∷ spelled.2 i, spelled.3, spelled.4), c.in_ok-start.ensures.1)

pub returns-in_err-pair : goal.returns-in_err-pair
returns-in_err-pair c = rw c.from_residual-in_err-pair.ensures
    (let named : c.args.word.now ≡ codes "flow" = search (rules, bytes_eq-Decides) in
    not_flow_command c.args.word.now (words_of c.args.words.now) named c.in_err-pair.ensures)

pub returns-then-eq-3 : goal.returns-then-eq-3
returns-then-eq-3 c =
    let named : c.args.word.now ≡ codes "flow" = search (rules, bytes_eq-Decides) in
    let spelled = c.in_ok-pair.ensures.0 in
    ((6, omega arith, sym named), (spelled.0, λ i. named i ∷ spelled.1 i, spelled.2), c.in_ok-pair.ensures.1)
