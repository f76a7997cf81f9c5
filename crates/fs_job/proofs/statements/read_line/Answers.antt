use Rattle.std.proofs.Common.{◌≡◌, rules}
use Rattle.std.specs.Prelude.{codes}
use Rattle.std.proofs.lemmas.Slice.Eq.{bytes_eq-Decides}
use Rattle.fs_job.specs.Pieces.{words_of}
use Rattle.fs_job.proofs.StatementWords.{not_glue_statement, not_field_statement}
use Rattle.fs_job.proofs.statements.read_line.Goals as goal

pub returns-in_err-one : goal.returns-in_err-one
returns-in_err-one c = rw c.from_residual-in_err-one.ensures
    (let named : c.in_ok-word.word.now ≡ codes "glue" = search (rules, bytes_eq-Decides) in
    not_glue_statement (words_of c.args.line.now) (words_of c.in_ok-word.rest.now) c.in_ok-word.word.now c.in_ok-word.ensures.0 named c.in_err-one.ensures)

pub returns-in_err-field_line : goal.returns-in_err-field_line
returns-in_err-field_line c = rw c.from_residual-in_err-field_line.ensures
    (let named : c.in_ok-word.word.now ≡ codes "field" = search (rules, bytes_eq-Decides) in
    not_field_statement (words_of c.args.line.now) (words_of c.in_ok-word.rest.now) c.in_ok-word.word.now c.in_ok-word.ensures.0 named c.in_err-field_line.ensures)
