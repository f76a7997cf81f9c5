-- The words begin with no option of the name.
use Rattle.std.proofs.Common.{◌++◌, string_bytes, sym, ap, ◌∙◌}
use Rattle.fs_cli.proofs.Requests.{first_word, other_word, other_end, not_empty}
use Rattle.fs_cli.proofs.words.split_option.Goals as goal

pub returns-in_err-joined : goal.returns-in_err-joined
returns-in_err-joined c =
    let first = first_word string_bytes c.args.words.now c.word-item.result c.in-len1-up.len_at_least c.word-item.is in
    simp (c.from_residual.ensures) (λ text rest begins. other_word first.1 (λ after same. c.in_err-joined.ensures.cases after (c.deref.ensures ∙ same)) begins)

pub returns-in_err-strip_prefix : goal.returns-in_err-strip_prefix
unfolding lib.Utf8.encode
returns-in_err-strip_prefix c =
    let first = first_word string_bytes c.args.words.now c.word-item.result c.in-len1-up.len_at_least c.word-item.is in
    simp (c.from_residual-in_err-strip_prefix.ensures)
    (λ text rest begins. other_end first.1 (sym c.deref.ensures ∙ (c.in_ok-joined.ensures.cases.1.1 ∙ ap (λ text. c.args.name.now ++ text) (sym c.in_ok-joined.ensures.cases.2))) (not_empty c.if-is_empty.false c.is_empty.ensures) (λ end same. c.in_err-strip_prefix.ensures.cases end same) begins)
