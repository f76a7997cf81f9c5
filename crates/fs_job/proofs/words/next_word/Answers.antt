use Rattle.std.proofs.Common.{sym, ◌∙◌, arith}
use Rattle.fs_lists.proofs.Equal.{not_nil_by_length}
use Rattle.fs_job.proofs.TextWords.{first_word}
use Rattle.fs_job.proofs.words.next_word.Goals as goal

pub returns-else-is_empty : goal.returns-else-is_empty
returns-else-is_empty c =
    let s = c.skip_blanks-text.ensures in
    let w = c.split_word.ensures in
    let first = first_word c.skip_blanks-text.result.now c.split_word.result.0.now c.split_word.result.1.now w.whole (not_nil_by_length _ (sym c.is_empty.ensures ∙ c.if-is_empty.false)) s.begins w.word w.rest in
    (s.words ∙ first.0, let shorter = s.shorter in let fewer = first.1 in omega arith)
