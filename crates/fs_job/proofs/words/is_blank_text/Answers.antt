-- A text has no words where nothing follows its blanks.
use Rattle.std.proofs.Common.{ℕ, List, eqb, length, sym, ap, ◌∙◌}
use Rattle.fs_lists.proofs.Equal.{nil_by_length}
use Rattle.fs_job.specs.Pieces.{words_of}
use Rattle.fs_job.proofs.TextWords.{empty_without_words}
use Rattle.fs_job.proofs.words.is_blank_text.Goals as goal

pub returns : goal.returns
returns c =
    let s = c.skip_blanks.ensures in (
      (λ t. s.words ∙ ap words_of (nil_by_length c.skip_blanks.result.now (sym c.is_empty.ensures ∙ t))),
      (λ e. c.is_empty.ensures ∙ ap (λ (rest : List ℕ). eqb (length rest) 0) (empty_without_words c.skip_blanks.result.now s.begins (sym s.words ∙ e))),
    )
