use Rattle.fs_job.specs.Pieces.{words_of}
use Rattle.fs_job.proofs.StatementWords.{word_not_pair}
use Rattle.fs_job.proofs.statements.flow_word.Goals as goal

pub returns-in_err-cut_once : goal.returns-in_err-cut_once
returns-in_err-cut_once c = rw c.from_residual-in_err-cut_once.ensures
    (word_not_pair (words_of c.args.words.now) c.in_ok-pair.pair.now c.in_ok-pair.ensures c.in_err-cut_once.ensures)
