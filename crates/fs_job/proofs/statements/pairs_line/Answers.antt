use Rattle.std.proofs.Common.{arith}
use Rattle.fs_job.specs.Pieces.{words_of}
use Rattle.fs_job.proofs.Pairs.{pair_of_word, pairs_before_next, not_pairs}
use Rattle.fs_job.proofs.statements.pairs_line.Goals as goal

pub returns-in_err-cut_once : goal.returns-in_err-cut_once
returns-in_err-cut_once c = rw c.from_residual.ensures
    (not_pairs (words_of c.args.words.now) (words_of c.loop-word.rest.now) (words_of c.in-Some.more.now) c.in-Some.word.now c.loop-word.count c.loop-word.invariant.before c.in-Some.ensures.0 c.in_err-cut_once.ensures)

pub loop-word-preserved : goal.loop-word-preserved
loop-word-preserved c =
    let shorter = c.in-Some.ensures.1 in
    let few = c.loop-word.invariant.few in
    record {
      before = pairs_before_next (words_of c.args.words.now) (words_of c.loop-word.rest.now) (words_of c.in-Some.more.now) c.in-Some.word.now c.loop-word.count c.loop-word.invariant.before c.in-Some.ensures.0
          (pair_of_word c.in-Some.word.now _ _ c.in_ok-cut_once.ensures);
      few = omega arith;
    }
