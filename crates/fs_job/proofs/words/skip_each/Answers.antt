use Rattle.std.proofs.Common.{arith}
use Rattle.fs_job.proofs.TextWords.{words-skipped, words-all_blank}
use Rattle.fs_job.proofs.words.skip_each.Goals as goal

pub returns-then-not-is_blank-clause-words : goal.returns-then-not-is_blank-clause-words
returns-then-not-is_blank-clause-words c = words-skipped c.args.text.now c.loop-i.i c.loop-i.invariant

pub returns-clause-words : goal.returns-clause-words
returns-clause-words c = words-all_blank c.args.text.now c.loop-i.i (omega arith) c.loop-i.invariant
