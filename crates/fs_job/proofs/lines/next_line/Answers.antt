use Rattle.std.proofs.Common.{length, ap, ◌∙◌, arith, length-append}
use Rattle.fs_job.proofs.TextLines.{lines-cut, lines-single}
use Rattle.fs_job.proofs.lines.next_line.Goals as goal

pub returns-in-Some : goal.returns-in-Some
returns-in-Some c = (
  lines-cut c.args.text.now c.in-Some.line.now c.without_return.result.now c.in-Some.rest.now c.in-Some.ensures c.without_return.ensures,
  let long = ap length c.in-Some.ensures.whole ∙ length-append c.in-Some.line.now _ in omega arith,
)

pub returns-in-None : goal.returns-in-None
returns-in-None c = lines-single c.args.text.now c.in-None.ensures
