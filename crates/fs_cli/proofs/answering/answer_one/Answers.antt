use Rattle.std.proofs.Common.{sym, ap, ◌∙◌}
use Rattle.fs_cli.specs.Answer.{status_of}
use Rattle.fs_cli.specs.Writing.{AnswersIn, part_of}
use Rattle.fs_cli.proofs.CallWrites.{writes_along, writes_command}
use Rattle.fs_cli.proofs.CommandTexts.{one_to_extent, to_extent}
use Rattle.fs_cli.proofs.answering.answer_one.Goals as goal
use Rattle.fs_cli.proofs.answering.answer_one.Goals.{then-answer, else-answer}

pub returns : goal.returns
returns g c =
    let answer = c.in-Ok.answer in
    let s = c.args.surface.now in
    let Each = AnswersIn c.args.extent s c.args.budget in
    let one = one_to_extent s c.args.budget c.requires.surface c.requires.strict c.args.extent in
    let answers = to_extent s c.args.budget c.requires.surface c.requires.strict c.args.extent c.args.command.now _ answer.partial c.in-Ok.ensures in
    let write = writes_along c.write_text.result _ _ _ _ _ _ _ (c.part_of.ensures ∙ ap (part_of c.args.extent) c.as_bytes.ensures.value) c.write_text.ensures in
    elim c.if-answer.branch [
      | then-answer w ↦ writes_command _ _ _ _ _ Each one c.args.command.now _ answer.partial _ answers (w.status-is ∙ sym (ap status_of w.if-answer.true)) write
      | else-answer w ↦ writes_command _ _ _ _ _ Each one c.args.command.now _ answer.partial _ answers (w.status-is ∙ sym (ap status_of w.if-answer.false)) write
    ]
