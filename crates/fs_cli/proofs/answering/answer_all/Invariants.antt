use Rattle.std.proofs.Common.{◌≡◌}
use Rattle.fs_cli.specs.Writing.{AnswersIn}
use Rattle.fs_cli.proofs.CommandTexts.{AreAnswered}
use Rattle.fs_cli.proofs.answering.answer_all.Given as goal

-- the commands so far were answered
abbrev pub invariant-loop-command : goal.invariant-loop-command
invariant-loop-command g l =
    let held = g.O.Sink.held in
    record {
      written : AreAnswered (AnswersIn l.extent l.surface l.budget) l.commands l.command-index l.status (held l.initial.out) (held l.out);
      kept : g.O.Sink.faults l.out ≡ g.O.Sink.faults l.initial.out;
    }
