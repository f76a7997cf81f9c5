use Rattle.std.proofs.Common.{[], false, Some, refl, sym, ap, ◌∙◌}
use Rattle.std.proofs.lemmas.Option.{slice_get-get_or}
use Rattle.std.proofs.KnownBytes.{Appends-nil}
use Rattle.fs_lists.proofs.All.{All-slice_get}
use Rattle.fs_job.specs.Reading.{HasDirection}
use Rattle.fs_report.specs.Answers.{HasCorner}
use Rattle.fs_cli.specs.Writing.{AnswersIn}
use Rattle.fs_cli.proofs.CommandTexts.{one_to_extent, done_no_fault, partial_no_fault, written_at, done_more, partial_more, broken_off, all_written}
use Rattle.fs_cli.proofs.answering.answer_all.Goals as goal
use Rattle.fs_cli.proofs.answering.answer_all.Goals.{in-Done, in-Partial}

pub loop-command-init : goal.loop-command-init
loop-command-init g c = record { written = ([], (false, (refl, refl), refl), Appends-nil _); kept = refl }

pub answer_one-requires-clause-corner : goal.answer_one-requires-clause-corner
answer_one-requires-clause-corner g c = All-slice_get (HasCorner c.args.surface.now) c.args.commands.now c.loop-command.command-index c.command-item.result c.requires.corners
    (slice_get-get_or c.args.commands.now c.loop-command.command-index c.command-item.result c.loop-command-test.true ∙ ap Some (sym c.command-item.is))

pub answer_one-requires-clause-direction : goal.answer_one-requires-clause-direction
answer_one-requires-clause-direction g c = All-slice_get HasDirection c.args.commands.now c.loop-command.command-index c.command-item.result c.requires.directions
    (slice_get-get_or c.args.commands.now c.loop-command.command-index c.command-item.result c.loop-command-test.true ∙ ap Some (sym c.command-item.is))

pub returns-in_default : goal.returns-in_default
returns-in_default g c =
    broken_off (AnswersIn c.args.extent c.args.surface.now c.args.budget) (one_to_extent c.args.surface.now c.args.budget c.requires.surface c.requires.strict c.args.extent) c.args.commands.now c.loop-command.command-index c.command-item.result c.loop-command-test.true _ _ _ c.answer_one.result _ _ _
    (written_at (AnswersIn c.args.extent c.args.surface.now c.args.budget) (one_to_extent c.args.surface.now c.args.budget c.requires.surface c.requires.strict c.args.extent) c.args.commands.now c.loop-command.command-index c.command-item.result c.answer_one.result _ _ _ _ c.command-item.is c.answer_one.ensures)
    c.loop-command.invariant.written _ c.loop-command.invariant.kept c.in_default.not-Done c.in_default.not-Partial

pub returns : goal.returns
returns g c =
    all_written (AnswersIn c.args.extent c.args.surface.now c.args.budget) (one_to_extent c.args.surface.now c.args.budget c.requires.surface c.requires.strict c.args.extent) c.args.commands.now c.loop-command.command-index _ _ c.loop-command.status _ _ c.loop-command-test.false
    c.loop-command.invariant.written c.loop-command.invariant.kept

pub loop-command-preserved : goal.loop-command-preserved
loop-command-preserved g c =
    let s = c.args.surface.now in
    let one = one_to_extent s c.args.budget c.requires.surface c.requires.strict c.args.extent in
    let Each = AnswersIn c.args.extent s c.args.budget in
    let commands = c.args.commands.now in
    let i = c.loop-command.command-index in
    let result = c.answer_one.result in
    let same = c.loop-command.invariant.kept in
    let wrote = written_at Each one commands i c.command-item.result result _ _ _ _ c.command-item.is c.answer_one.ensures in
    elim c.match-answer_one.branch [
      | in-Done w ↦ record {
        written = done_more Each one commands i c.command-item.result c.loop-command-test.true _ _ _ result _ _ _ wrote c.loop-command.invariant.written _ w.in-Done.is w.status-is;
        kept = c.answer_one.ensures.kept (done_no_fault w.in-Done.is) ∙ same;
      }
      | in-Partial w ↦ record {
        written = partial_more Each one commands i c.command-item.result c.loop-command-test.true _ _ _ result _ _ _ wrote c.loop-command.invariant.written _ w.in-Partial.is w.status-is;
        kept = c.answer_one.ensures.kept (partial_no_fault w.in-Partial.is) ∙ same;
      }
    ]
