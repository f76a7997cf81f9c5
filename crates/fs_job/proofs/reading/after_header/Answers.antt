use Rattle.std.proofs.Common.{ap, refl}
use Rattle.fs_job.specs.Draft.{headed, drafted, bad_line}
use Rattle.fs_job.specs.Grammar.{statement}
use Rattle.fs_job.specs.Stage.{kept_draft, progress_of}
use Rattle.fs_job.specs.Line.{statement_of}
use Rattle.fs_job.proofs.LineOutcomes.{returns_after_header, not_allowed}
use Rattle.fs_job.proofs.reading.after_header.Goals as goal

pub returns-in-Headed : goal.returns-in-Headed
returns-in-Headed c =
    returns_after_header c.args.number (progress_of c.args.stage) headed c.args.line.now (statement_of c.in-Some.statement) c.begin.result (ap progress_of c.in-Headed.is) c.requires.text c.requires.header c.in-Some.ensures.0 c.begin.ensures

pub returns-in-Drafted : goal.returns-in-Drafted
returns-in-Drafted c =
    returns_after_header c.args.number (progress_of c.args.stage) (drafted (kept_draft c.in-Drafted.draft)) c.args.line.now (statement_of c.in-Some.statement) c.add_line.result (ap progress_of c.in-Drafted.is) c.requires.text c.requires.header c.in-Some.ensures.0 c.add_line.ensures

pub returns : goal.returns
returns c =
    statement (statement_of c.in-Some.statement) c.requires.text c.requires.header c.in-Some.ensures.0
    (bad_line (not_allowed c.args.stage c.in_default-stage.not-Headed c.in_default-stage.not-Drafted (statement_of c.in-Some.statement)) refl)
