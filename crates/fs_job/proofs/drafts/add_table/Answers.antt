use Rattle.std.proofs.Common.{arith}
use Rattle.std.proofs.lemmas.Result.{err_from_is_err_and}
use Rattle.fs_job.specs.Pieces.{words_of}
use Rattle.fs_job.specs.Statement.{table_line}
use Rattle.fs_job.specs.Line.{pairs_of}
use Rattle.fs_job.specs.Stage.{kept_draft}
use Rattle.fs_job.proofs.Additions.{has_room_for_table, adds_table, few_in_table, few_in_this_table, leads_to_bad_number}
use Rattle.fs_job.proofs.drafts.add_table.Goals as goal

pub returns-in_err-read_points : goal.returns-in_err-read_points
returns-in_err-read_points c =
    let p = err_from_is_err_and c.from_residual.result c.from_residual.ensures.1 in
    rw (p.1, p.2) (leads_to_bad_number c.args.number (kept_draft c.args.draft) (table_line (pairs_of (words_of c.args.pairs.words.now))) c.in_err-read_points.field-0.0
    (c.takes_table.ensures.0 c.if-not-takes_table.false)
    (has_room_for_table (kept_draft c.args.draft) (words_of c.args.pairs.words.now) c.args.pairs.count c.requires.count (omega arith))
    c.in_err-read_points.ensures.fault)

pub invariant_of-draft : goal.invariant_of-draft
invariant_of-draft c =
    let free = c.takes_table.ensures.0 c.if-not-takes_table.false in
    let few = few_in_table (words_of c.args.pairs.words.now) c.in_ok-read_points.field-0 c.args.pairs.count c.requires.count c.in_ok-read_points.ensures.points (omega arith) in
    record {
      counted = c.args.draft.counted;
      few_sides = c.args.draft.few_sides;
      few_polygons = c.args.draft.few_polygons;
      few_in_table = λ points e. few_in_this_table c.in_ok-read_points.field-0 points few e;
      one_form = λ points e. (free.1, free.2);
      unmarked = c.args.draft.unmarked;
    }

pub returns : goal.returns
returns c = adds_table c.args.number (kept_draft c.args.draft) (words_of c.args.pairs.words.now) c.in_ok-read_points.field-0
    (c.takes_table.ensures.0 c.if-not-takes_table.false)
    (has_room_for_table (kept_draft c.args.draft) (words_of c.args.pairs.words.now) c.args.pairs.count c.requires.count (omega arith))
    c.in_ok-read_points.ensures.points
