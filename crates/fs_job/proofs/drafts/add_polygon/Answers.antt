use Rattle.std.proofs.Common.{◌<◌, ◌+◌, ◌≤◌, length, ap, ◌∙◌, arith, ◌∷◌, [], length-append}
use Rattle.std.proofs.lemmas.Result.{err_from_is_err_and}
use Rattle.fs_gluing.specs.Limits.{most_polygons, most_sides}
use Rattle.fs_job.specs.Pieces.{words_of}
use Rattle.fs_job.specs.Statement.{polygon_line}
use Rattle.fs_job.specs.Line.{pairs_of}
use Rattle.fs_job.specs.Stage.{kept_draft}
use Rattle.fs_job.proofs.Additions.{has_room, adds_polygon, no_table, leads_to_bad_number, sides_counted}
use Rattle.fs_job.proofs.drafts.add_polygon.Goals as goal

pub returns-in_err-polygon : goal.returns-in_err-polygon
returns-in_err-polygon c =
    let p = err_from_is_err_and c.from_residual.result c.from_residual.ensures.1 in
    let few : length c.args.draft.shape.polygons < most_polygons = let len = c.len.ensures in omega arith in
    let fit : c.args.draft.sides + c.args.pairs.count ≤ most_sides = let few = c.args.draft.few_sides in omega arith in
    rw (p.1, p.2) (leads_to_bad_number c.args.number (kept_draft c.args.draft) (polygon_line (pairs_of (words_of c.args.pairs.words.now))) c.in_err-polygon.field-0.0
    (c.takes_polygons.ensures.0 c.if-not-takes_polygons.false)
    (has_room (kept_draft c.args.draft) (words_of c.args.pairs.words.now) c.args.draft.sides c.args.pairs.count c.args.draft.counted c.requires.count few fit)
    c.in_err-polygon.ensures.fault)

pub invariant_of-draft-clause-one_form : goal.invariant_of-draft-clause-one_form
invariant_of-draft-clause-one_form c = λ points some. absurd (no_table c.args.draft.table points (c.takes_polygons.ensures.0 c.if-not-takes_polygons.false).0 some)

pub invariant_of-draft-2 : goal.invariant_of-draft-2
invariant_of-draft-2 c =
    let fit : c.args.draft.sides + c.args.pairs.count ≤ most_sides = let few = c.args.draft.few_sides in omega arith in
    record {
      counted = sides_counted c.args.draft.shape.polygons c.push.new.self (words_of c.args.pairs.words.now) c.in_ok-polygon.polygon c.args.draft.sides c.args.pairs.count c.args.draft.counted c.requires.count c.in_ok-polygon.ensures.points c.in_ok-push.ensures.ok;
      few_sides = fit;
      few_polygons = let len = c.len.ensures in let long = ap length c.in_ok-push.ensures.ok ∙ length-append c.args.draft.shape.polygons (c.in_ok-polygon.polygon ∷ []) in omega arith;
      few_in_table = c.args.draft.few_in_table;
      one_form = λ points some. absurd (no_table c.args.draft.table points (c.takes_polygons.ensures.0 c.if-not-takes_polygons.false).0 some);
      unmarked = c.args.draft.unmarked;
    }

pub returns : goal.returns
returns c =
    let few : length c.args.draft.shape.polygons < most_polygons = let len = c.len.ensures in omega arith in
    let fit : c.args.draft.sides + c.args.pairs.count ≤ most_sides = let few = c.args.draft.few_sides in omega arith in
    adds_polygon c.args.number (kept_draft c.args.draft) (words_of c.args.pairs.words.now) c.in_ok-polygon.polygon c.push.new.self
    (c.takes_polygons.ensures.0 c.if-not-takes_polygons.false)
    (has_room (kept_draft c.args.draft) (words_of c.args.pairs.words.now) c.args.draft.sides c.args.pairs.count c.args.draft.counted c.requires.count few fit)
    c.in_ok-polygon.ensures.points c.in_ok-push.ensures.ok
