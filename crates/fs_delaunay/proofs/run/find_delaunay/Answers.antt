-- The run goes on step by step, and ends in the one way in which it can.
use Rattle.std.proofs.Common.{◌≡◌, ℕ, ◌<◌, Ok, true, sym, ◌∙◌, subst}
use Rattle.fs_delaunay.specs.Suspects.{mark_of}
use Rattle.fs_delaunay.proofs.RunsUnderWay.{IsUnderWay, run_starts, step_goes_on, step_is_smaller, stop_returned, run_returned, delaunay_returned, returned_unique}
use Rattle.fs_delaunay.proofs.run.find_delaunay.Goals as goal

pub loop-more-init : goal.loop-more-init
loop-more-init c =
    subst (λ es. IsUnderWay c.args.mesh c.args.budget c.args.mesh c.in_ok-suspects.suspects es true) (sym c.new-edges.ensures)
    (run_starts c.args.mesh c.args.budget c.in_ok-suspects.suspects c.half_edges.ensures.mesh (c.in_ok-suspects.ensures.count ∙ c.half_edges.ensures.half_edges)
    (subst (λ n. (h : ℕ) → h < n → mark_of c.in_ok-suspects.suspects h ≡ true) c.half_edges.ensures.half_edges c.in_ok-suspects.ensures.marked))

pub returns-in_err-more-clause-run : goal.returns-in_err-more-clause-run
returns-in_err-more-clause-run c =
    stop_returned c.args.mesh c.args.budget c.loop-more.mesh c.loop-more.suspects c.loop-more.edges c.loop-more.more c.loop-more.invariant c.flip_next.new.mesh c.flip_next.new.edges
    c.in_err-more.field-0.0 c.in_err-more.ensures.step c.from_residual-in_err-more.result c.from_residual-in_err-more.ensures.1

pub returns-in_err-more-clause-only : goal.returns-in_err-more-clause-only
returns-in_err-more-clause-only c =
    returned_unique c.args.mesh c.args.budget c.half_edges.ensures.mesh c.from_residual-in_err-more.result
    (stop_returned c.args.mesh c.args.budget c.loop-more.mesh c.loop-more.suspects c.loop-more.edges c.loop-more.more c.loop-more.invariant c.flip_next.new.mesh c.flip_next.new.edges
    c.in_err-more.field-0.0 c.in_err-more.ensures.step c.from_residual-in_err-more.result c.from_residual-in_err-more.ensures.1)

pub loop-more-smaller : goal.loop-more-smaller
loop-more-smaller c =
    step_is_smaller c.args.mesh c.args.budget c.loop-more.mesh c.loop-more.suspects c.loop-more.edges c.loop-more.more c.loop-more.invariant c.loop-more-test.true c.flip_next.new.mesh
    c.flip_next.new.edges c.in_ok-more.more c.in_ok-more.ensures.step

pub loop-more-preserved : goal.loop-more-preserved
loop-more-preserved c =
    step_goes_on c.args.mesh c.args.budget c.loop-more.mesh c.loop-more.suspects c.loop-more.edges c.loop-more.more c.loop-more.invariant c.flip_next.new.mesh c.flip_next.new.suspects
    c.flip_next.new.edges c.in_ok-more.more c.flip_next.ensures.surface c.in_ok-more.ensures.mesh c.in_ok-more.ensures.suspects c.in_ok-more.ensures.step

pub new-requires : goal.new-requires
new-requires c = c.loop-more.invariant.all_pass c.loop-more-test.false

pub returns-clause-run : goal.returns-clause-run
returns-clause-run c =
    run_returned c.args.mesh c.args.budget c.loop-more.mesh c.loop-more.suspects c.loop-more.edges c.loop-more.more c.loop-more.invariant c.new.result c.new.ensures.mesh c.new.ensures.edges
    c.loop-more-test.false

pub returns-clause-only : goal.returns-clause-only
returns-clause-only c =
    returned_unique c.args.mesh c.args.budget c.half_edges.ensures.mesh (Ok c.new.result)
    (run_returned c.args.mesh c.args.budget c.loop-more.mesh c.loop-more.suspects c.loop-more.edges c.loop-more.more c.loop-more.invariant c.new.result c.new.ensures.mesh c.new.ensures.edges
    c.loop-more-test.false)

pub returns-clause-delaunay : goal.returns-clause-delaunay
returns-clause-delaunay c =
    delaunay_returned c.args.mesh c.args.budget c.loop-more.mesh c.loop-more.suspects c.loop-more.edges c.loop-more.more c.loop-more.invariant c.new.result c.new.ensures.mesh c.new.ensures.edges
    c.loop-more-test.false
