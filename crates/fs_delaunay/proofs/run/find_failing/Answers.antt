-- A suspect that passes is a suspect no more, and the search goes on after it.
use Rattle.std.proofs.Common.{◌+◌, Ok, false, sym, ap, ◌∙◌, subst, arith}
use Rattle.std.proofs.Math.ListN.{set}
use Rattle.fs_delaunay.specs.Steps.{TestsEdge}
use Rattle.fs_delaunay.proofs.SuspectSearch.{SearchesSuspects, search_goes_on}
use Rattle.fs_delaunay.proofs.run.find_failing.Goals as goal

pub overflow_add-from : goal.overflow_add-from
overflow_add-from c = let there = c.in-Some.ensures.first.there in let few = c.first.ensures.few in omega arith

pub loop-h-preserved : goal.loop-h-preserved
loop-h-preserved c =
    let d = c.args.mesh.now.surface.d in
    let t = c.args.mesh.now.triangles in
    subst (λ marks. SearchesSuspects d t marks (c.in-Some.h + 1)) (sym (c.remove.ensures ∙ ap (λ marks. set marks c.in-Some.h false) c.in-Some.ensures.kept))
    (search_goes_on d t c.loop-h.suspects c.loop-h.from c.loop-h.invariant c.in-Some.h c.in-Some.ensures.first
    (subst (λ b. TestsEdge d t c.args.flips c.in-Some.h (Ok b)) c.if-branch.false c.in_ok-fails.ensures))
