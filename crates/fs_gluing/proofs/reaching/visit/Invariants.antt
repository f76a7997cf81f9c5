-- The polygons of the partners of the sides so far are marked.
use Rattle.std.proofs.Common.{take}
use Rattle.fs_gluing.specs.SearchMarks.{MarksPolygons, partner_polygons}
use Rattle.fs_gluing.proofs.reaching.visit.Given as goal

abbrev pub invariant-loop-side : goal.invariant-loop-side
invariant-loop-side l = MarksPolygons (partner_polygons (take l.side-index l.sides)) l.initial.reached.items l.reached.items l.initial.waiting.items l.waiting.items
