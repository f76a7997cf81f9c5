-- The faces that wait are visited one after another.
use Rattle.fs_delaunay.proofs.CellSearch.{search_starts, waiting_numbered, search_more, search_ends, search_falls}
use Rattle.fs_delaunay.proofs.classes.number_cell.Goals as goal

pub loop-face-init : goal.loop-face-init
loop-face-init c = search_starts _ _ _ _ _ c.requires.before c.requires.there c.requires.fresh c.new-waiting.ensures.items c.in_ok-push.ensures.items

pub visit-requires-clause-long : goal.visit-requires-clause-long
visit-requires-clause-long c = c.loop-face.invariant.0.long

pub visit-requires-clause-numbered : goal.visit-requires-clause-numbered
visit-requires-clause-numbered c = waiting_numbered _ _ _ _ _ _ _ c.in-Some.ensures.items c.loop-face.invariant.0

pub loop-face-smaller : goal.loop-face-smaller
loop-face-smaller c = search_falls c.in-Some.face _ _ _ _ _ c.in-Some.ensures.items c.in_ok-visit.ensures.numbers

pub loop-face-preserved : goal.loop-face-preserved
loop-face-preserved c = search_more _ _ c.in-Some.face _ _ _ _ _ c.in-Some.ensures.items c.loop-face.invariant.0 c.loop-face.invariant.1 c.in_ok-visit.ensures.numbers c.in_ok-visit.ensures.visited

pub returns : goal.returns
returns c = record { after = search_ends _ _ _ _ _ _ c.in_default.ensures.items c.in_default.ensures.rest c.in_default.ensures.cases.0 c.loop-face.invariant.0 c.loop-face.invariant.1 }
