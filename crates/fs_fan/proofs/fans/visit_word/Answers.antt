-- The next word is visited, or what is computed there overflows.
use Rattle.std.proofs.Common.{◌+◌, ◌++◌, refl, ◌∙◌}
use Rattle.fs_fan.specs.Entries.{view_at, optional}
use Rattle.fs_fan.proofs.KnownEnds.{right_entry_is, left_entry_is}
use Rattle.fs_fan.proofs.VisitMeanings.{visit_tests}
use Rattle.fs_fan.proofs.SearchStates.{entry_side, entry_ends, search_visited}
use Rattle.fs_fan.proofs.SearchEnds.{ends_at_visit}
use Rattle.fs_fan.proofs.fans.visit_word.Goals as goal

pub find_visit-requires-clause-there : goal.find_visit-requires-clause-there
find_visit-requires-clause-there c =
    entry_side c.requires.mesh.surface.radicand c.args.mesh.now.triangles c.requires.mesh.triangulation.triangles c.args.bound (c.args.h + 1) c.args.stack.now.items c.args.entry.now
    c.args.fans.now.found c.args.fans.now.live c.requires.state

pub find_visit-requires-clause-ends : goal.find_visit-requires-clause-ends
find_visit-requires-clause-ends c =
    entry_ends c.requires.mesh.surface.radicand c.args.mesh.now.triangles c.requires.mesh.triangulation.triangles c.args.bound (c.args.h + 1) c.args.stack.now.items c.args.entry.now
    c.args.fans.now.found c.args.fans.now.live c.requires.state

pub go_on-requires : goal.go_on-requires
go_on-requires c =
    entry_side c.requires.mesh.surface.radicand c.args.mesh.now.triangles c.requires.mesh.triangulation.triangles c.args.bound (c.args.h + 1) c.args.stack.now.items c.args.entry.now
    c.args.fans.now.found c.args.fans.now.live c.requires.state

pub returns-in-Err-clause-stops : goal.returns-in-Err-clause-stops
returns-in-Err-clause-stops c = λ budget room.
    ends_at_visit c.requires.mesh.surface.radicand c.args.mesh.now.triangles c.requires.mesh.triangulation.triangles c.args.bound budget (c.args.h + 1) c.args.stack.now.items c.args.entry.now
    c.args.fans.now.found c.args.fans.now.live c.requires.state room c.in-Err.field-0 c.in-Err.ensures.visit

pub returns-in_ok-go_on-in-Ok-clause-state : goal.returns-in_ok-go_on-in-Ok-clause-state
returns-in_ok-go_on-in-Ok-clause-state c =
    let d = c.args.mesh.now.surface.d in
    let t = c.args.mesh.now.triangles in
    let stack = c.args.stack.now.items in
    let entry = c.args.entry.now in
    let sight = c.in-Ok.sight in
    let known = c.in-Ok.ensures.visit in
    let ends = entry_ends c.requires.mesh.surface.radicand t c.requires.mesh.triangulation.triangles c.args.bound (c.args.h + 1) stack entry c.args.fans.now.found c.args.fans.now.live c.requires.state in
    let tip = (visit_tests c.requires.mesh.surface.radicand t c.requires.mesh.triangulation.triangles c.args.bound (view_at entry) sight.visit known).tip in
    let goes_left = left_entry_is d c.args.bound t entry sight ends tip c.in-Ok.ensures.within in
    let goes_right = right_entry_is d c.args.bound t entry sight ends tip c.in-Ok.ensures.within in
    search_visited c.requires.mesh.surface.radicand t c.requires.mesh.triangulation.triangles c.args.bound (c.args.h + 1) stack entry c.args.fans.now.found c.args.fans.now.live c.requires.state
    sight.visit known c.args.h (c.go_on.new.stack.items ++ optional c.in_ok-go_on-in-Ok.field-0 c.go_on.new.entry) c.add_tip.new.found (c.args.fans.now.live + 1) refl
    (c.in_ok-go_on-in-Ok.ensures.next ∙ (λ i. (stack ++ optional sight.visit.left (goes_left i)) ++ optional sight.visit.right (goes_right i))) c.in_ok-add_tip-in-Ok.ensures refl
