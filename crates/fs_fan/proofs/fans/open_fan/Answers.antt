-- A half-edge is opened, or what is computed there overflows.
use Rattle.std.proofs.Common.{◌++◌, sym, ap, ◌∙◌}
use Rattle.fs_fan.specs.Entries.{optional}
use Rattle.fs_fan.proofs.SearchStates.{search_opened}
use Rattle.fs_fan.proofs.SearchEnds.{ends_at_opening}
use Rattle.fs_fan.proofs.fans.open_fan.Goals as goal

pub returns-in-Err-clause-stops : goal.returns-in-Err-clause-stops
returns-in-Err-clause-stops c = λ budget within.
    ends_at_opening c.requires.mesh.surface.radicand c.args.mesh.now.triangles c.requires.mesh.triangulation.triangles c.args.bound budget c.args.h c.args.stack.now.items c.args.fans.now.found
    c.args.fans.now.live c.requires.state c.requires.empty within c.requires.there c.in-Err.field-0 (sym c.in-Err.ensures)

pub returns-in_ok-push_first-in-Ok-clause-state : goal.returns-in_ok-push_first-in-Ok-clause-state
returns-in_ok-push_first-in-Ok-clause-state c =
    search_opened c.requires.mesh.surface.radicand c.args.mesh.now.triangles c.requires.mesh.triangulation.triangles c.args.bound c.args.h c.args.stack.now.items c.args.fans.now.found
    c.args.fans.now.live c.requires.state c.requires.empty c.requires.there c.in-Ok.opening (sym c.in-Ok.ensures) c.push_first.new.stack.items c.add_ray.new.found c.in_ok-push_first-in-Ok.ensures
    (c.in_ok-add_ray-in-Ok.ensures ∙ ap (λ v. c.args.fans.now.found ++ optional c.in-Ok.opening.found (record { half_edge = c.args.h; v = v })) c.vector.ensures)
