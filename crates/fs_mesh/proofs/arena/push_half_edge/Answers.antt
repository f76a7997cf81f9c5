-- One half-edge is added.
use Rattle.std.proofs.Common.{◌≡◌, ◌++◌, ◌∷◌, [], length, get_or, sym, ap, ◌∙◌, subst, arith}
use Rattle.fs_gluing.specs.Triangulation.{next_in_face}
use Rattle.fs_mesh.specs.Arena.{IsFilled}
use Rattle.fs_mesh.proofs.Arenas.{filled_more}
use Rattle.fs_mesh.proofs.arena.push_half_edge.Goals as goal

pub returns-clause-filled : goal.returns-clause-filled
returns-clause-filled c =
    let at : c.len-h.result ≡ length c.args.half_edges.now.items = omega arith in
    let next = c.next_in_face.ensures ∙ ap next_in_face at in
    subst (IsFilled c.args.twins.now c.args.homes.now)
    (sym (c.in_ok-push.ensures.items ∙ (λ i. c.args.half_edges.now.items ++ record { vector = c.args.vector; twin = get_or c.args.twins.now (at i) 0; next = next i; home = get_or c.args.homes.now (at i) (record { polygon = 0; side = 0 }) } ∷ [])))
    (filled_more c.args.twins.now c.args.homes.now c.args.half_edges.now.items c.args.vector (record { polygon = 0; side = 0 }) c.requires.filled c.requires.room c.requires.as_many)
