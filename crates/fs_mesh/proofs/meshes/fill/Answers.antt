-- The half-edges of each face have their twins.
use Rattle.std.proofs.Common.{◌<◌, ◌≤◌, ◌+◌, length, get_or, subst, sym, ap, ◌∙◌}
use Rattle.fs_mesh.proofs.Arenas.{room_for_face}
use Rattle.fs_mesh.proofs.meshes.fill.Goals as goal

pub push_face-requires-clause-room : goal.push_face-requires-clause-room
push_face-requires-clause-room c =
    let faces = c.as_slice-face-items.ensures in
    subst (λ n. length c.loop-face.half_edges.items + length c.face-item.result ≤ n) (sym (ap length c.as_slice-twins.ensures ∙ c.requires.as_many))
    (room_for_face c.args.triangles.now.faces c.loop-face.half_edges.items c.loop-face.face-index c.face-item.result c.loop-face.invariant.vectors
    (subst (λ xs. c.loop-face.face-index < length xs) faces c.loop-face-test.true)
    (c.face-item.is ∙ ap (λ xs. get_or xs c.loop-face.face-index c.face-item.result) faces))
