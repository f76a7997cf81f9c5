-- The arena after the writes is that of the mesh with the edge flipped.
use Rattle.std.proofs.Common.{◌≡◌, ◌++◌, Ok, length, take, drop, sym, ap, ◌∙◌, subst}
use Rattle.fs_mesh.specs.Arena.{arena_triangles, arena_homes, arena_mesh, HasNexts, vectors_of, twins_of, nexts_of, vectors_written, homes_written, twins_written}
use Rattle.fs_mesh.specs.Meshes.{IsMesh}
use Rattle.fs_mesh.specs.FlippedMeshes.{IsMeshFlipped, ArePastedAndCut}
use Rattle.fs_mesh.proofs.FlippedArenas.{refilled, flip_of_arena, nexts_kept}
use Rattle.fs_mesh.proofs.MeshAfterFlip.{mesh_after, pasted_and_cut}
use Rattle.fs_mesh.proofs.NewEdges.{is_new_edge}
use Rattle.fs_mesh.proofs.meshes.Mesh.flip.Goals as goal

-- the mesh before
mesh_before : (c : goal.After-self-1) → IsMesh c.args.self.now
mesh_before c = subst IsMesh c.self.view_is c.self.invariant.0

-- the arena is written whole
whole : (c : goal.After-self-1) → take c.self.inside.half_edges.len (c.write_flip.new.half_edges ++ drop (length c.write_flip.new.half_edges) c.self.inside.half_edges.items) ≡ c.write_flip.new.half_edges
whole c =
    refilled c.self.inside.half_edges.len c.write_flip.new.half_edges c.self.inside.half_edges.items
    (c.self.inside.half_edges.ok.0 ∙ sym (ap length c.deref_mut.ensures.value) ∙ sym c.write_flip.auto.half_edges)

-- the mesh after the writes
is_flip : (c : goal.After-self-1) → IsMeshFlipped c.args.self.now c.args.edge (arena_mesh c.args.self.now.surface c.write_flip.new.half_edges)
is_flip c =
    let hinge = c.hinge-hinge.ensures.hinge in
    flip_of_arena c.args.self.now (mesh_before c) c.args.edge c.requires.edge.there c.in_ok-new.new c.in_ok-new.ensures c.deref_mut.result.now c.write_flip.new.half_edges
    ((λ i. arena_mesh (sym (ap (λ m. m.surface) c.self.view_is) i) (c.deref_mut.ensures.value i)) ∙ c.self.view_is)
    (c.write_flip.ensures.vectors ∙ ap (λ k. vectors_written (vectors_of c.deref_mut.result.now) k c.in_ok-new.new.vector) hinge)
    (c.write_flip.ensures.twins ∙ ap (λ k. twins_written (twins_of c.deref_mut.result.now) k) hinge)
    (c.write_flip.ensures.homes ∙ ap (λ k. homes_written (arena_homes c.deref_mut.result.now) k c.in_ok-new.new.home c.in_ok-new.new.twin_home) hinge)

pub invariant_of-self : goal.invariant_of-self
invariant_of-self c =
    let after = mesh_after c.args.self.now (mesh_before c) c.args.edge c.requires.edge.there (is_flip c) c.requires.illegal in
    let nexts = nexts_kept c.self.inside.half_edges.items c.write_flip.new.half_edges
    (c.write_flip.ensures.nexts ∙ ap nexts_of c.deref_mut.ensures.value) (c.write_flip.auto.half_edges ∙ ap length c.deref_mut.ensures.value) c.self.invariant.1 in
    subst (λ half_edges. IsMesh (arena_mesh c.self.inside.surface.now half_edges) × HasNexts half_edges) (sym (whole c))
    (subst (λ s. IsMesh (arena_mesh s c.write_flip.new.half_edges)) (sym (ap (λ m. m.surface) c.self.view_is)) after, nexts)

pub returns-clause-flipped : goal.returns-clause-flipped
returns-clause-flipped c =
    subst (λ half_edges. IsMeshFlipped c.args.self.now c.args.edge (arena_mesh c.self.inside.surface.now half_edges)) (sym (whole c))
    (subst (λ s. IsMeshFlipped c.args.self.now c.args.edge (arena_mesh s c.write_flip.new.half_edges)) (sym (ap (λ m. m.surface) c.self.view_is)) (is_flip c))

pub returns-clause-steps : goal.returns-clause-steps
returns-clause-steps c =
    let mesh = mesh_before c in
    let flipped = is_flip c in
    subst (λ half_edges. ArePastedAndCut c.args.self.now.surface.d c.args.self.now.triangles c.args.edge (arena_triangles half_edges)) (sym (whole c))
    (pasted_and_cut mesh.surface.radicand mesh.triangulation c.args.edge c.requires.edge.there c.requires.illegal flipped.triangles)

pub returns-clause-homes : goal.returns-clause-homes
returns-clause-homes c =
    let mesh = mesh_before c in
    let new = is_new_edge c.args.self.now mesh c.args.edge c.requires.edge.there (Ok c.in_ok-new.new) c.in_ok-new.ensures in
    (c.in_ok-new.new, c.in_ok-new.ensures, new.first)
