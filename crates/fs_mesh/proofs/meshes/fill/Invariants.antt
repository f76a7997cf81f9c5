-- The half-edges of the faces, one face after another.
use Rattle.std.proofs.Common.{◌≡◌, take}
use Rattle.std.specs.List.{flat_map}
use Rattle.fs_mesh.specs.Arena.{vectors_of, IsFilled}
use Rattle.fs_mesh.proofs.meshes.fill.Given as goal

abbrev pub invariant-loop-face : goal.invariant-loop-face
invariant-loop-face l = record {
  filled : IsFilled l.twins l.homes l.half_edges.items;
  vectors : vectors_of l.half_edges.items ≡ flat_map (λ face. face) (take l.face-index l.triangles.faces);
}
