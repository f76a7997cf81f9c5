-- The half-edges of a face, one after another.
use Rattle.std.proofs.Common.{◌≡◌, ◌+◌, ◌++◌, take, length}
use Rattle.fs_mesh.specs.Arena.{vectors_of, IsFilled}
use Rattle.fs_mesh.proofs.arena.push_face.Given as goal

abbrev pub invariant-loop-vector : goal.invariant-loop-vector
invariant-loop-vector l = record {
  filled : IsFilled l.twins l.homes l.half_edges.items;
  vectors : vectors_of l.half_edges.items ≡ vectors_of l.initial.half_edges.items ++ take l.vector-index l.face;
  count : length l.half_edges.items ≡ length l.initial.half_edges.items + l.vector-index;
}
