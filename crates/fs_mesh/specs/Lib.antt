-- The definitions of fs_mesh: what a mesh is, and what a flip makes of it.
pub mod Meshes
pub mod FlippedMeshes
pub mod Arena
