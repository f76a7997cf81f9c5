-- The proofs of fs_gluing, by subject.
pub mod Base
pub mod Polygon
pub mod Scale
pub mod SurfaceCalls
pub mod Sides
pub mod Gluing
pub mod Outcome
