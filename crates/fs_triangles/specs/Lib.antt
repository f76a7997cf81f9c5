pub mod Triangles
pub mod Flips
pub mod Ears
