-- The definitions of fs_saddles: the saddle list of a mesh within a bound, and how its rays are kept.
pub mod Saddles
pub mod WholeLists
pub mod Keeping
