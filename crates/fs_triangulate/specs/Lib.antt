-- The definitions of fs_triangulate: which half-edge of the first cut runs along a side or a diagonal.
pub mod Fans
