-- The definitions of fs_stratum: the list of the vertices of a surface, and its genus.
pub mod VertexList
pub mod CornerMarks
pub mod VerticesFound
pub mod MarkRows
