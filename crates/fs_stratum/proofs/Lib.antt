-- The proofs of fs_stratum.
pub mod SectorOfEast
pub mod CornerCounts
pub mod RaisedRays
pub mod ConeNumberPositive
pub mod VertexMarks
pub mod MarkRows
pub mod VerticesFound
pub mod HeldCorners
pub mod RaisedSides
pub mod EulerSum
pub mod Parity
pub mod VertexListUnique
pub mod VertexListExists
pub mod GenusExists
