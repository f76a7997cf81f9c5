-- The proofs of fs_triangulate, by subject.
pub mod FanWays
pub mod FanPlaces
pub mod GluedWays
pub mod WayVectors
pub mod FaceBases
pub mod Added
pub mod FirstCutLaws
pub mod FirstCutUnique
pub mod FaceNumbers
pub mod FaceCounts
pub mod StrictPolygons
pub mod SideNumbers
pub mod FanHalfEdges
pub mod FanTriangulation
pub mod FanEars
pub mod FanCuts
pub mod FanHomes
