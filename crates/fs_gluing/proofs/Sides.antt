-- The sides of polygons: all of them in a list, the order of corners, their partners, the two at a corner, the corners round a vertex, and the polygons of a surface as glued polygons.
pub mod AllSides
pub mod CornerOrder
pub mod PartnerSides
pub mod VertexOrbits
pub mod CornerRays
pub mod HalfPlaneTests
pub mod SidesInTurn
pub mod GluedSurface
pub mod CornerSearch
