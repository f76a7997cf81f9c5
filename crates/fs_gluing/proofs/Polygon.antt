-- The tests of polygons.
pub mod Boundary
pub mod ConvexCorners
pub mod CornersBend
pub mod PolygonTests
pub mod PolygonsInTurn
