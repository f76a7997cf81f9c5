pub mod Counts
pub mod Corners
pub mod Polygon
