pub mod SideGluing
pub mod Development
pub mod StraightPaths
pub mod Segments
pub mod Passages
pub mod Ends
pub mod NextCorners
