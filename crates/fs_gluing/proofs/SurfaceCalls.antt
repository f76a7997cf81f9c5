-- What the calls on a surface return.
pub mod NextCorner
pub mod Positions
pub mod AreaSums
