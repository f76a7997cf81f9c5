pub mod Entering
pub mod Looking
pub mod Following
pub mod Grid
pub mod Spots
pub mod Walks
