pub mod WordOrder
pub mod Orientations
pub mod Crossings
pub mod CrossingOrder
pub mod NarrowedSectors
pub mod LiveWords
pub mod Rays
pub mod RaySegments
