pub mod Words
pub mod LiveWords
pub mod Sectors
pub mod WordOrder
