pub mod Draws
pub mod Staircase
