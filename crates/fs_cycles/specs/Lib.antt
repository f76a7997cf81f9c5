pub mod Cycles
pub mod Blocks
