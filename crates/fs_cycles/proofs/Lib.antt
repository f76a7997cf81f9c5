pub mod Iterates
pub mod Representatives
pub mod Exchange
pub mod Pairs
pub mod Blocks
