pub mod Operations
pub mod CommutativeRing
pub mod OrderedRing
pub mod Vector
pub mod Direction
pub mod Circle
pub mod Discs
pub mod Integers
