pub mod Matrices
pub mod Products
pub mod Copies
pub mod Unfolding
pub mod Tables
pub mod InPlace
