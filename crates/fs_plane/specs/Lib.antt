pub mod Vector
pub mod Formulas
pub mod Listing
pub mod ListedOrder
pub mod EqualVectors
pub mod ListedLaws
