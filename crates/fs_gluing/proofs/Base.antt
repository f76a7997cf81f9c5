-- What the other proofs rest on: tests in their order, equal vectors and corners, and numbers that are read back.
pub mod TestsInOrder
pub mod Equality
pub mod ReadBack
