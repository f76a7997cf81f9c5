pub mod Divisor
pub mod Fraction
pub mod Arithmetic
pub mod Number
pub mod Parts
pub mod CheckedFractions
