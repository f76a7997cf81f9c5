-- A shape is scaled.
pub mod ScalingInTurn
pub mod CommonDenominator
pub mod ScaledVectors
pub mod EqualDenominators
