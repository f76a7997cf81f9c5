pub mod Orders
pub mod Area
pub mod Text
pub mod DelaunayText
pub mod SaddlesText
pub mod FlowText
pub mod Answers
