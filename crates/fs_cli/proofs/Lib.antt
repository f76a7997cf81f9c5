pub mod Requests
pub mod CommandTexts
pub mod DescribedShapes
pub mod ShapeAnswers
pub mod AnsweredUnique
pub mod AnsweredExists
pub mod CallWrites
pub mod Summaries
