pub mod FoundRays
pub mod KeptRays
pub mod EndsUnique
pub mod SaddleLists
pub mod SearchExists
pub mod EndExists
pub mod OrderedEntries
pub mod WholeLists
