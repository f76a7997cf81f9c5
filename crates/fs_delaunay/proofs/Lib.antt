-- The proofs of fs_delaunay, by subject.
pub mod FlipsUnique
pub mod AscendingLists
pub mod CellListUnique
pub mod CellListExists
pub mod CheckedRunLaws
pub mod EndsUnique
pub mod Marks
pub mod SuspectsAfterFlip
pub mod SuspectSearch
pub mod RunSteps
pub mod RunsUnderWay
pub mod CellJoins
pub mod CellNumbers
pub mod CellSearch
pub mod CellLists
pub mod CellClasses
