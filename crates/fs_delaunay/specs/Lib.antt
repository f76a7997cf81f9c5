-- The definitions of fs_delaunay: Delaunay triangulations, the run of flips to one, and cells.
pub mod Runs
pub mod CheckedRuns
pub mod Cells
pub mod Suspects
pub mod Steps
pub mod Results
pub mod CellNumbers
