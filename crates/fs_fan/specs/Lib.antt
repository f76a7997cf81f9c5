-- The definitions of fs_fan: what is computed at half-edges and words, and the search through all live words.
pub mod Visits
pub mod Search
pub mod Entries
pub mod Searching
