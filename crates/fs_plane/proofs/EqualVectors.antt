-- The tests for equal numbers and equal vectors decide: the lemmas are in specs/, since the `impl`s of an order name them. A library for crates to come.
pub use Rattle.fs_plane.specs.EqualVectors.{Decides-is_same_number, Decides-is_same_vector}
