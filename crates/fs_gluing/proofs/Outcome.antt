-- What building returns, and that a shape which passes all tests has exactly one surface.
pub mod BuildResult
pub mod SurfaceExists
pub mod SurfaceUnique
