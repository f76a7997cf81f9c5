-- The tests of glue lines, and the glued polygons.
pub mod Partners
pub mod PartnerTables
pub mod GlueLines
pub mod GluedSides
pub mod GluedPolygons
pub mod Search
