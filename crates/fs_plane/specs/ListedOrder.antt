-- The order of listed vectors.
use Rattle.std.specs.Ordering.{nat_cmp, ordering_then}
use Rattle.std.specs.declared.cmp.Ordering.{Ordering}
use Rattle.fs_plane.specs.declared.listing.Listed.{Listed}
use Rattle.fs_plane.specs.Listing.{vector_cmp, corner_cmp}

-- by the field's d, then by vector, then by corner
abbrev pub listed_cmp : Listed → Listed → Ordering
listed_cmp a b = ordering_then (nat_cmp a.field.d b.field.d) (ordering_then (vector_cmp a.field.d a.v b.v) (corner_cmp a.start b.start))
