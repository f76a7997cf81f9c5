-- The partners of sides in one list. Only proofs and inner calls of this crate cite it; the contract of `flat` doesn't rest on it.
use Rattle.std.specs.Prelude.{ℕ, ◌+◌, ◌*◌, ◌<◌, nat_lt, cond, List, Option, None, length, slice_index_or}
use Rattle.fs_plane.specs.declared.corners.Corner.{Corner}
use Rattle.fs_gluing.specs.Polygons.{HasSide}

-- as many places for each polygon as `width` says, polygon by polygon
pub record PartnerTable : Type 0 where
  pub width : ℕ
  pub items : List (Option Corner)

-- the place of a side
abbrev pub place_of : PartnerTable → Corner → ℕ
place_of t c = c.polygon * t.width + c.side

-- the partner of a side
unfoldable pub partner_of : PartnerTable → Corner → Option Corner
partner_of t c = cond (nat_lt c.side t.width) (slice_index_or t.items (place_of t c) None) None

-- there is a place for the side
pub record HasPlace (t : PartnerTable) (c : Corner) : Type 0 where
  pub side : c.side < t.width
  pub inside : place_of t c < length t.items

-- there is one for each side of the polygons
abbrev pub HasPlaces : {X : Type 0} → List (List X) → PartnerTable → Type 0
HasPlaces polygons t = (c : Corner) → HasSide polygons c → HasPlace t c
