-- A straight path followed through the polygons of a surface, corner by corner, to its end or to the first formula that overflows.
use Rattle.std.specs.Prelude.{◌≡◌, ℕ, ◌+◌, List, [], ◌∷◌, ◌++◌, length, Result, Ok, Err}
use Rattle.fs_quadratic.specs.Ring.{Quadratic}
use Rattle.fs_quadratic.specs.declared.steps.Place.{Place}
use Rattle.fs_plane.specs.declared.corners.Corner.{Corner}
use Rattle.fs_plane.specs.declared.sites.Site.{Site}
use Rattle.fs_plane.specs.declared.sites.Site.TheVariants as sites
use Rattle.fs_plane.specs.Vector.{PlaneVector, vector_zero}
use Rattle.fs_paths.specs.SideGluing.{SideGluing}
use Rattle.fs_paths.specs.Ends.{PathEnd, outside_sector, segment, corner_before_end, ends_inside, longer}
use Rattle.fs_develop.specs.declared.entering.Entry.{Entry}
use Rattle.fs_develop.specs.declared.entering.Entry.TheVariants.{Outside, WholeSide, WithinSide, BeyondSide, Inside}
use Rattle.fs_develop.specs.declared.looking.Finding.{Finding}
use Rattle.fs_develop.specs.declared.looking.Finding.TheVariants.{RightOfPath, Last}
use Rattle.fs_develop.specs.declared.looking.Departure.TheVariants.{EndsAtCorner, MeetsCorner, EndsBefore, Crosses}
use Rattle.fs_develop.specs.declared.spots.Spot.{Spot}
use Rattle.fs_develop.specs.Entering.{enter}
use Rattle.fs_develop.specs.Looking.{look}

-- the first spot of a path inside the sector of the corner c
abbrev pub first_spot : Corner → Spot
first_spot c = record { corners = 0; side = c; from = vector_zero }

-- the spot after the next corner, which is at this position and right of the path
abbrev pub past_corner : SideGluing Corner Quadratic → Spot → PlaneVector → Spot
past_corner G at corner = record { corners = at.corners + 1; side = G.next at.side; from = corner }

-- the spot after the side is crossed: where the side begins its partner ends, and with it the side from which the next corner is looked at
abbrev pub past_side : SideGluing Corner Quadratic → Spot → Spot
past_side G at = record { corners = 0; side = G.next (G.twin at.side); from = at.from }

module _ (d : ℕ) (G : SideGluing Corner Quadratic) (v : PlaneVector) where
  -- how the path along v begins at the corner c
  abbrev pub first_entry : Corner → Result Entry Place
  first_entry c = enter d (G.vector c) (G.vector (G.prev c)) v

  -- what it finds at the next corner
  abbrev pub next_finding : Spot → Result Finding Place
  next_finding at = look at.corners d v at.from (G.vector at.side)

  -- a path may cross some sides, by the word of those that it crossed before
  module _ (MayCross : List Corner → Corner → Type 0) where
    -- the path that has crossed the sides of the word ends, or overflows, at the next corner, by what it finds there
    abbrev pub EndsAt : List Corner → Spot → Result Finding Place → Result (PathEnd Corner) Site → Type 0
    EndsAt word at (Err stop) result = result ≡ Err (sites.Walk (length word) stop.0)
    EndsAt word at (Ok (RightOfPath corner)) result = ⊥
    EndsAt word at (Ok (Last EndsAtCorner)) result = result ≡ Ok (segment word (G.next at.side))
    EndsAt word at (Ok (Last MeetsCorner)) result = result ≡ Ok (corner_before_end word)
    EndsAt word at (Ok (Last EndsBefore)) result = result ≡ Ok (ends_inside word)
    EndsAt word at (Ok (Last Crosses)) result = (¬ MayCross word at.side) × (result ≡ Ok (longer word))

    -- it goes on to another spot, with that word
    abbrev pub GoesOn : List Corner → Spot → Result Finding Place → List Corner → Spot → Type 0
    GoesOn word at (Err stop) word' at' = ⊥
    GoesOn word at (Ok (RightOfPath corner)) word' at' = (word' ≡ word) × (at' ≡ past_corner G at corner)
    GoesOn word at (Ok (Last EndsAtCorner)) word' at' = ⊥
    GoesOn word at (Ok (Last MeetsCorner)) word' at' = ⊥
    GoesOn word at (Ok (Last EndsBefore)) word' at' = ⊥
    GoesOn word at (Ok (Last Crosses)) word' at' = MayCross word at.side × (word' ≡ word ++ at.side ∷ []) × (at' ≡ past_side G at)

    -- from that spot it is followed to this end, or to the site of the first formula that overflows
    pub data FollowsTo : List Corner → Spot → Result (PathEnd Corner) Site → Type 0 where
      ends : (word : List Corner) → (at : Spot) → (result : Result (PathEnd Corner) Site) → EndsAt word at (next_finding at) result → FollowsTo word at result
      goes_on : (word word' : List Corner) → (at at' : Spot) → (result : Result (PathEnd Corner) Site) → GoesOn word at (next_finding at) word' at'
          → FollowsTo word' at' result → FollowsTo word at result

    -- the path begins at the corner c in this way, and is followed to this end or site
    abbrev pub BeginsWith : Corner → Result Entry Place → Result (PathEnd Corner) Site → Type 0
    BeginsWith c (Err stop) result = result ≡ Err (sites.Enter stop.0)
    BeginsWith c (Ok Outside) result = result ≡ Ok outside_sector
    BeginsWith c (Ok WholeSide) result = result ≡ Ok (segment [] (G.next c))
    BeginsWith c (Ok WithinSide) result = result ≡ Ok (ends_inside [])
    BeginsWith c (Ok BeyondSide) result = result ≡ Ok (corner_before_end [])
    BeginsWith c (Ok Inside) result = FollowsTo [] (first_spot c) result

    -- the path along v from the corner c is followed to this end, or to the site of the first formula that overflows
    abbrev pub LeadsTo : Corner → Result (PathEnd Corner) Site → Type 0
    LeadsTo c result = BeginsWith c (first_entry c) result
