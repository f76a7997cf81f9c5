-- A path that was followed to a spot, with the word of the sides that it crossed.
use Rattle.std.proofs.Common.{◌≡◌, Bool, List, [], ◌∷◌, ◌++◌, Result, Ok, Err, refl, sym, subst}
use Rattle.fs_quadratic.specs.Ring.{Quadratic}
use Rattle.fs_quadratic.specs.declared.steps.Place.{Place}
use Rattle.fs_plane.specs.declared.corners.Corner.{Corner}
use Rattle.std.specs.Result.{IsErrAnd}
use Rattle.fs_lists.proofs.Results.{at_exit}
use Rattle.fs_plane.specs.declared.sites.Site.{Site}
use Rattle.fs_plane.specs.declared.sites.Stop.{Stop}
use Rattle.fs_plane.specs.declared.sites.Stop.TheVariants as stops
use Rattle.fs_develop.specs.declared.walking.Walk.{Walk}
use Rattle.fs_develop.specs.Walks.{ReturnsWalk, ReturnsCheck}
use Rattle.fs_plane.specs.Vector.{PlaneVector}
use Rattle.fs_paths.specs.SideGluing.{SideGluing}
use Rattle.fs_paths.specs.Ends.{PathEnd}
use Rattle.fs_gluing.specs.Polygons.{HasSide}
use Rattle.fs_gluing.specs.Surface.{GluedPolygons, IsSurface}
use Rattle.fs_gluing.specs.SurfaceSides.{polygon_sides}
use Rattle.fs_develop.specs.declared.entering.Entry.TheVariants.{Inside}
use Rattle.fs_develop.specs.declared.looking.Finding.{Finding}
use Rattle.fs_develop.specs.declared.looking.Finding.TheVariants.{Last}
use Rattle.fs_develop.specs.declared.looking.Departure.TheVariants.{Crosses}
use Rattle.fs_develop.specs.declared.spots.Spot.{Spot}
use Rattle.fs_develop.specs.Following.{first_entry, first_spot, next_finding, past_side, EndsAt, GoesOn, FollowsTo, ends, goes_on}
use Rattle.fs_develop.specs.Spots.{IsSpot, Passes}
use Rattle.fs_develop.proofs.PathSpots.{follows_passed, first_is_spot, crossed_is_spot}

module _ (s : GluedPolygons) (v : PlaneVector) (MayCross : List Corner → Corner → Type 0) (start : Corner) where
  abbrev G : SideGluing Corner Quadratic
  G = polygon_sides s.polygons

  -- from inside the sector of a corner the path was followed to that spot, with this word
  pub record IsFollowed (word : List Corner) (at : Spot) : Type 0 where
    pub spot : IsSpot s.d G v at
    pub onward : (r : Result (PathEnd Corner) Site) → FollowsTo s.d G v MayCross word at r → FollowsTo s.d G v MayCross [] (first_spot start) r

  -- at the start
  pub followed_first : IsSurface s → HasSide s.polygons start → first_entry s.d G v start ≡ Ok Inside → IsFollowed [] (first_spot start)
  followed_first surface h e = record { spot = first_is_spot s surface v start h e; onward = λ r k. k }

  -- the path ends, or overflows, at the last corner of the polygon
  pub followed_to_end : (word : List Corner) (at to : Spot) (found : Result Finding Place) (r : Result (PathEnd Corner) Site) → IsFollowed word at → Passes s.d G v at to → next_finding s.d G v to ≡ found
      → EndsAt s.d G v MayCross word to found r → FollowsTo s.d G v MayCross [] (first_spot start) r
  followed_to_end word at to found r h passes e k =
      h.onward r (follows_passed s.d G v MayCross passes (ends word to r (subst (λ f. EndsAt s.d G v MayCross word to f r) (sym e) k)))

  -- it crosses a side there
  pub followed_across : (word : List Corner) (at to : Spot) → IsSurface s → IsFollowed word at → Passes s.d G v at to → IsSpot s.d G v to → next_finding s.d G v to ≡ Ok (Last Crosses)
      → MayCross word to.side → IsFollowed (word ++ to.side ∷ []) (past_side G to)
  followed_across word at to surface h passes spot e may = record {
    spot = crossed_is_spot s surface v to spot e;
    onward = λ r k.
        h.onward r (follows_passed s.d G v MayCross passes
        (goes_on word (word ++ to.side ∷ []) to (past_side G to) r
        (subst (λ f. GoesOn s.d G v MayCross word to f (word ++ to.side ∷ []) (past_side G to)) (sym e) (may, refl, refl)) k));
  }

-- a site that is returned as the reason of a stop
pub returned_site : (P : Result (PathEnd Corner) Site → Type 0) (site : Site) (result : Result Walk Stop) → IsErrAnd result (λ e. e ≡ stops.Overflow site) → P (Err site) → ReturnsWalk P result
returned_site P site result h p = at_exit (ReturnsWalk P) result (stops.Overflow site) h p

-- and one that is returned for a word
pub returned_check_site : (P : Result (PathEnd Corner) Site → Type 0) (given : List Corner) (site : Site) (result : Result Bool Site) → IsErrAnd result (λ e. e ≡ site) → P (Err site) → ReturnsCheck P given result
returned_check_site P given site result h p = at_exit (ReturnsCheck P given) result site h p
