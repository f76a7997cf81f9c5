-- A path is followed to one end, or to one site.
use Rattle.std.proofs.Common.{◌≡◌, ℕ, List, [], Result, Ok, Err, sym, ◌∙◌, subst}
use Rattle.fs_quadratic.specs.Ring.{Quadratic}
use Rattle.fs_quadratic.specs.declared.steps.Place.{Place}
use Rattle.fs_plane.specs.declared.corners.Corner.{Corner}
use Rattle.fs_plane.specs.declared.sites.Site.{Site}
use Rattle.fs_plane.specs.Vector.{PlaneVector}
use Rattle.fs_paths.specs.SideGluing.{SideGluing}
use Rattle.fs_paths.specs.Ends.{PathEnd}
use Rattle.fs_develop.specs.declared.entering.Entry.{Entry}
use Rattle.fs_develop.specs.declared.entering.Entry.TheVariants.{Outside, WholeSide, WithinSide, BeyondSide, Inside}
use Rattle.fs_develop.specs.declared.looking.Finding.{Finding}
use Rattle.fs_develop.specs.declared.looking.Finding.TheVariants.{RightOfPath, Last}
use Rattle.fs_develop.specs.declared.looking.Departure.TheVariants.{EndsAtCorner, MeetsCorner, EndsBefore, Crosses}
use Rattle.fs_develop.specs.declared.spots.Spot.{Spot}
use Rattle.fs_develop.specs.Following.{first_entry, first_spot, next_finding, EndsAt, GoesOn, FollowsTo, ends, goes_on, BeginsWith, LeadsTo}

module _ (d : ℕ) (G : SideGluing Corner Quadratic) (v : PlaneVector) (MayCross : List Corner → Corner → Type 0) where
  abbrev End : Type 0
  End = Result (PathEnd Corner) Site

  abbrev AtEnd : List Corner → Spot → Result Finding Place → End → Type 0
  AtEnd word at found r = EndsAt d G v MayCross word at found r

  abbrev Onward : List Corner → Spot → Result Finding Place → List Corner → Spot → Type 0
  Onward word at found word' at' = GoesOn d G v MayCross word at found word' at'

  ends_unique : (word : List Corner) (at : Spot) (found : Result Finding Place) (r q : End) → AtEnd word at found r → AtEnd word at found q → q ≡ r
  ends_unique word at (Err stop) r q e f = f ∙ sym e
  ends_unique word at (Ok (RightOfPath corner)) r q e f = absurd e
  ends_unique word at (Ok (Last EndsAtCorner)) r q e f = f ∙ sym e
  ends_unique word at (Ok (Last MeetsCorner)) r q e f = f ∙ sym e
  ends_unique word at (Ok (Last EndsBefore)) r q e f = f ∙ sym e
  ends_unique word at (Ok (Last Crosses)) r q e f = f.1 ∙ sym e.1

  not_both : (word : List Corner) (at : Spot) (found : Result Finding Place) (r : End) (word' : List Corner) (at' : Spot) → AtEnd word at found r → Onward word at found word' at' → ⊥
  not_both word at (Err stop) r word' at' e g = g
  not_both word at (Ok (RightOfPath corner)) r word' at' e g = e
  not_both word at (Ok (Last EndsAtCorner)) r word' at' e g = g
  not_both word at (Ok (Last MeetsCorner)) r word' at' e g = g
  not_both word at (Ok (Last EndsBefore)) r word' at' e g = g
  not_both word at (Ok (Last Crosses)) r word' at' e g = e.0 g.0

  onward_unique : (word : List Corner) (at : Spot) (found : Result Finding Place) (word' word'' : List Corner) (at' at'' : Spot) → Onward word at found word' at' → Onward word at found word'' at''
      → (word'' ≡ word') × (at'' ≡ at')
  onward_unique word at (Err stop) word' word'' at' at'' g h = absurd g
  onward_unique word at (Ok (RightOfPath corner)) word' word'' at' at'' g h = (h.0 ∙ sym g.0, h.1 ∙ sym g.1)
  onward_unique word at (Ok (Last EndsAtCorner)) word' word'' at' at'' g h = absurd g
  onward_unique word at (Ok (Last MeetsCorner)) word' word'' at' at'' g h = absurd g
  onward_unique word at (Ok (Last EndsBefore)) word' word'' at' at'' g h = absurd g
  onward_unique word at (Ok (Last Crosses)) word' word'' at' at'' g h = (h.1 ∙ sym g.1, h.2 ∙ sym g.2)

  -- two results of a path from one spot are the same
  pub follows_unique : (word : List Corner) (at : Spot) (r q : End) → FollowsTo d G v MayCross word at r → FollowsTo d G v MayCross word at q → q ≡ r
  follows_unique word at r q (ends _ _ _ e) (ends _ _ _ f) = ends_unique word at (next_finding d G v at) r q e f
  follows_unique word at r q (ends _ _ _ e) (goes_on _ word' _ at' _ g k) = absurd (not_both word at (next_finding d G v at) r word' at' e g)
  follows_unique word at r q (goes_on _ word' _ at' _ g k) (ends _ _ _ e) = absurd (not_both word at (next_finding d G v at) q word' at' e g)
  follows_unique word at r q (goes_on _ word' _ at' _ g k) (goes_on _ word'' _ at'' _ h l) =
      let same = onward_unique word at (next_finding d G v at) word' word'' at' at'' g h in
      follows_unique word' at' r q k
      (subst (λ w. FollowsTo d G v MayCross w at' q) same.0 (subst (λ a. FollowsTo d G v MayCross word'' a q) same.1 l))

  begins_unique : (c : Corner) (entry : Result Entry Place) (r q : End) → BeginsWith d G v MayCross c entry r → BeginsWith d G v MayCross c entry q → q ≡ r
  begins_unique c (Err stop) r q e f = f ∙ sym e
  begins_unique c (Ok Outside) r q e f = f ∙ sym e
  begins_unique c (Ok WholeSide) r q e f = f ∙ sym e
  begins_unique c (Ok WithinSide) r q e f = f ∙ sym e
  begins_unique c (Ok BeyondSide) r q e f = f ∙ sym e
  begins_unique c (Ok Inside) r q e f = follows_unique [] (first_spot c) r q e f

  -- two results of a path from one corner are the same
  pub leads_unique : (c : Corner) (r q : End) → LeadsTo d G v MayCross c r → LeadsTo d G v MayCross c q → q ≡ r
  leads_unique c r q e f = begins_unique c (first_entry d G v c) r q e f
