-- A path is followed to an end, or to a site.
use Rattle.std.proofs.Common.{◌≡◌, ◌⊎◌, ℕ, zero, suc, ◌+◌, ◌<◌, ◌≤◌, List, [], ◌∷◌, ◌++◌, length, Result, Ok, Err, refl, sym, subst, inl, inr, arith, length-append}
use Rattle.fs_quadratic.specs.Ring.{Quadratic}
use Rattle.fs_quadratic.specs.declared.steps.Place.{Place}
use Rattle.fs_plane.specs.declared.corners.Corner.{Corner}
use Rattle.fs_plane.specs.declared.sites.Site.{Site}
use Rattle.fs_plane.specs.Vector.{PlaneVector}
use Rattle.fs_paths.specs.SideGluing.{SideGluing}
use Rattle.fs_paths.specs.Ends.{PathEnd}
use Rattle.fs_gluing.specs.Limits.{most_sides}
use Rattle.fs_gluing.specs.Polygons.{HasSide}
use Rattle.fs_gluing.specs.Surface.{GluedPolygons, IsSurface}
use Rattle.fs_gluing.specs.SurfaceSides.{polygon_sides}
use Rattle.fs_develop.specs.declared.entering.Entry.{Entry}
use Rattle.fs_develop.specs.declared.entering.Entry.TheVariants.{Outside, WholeSide, WithinSide, BeyondSide, Inside}
use Rattle.fs_develop.specs.declared.looking.Finding.{Finding}
use Rattle.fs_develop.specs.declared.looking.Finding.TheVariants.{RightOfPath, Last}
use Rattle.fs_develop.specs.declared.looking.Departure.TheVariants.{EndsAtCorner, MeetsCorner, EndsBefore, Crosses}
use Rattle.fs_develop.specs.declared.spots.Spot.{Spot}
use Rattle.fs_develop.specs.Following.{first_entry, first_spot, next_finding, past_corner, past_side, EndsAt, GoesOn, FollowsTo, ends, goes_on, BeginsWith}
use Rattle.fs_develop.specs.Spots.{IsSpot}
use Rattle.fs_develop.specs.Walks.{IsWithin, WalksTo}
use Rattle.fs_develop.proofs.PathSpots.{few_corners, first_is_spot, passed_is_spot, crossed_is_spot}

module _ (s : GluedPolygons) (surface : IsSurface s) (v : PlaneVector) (n : ℕ) where
  abbrev G : SideGluing Corner Quadratic
  G = polygon_sides s.polygons

  abbrev End : Type 0
  End = Result (PathEnd Corner) Site

  -- some result of the path from there
  abbrev SomeResult : List Corner → Spot → Type 0
  SomeResult word at = (r : End) × FollowsTo s.d G v (IsWithin n) word at r

  -- ---- in one polygon, where the path goes on after each side that it may cross

  module _ (m : ℕ) (across : (word : List Corner) (at : Spot) → IsSpot s.d G v at → length word + m ≡ suc n → length word ≤ n → at.corners ≡ 0 → SomeResult word at) where
    ended : (word : List Corner) (at : Spot) (found : Result Finding Place) (r : End) → next_finding s.d G v at ≡ found → EndsAt s.d G v (IsWithin n) word at found r → SomeResult word at
    ended word at found r e h = (r, ends word at r (subst (λ f. EndsAt s.d G v (IsWithin n) word at f r) (sym e) h))

    onward : (word word' : List Corner) (at at' : Spot) (found : Result Finding Place) → next_finding s.d G v at ≡ found → GoesOn s.d G v (IsWithin n) word at found word' at' → SomeResult word' at' → SomeResult word at
    onward word word' at at' found e h rest =
        (rest.0, goes_on word word' at at' rest.0 (subst (λ f. GoesOn s.d G v (IsWithin n) word at f word' at') (sym e) h) rest.1)

    within_or_not : (k : ℕ) → (k < n) ⊎ ¬ (k < n)
    within_or_not k = grind arith

    -- at a spot, where the path goes on after a corner right of it
    from_spot : (word : List Corner) (at : Spot) → IsSpot s.d G v at → length word + m ≡ n
        → ((corner : PlaneVector) → next_finding s.d G v at ≡ Ok (RightOfPath corner) → SomeResult word (past_corner G at corner))
        → (found : Result Finding Place) → next_finding s.d G v at ≡ found → SomeResult word at
    from_spot word at spot left rest (Err stop) e = ended word at (Err stop) _ e refl
    from_spot word at spot left rest (Ok (RightOfPath corner)) e = onward word word at (past_corner G at corner) (Ok (RightOfPath corner)) e (refl, refl) (rest corner e)
    from_spot word at spot left rest (Ok (Last EndsAtCorner)) e = ended word at (Ok (Last EndsAtCorner)) _ e refl
    from_spot word at spot left rest (Ok (Last MeetsCorner)) e = ended word at (Ok (Last MeetsCorner)) _ e refl
    from_spot word at spot left rest (Ok (Last EndsBefore)) e = ended word at (Ok (Last EndsBefore)) _ e refl
    from_spot word at spot left rest (Ok (Last Crosses)) e = elim (within_or_not (length word)) [
      | inr not ↦ ended word at (Ok (Last Crosses)) _ e (not, refl)
      | inl within ↦
          let size = length-append word (at.side ∷ []) in
          onward word (word ++ at.side ∷ []) at (past_side G at) (Ok (Last Crosses)) e (within, refl, refl)
          (across (word ++ at.side ∷ []) (past_side G at) (crossed_is_spot s surface v at spot e) (omega arith) (omega arith) refl)
    ]

    -- k more corners may come
    in_polygon : (k : ℕ) (word : List Corner) (at : Spot) → IsSpot s.d G v at → length word + m ≡ n → at.corners + k ≡ most_sides → SomeResult word at
    in_polygon zero word at spot left counted =
        from_spot word at spot left (λ corner e. absurd (let few = few_corners s surface v at spot in omega arith)) (next_finding s.d G v at) refl
    in_polygon (suc k) word at spot left counted =
        from_spot word at spot left
        (λ corner e. in_polygon k word (past_corner G at corner) (passed_is_spot s surface v at corner spot e) left (omega arith)) (next_finding s.d G v at) refl

  -- ---- from polygon to polygon

  -- m more sides may be crossed
  follows_exists : (m : ℕ) (word : List Corner) (at : Spot) → IsSpot s.d G v at → length word + m ≡ n → at.corners ≡ 0 → SomeResult word at
  follows_exists zero word at spot left none = in_polygon zero (λ word at spot more short first. absurd (omega arith)) most_sides word at spot left (omega arith)
  follows_exists (suc m) word at spot left none =
      in_polygon (suc m) (λ word at spot more short first. follows_exists m word at spot (omega arith) first) most_sides word at spot left (omega arith)

  -- a walk has a result
  pub walk_exists : (c : Corner) → HasSide s.polygons c → (r : End) × WalksTo s c v n r
  walk_exists c there = by_entry (first_entry s.d G v c) refl
    where
      begun : (entry : Result Entry Place) (r : End) → first_entry s.d G v c ≡ entry → BeginsWith s.d G v (IsWithin n) c entry r → (r : End) × WalksTo s c v n r
      begun entry r e h = (r, subst (λ f. BeginsWith s.d G v (IsWithin n) c f r) (sym e) h)

      by_entry : (entry : Result Entry Place) → first_entry s.d G v c ≡ entry → (r : End) × WalksTo s c v n r
      by_entry (Err stop) e = begun (Err stop) _ e refl
      by_entry (Ok Outside) e = begun (Ok Outside) _ e refl
      by_entry (Ok WholeSide) e = begun (Ok WholeSide) _ e refl
      by_entry (Ok WithinSide) e = begun (Ok WithinSide) _ e refl
      by_entry (Ok BeyondSide) e = begun (Ok BeyondSide) _ e refl
      by_entry (Ok Inside) e = (let rest = follows_exists n [] (first_spot c) (first_is_spot s surface v c there e) (omega arith) refl in begun (Ok Inside) rest.0 e rest.1)
