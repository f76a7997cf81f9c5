-- The end to which a path is followed is its end in the sense of straight paths.
use Rattle.std.proofs.Common.{◌≡◌, ◌≢◌, ℕ, Bool, List, [], ◌∷◌, ◌++◌, Result, Ok, Err, refl, sym, ◌∙◌, subst, inl, inr, arith}
use Rattle.fs_ring.specs.OrderedRing.{IsOrderedRing, IsLess}
use Rattle.fs_ring.specs.Vector.{zero_vector, norm}
use Rattle.fs_ring.specs.Vector as plane
use Rattle.fs_ring.specs.Operations.{Operations}
use Rattle.fs_ring.specs.Direction.{IsAlong, inside}
use Rattle.fs_ring.proofs.Directions as directions
use Rattle.fs_ring.proofs.Chords as chords
use Rattle.fs_ring.proofs.Order as order
use Rattle.fs_ring.proofs.Signs as signs
use Rattle.fs_ring.proofs.Turns as turns
use Rattle.fs_ring.proofs.Solver.{expressions as E, ◌≐◌}
use Rattle.fs_quadratic.specs.Radicand.{IsRadicand}
use Rattle.fs_quadratic.specs.Ring.{Quadratic, quadratic, neg, IsPositive}
use Rattle.fs_quadratic.specs.declared.steps.Place.{Place}
use Rattle.fs_quadratic.proofs.Laws.{field_order}
use Rattle.fs_plane.specs.declared.corners.Corner.{Corner}
use Rattle.fs_plane.specs.declared.sites.Site.{Site}
use Rattle.fs_plane.specs.Vector.{PlaneVector, cross}
use Rattle.fs_convex.specs.Turning.{DecidesHalfPlanes}
use Rattle.fs_paths.specs.SideGluing.{SideGluing, IsSide, AreGluedPolygons, InSectorOf, StrictlyInSectorOf}
use Rattle.fs_paths.specs.StraightPaths.{Reaches}
use Rattle.fs_paths.specs.Segments.{IsSegment, MeetsCorner, EndsInside}
use Rattle.fs_paths.specs.Passages.{ComesInto, begins, LeavesAtCorner}
use Rattle.fs_paths.specs.Ends.{PathEnd, outside_sector, segment, corner_before_end, ends_inside, longer}
use Rattle.fs_paths.proofs.Developments as developments
use Rattle.fs_paths.proofs.Passages as passages
use Rattle.fs_paths.proofs.Words as words
use Rattle.fs_paths.proofs.AlongSide as along_side
use Rattle.fs_paths.proofs.Ends as path_ends
use Rattle.fs_develop.specs.declared.entering.Entry.{Entry}
use Rattle.fs_develop.specs.declared.entering.Entry.TheVariants.{Outside, WholeSide, WithinSide, BeyondSide, Inside}
use Rattle.fs_develop.specs.declared.looking.Finding.{Finding}
use Rattle.fs_develop.specs.declared.looking.Finding.TheVariants.{RightOfPath, Last}
use Rattle.fs_develop.specs.declared.looking.Departure.TheVariants as departures
use Rattle.fs_develop.specs.declared.spots.Spot.{Spot}
use Rattle.fs_develop.specs.Following.{first_entry, first_spot, next_finding, EndsAt, GoesOn, FollowsTo, ends, goes_on, BeginsWith, LeadsTo}
use Rattle.fs_develop.specs.Spots.{IsSpotIn}
use Rattle.fs_develop.proofs.Findings.{finding_says}
use Rattle.fs_develop.proofs.Entries.{entry_says}
use Rattle.fs_develop.proofs.InPolygons.{corner_of, spot_put, from_is_right, passed_in_polygon, spot_crosses, crossed_in_polygon}

module _ {d : ℕ} (radicand : IsRadicand d) {is_ahead : PlaneVector → PlaneVector → Bool} (test : DecidesHalfPlanes (quadratic d) (IsPositive d) is_ahead)
    {G : SideGluing Corner Quadratic} (g : AreGluedPolygons (quadratic d) (IsPositive d) is_ahead G) (v : PlaneVector)
    (MayCross : List Corner → Corner → Type 0) (IsAllowed : List Corner → Type 0) (none_allowed : IsAllowed [])
    (one_more : (word : List Corner) (x : Corner) → IsAllowed word → MayCross word x → IsAllowed (word ++ x ∷ []))
    (c : Corner) (is_corner : IsSide G c) where
  abbrev L : IsOrderedRing (quadratic d) (IsPositive d)
  L = field_order radicand

  abbrev R : Operations Quadratic
  R = quadratic d

  -- what is so of a path that is followed to an end: the word is allowed
  abbrev pub Means : PathEnd Corner → Type 0
  Means outside_sector = ¬ InSectorOf R (IsPositive d) G c v
  Means (segment word y) = IsAllowed word × IsSegment R (IsPositive d) G c word v y
  Means (corner_before_end word) = IsAllowed word × MeetsCorner R (IsPositive d) G c word v
  Means (ends_inside word) = IsAllowed word × EndsInside R (IsPositive d) G c word v
  Means (longer word) = IsAllowed word × ((x : Corner) × (f : Corner) × (F : PlaneVector) × (¬ MayCross word x) × Reaches R (IsPositive d) G v c (word ++ x ∷ []) f F)

  same_end : {a b : PathEnd Corner} → ◌≡◌ {A = Result (PathEnd Corner) Site} (Ok b) (Ok a) → b ≡ a
  same_end e = cc

  failed : {a : PathEnd Corner} {site : Site} → ◌≡◌ {A = Result (PathEnd Corner) Site} (Err site) (Ok a) → ⊥
  failed e = cc

  -- where v is along the side and isn't shorter or equal to it, the side is shorter
  longer_side : IsAlong R (IsPositive d) (G.vector c) v → v ≢ G.vector c → ¬ IsLess R (IsPositive d) (norm R v) (norm R (G.vector c)) → IsLess R (IsPositive d) (norm R (G.vector c)) (norm R v)
  longer_side a other k = elim (order.at_most_cases L _ _ k) [ inl less ↦ less | inr e ↦ absurd (other (sym (chords.equal_of_norms L a e))) ]

  -- the path has crossed the sides of the word, and is at that spot of the polygon that it has come into
  record IsOnPath (word : List Corner) (at : Spot) : Type 0 where
    first : Corner
    put : PlaneVector
    is_side : IsSide G first
    comes : ComesInto R (IsPositive d) G v first put
    in_polygon : IsSpotIn d G v first put at
    reached : Reaches R (IsPositive d) G v c word first put
    allowed : IsAllowed word

  module _ (strict : StrictlyInSectorOf R (IsPositive d) G c v) where
    module _ (word : List Corner) (at : Spot) (on : IsOnPath word at) where
      abbrev corner : PlaneVector
      corner = corner_of radicand test g v at

      right_of : (IsPositive d (cross d corner v) → ⊥) → IsPositive d (cross d at.from v)
      right_of = from_is_right radicand test g v on.in_polygon on.comes

      -- where the corner is on the line of the path, the line leaves the polygon there
      leaves_there : cross d v corner ≡ R.zero → LeavesAtCorner R (IsPositive d) G v on.first on.put (G.next at.side) corner
      leaves_there z =
          passages.leaves_at_corner L test g on.is_side on.comes (spot_put radicand test g v on.in_polygon)
          (right_of (λ r. signs.negative-ne-zero L (turned r) z)) z
        where
          turned : IsPositive d (cross d corner v) → IsPositive d (neg (cross d v corner))
          turned r = directions.positive_by_plane L [] (v ∷ corner ∷ []) (λ v q. E.neg (plane.cross E v q) ≐ plane.cross E q v) refl r

      ends_means : (found : Result Finding Place) → next_finding d G v at ≡ found → (r : Result (PathEnd Corner) Site) → EndsAt d G v MayCross word at found r → (a : PathEnd Corner) → r ≡ Ok a → Means a
      ends_means (Err stop) e r h a s = absurd (failed (sym h ∙ s))
      ends_means (Ok (RightOfPath q)) e r h a s = absurd h
      ends_means (Ok (Last departures.EndsAtCorner)) e r h a s =
          let says = finding_says radicand at.corners v at.from (G.vector at.side) (Last departures.EndsAtCorner) e in
          subst Means (same_end (sym h ∙ s))
          (on.allowed, path_ends.segment_at_corner L test g on.is_side on.comes on.reached (leaves_there says.0) (sym says.1))
      ends_means (Ok (Last departures.MeetsCorner)) e r h a s =
          let says = finding_says radicand at.corners v at.from (G.vector at.side) (Last departures.MeetsCorner) e in
          subst Means (same_end (sym h ∙ s))
          (on.allowed, path_ends.meets_corner L test g on.is_side on.comes on.reached (leaves_there says.0) says.1)
      ends_means (Ok (Last departures.EndsBefore)) e r h a s =
          subst Means (same_end (sym h ∙ s))
          (elim (finding_says radicand at.corners v at.from (G.vector at.side) (Last departures.EndsBefore) e) [
            | inl on_line ↦
                let l = leaves_there on_line.0 in
                (on.allowed, path_ends.inside_before_corner L test g on.is_side on.comes on.reached l (path_ends.corner_beyond_end L test g l (λ same. on_line.1 (sym same)) on_line.2))
            | inr to_left ↦
                let l = passages.leaves_by_side L test g on.is_side on.comes (spot_put radicand test g v on.in_polygon) (right_of (λ r. turns.not_both_crosses L r to_left.0)) to_left.0 in
                (on.allowed, path_ends.inside_before_side L test g on.is_side on.comes on.reached l (λ n. to_left.1 (turned n)))
          ])
        where
          turned : IsPositive d (neg (cross d (G.vector at.side) (plane.sub_vector R v at.from))) → IsPositive d (cross d (plane.sub_vector R v at.from) (G.vector at.side))
          turned n =
              directions.positive_by_plane L [] (v ∷ at.from ∷ G.vector at.side ∷ [])
              (λ v q u. plane.cross E (plane.sub_vector E v q) u ≐ E.neg (plane.cross E u (plane.sub_vector E v q))) refl n
      ends_means (Ok (Last departures.Crosses)) e r h a s =
          subst Means (same_end (sym h.1 ∙ s)) (
            on.allowed,
            (
              at.side,
              G.twin at.side,
              corner,
              h.0,
              words.reaches_one_more R (IsPositive d) G v c word strict on.reached (spot_put radicand test g v on.in_polygon) (spot_crosses radicand test g v on.in_polygon on.comes e),
            ),
          )

      onward : (found : Result Finding Place) → next_finding d G v at ≡ found → (word' : List Corner) (at' : Spot) → GoesOn d G v MayCross word at found word' at' → IsOnPath word' at'
      onward (Err stop) e word' at' h = absurd h
      onward (Ok (RightOfPath q)) e word' at' h =
          subst (λ w. IsOnPath w at') (sym h.0)
          (subst (IsOnPath word) (sym h.1)
          (record { first = on.first; put = on.put; is_side = on.is_side; comes = on.comes; in_polygon = passed_in_polygon radicand test g v on.in_polygon q e; reached = on.reached; allowed = on.allowed }))
      onward (Ok (Last departures.EndsAtCorner)) e word' at' h = absurd h
      onward (Ok (Last departures.MeetsCorner)) e word' at' h = absurd h
      onward (Ok (Last departures.EndsBefore)) e word' at' h = absurd h
      onward (Ok (Last departures.Crosses)) e word' at' h =
          let crossed = spot_crosses radicand test g v on.in_polygon on.comes e in
          let put = spot_put radicand test g v on.in_polygon in
          subst (λ w. IsOnPath w at') (sym h.1)
          (subst (IsOnPath (word ++ at.side ∷ [])) (sym h.2)
          (record {
            first = G.twin at.side;
            put = corner;
            is_side = g.twin_side at.side (developments.put_is_side L test g on.is_side put);
            comes = passages.comes_into_next L test g on.is_side on.comes put crossed;
            in_polygon = crossed_in_polygon radicand test g v on.in_polygon on.is_side on.comes e;
            reached = words.reaches_one_more R (IsPositive d) G v c word strict on.reached put crossed;
            allowed = one_more word at.side on.allowed h.0;
          }))

    follows_means : (word : List Corner) (at : Spot) (r : Result (PathEnd Corner) Site) → FollowsTo d G v MayCross word at r → IsOnPath word at → (a : PathEnd Corner) → r ≡ Ok a → Means a
    follows_means word at r (ends _ _ _ h) on a s = ends_means word at on (next_finding d G v at) refl r h a s
    follows_means word at r (goes_on _ word' _ at' _ h rest) on a s = follows_means word' at' r rest (onward word at on (next_finding d G v at) refl word' at' h) a s

  begins_means : (entry : Result Entry Place) → first_entry d G v c ≡ entry → (r : Result (PathEnd Corner) Site) → BeginsWith d G v MayCross c entry r → (a : PathEnd Corner) → r ≡ Ok a → Means a
  begins_means (Err stop) e r h a s = absurd (failed (sym h ∙ s))
  begins_means (Ok Outside) e r h a s = subst Means (same_end (sym h ∙ s)) (entry_says radicand (G.vector c) (G.vector (G.prev c)) v Outside e)
  begins_means (Ok WholeSide) e r h a s =
      let says = entry_says radicand (G.vector c) (G.vector (G.prev c)) v WholeSide e in
      subst Means (same_end (sym h ∙ s)) (
        none_allowed,
        subst (λ w. IsSegment R (IsPositive d) G c [] w (G.next c)) (sym says.1)
            (along_side.segment_along_side L test g c is_corner (directions.dot_positive-ne-zero_left L says.0.same_way)),
      )
  begins_means (Ok WithinSide) e r h a s =
      let says = entry_says radicand (G.vector c) (G.vector (G.prev c)) v WithinSide e in
      subst Means (same_end (sym h ∙ s)) (none_allowed, along_side.inside_along_side L test g is_corner says.0 says.1)
  begins_means (Ok BeyondSide) e r h a s =
      let says = entry_says radicand (G.vector c) (G.vector (G.prev c)) v BeyondSide e in
      subst Means (same_end (sym h ∙ s)) (none_allowed, along_side.corner_along_side L test g is_corner says.0 (longer_side says.0 says.1 says.2))
  begins_means (Ok Inside) e r h a s =
      let says = entry_says radicand (G.vector c) (G.vector (G.prev c)) v Inside e in
      let strict : StrictlyInSectorOf R (IsPositive d) G c v = record { left_of_start = says.0; right_of_end = says.1 } in
      follows_means strict [] (first_spot c) r h
      (record {
        first = c;
        put = zero_vector R;
        is_side = is_corner;
        comes = begins refl strict;
        in_polygon = record { number = 0; side = refl; from = refl; right = λ j l m. absurd (omega arith); counted = omega arith };
        reached = (inside says.0 says.1, refl, refl);
        allowed = none_allowed;
      }) a s

  -- where a path is followed to an end, that is so of it
  pub leads_means : (a : PathEnd Corner) → LeadsTo d G v MayCross c (Ok a) → Means a
  leads_means a h = begins_means (first_entry d G v c) refl (Ok a) h a refl
