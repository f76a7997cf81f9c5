-- A path that is followed along a given word: whether it is a segment with that word.
use Rattle.std.proofs.Common.{◌≡◌, ◌≢◌, ◌↔◌, ◌⊎◌, ◌==◌, ℕ, zero, suc, Some, ◌+◌, ◌<◌, Bool, true, false, List, [], ◌∷◌, ◌++◌, length, take, Result, Ok, IsTrue, refl, sym, ap, ◌∙◌, subst, inl, inr, arith, length-append}
use Rattle.std.proofs.lemmas.Bool.Decides.{nat_tests}
use Rattle.std.proofs.lemmas.Option.{same_Some}
use Rattle.std.proofs.lemmas.List.{length-take-le}
use Rattle.std.specs.List.{slice_get}
use Rattle.fs_plane.specs.declared.corners.Corner.{Corner}
use Rattle.fs_plane.specs.declared.sites.Site.{Site}
use Rattle.fs_plane.specs.Vector.{PlaneVector}
use Rattle.fs_paths.specs.Ends.{PathEnd, outside_sector, segment, corner_before_end, ends_inside, longer}
use Rattle.fs_gluing.specs.Surface.{GluedPolygons}
use Rattle.fs_develop.specs.declared.entering.Entry.{Entry}
use Rattle.fs_develop.specs.declared.entering.Entry.TheVariants.{Outside, WholeSide, WithinSide, BeyondSide, Inside}
use Rattle.fs_develop.specs.declared.looking.Departure.{Departure}
use Rattle.fs_develop.specs.declared.looking.Departure.TheVariants.{EndsAtCorner, MeetsCorner, EndsBefore, Crosses}
use Rattle.fs_develop.specs.declared.looking.Finding.TheVariants.{Last}
use Rattle.fs_develop.specs.declared.spots.LastSpot.{LastSpot}
use Rattle.fs_develop.specs.declared.spots.Spot.{Spot}
use Rattle.fs_develop.specs.Following.{first_entry, first_spot, next_finding, FollowsTo, BeginsWith}
use Rattle.fs_develop.specs.Spots.{Departs}
use Rattle.fs_develop.specs.Walks.{IsNextOf, IsSegmentEnd, FollowsWord, ReturnsCheck}
use Rattle.fs_gluing.specs.SurfaceSides.{polygon_sides}
use Rattle.fs_develop.proofs.Followed.{IsFollowed, followed_to_end}

module _ (s : GluedPolygons) (v : PlaneVector) (start : Corner) (given : List Corner) where
  abbrev Follows : Result (PathEnd Corner) Site → Type 0
  Follows r = FollowsTo s.d (polygon_sides s.polygons) v (IsNextOf given) [] (first_spot start) r

  -- what the check returns where the path isn't followed on, by how it departs
  pub check_ends : (word : List Corner) (n : ℕ) (at : Spot) (last : LastSpot) (held : Bool) → IsFollowed s v (IsNextOf given) start word at → Departs s.d (polygon_sides s.polygons) v at n (Ok last)
      → (last.departure ≡ Crosses → ¬ IsNextOf given word last.spot.side) → (IsTrue held ↔ (last.departure ≡ EndsAtCorner) × (word ≡ given)) → ReturnsCheck Follows given (Ok held)
  check_ends word n at last held followed departs other says = go last.departure refl
    where
      to_end : (departure : Departure) → last.departure ≡ departure → next_finding s.d (polygon_sides s.polygons) v last.spot ≡ Ok (Last departure)
      to_end departure e = departs.2 ∙ ap (λ x. Ok (Last x)) e

      go : (departure : Departure) → last.departure ≡ departure → ReturnsCheck Follows given (Ok held)
      go EndsAtCorner e = (
        segment word ((polygon_sides s.polygons).next last.spot.side),
        followed_to_end s v (IsNextOf given) start word at last.spot (Ok (Last EndsAtCorner)) _ followed departs.0 (to_end EndsAtCorner e) refl,
        ((λ h. (_, ap (λ w. segment w ((polygon_sides s.polygons).next last.spot.side)) (says.0 h).1)), (λ m. says.1 (e, same_word m.1))),
      )
        where
          same_word : {y z : Corner} → segment word y ≡ segment given z → word ≡ given
          same_word f = cc
      go MeetsCorner e = (
        corner_before_end word,
        followed_to_end s v (IsNextOf given) start word at last.spot (Ok (Last MeetsCorner)) _ followed departs.0 (to_end MeetsCorner e) refl,
        ((λ h. absurd (no_end (sym e ∙ (says.0 h).0))), (λ m. absurd (no_segment m.1))),
      )
        where
          no_end : MeetsCorner ≡ EndsAtCorner → ⊥
          no_end f = cc

          no_segment : {z : Corner} → corner_before_end word ≡ segment given z → ⊥
          no_segment f = cc
      go EndsBefore e = (
        ends_inside word,
        followed_to_end s v (IsNextOf given) start word at last.spot (Ok (Last EndsBefore)) _ followed departs.0 (to_end EndsBefore e) refl,
        ((λ h. absurd (no_end (sym e ∙ (says.0 h).0))), (λ m. absurd (no_segment m.1))),
      )
        where
          no_end : EndsBefore ≡ EndsAtCorner → ⊥
          no_end f = cc

          no_segment : {z : Corner} → ends_inside word ≡ segment given z → ⊥
          no_segment f = cc
      go Crosses e = (
        longer word,
        followed_to_end s v (IsNextOf given) start word at last.spot (Ok (Last Crosses)) _ followed departs.0 (to_end Crosses e) (other e, refl),
        ((λ h. absurd (no_end (sym e ∙ (says.0 h).0))), (λ m. absurd (no_segment m.1))),
      )
        where
          no_end : Crosses ≡ EndsAtCorner → ⊥
          no_end f = cc

          no_segment : {z : Corner} → longer word ≡ segment given z → ⊥
          no_segment f = cc

-- ---- a path that doesn't begin inside the sector of its corner

module _ (s : GluedPolygons) (v : PlaneVector) (c : Corner) (given : List Corner) where
  abbrev Leads : PathEnd Corner → Type 0
  Leads end = FollowsWord s c v given (Ok end)

  leads_at_once : (entry : Entry) (end : PathEnd Corner) → first_entry s.d (polygon_sides s.polygons) v c ≡ Ok entry
      → BeginsWith s.d (polygon_sides s.polygons) v (IsNextOf given) c (Ok entry) (Ok end) → Leads end
  leads_at_once entry end e h = subst (λ f. BeginsWith s.d (polygon_sides s.polygons) v (IsNextOf given) c f (Ok end)) (sym e) h

  not_true : false ≡ true → ⊥
  not_true e = cc

  -- it is no segment where it isn't in the sector, or along the side and not to its end
  pub begins_no_segment : (entry : Entry) → first_entry s.d (polygon_sides s.polygons) v c ≡ Ok entry → (entry ≡ Outside) ⊎ ((entry ≡ WithinSide) ⊎ (entry ≡ BeyondSide))
      → ReturnsCheck (FollowsWord s c v given) given (Ok false)
  begins_no_segment Outside e h = (outside_sector, leads_at_once Outside outside_sector e refl, ((λ t. absurd (not_true t)), (λ m. absurd (no_segment m.1))))
    where
      no_segment : {z : Corner} → outside_sector ≡ segment given z → ⊥
      no_segment f = cc
  begins_no_segment WithinSide e h = (ends_inside [], leads_at_once WithinSide (ends_inside []) e refl, ((λ t. absurd (not_true t)), (λ m. absurd (no_segment m.1))))
    where
      no_segment : {z : Corner} → ends_inside [] ≡ segment given z → ⊥
      no_segment f = cc
  begins_no_segment BeyondSide e h = (corner_before_end [], leads_at_once BeyondSide (corner_before_end []) e refl, ((λ t. absurd (not_true t)), (λ m. absurd (no_segment m.1))))
    where
      no_segment : {z : Corner} → corner_before_end [] ≡ segment given z → ⊥
      no_segment f = cc
  begins_no_segment WholeSide e h = absurd (elim h [ inl f ↦ one f | inr k ↦ elim k [ inl f ↦ two f | inr f ↦ three f ] ])
    where
      one : WholeSide ≡ Outside → ⊥
      one f = cc

      two : WholeSide ≡ WithinSide → ⊥
      two f = cc

      three : WholeSide ≡ BeyondSide → ⊥
      three f = cc
  begins_no_segment Inside e h = absurd (elim h [ inl f ↦ one f | inr k ↦ elim k [ inl f ↦ two f | inr f ↦ three f ] ])
    where
      one : Inside ≡ Outside → ⊥
      one f = cc

      two : Inside ≡ WithinSide → ⊥
      two f = cc

      three : Inside ≡ BeyondSide → ⊥
      three f = cc

  -- where it is the whole side, it is the segment with the empty word
  pub begins_whole_side : (held : Bool) → first_entry s.d (polygon_sides s.polygons) v c ≡ Ok WholeSide → held ≡ (length given == 0) → ReturnsCheck (FollowsWord s c v given) given (Ok held)
  begins_whole_side held e is =
      (segment [] ((polygon_sides s.polygons).next c), leads_at_once WholeSide (segment [] ((polygon_sides s.polygons).next c)) e refl, by_word given held is)
    where
      by_word : (word : List Corner) (held : Bool) → held ≡ (length word == 0) → IsTrue held ↔ IsSegmentEnd word (segment [] ((polygon_sides s.polygons).next c))
      by_word [] held is = ((λ t. ((polygon_sides s.polygons).next c, refl)), (λ m. is))
      by_word (x ∷ word) held is = ((λ t. absurd (not_true (sym (not_zero (length word)) ∙ sym is ∙ t))), (λ m. absurd (no_segment m.1)))
        where
          not_zero : (n : ℕ) → (suc n == 0) ≡ false
          not_zero n = grind (arith, nat_tests)

          no_segment : {y z : Corner} → segment [] y ≡ segment (x ∷ word) z → ⊥
          no_segment f = cc

-- ---- the sides of a given word by their indices

-- the side at an index is the next one after those before
pub next_at : (given : List Corner) (n : ℕ) (side : Corner) → slice_get given n ≡ Some side → IsNextOf given (take n given) side
next_at [] n side h = cc
next_at (x ∷ given) zero side h = (given, ap (λ y. y ∷ given) (same_Some x side h))
next_at (x ∷ given) (suc n) side h = (let rest = next_at given n side h in (rest.0, ap (λ ys. x ∷ ys) rest.1))

-- another isn't
pub only_next_at : (given : List Corner) (n : ℕ) (side x : Corner) → slice_get given n ≡ Some side → IsNextOf given (take n given) x → side ≡ x
only_next_at [] n side x h k = cc
only_next_at (y ∷ given) zero side x h k = sym (same_Some y side h) ∙ same_first k.1
  where
    same_first : {a b : Corner} {more rest : List Corner} → ◌≡◌ {A = List Corner} (a ∷ more) (b ∷ rest) → a ≡ b
    same_first e = cc
only_next_at (y ∷ given) (suc n) side x h k = only_next_at given n side x h (k.0, same_rest k.1)
  where
    same_rest : {more rest : List Corner} → ◌≡◌ {A = List Corner} (y ∷ more) (y ∷ rest) → more ≡ rest
    same_rest e = cc

take_next : (given : List Corner) (n : ℕ) (side : Corner) → slice_get given n ≡ Some side → take (suc n) given ≡ take n given ++ side ∷ []
take_next [] n side h = cc
take_next (x ∷ given) zero side h = ap (λ y. y ∷ []) (same_Some x side h)
take_next (x ∷ given) (suc n) side h = ap (λ ys. x ∷ ys) (take_next given n side h)

-- a prefix of one side more
pub take_one_more : (given : List Corner) (n : ℕ) (side : Corner) → slice_get given n ≡ Some side → take (n + 1) given ≡ take n given ++ side ∷ []
take_one_more given n side h = ap (λ k. take k given) plus_one ∙ take_next given n side h
  where
    plus_one : n + 1 ≡ suc n
    plus_one = omega arith

-- no side is next after the whole word
pub no_next : (given : List Corner) (x : Corner) → ¬ IsNextOf given given x
no_next given x k = (let e = ap length k.1 ∙ length-append given (x ∷ k.0) in omega arith)

-- a shorter prefix isn't the whole word
pub shorter_prefix : (given : List Corner) (n : ℕ) → n < length given → take n given ≢ given
shorter_prefix given n l e = (let k = sym (ap length e) ∙ length-take-le n given (omega arith) in omega arith)
