-- The search through all live words of a triangulation: the rays within the bound, and how it ends within a budget of words.
use Rattle.std.specs.Prelude.{◌≡◌, ◌↔◌, ℕ, ◌+◌, ◌<◌, ◌≤◌, Option, Some, None, Result, Ok, Err, IsOk, List, [], ◌∷◌, length, map}
use Rattle.fs_lists.specs.Members.{IsIn}
use Rattle.fs_ring.specs.OrderedRing.{IsAtMost}
use Rattle.fs_quadratic.specs.Ring.{Quadratic, quadratic, IsPositive}
use Rattle.fs_quadratic.specs.declared.steps.Place.{Place}
use Rattle.fs_plane.specs.declared.sites.Site.TheVariants.{First, Fan}
use Rattle.fs_plane.specs.declared.sites.Stop.{Stop}
use Rattle.fs_plane.specs.declared.sites.Stop.TheVariants.{Undecided, Overflow, NoMemory}
use Rattle.fs_plane.specs.Vector.{PlaneVector, norm}
use Rattle.fs_paths.specs.Segments.{IsSegment}
use Rattle.fs_gluing.specs.Triangulation.{Triangulation, face_sides, edge_vector}
use Rattle.fs_words.specs.Words.{Letter, tip}
use Rattle.fs_words.specs.LiveWords.{IsLive, Passes}
use Rattle.fs_words.specs.WordOrder.{IsWordBefore}
use Rattle.fs_fan.specs.declared.fans.Fans.{Fans}
use Rattle.fs_fan.specs.declared.fans.Ray.{Ray}
use Rattle.fs_fan.specs.declared.visits.Visit.{Visit}
use Rattle.fs_fan.specs.Visits.{opening, visit, view_of}

-- ---- words and rays

-- a word of letters from a half-edge
pub record Word : Type 0 where
  pub half_edge : ℕ
  pub letters : List Letter

-- the words are in the order of their half-edges, and those of one half-edge in the order of words
pub data IsBefore (one other : Word) : Type 0 where
  by_half_edge : one.half_edge < other.half_edge → IsBefore one other
  by_letters : one.half_edge ≡ other.half_edge → IsWordBefore one.letters other.letters → IsBefore one other

-- where a ray is found: along a half-edge, or at the tip of a word
pub record Sighting : Type 0 where
  pub half_edge : ℕ
  pub letters : Option (List Letter)

-- the sightings in their order: that along a half-edge is before those at the tips of its words
pub data IsSeenBefore (one other : Sighting) : Type 0 where
  seen_by_half_edge : one.half_edge < other.half_edge → IsSeenBefore one other
  along_first : (letters : List Letter) → one.half_edge ≡ other.half_edge → one.letters ≡ None → other.letters ≡ Some letters → IsSeenBefore one other
  seen_by_letters : (letters later : List Letter) → one.half_edge ≡ other.half_edge → one.letters ≡ Some letters → other.letters ≡ Some later → IsWordBefore letters later → IsSeenBefore one other

-- what a search finds: the rays, and the number of live words
pub record Findings : Type 0 where
  pub found : List Ray
  pub live : ℕ

-- each item is before all later ones
abbrev pub IsInOrder : {X : Type 0} → (X → X → Type 0) → List X → Type 0
IsInOrder Before [] = Unit {0}
IsInOrder {X} Before (x ∷ xs) = ((y : X) → IsIn y xs → Before x y) × IsInOrder Before xs

-- the squared length of v is at most the bound
abbrev pub IsShort : ℕ → Quadratic → PlaneVector → Type 0
IsShort d bound v = IsAtMost (quadratic d) (IsPositive d) (norm d v) bound

module _ (d : ℕ) (t : Triangulation) where
  -- the vector of a sighting
  abbrev pub sighted_along : ℕ → Option (List Letter) → PlaneVector
  sighted_along h None = edge_vector t h
  sighted_along h (Some letters) = tip (quadratic d) (face_sides t) h letters

  -- its ray
  abbrev pub ray_of : Sighting → Ray
  ray_of at = record { half_edge = at.half_edge; v = sighted_along at.half_edge at.letters }

  -- the tip of a word is seen from the start where its vector leads strictly between the ends of each half-edge of the word
  abbrev pub IsSeen : ℕ → Option (List Letter) → Type 0
  IsSeen h None = Unit {0}
  IsSeen h (Some letters) = Passes (quadratic d) (IsPositive d) (face_sides t) h letters (tip (quadratic d) (face_sides t) h letters)

module _ (d : ℕ) (t : Triangulation) (bound : Quadratic) where
  -- v leads from the start of half-edge h to a corner of the faces, and meets none before; and it is short
  pub record IsShortSegment (h : ℕ) (v : PlaneVector) : Type 0 where
    pub there : h < length t.vectors
    pub word : List ℕ
    pub end : ℕ
    pub segment : IsSegment (quadratic d) (IsPositive d) (face_sides t) h word v end
    pub short : IsShort d bound v

  -- a ray within the bound is seen there
  pub record IsSighting (at : Sighting) : Type 0 where
    pub there : at.half_edge < length t.vectors
    pub seen : IsSeen d t at.half_edge at.letters
    pub short : IsShort d bound (sighted_along d t at.half_edge at.letters)

  -- the rays are those of all sightings, in order
  pub record AreFound (found : List Ray) : Type 0 where
    pub sightings : List Sighting
    pub in_order : IsInOrder IsSeenBefore sightings
    pub all : (at : Sighting) → IsIn at sightings ↔ IsSighting at
    pub rays : found ≡ map (ray_of d t) sightings

  -- the word is live
  pub record IsLiveWord (w : Word) : Type 0 where
    pub there : w.half_edge < length t.vectors
    pub live : IsLive (quadratic d) (IsPositive d) (face_sides t) bound w.half_edge w.letters

  -- these are the live words with the property P, in order
  pub record AreLiveWords (P : Word → Type 0) (words : List Word) : Type 0 where
    pub in_order : IsInOrder IsBefore words
    pub all : (w : Word) → IsIn w words ↔ (IsLiveWord w × P w)

  -- ---- how the search ends

  -- what is computed at the half-edges below n fits
  abbrev pub HasOpenings : ℕ → Type 0
  HasOpenings n = (h : ℕ) → h < n → IsOk (opening d t bound h)

  -- what is computed at a word
  abbrev pub visit_of : Word → Result Visit Place
  visit_of w = visit d t bound (view_of d t w.half_edge w.letters)

  -- what is computed at these words fits
  abbrev pub HasVisits : List Word → Type 0
  HasVisits words = (w : Word) → IsIn w words → IsOk (visit_of w)

  -- how the search ends that visits at most n words
  pub data EndsSearch (n : ℕ) : Result Findings Stop → Type 0 where
    -- all live words are visited
    whole : (words : List Word) (found : List Ray) → AreLiveWords (λ w. Unit {0}) words → length words ≤ n → HasOpenings (length t.vectors) → HasVisits words → AreFound found
        → EndsSearch n (Ok (record { found = found; live = length words }))
    -- what is computed at a half-edge overflows
    first_overflows : (words : List Word) (h : ℕ) (place : Place) → AreLiveWords (λ w. w.half_edge < h) words → length words ≤ n → HasOpenings h → HasVisits words
        → h < length t.vectors → opening d t bound h ≡ Err place → EndsSearch n (Err (Overflow (First h place.0)))
    -- what is computed at a live word overflows
    fan_overflows : (words : List Word) (w : Word) (place : Place) → IsLiveWord w → AreLiveWords (λ o. IsBefore o w) words → length words < n → HasOpenings (w.half_edge + 1) → HasVisits words
        → visit_of w ≡ Err place → EndsSearch n (Err (Overflow (Fan (length words) place.0)))
    -- n words are visited, and another is live
    budget_spent : (words : List Word) (w : Word) → IsLiveWord w → AreLiveWords (λ o. IsBefore o w) words → length words ≡ n → HasOpenings (w.half_edge + 1) → HasVisits words
        → EndsSearch n (Err (Undecided n))

-- what holds of the end of a search holds of the end that a call returns; where memory runs out it returns none
abbrev pub ReturnsSearch : (Result Findings Stop → Type 0) → Result Fans Stop → Type 0
ReturnsSearch P (Ok fans) = P (Ok (record { found = fans.found; live = fans.live }))
ReturnsSearch P (Err NoMemory) = Unit {0}
ReturnsSearch P (Err (Undecided n)) = P (Err (Undecided n))
ReturnsSearch P (Err (Overflow site)) = P (Err (Overflow site))
