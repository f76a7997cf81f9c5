-- Interval exchanges with vectors, and the exchange of a surface and a direction.
use Rattle.std.specs.Prelude.{◌≡◌, ◌↔◌, ℕ, ◌<◌, ◌==◌, if◌then◌else◌, Bool, true, List, [], ◌∷◌, length, map, slice_index_or, IsPermutation, Some}
use Rattle.std.specs.List.{slice_get, flat_map, AllByRecursion}
use Rattle.fs_lists.specs.Members.{IsIn, IsDistinct}
use Rattle.fs_ring.specs.OrderedRing.{IsAtMost}
use Rattle.fs_quadratic.specs.Ring as ring
use Rattle.fs_quadratic.specs.Ring.{Quadratic, quadratic, IsPositive, IsLess, add, sub, total}
use Rattle.fs_plane.specs.declared.corners.Corner.{Corner}
use Rattle.fs_plane.specs.Vector.{PlaneVector, vector_neg}
use Rattle.fs_gluing.specs.FirstCut.{position_in}
use Rattle.fs_gluing.specs.NextCorner.{corner_after, side_before}
use Rattle.fs_gluing.specs.Surface.{GluedPolygons}
use Rattle.fs_gluing.specs.SurfaceSides.{partner}
use Rattle.fs_gluing.specs.CrossingMap.{IsIncoming, IsOutgoing, IsRealIncoming, IsRealOutgoing, side_width, gluing_vector, block_start}

-- ---- exchanges

-- the vector of the vertex at an end of a letter, and whether a separatrix begins or ends there
pub record EndVector : Type 0 where
  pub vector : PlaneVector
  pub real : Bool

-- a letter: its name, its length, its return vector, the corner and the vector at its start, and the vector at its end
pub record Letter : Type 0 where
  pub name : ℕ
  pub length : Quadratic
  pub back : PlaneVector
  pub corner : Corner
  pub start : EndVector
  pub end : EndVector

-- a component of exchanged intervals: where it begins, how long it is, its letters in the order of the top row, and their names in that of the bottom row
pub record Component : Type 0 where
  pub base : Quadratic
  pub total : Quadratic
  pub top : List Letter
  pub bottom : List ℕ

-- the names of letters
abbrev pub names_of : List Letter → List ℕ
names_of letters = map (λ letter. letter.name) letters

-- it has letters of positive lengths, which sum to its total, and both rows have the same names, each once
pub record IsLawful (d : ℕ) (c : Component) : Type 0 where
  pub some_letter : 0 < length c.top
  pub names : IsDistinct (names_of c.top)
  pub rows : IsPermutation (names_of c.top) c.bottom
  pub lengths : AllByRecursion (λ letter. IsPositive d letter.length) c.top
  pub sum : total (map (λ letter. letter.length) c.top) ≡ c.total

-- ---- left ends

-- the length of the letter of a name, or 0 where there is none
abbrev pub length_of : List Letter → ℕ → Quadratic
length_of [] name = ring.zero
length_of (letter ∷ letters) name = if letter.name == name then letter.length else length_of letters name

-- the sum of the lengths of the letters before a name in a row
abbrev pub length_before : List Letter → ℕ → List ℕ → Quadratic
length_before letters name [] = ring.zero
length_before letters name (other ∷ row) = if other == name then ring.zero else add (length_of letters other) (length_before letters name row)

-- where a letter begins in the top row
abbrev pub top_left : Component → ℕ → Quadratic
top_left c name = add c.base (length_before c.top name (names_of c.top))

-- where it begins in the bottom row
abbrev pub bottom_left : Component → ℕ → Quadratic
bottom_left c name = add c.base (length_before c.top name c.bottom)

-- the exchange takes y to z by a letter: the letter holds y in the top row, and z is as far right of its beginning in the bottom row as y is in the top row
pub record Takes (d : ℕ) (c : Component) (letter : Letter) (y z : Quadratic) : Type 0 where
  pub there : IsIn letter c.top
  pub from_left : IsAtMost (quadratic d) (IsPositive d) (top_left c letter.name) y
  pub before_right : IsLess d y (add (top_left c letter.name) letter.length)
  pub beyond : z ≡ add (sub y (top_left c letter.name)) (bottom_left c letter.name)

-- ---- the exchange of a direction

-- each item of the list is f of the one before
abbrev pub IsChainOf : {X : Type 0} → (X → X) → List X → Type 0
IsChainOf f [] = Unit {0}
IsChainOf f (x ∷ []) = Unit {0}
IsChainOf f (x ∷ (y ∷ ys)) = (y ≡ f x) × IsChainOf f (y ∷ ys)

-- the list has exactly the sides of polygon i with this property, each once, and each is f of the one before
pub record IsChainIn (f : Corner → Corner) (P : Corner → Type 0) (i : ℕ) (chain : List Corner) : Type 0 where
  pub sides : (e : Corner) → IsIn e chain ↔ ((e.polygon ≡ i) × P e)
  pub once : IsDistinct chain
  pub in_turn : IsChainOf f chain

-- the list has those of all polygons, in order
pub record AreChainsIn (f : Corner → Corner) (P : Corner → Type 0) (polygons : ℕ) (row : List Corner) : Type 0 where
  pub chains : List (List Corner)
  pub as_many : length chains ≡ polygons
  pub each : (i : ℕ) → i < polygons → IsChainIn f P i (slice_index_or chains i [])
  pub all : row ≡ flat_map (λ chain. chain) chains

module _ (s : GluedPolygons) (v : PlaneVector) where
  -- the outgoing sides from left to right, polygon by polygon: those of a polygon are clockwise
  abbrev pub IsTopRow : List Corner → Type 0
  IsTopRow row = AreChainsIn (side_before s.polygons) (IsOutgoing s v) (length s.polygons) row

  -- the incoming sides from left to right, polygon by polygon: those of a polygon are counterclockwise
  abbrev pub IsBottomRow : List Corner → Type 0
  IsBottomRow row = AreChainsIn (corner_after s.polygons) (IsIncoming s v) (length s.polygons) row

  -- the letter of an outgoing side, under some name
  pub record IsLetterOf (f : Corner) (name : ℕ) (letter : Letter) : Type 0 where
    pub named : letter.name ≡ name
    pub length : letter.length ≡ side_width s v f
    pub back : letter.back ≡ gluing_vector s v f
    pub corner : letter.corner ≡ partner s.polygons f
    pub start : letter.start.vector ≡ vector_neg (position_in s (partner s.polygons f).polygon (partner s.polygons f).side)
    pub start_real : (letter.start.real ≡ true) ↔ IsRealIncoming s v (partner s.polygons f)
    pub end : letter.end.vector ≡ position_in s (corner_after s.polygons f).polygon (corner_after s.polygons f).side
    pub end_real : (letter.end.real ≡ true) ↔ IsRealOutgoing s v f

  -- the exchange of the direction v: the letters of the outgoing sides, named by their places in the top row; the bottom row has their names by the sides that they are glued to
  pub record IsExchange (c : Component) : Type 0 where
    pub base : c.base ≡ ring.zero
    pub total : c.total ≡ block_start s v (length s.polygons)
    pub outgoing : List Corner
    pub incoming : List Corner
    pub top_row : IsTopRow outgoing
    pub bottom_row : IsBottomRow incoming
    pub as_many : length c.top ≡ length outgoing
    pub letters : (n : ℕ) (f : Corner) (letter : Letter) → slice_get outgoing n ≡ Some f → slice_get c.top n ≡ Some letter → IsLetterOf f n letter
    pub bottom : map (λ n. slice_get outgoing n) c.bottom ≡ map (λ e. Some (partner s.polygons e)) incoming
