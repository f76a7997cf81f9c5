-- What a decomposition of a flow means: its parts fill the surface, and each is a cylinder or a component with a loop.
use Rattle.std.specs.Prelude.{◌≡◌, ℕ, ◌*◌, ◌<◌, List, [], ◌∷◌, Some, length, map, take, unsigned_abs}
use Rattle.std.specs.List.{slice_get, AllByRecursion}
use Rattle.fs_lists.specs.Members.{IsIn}
use Rattle.fs_ring.specs.OrderedRing.{IsAtMost}
use Rattle.fs_quadratic.specs.Ring as ring
use Rattle.fs_quadratic.specs.Ring.{Quadratic, quadratic, IsPositive, add, mul, total}
use Rattle.fs_fraction.specs.Fraction.{Fraction, HasValue, scale}
use Rattle.fs_plane.specs.Vector.{PlaneVector, dot, norm}
use Rattle.fs_gluing.specs.Area.{twice_area}
use Rattle.fs_gluing.specs.CrossingMap.{block_start, IsPosition, Orbit}
use Rattle.fs_gluing.specs.Exchanges.{Component}
use Rattle.fs_gluing.specs.Surface.{GluedPolygons}
use Rattle.fs_iet.specs.FirstReturns.{IsBetween, IsFirstReturn}
use Rattle.fs_rauzy.specs.declared.parts.Kind.TheVariants.{Cylinder, Looped}
use Rattle.fs_rauzy.specs.declared.parts.Kind.{Kind}
use Rattle.fs_rauzy.specs.declared.parts.Letter.{Letter}
use Rattle.fs_rauzy.specs.declared.parts.Part.{Part}
use Rattle.fs_rauzy.specs.Cylinders.{IsCylinder}
use Rattle.fs_rauzy.specs.Loops.{IsLoop}
use Rattle.fs_rauzy.specs.Runs.{ArePartsAscending, part_of}
use Rattle.fs_components.specs.declared.flow.Measured.{Measured}
use Rattle.fs_components.specs.Measures.{whole}

-- where letter n of a part begins
abbrev pub letter_left : Part → ℕ → Quadratic
letter_left p n = add p.base (total (map (λ letter. letter.length) (take n p.letters)))

-- the areas of letters, scaled by the squared length of the direction, sum to this
abbrev pub scaled_area : ℕ → PlaneVector → List Letter → Quadratic
scaled_area d v letters = total (map (λ letter. mul d letter.length (dot d v letter.back)) letters)

-- the value of the fraction is num over the product of a number of the ring and a natural one
abbrev pub IsQuotient : ℕ → Fraction → Quadratic → Quadratic → ℕ → Type 0
IsQuotient d x num of den = mul d (scale den of) x.num ≡ scale x.den num

module _ (s : GluedPolygons) (v : PlaneVector) where
  -- the square of the denominator
  abbrev pub den_square : ℕ
  den_square = unsigned_abs s.den * unsigned_abs s.den

  -- the flow from a position meets the base of a part
  pub record Meets (y : Quadratic) (p : Part) : Type 0 where
    pub m : ℕ
    pub z : Quadratic
    pub h : PlaneVector
    pub orbit : Orbit s v m y z h
    pub on_base : IsBetween s.d p.base (add p.base p.width) z

  -- the letters of a part are long, and cut its base; from each position of a letter the flow is back on the base for the first time by the letter's return vector
  pub record HasReturns (p : Part) : Type 0 where
    pub lengths : AllByRecursion (λ letter. IsPositive s.d letter.length) p.letters
    pub cut : total (map (λ letter. letter.length) p.letters) ≡ p.width
    pub returns : (n : ℕ) (letter : Letter) (y : Quadratic) → slice_get p.letters n ≡ Some letter → IsBetween s.d (letter_left p n) (add (letter_left p n) letter.length) y
        → (m : ℕ) × (z : Quadratic) × IsFirstReturn s v p.base (add p.base p.width) m y z letter.back

  -- a part of one letter is a cylinder; any other one is alike to an earlier state of the same component, by won comparisons alone
  abbrev pub IsOfKind : Part → Kind → Type 0
  IsOfKind p Cylinder = (letter : Letter) × (m : ℕ) × (p.letters ≡ letter ∷ []) × IsCylinder s v p.base p.width m letter.back
  IsOfKind p (Looped from to) = (before after : Component) × IsLoop s.d before after × (p ≡ part_of after (Looped from to)) × (from < to)

  -- the squares of a cylinder: that of its holonomy, and that of its height
  abbrev pub HasSquares : Measured → Kind → Type 0
  HasSquares p Cylinder = (letter : Letter) × (p.part.letters ≡ letter ∷ []) × HasValue p.holonomy_square (norm s.d letter.back) den_square
      × IsQuotient s.d p.height_square (mul s.d p.part.width p.part.width) (norm s.d v) den_square
  HasSquares p (Looped from to) = (p.holonomy_square ≡ whole ring.zero) × (p.height_square ≡ whole ring.zero)

  -- a part is what it is said to be
  pub record IsPart (p : Measured) : Type 0 where
    pub from_zero : IsAtMost (quadratic s.d) (IsPositive s.d) ring.zero p.part.base
    pub wide : IsPositive s.d p.part.width
    pub to_total : IsAtMost (quadratic s.d) (IsPositive s.d) (add p.part.base p.part.width) (block_start s v (length s.polygons))
    pub letters : HasReturns p.part
    pub kind : IsOfKind p.part p.part.kind
    pub squares : HasSquares p p.part.kind
    pub area : IsQuotient s.d p.area (scaled_area s.d v p.part.letters) (norm s.d v) den_square

  -- the parts ascend, each is what it is said to be, the flow from each position meets the base of exactly one, and their areas sum to that of the surface
  pub record FlowMeans (parts : List Measured) : Type 0 where
    pub ascending : ArePartsAscending s.d (map (λ p. p.part) parts)
    pub each : AllByRecursion IsPart parts
    pub some : (y : Quadratic) → IsPosition s v y → (p : Measured) × IsIn p parts × Meets y p.part
    pub only_one : (y : Quadratic) (p q : Measured) → IsIn p parts → IsIn q parts → Meets y p.part → Meets y q.part → p ≡ q
    pub areas : let sum = total (map (λ p. scaled_area s.d v p.part.letters) parts) in add sum sum ≡ mul s.d (norm s.d v) (twice_area s)
