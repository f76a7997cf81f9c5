-- What is kept while a table is unfolded. The contracts of public calls don't rest on this file.
use Rattle.std.specs.Prelude.{◌≡◌, ℕ, Bool, ◌+◌, ◌-◌, ◌*◌, if◌then◌else◌, ◌<◌, Ok, Err, Some, List, [], ◌∷◌, ◌++◌, length, map, reverse}
use Rattle.std.specs.List.{AllByRecursion, slice_get, flat_map, range_with_len}
use Rattle.fs_lists.specs.First.{IsFirstWithout}
use Rattle.fs_lists.specs.Members.{IsIn}
use Rattle.fs_quadratic.specs.declared.steps.Place.{Place}
use Rattle.fs_plane.specs.declared.corners.Corner.{Corner}
use Rattle.fs_plane.specs.declared.sites.Site.TheVariants as sites
use Rattle.fs_gluing.specs.declared.faults.BuildStop.{BuildStop}
use Rattle.fs_gluing.specs.declared.faults.BuildStop.TheVariants as stops
use Rattle.fs_gluing.specs.declared.faults.Fault.TheVariants as faults
use Rattle.fs_gluing.specs.declared.shapes.Glue.{Glue}
use Rattle.fs_gluing.specs.declared.shapes.Point.{Point}
use Rattle.fs_gluing.specs.FirstFault.{Test, PassesOf, stop_of}
use Rattle.fs_gluing.specs.Gluing.{sides_between}
use Rattle.fs_unfold.specs.declared.matrices.Matrix.{Matrix}
use Rattle.fs_unfold.specs.declared.matrices.Mirror.{Mirror}
use Rattle.fs_unfold.specs.declared.products.TableCopy.{TableCopy}
use Rattle.fs_unfold.specs.Copies.{is_turned, opposite, IsPair, AreLines}
use Rattle.fs_unfold.specs.Matrices.{times, image, checked_mirror, checked_image}
use Rattle.fs_unfold.specs.Products.{most_products, AreListed}
use Rattle.fs_unfold.specs.Tables.{IsTable}
use Rattle.fs_unfold.specs.Unfolding.{alone, table_tests, table_stop, AreMirrors, HaveImages, IsNextProduct}

-- ---- the table

-- these are the reflections in the sides of such a table
pub record HaveTable (d : ℕ) (rs : List Mirror) : Type 0 where
  pub table : List Point
  pub is : IsTable d table
  pub mirrors : AreMirrors d table rs

-- the first reflection that overflows
pub record StopsAtMirror (d : ℕ) (table : List Point) (stop : BuildStop) : Type 0 where
  pub before : List Point
  pub point : Point
  pub after : List Point
  pub is : table ≡ before ++ point ∷ after
  pub done : List Mirror
  pub mirrors : AreMirrors d before done
  pub place : Place
  pub overflows : checked_mirror d point ≡ Err place
  pub at : stop ≡ stops.Overflow (sites.Reflect (length before) place.0)

-- the first test that the table fails
pub record StopsAtTable (d : ℕ) (table : List Point) (stop : BuildStop) : Type 0 where
  pub test : Test
  pub first : IsFirstWithout (PassesOf d (alone table)) (table_tests table) test
  pub at : stop ≡ table_stop (stop_of test)

-- a side isn't on a glue line
abbrev pub LacksGlue : BuildStop → Type 0
LacksGlue stop = (c : Corner) × (stop ≡ stops.Fault (faults.Unglued c))

-- out of memory, or this
abbrev pub OrNoMemory : (BuildStop → Type 0) → BuildStop → Type 0
OrNoMemory P stops.NoMemory = Unit {0}
OrNoMemory P (stops.Fault fault) = P (stops.Fault fault)
OrNoMemory P (stops.Overflow site) = P (stops.Overflow site)

-- ---- products

-- the matrices of the products
abbrev pub rows_of : List TableCopy → List Matrix
rows_of list = map (λ c. c.rows) list

-- this is noted of each product and each reflection: the place of the one times the other in the list
pub record AreNeighbours (d : ℕ) (rs : List Mirror) (list : List Matrix) (neighbours : List ℕ) : Type 0 where
  pub each : (g i k : ℕ) → i < length rs → slice_get neighbours (g * length rs + i) ≡ Some k
      → (m : Matrix) × (r : Mirror) × (slice_get list g ≡ Some m) × (slice_get rs i ≡ Some r) × (slice_get list k ≡ Some (times d m r))

-- the products that are listed when product g is to be multiplied by reflection i, with what was noted before
pub record IsUnderWay (d : ℕ) (rs : List Mirror) (g i : ℕ) (list : List TableCopy) (neighbours : List ℕ) : Type 0 where
  pub listed : AreListed d rs (rows_of list) g i
  pub turned : AllByRecursion (λ c. c.turned ≡ is_turned d c.rows) list
  pub noted : length neighbours ≡ g * length rs + i
  pub each : AreNeighbours d rs (rows_of list) neighbours

-- a matrix was in the list, or was put at its end, where there was room
pub data IsPlaced (n : Matrix) (turned : Bool) (list : List TableCopy) : List TableCopy → Type 0 where
  was_there : IsIn n (rows_of list) → IsPlaced n turned list list
  is_new : ¬ IsIn n (rows_of list) → length list < most_products → IsPlaced n turned list (list ++ record { rows = n; turned = turned } ∷ [])

-- a product that overflows, or that is to be added to a full list
pub data StopsAtProduct (d : ℕ) (rs : List Mirror) : BuildStop → Type 0 where
  overflows : (list : List Matrix) (g i : ℕ) (stop : Place) → IsNextProduct d rs list g i (Err stop) → StopsAtProduct d rs (stops.Overflow (sites.Product g i stop.0))
  full : (list : List Matrix) (g i : ℕ) (n : Matrix) → IsNextProduct d rs list g i (Ok n) → ¬ IsIn n list → length list ≡ most_products → StopsAtProduct d rs (stops.Fault faults.GroupTooLarge)

-- ---- glue lines

-- the sides of c copies of a table of n sides, from copy g on
abbrev pub sides_of_copies : ℕ → ℕ → ℕ → List Corner
sides_of_copies n g c = flat_map (λ h. sides_between h 0 n) (range_with_len g c)

-- these are all products of n reflections, with what was noted
abbrev pub AreWhole : ℕ → List TableCopy → List ℕ → Type 0
AreWhole n list neighbours = (d : ℕ) × (rs : List Mirror) × (length rs ≡ n) × HaveTable d rs × IsUnderWay d rs (length list) 0 list neighbours

-- copy k is noted for a side of copy g
pub record IsNeighbour (n : ℕ) (list : List TableCopy) (neighbours : List ℕ) (g side k : ℕ) : Type 0 where
  pub copy : TableCopy
  pub at : slice_get list g ≡ Some copy
  pub noted : slice_get neighbours (g * n + (if copy.turned then n - 1 - side else side)) ≡ Some k

-- these are the glue lines of these sides of the copies under the products
abbrev pub HaveLines : ℕ → List TableCopy → List ℕ → List Corner → List Glue → Type 0
HaveLines n list neighbours sides lines = (d : ℕ) (rs : List Mirror) → length rs ≡ n → HaveTable d rs → IsUnderWay d rs (length list) 0 list neighbours
    → AreLines (IsPair d n rs (rows_of list)) sides lines

-- ---- copies

-- the copy of a table under a matrix, by whether that turns the orientation
abbrev pub copy_by : ℕ → Bool → Matrix → List Point → List Point
copy_by d turned m table = if turned then reverse (map (λ p. opposite (image d m p)) table) else map (image d m) table

-- the first side of a copy that overflows
pub record StopsAtSide (d : ℕ) (table : List Point) (k : ℕ) (m : Matrix) (stop : BuildStop) : Type 0 where
  pub before : List Point
  pub point : Point
  pub after : List Point
  pub is : table ≡ before ++ point ∷ after
  pub images : HaveImages d before m
  pub place : Place
  pub overflows : checked_image d m point ≡ Err place
  pub at : stop ≡ stops.Overflow (sites.Copy k (length before) place.0)

-- the first copy of which a side overflows
pub record StopsAtCopy (d : ℕ) (table : List Point) (list : List Matrix) (stop : BuildStop) : Type 0 where
  pub earlier : List Matrix
  pub matrix : Matrix
  pub later : List Matrix
  pub is : list ≡ earlier ++ matrix ∷ later
  pub images : AllByRecursion (HaveImages d table) earlier
  pub side : StopsAtSide d table (length earlier) matrix stop
