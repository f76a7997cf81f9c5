-- The saddle list of a mesh within a bound, and what it is computed by.
use Rattle.std.specs.Prelude.{◌≡◌, ◌↔◌, ℕ, ℤ, pos, Result, Ok, Err, List, [], ◌∷◌, ◌++◌, length, IsSorted, IsPermutation}
use Rattle.fs_quadratic.specs.Checked.{◌>>=◌, checked_product}
use Rattle.fs_quadratic.specs.Ring.{Quadratic, mul}
use Rattle.fs_quadratic.specs.declared.steps.Place.{Place}
use Rattle.fs_plane.specs.declared.listing.Listed.{Listed}
use Rattle.fs_plane.specs.declared.sites.Site.TheVariants.{Bound, Keep, Home}
use Rattle.fs_plane.specs.declared.sites.Stop.{Stop}
use Rattle.fs_plane.specs.declared.sites.Stop.TheVariants.{Undecided, Overflow, NoMemory}
use Rattle.fs_plane.specs.Listing.{keep}
use Rattle.fs_plane.specs.ListedOrder.{listed_cmp}
use Rattle.fs_plane.specs.Vector.{PlaneVector}
use Rattle.fs_gluing.specs.Homes.{home_of, FindsCorner, IsFirstCorner}
use Rattle.fs_mesh.specs.Meshes.{MeshValue}
use Rattle.fs_lists.specs.Members.{IsIn, IsDistinct}
use Rattle.fs_fan.specs.declared.fans.Ray.{Ray}
use Rattle.fs_fan.specs.Search.{Findings, EndsSearch, IsShortSegment}
use Rattle.fs_saddles.specs.declared.saddles.Saddles.{Saddles}

-- a denominator as a number p + q·√d
abbrev pub whole_number : ℤ → Quadratic
whole_number n = record { p = n; q = pos 0 }

-- the bound of the squared scaled lengths: the limit times the square of the denominator
abbrev pub bound_of : ℕ → ℤ → Quadratic → Quadratic
bound_of d den limit = mul d (mul d limit (whole_number den)) (whole_number den)

-- by its formula
unfoldable pub scaled_bound : ℕ → ℤ → Quadratic → Result Quadratic Place
scaled_bound d den limit = do
  once ← checked_product d 1 limit (whole_number den)
  checked_product d 2 once (whole_number den)

-- ---- the list

-- a ray is kept as this entry: its vector, at the first corner whose sector holds it, from the home of its half-edge on, counterclockwise round the vertex
pub record IsEntryOf (m : MeshValue) (ray : Ray) (entry : Listed) : Type 0 where
  pub field : entry.field.d ≡ m.surface.d
  pub vector : entry.v ≡ ray.v
  pub corner : IsFirstCorner m.surface (home_of m.homes ray.half_edge) ray.v entry.start

-- each ray is kept as the entry at its place
abbrev pub AreEntriesOf : MeshValue → List Ray → List Listed → Type 0
AreEntriesOf m [] [] = Unit {0}
AreEntriesOf m [] (entry ∷ entries) = ⊥
AreEntriesOf m (ray ∷ rays) [] = ⊥
AreEntriesOf m (ray ∷ rays) (entry ∷ entries) = IsEntryOf m ray entry × AreEntriesOf m rays entries

-- the entries of all rays, ascending
pub record IsSaddleList (m : MeshValue) (found : List Ray) (list : List Listed) : Type 0 where
  pub entries : List Listed
  pub each : AreEntriesOf m found entries
  pub all : IsPermutation entries list
  pub ascending : IsSorted listed_cmp list

-- the saddle list for a limit of the squared lengths: the rays are the segments within the bound, each once, and these are their entries
pub record IsSaddlesOf (m : MeshValue) (limit : Quadratic) (list : List Listed) : Type 0 where
  pub found : List Ray
  pub segments : (h : ℕ) (v : PlaneVector) → IsIn (record { half_edge = h; v = v }) found ↔ IsShortSegment m.surface.d m.triangles (bound_of m.surface.d m.surface.den limit) h v
  pub once : IsDistinct found
  pub entries : IsSaddleList m found list

-- ---- by its formulas

-- the entry of a ray, computed: no part of the vector is too large, and the corner is found
pub record IsKeptAs (m : MeshValue) (ray : Ray) (entry : Listed) : Type 0 where
  pub is : IsEntryOf m ray entry
  pub keepable : keep ray.v ≡ Ok ray.v
  pub found : FindsCorner m.surface (home_of m.homes ray.half_edge) ray.v 0 9 (Ok entry.start)

-- the rays have entries, computed
abbrev pub AreKept : MeshValue → List Ray → Type 0
AreKept m [] = Unit {0}
AreKept m (ray ∷ rays) = ((entry : Listed) × IsKeptAs m ray entry) × AreKept m rays

-- the saddle list, and the number of live words
pub record SaddleList : Type 0 where
  pub list : List Listed
  pub live : ℕ

-- how the list of a mesh ends, for a limit of the squared lengths and a budget of live words
pub data EndsSaddles (m : MeshValue) (limit : Quadratic) (n : ℕ) : Result SaddleList Stop → Type 0 where
  -- the bound overflows
  bound_overflows : (place : Place) → scaled_bound m.surface.d m.surface.den limit ≡ Err place → EndsSaddles m limit n (Err (Overflow (Bound place.0)))
  -- the search through fans doesn't end with all rays
  search_stops : (bound : Quadratic) (stop : Stop) → scaled_bound m.surface.d m.surface.den limit ≡ Ok bound → EndsSearch m.surface.d m.triangles bound n (Err stop) → EndsSaddles m limit n (Err stop)
  -- a part of a ray is too large
  keep_overflows : (bound : Quadratic) (found : Findings) (before after : List Ray) (ray : Ray) (place : Place) → scaled_bound m.surface.d m.surface.den limit ≡ Ok bound
      → EndsSearch m.surface.d m.triangles bound n (Ok found) → found.found ≡ before ++ ray ∷ after → AreKept m before → keep ray.v ≡ Err place
      → EndsSaddles m limit n (Err (Overflow (Keep (length before) place.0)))
  -- the search for the corner of a ray overflows
  home_overflows : (bound : Quadratic) (found : Findings) (before after : List Ray) (ray : Ray) (place : Place) → scaled_bound m.surface.d m.surface.den limit ≡ Ok bound
      → EndsSearch m.surface.d m.triangles bound n (Ok found) → found.found ≡ before ++ ray ∷ after → AreKept m before → keep ray.v ≡ Ok ray.v
      → FindsCorner m.surface (home_of m.homes ray.half_edge) ray.v 0 9 (Err place) → EndsSaddles m limit n (Err (Overflow (Home (length before) place.0)))
  -- all rays are in the list
  listed : (bound : Quadratic) (found : Findings) (list : List Listed) → scaled_bound m.surface.d m.surface.den limit ≡ Ok bound
      → EndsSearch m.surface.d m.triangles bound n (Ok found) → AreKept m found.found → IsSaddleList m found.found list
      → EndsSaddles m limit n (Ok (record { list = list; live = found.live }))

-- what holds of the end of a list holds of the end that a call returns; where memory runs out it returns none
abbrev pub ReturnsSaddles : (Result SaddleList Stop → Type 0) → Result Saddles Stop → Type 0
ReturnsSaddles P (Ok saddles) = P (Ok (record { list = saddles.list; live = saddles.live }))
ReturnsSaddles P (Err NoMemory) = Unit {0}
ReturnsSaddles P (Err (Undecided n)) = P (Err (Undecided n))
ReturnsSaddles P (Err (Overflow site)) = P (Err (Overflow site))
