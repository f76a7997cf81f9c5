-- How the rays of a mesh are kept, one after another. The contract of `flat` doesn't rest on this file.
use Rattle.std.specs.Prelude.{◌≡◌, ◌≢◌, ℕ, ◌<◌, ℤ, Ok, Err, List, [], ◌∷◌, ◌++◌, length}
use Rattle.fs_quadratic.specs.Ring.{Quadratic}
use Rattle.fs_quadratic.specs.declared.steps.Place.{Place}
use Rattle.fs_plane.specs.declared.listing.Listed.{Listed}
use Rattle.fs_plane.specs.declared.sites.Site.TheVariants.{Bound, Keep, Home}
use Rattle.fs_plane.specs.declared.sites.Stop.{Stop}
use Rattle.fs_plane.specs.declared.sites.Stop.TheVariants.{Undecided, Overflow, NoMemory}
use Rattle.fs_plane.specs.Listing.{keep}
use Rattle.fs_plane.specs.Vector.{vector_zero}
use Rattle.fs_gluing.specs.Homes.{home_of, FindsCorner}
use Rattle.fs_lists.specs.Members.{IsIn}
use Rattle.fs_mesh.specs.Meshes.{MeshValue}
use Rattle.fs_fan.specs.declared.fans.Ray.{Ray}
use Rattle.fs_saddles.specs.Saddles.{IsKeptAs, AreKept, scaled_bound}

-- the half-edge of a ray is there, and its vector isn't 0
pub record IsRayOf (m : MeshValue) (ray : Ray) : Type 0 where
  pub there : ray.half_edge < length m.triangles.vectors
  pub nonzero : ray.v ≢ vector_zero

-- and so of all rays
abbrev pub AreKeepable : MeshValue → List Ray → Type 0
AreKeepable m rays = (ray : Ray) → IsIn ray rays → IsRayOf m ray

-- each ray is kept as the entry at its place, computed
abbrev pub AreKeptAs : MeshValue → List Ray → List Listed → Type 0
AreKeptAs m [] [] = Unit {0}
AreKeptAs m [] (entry ∷ entries) = ⊥
AreKeptAs m (ray ∷ rays) [] = ⊥
AreKeptAs m (ray ∷ rays) (entry ∷ entries) = IsKeptAs m ray entry × AreKeptAs m rays entries

-- ---- refusals

-- the bound overflows at a place
pub record BoundStops (d : ℕ) (den : ℤ) (limit : Quadratic) (stop : Stop) : Type 0 where
  pub place : Place
  pub overflows : scaled_bound d den limit ≡ Err place
  pub is : stop ≡ Overflow (Bound place.0)

-- a part of ray number n is too large
pub record KeepStops (ray : Ray) (n : ℕ) (stop : Stop) : Type 0 where
  pub place : Place
  pub overflows : keep ray.v ≡ Err place
  pub is : stop ≡ Overflow (Keep n place.0)

-- the search for its corner overflows
pub record HomeStops (m : MeshValue) (ray : Ray) (n : ℕ) (stop : Stop) : Type 0 where
  pub place : Place
  pub overflows : FindsCorner m.surface (home_of m.homes ray.half_edge) ray.v 0 9 (Err place)
  pub is : stop ≡ Overflow (Home n place.0)

-- one of them does
pub data RayStops (m : MeshValue) (ray : Ray) (n : ℕ) (stop : Stop) : Type 0 where
  keep_stops : KeepStops ray n stop → RayStops m ray n stop
  home_stops : keep ray.v ≡ Ok ray.v → HomeStops m ray n stop → RayStops m ray n stop

-- the first ray that can't be kept
pub record FirstStop (m : MeshValue) (rays : List Ray) (stop : Stop) : Type 0 where
  pub before : List Ray
  pub ray : Ray
  pub after : List Ray
  pub is : rays ≡ before ++ ray ∷ after
  pub kept : AreKept m before
  pub stops : RayStops m ray (length before) stop

-- why not all rays are kept
abbrev pub StopsKeeping : MeshValue → List Ray → Stop → Type 0
StopsKeeping m rays NoMemory = Unit {0}
StopsKeeping m rays (Undecided n) = ⊥
StopsKeeping m rays (Overflow site) = FirstStop m rays (Overflow site)
