-- How the stages of a saddle list end, as its definition says it.
use Rattle.std.proofs.Common.{◌≡◌, ◌↔◌, ℕ, ℤ, Bool, true, false, Result, Ok, Err, List, length, refl, sym, ap, ◌∙◌, subst}
use Rattle.std.specs.Prelude.{IsSorted, IsPermutation}
use Rattle.fs_quadratic.specs.Ring.{Quadratic, mul}
use Rattle.fs_quadratic.specs.Checked.{◌>>=◌, checked_product, step, place}
use Rattle.fs_quadratic.specs.declared.steps.Place.{Place}
use Rattle.fs_plane.specs.declared.listing.Listed.{Listed}
use Rattle.fs_plane.specs.declared.sites.Stop.{Stop}
use Rattle.fs_plane.specs.declared.sites.Stop.TheVariants.{Undecided, Overflow, NoMemory}
use Rattle.fs_plane.specs.ListedOrder.{listed_cmp}
use Rattle.fs_plane.specs.Vector.{PlaneVector}
use Rattle.fs_lists.specs.Members.{IsIn, IsDistinct}
use Rattle.fs_lists.proofs.Results.{ok_equal, ok_not_err}
use Rattle.fs_quadratic.proofs.Laws.{field_order}
use Rattle.fs_mesh.specs.Meshes.{MeshValue, IsMesh}
use Rattle.fs_fan.specs.declared.fans.Ray.{Ray}
use Rattle.fs_fan.specs.Search.{Findings, EndsSearch, whole, ReturnsSearch, IsShortSegment}
use Rattle.fs_fan.proofs.FoundSegments.{found_segments, found_once}
use Rattle.fs_saddles.specs.Saddles.{whole_number, scaled_bound, bound_of, IsSaddlesOf, IsSaddleList, SaddleList, EndsSaddles, bound_overflows, search_stops, keep_overflows, home_overflows, listed, ReturnsSaddles}
use Rattle.fs_saddles.specs.Keeping.{AreKeptAs, BoundStops, FirstStop, RayStops, keep_stops, home_stops, StopsKeeping}
use Rattle.fs_saddles.proofs.KeptRays.{kept_of_entries, entries_of_kept}

-- what is sorted in place is a sorted permutation of what there was
pub sorted_of : (entries before after list : List Listed) → before ≡ entries → list ≡ after → IsPermutation before after → IsSorted listed_cmp after → IsPermutation entries list × IsSorted listed_cmp list
sorted_of entries before after list from to p s = (
  subst (IsPermutation entries) (sym to) (subst (λ (es : List Listed). IsPermutation es after) from p),
  subst (IsSorted listed_cmp) (sym to) s,
)

step_value : (n : ℕ) (test : Bool) (value z : Quadratic) → step n test value ≡ Ok z → z ≡ value
step_value n true value z e = sym (ok_equal value z e)
step_value n false value z e = absurd (ok_not_err z (place n) (sym e))

product_is : (d n : ℕ) (x y z : Quadratic) → checked_product d n x y ≡ Ok z → z ≡ mul d x y
product_is d n x y z e = step_value n _ (mul d x y) z e

-- a bound that is computed is the bound
bound_is : (d : ℕ) (den : ℤ) (limit bound : Quadratic) → scaled_bound d den limit ≡ Ok bound → bound ≡ bound_of d den limit
unfolding scaled_bound
bound_is d den limit bound e = by (checked_product d 1 limit (whole_number den)) refl
  where
    by : (r : Result Quadratic Place) → checked_product d 1 limit (whole_number den) ≡ r → bound ≡ bound_of d den limit
    by (Err stop) f = absurd (ok_not_err bound stop (sym e ∙ ap (λ r. r >>= (λ once. checked_product d 2 once (whole_number den))) f))
    by (Ok once) f =
        product_is d 2 once (whole_number den) bound (sym (ap (λ r. r >>= (λ once. checked_product d 2 once (whole_number den))) f) ∙ e)
        ∙ ap (λ x. mul d x (whole_number den)) (product_is d 1 limit (whole_number den) once f)

module _ (m : MeshValue) (limit : Quadratic) (n : ℕ) where
  abbrev Returns : Stop → Type 0
  Returns stop = ReturnsSaddles (EndsSaddles m limit n) (Err stop)

  -- the bound overflows
  pub bound_stopped : (stop : Stop) → BoundStops m.surface.d m.surface.den limit stop → Returns stop
  bound_stopped stop s = subst Returns (sym s.is) (bound_overflows s.place s.overflows)

  module _ (bound : Quadratic) (known : scaled_bound m.surface.d m.surface.den limit ≡ Ok bound) where
    -- the search stops
    pub search_stopped : (stop : Stop) → ReturnsSearch (EndsSearch m.surface.d m.triangles bound n) (Err stop) → Returns stop
    search_stopped NoMemory s = tt
    search_stopped (Undecided k) s = search_stops bound (Undecided k) known s
    search_stopped (Overflow site) s = search_stops bound (Overflow site) known s

    module _ (found : Findings) (ends : EndsSearch m.surface.d m.triangles bound n (Ok found)) where
      -- with the first that can't be
      pub first_stopped : (stop : Stop) → FirstStop m found.found stop → EndsSaddles m limit n (Err stop)
      first_stopped stop f = by f.stops
        where
          by : RayStops m f.ray (length f.before) stop → EndsSaddles m limit n (Err stop)
          by (keep_stops s) =
              subst (λ r. EndsSaddles m limit n (Err r)) (sym s.is) (keep_overflows bound found f.before f.after f.ray s.place known ends f.is f.kept s.overflows)
          by (home_stops k s) =
              subst (λ r. EndsSaddles m limit n (Err r)) (sym s.is) (home_overflows bound found f.before f.after f.ray s.place known ends f.is f.kept k s.overflows)

      -- a ray can't be kept
      pub keep_stopped : (stop : Stop) → StopsKeeping m found.found stop → Returns stop
      keep_stopped NoMemory s = tt
      keep_stopped (Undecided k) s = absurd s
      keep_stopped (Overflow site) f = first_stopped (Overflow site) f

      module _ (entries list : List Listed) (kept : AreKeptAs m found.found entries) (sorted : IsPermutation entries list × IsSorted listed_cmp list) where
        is_list : IsSaddleList m found.found list
        is_list = record { entries = entries; each = entries_of_kept m found.found entries kept; all = sorted.0; ascending = sorted.1 }

        -- all are in the list
        pub all_listed : EndsSaddles m limit n (Ok (record { list = list; live = found.live }))
        all_listed = listed bound found list known ends (kept_of_entries m found.found entries kept) is_list

        -- and this is what it says
        pub saddles_listed : ((h : ℕ) (v : PlaneVector) → IsIn {X = Ray} (record { half_edge = h; v = v }) found.found ↔ IsShortSegment m.surface.d m.triangles bound h v) → IsDistinct found.found → IsSaddlesOf m limit list
        saddles_listed segments once = record {
          found = found.found;
          segments = λ h v. subst (λ b. IsIn {X = Ray} (record { half_edge = h; v = v }) found.found ↔ IsShortSegment m.surface.d m.triangles b h v) (bound_is m.surface.d m.surface.den limit bound known) (segments h v);
          once = once;
          entries = is_list;
        }

-- a list that is an end is the saddle list by its meaning
pub saddles_of_end : (m : MeshValue) → IsMesh m → (limit : Quadratic) (n : ℕ) (saddles : SaddleList) → EndsSaddles m limit n (Ok saddles) → IsSaddlesOf m limit saddles.list
saddles_of_end m mesh limit n _ (listed bound found list known ends kept is_list) =
    let segments = segments_of_end bound n found ends in record {
      found = found.found;
      segments = λ h v. subst (λ b. IsIn {X = Ray} (record { half_edge = h; v = v }) found.found ↔ IsShortSegment m.surface.d m.triangles b h v) (bound_is m.surface.d m.surface.den limit bound known) (segments.0 h v);
      once = segments.1;
      entries = is_list;
    }
  where
    segments_of_end : (bound : Quadratic) (n : ℕ) (found : Findings) → EndsSearch m.surface.d m.triangles bound n (Ok found)
        → ((h : ℕ) (v : PlaneVector) → IsIn {X = Ray} (record { half_edge = h; v = v }) found.found ↔ IsShortSegment m.surface.d m.triangles bound h v) × IsDistinct found.found
    segments_of_end bound n _ (whole words rays are few openings visits seen) = (
      found_segments (field_order mesh.surface.radicand) m.triangles mesh.triangulation.triangles bound rays seen,
      found_once (field_order mesh.surface.radicand) m.triangles mesh.triangulation.triangles bound rays seen,
    )
