-- A saddle list of a mesh has an end.
use Rattle.std.proofs.Common.{◌≡◌, ◌⊎◌, ℕ, Bool, true, false, cond, Result, Ok, Err, List, [], ◌∷◌, ◌++◌, length, refl, ap, inl, inr}
use Rattle.std.proofs.lemmas.Bool.{leb-true}
use Rattle.fs_quadratic.specs.Checked.{place}
use Rattle.fs_quadratic.specs.Ring.{Quadratic}
use Rattle.fs_quadratic.specs.declared.steps.Place.{Place}
use Rattle.fs_quadratic.proofs.Laws.{field_order}
use Rattle.fs_plane.specs.declared.corners.Corner.{Corner}
use Rattle.fs_plane.specs.declared.listing.Listed.{Listed}
use Rattle.fs_plane.specs.declared.sites.Site.TheVariants.{Bound, Keep, Home}
use Rattle.fs_plane.specs.declared.sites.Stop.{Stop}
use Rattle.fs_plane.specs.declared.sites.Stop.TheVariants.{Overflow}
use Rattle.fs_plane.specs.Listing.{is_keepable, IsKeepable, keep}
use Rattle.fs_plane.specs.ListedLaws.{listed_total}
use Rattle.fs_plane.specs.Vector.{PlaneVector}
use Rattle.fs_gluing.specs.Homes.{home_of, FindsCorner}
use Rattle.fs_gluing.proofs.Sides.CornerSearch.{first_of_found, found_corner_exists}
use Rattle.fs_mesh.specs.Meshes.{MeshValue, IsMesh}
use Rattle.fs_fan.specs.declared.fans.Ray.{Ray}
use Rattle.fs_fan.specs.Search.{Findings, EndsSearch, whole, AreFound}
use Rattle.fs_fan.proofs.FoundSegments.{found_segments}
use Rattle.fs_saddles.specs.Saddles.{scaled_bound, IsKeptAs, AreKept, SaddleList, EndsSaddles, bound_overflows, search_stops}
use Rattle.fs_saddles.specs.Keeping.{IsRayOf, AreKeepable, AreKeptAs, RayStops, keep_stops, home_stops}
use Rattle.fs_saddles.proofs.FoundRays.{found_keepable}
use Rattle.fs_saddles.proofs.SaddleLists.{first_stopped, all_listed}
use Rattle.fs_saddles.proofs.SearchExists.{search_end_exists}
use Rattle.fs_lists.proofs.SortedExists.{sorted_exists}

-- a vector is kept, or a part is too large
keep_cases : (v : PlaneVector) → ((keep v ≡ Ok v) × IsKeepable v) ⊎ ((stop : Place) × (keep v ≡ Err stop))
keep_cases v = by (is_keepable v.x.p) (is_keepable v.x.q) (is_keepable v.y.p) (is_keepable v.y.q) refl refl refl refl
  where
    by : (a b c e : Bool) → is_keepable v.x.p ≡ a → is_keepable v.x.q ≡ b → is_keepable v.y.p ≡ c → is_keepable v.y.q ≡ e → ((keep v ≡ Ok v) × IsKeepable v) ⊎ ((stop : Place) × (keep v ≡ Err stop))
    by true true true true f g h k = inl (
      (λ i. cond (f i) (cond (g i) (cond (h i) (cond (k i) (Ok v) (Err (place 4))) (Err (place 3))) (Err (place 2))) (Err (place 1))),
      record { x_p = leb-true _ _ f; x_q = leb-true _ _ g; y_p = leb-true _ _ h; y_q = leb-true _ _ k },
    )
    by true true true false f g h k = inr (place 4, λ i. cond (f i) (cond (g i) (cond (h i) (cond (k i) (Ok v) (Err (place 4))) (Err (place 3))) (Err (place 2))) (Err (place 1)))
    by true true false e f g h k = inr (place 3, λ i. cond (f i) (cond (g i) (cond (h i) (cond (is_keepable v.y.q) (Ok v) (Err (place 4))) (Err (place 3))) (Err (place 2))) (Err (place 1)))
    by true false c e f g h k =
        inr (place 2, λ i. cond (f i) (cond (g i) (cond (is_keepable v.y.p) (cond (is_keepable v.y.q) (Ok v) (Err (place 4))) (Err (place 3))) (Err (place 2))) (Err (place 1)))
    by false b c e f g h k =
        inr (
          place 1,
          λ i. cond (f i) (cond (is_keepable v.x.q) (cond (is_keepable v.y.p) (cond (is_keepable v.y.q) (Ok v) (Err (place 4))) (Err (place 3))) (Err (place 2))) (Err (place 1)),
        )

module _ (m : MeshValue) (mesh : IsMesh m) where
  abbrev HasEntry : Ray → Type 0
  HasEntry ray = (entry : Listed) × IsKeptAs m ray entry

  -- it can't be kept, by any number
  abbrev CannotBeKept : Ray → Type 0
  CannotBeKept ray = (n : ℕ) → (stop : Stop) × RayStops m ray n stop

  ray_cases : (ray : Ray) → IsRayOf m ray → HasEntry ray ⊎ CannotBeKept ray
  ray_cases ray is = elim (keep_cases ray.v) [
    | inl k ↦ sought k.0 k.1 (found_corner_exists m.surface (home_of m.homes ray.half_edge) ray.v 0 9 mesh.surface (mesh.homes.corner ray.half_edge is.there) is.nonzero)
    | inr r ↦ inr (λ n. (Overflow (Keep n r.0.0), keep_stops (record { place = r.0; overflows = r.1; is = refl })))
  ]
    where
      by : keep ray.v ≡ Ok ray.v → IsKeepable ray.v → (result : Result Corner Place) → FindsCorner m.surface (home_of m.homes ray.half_edge) ray.v 0 9 result → HasEntry ray ⊎ CannotBeKept ray
      by k small (Ok start) f = inl (
        record { field = record { d = m.surface.d; radicand = mesh.surface.radicand }; v = ray.v; start = start; nonzero = is.nonzero; keepable = small },
        record {
          is = record {
            field = refl;
            vector = refl;
            corner = (first_of_found m.surface (home_of m.homes ray.half_edge) ray.v 0 9 mesh.surface (mesh.homes.corner ray.half_edge is.there) (Ok start) f).0;
          };
          keepable = k;
          found = f;
        },
      )
      by k small (Err stop) f = inr (λ n. (Overflow (Home n stop.0), home_stops k (record { place = stop; overflows = f; is = refl })))

      sought : keep ray.v ≡ Ok ray.v → IsKeepable ray.v → (result : Result Corner Place) × FindsCorner m.surface (home_of m.homes ray.half_edge) ray.v 0 9 result → HasEntry ray ⊎ CannotBeKept ray
      sought k small r = by k small r.0 r.1

  -- the first ray that can't be kept
  record HasFirst (rays : List Ray) : Type 0 where
    pub before : List Ray
    pub ray : Ray
    pub after : List Ray
    pub is : rays ≡ before ++ ray ∷ after
    pub kept : AreKept m before
    pub cannot : CannotBeKept ray

  rays_cases : (rays : List Ray) → AreKeepable m rays → AreKept m rays ⊎ HasFirst rays
  rays_cases [] are = inl tt
  rays_cases (ray ∷ rays) are = elim (ray_cases ray (are ray (inl refl))) [
    | inl entry ↦ elim (rays_cases rays (λ r h. are r (inr h))) [
      | inl kept ↦ inl (entry, kept)
      | inr first ↦ inr (record { before = ray ∷ first.before; ray = first.ray; after = first.after; is = ap (λ rs. ray ∷ rs) first.is; kept = (entry, first.kept); cannot = first.cannot })
    ]
    | inr cannot ↦ inr (record { before = []; ray = ray; after = rays; is = refl; kept = tt; cannot = cannot })
  ]

  entries_of : (rays : List Ray) → AreKept m rays → (entries : List Listed) × AreKeptAs m rays entries
  entries_of [] kept = ([], tt)
  entries_of (ray ∷ rays) kept = let rest = entries_of rays kept.1 in (kept.0.0 ∷ rest.0, (kept.0.1, rest.1))

  module _ (limit : Quadratic) (n : ℕ) where
    abbrev HasEnd : Type 0
    HasEnd = (end : Result SaddleList Stop) × EndsSaddles m limit n end

    module _ (bound : Quadratic) (known : scaled_bound m.surface.d m.surface.den limit ≡ Ok bound) where
      found_of : (found : Findings) → EndsSearch m.surface.d m.triangles bound n (Ok found) → AreFound m.surface.d m.triangles bound found.found
      found_of _ (whole words found live few openings visits are) = are

      after_rays : (found : Findings) → EndsSearch m.surface.d m.triangles bound n (Ok found) → AreKept m found.found ⊎ HasFirst found.found → HasEnd
      after_rays found ends (inl kept) =
          let es = entries_of found.found kept in
          let sorted = sorted_exists listed_total es.0 in
          (Ok (record { list = sorted.0; live = found.live }), all_listed m limit n bound known found ends es.0 sorted.0 es.1 (sorted.1, sorted.2))
      after_rays found ends (inr f) =
          let stop = f.cannot (length f.before) in
          (Err stop.0, first_stopped m limit n bound known found ends stop.0 (record { before = f.before; ray = f.ray; after = f.after; is = f.is; kept = f.kept; stops = stop.1 }))

      after_search : (s : Result Findings Stop) → EndsSearch m.surface.d m.triangles bound n s → HasEnd
      after_search (Err stop) ends = (Err stop, search_stops bound stop known ends)
      after_search (Ok found) ends =
          let segments = found_segments (field_order mesh.surface.radicand) m.triangles mesh.triangulation.triangles bound found.found (found_of found ends) in
          after_rays found ends (rays_cases found.found (found_keepable m mesh bound found.found (λ ray h. (segments ray.half_edge ray.v).0 h)))

    -- a saddle list has an end
    pub saddles_end_exists : (end : Result SaddleList Stop) × EndsSaddles m limit n end
    saddles_end_exists = by (scaled_bound m.surface.d m.surface.den limit) refl
      where
        by : (r : Result Quadratic Place) → scaled_bound m.surface.d m.surface.den limit ≡ r → HasEnd
        by (Err stop) known = (Err (Overflow (Bound stop.0)), bound_overflows stop known)
        by (Ok bound) known =
            let s = search_end_exists mesh.surface.radicand m.triangles mesh.triangulation.triangles bound n in
            after_search bound known s.0 s.1
