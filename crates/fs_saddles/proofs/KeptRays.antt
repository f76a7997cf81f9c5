-- The rays that are kept one after another, and the first that can't be.
use Rattle.std.proofs.Common.{◌≡◌, ℕ, ◌+◌, ◌<◌, List, [], ◌∷◌, ◌++◌, length, take, drop, get_or, refl, sym, ap, ◌∙◌, subst, arith}
use Rattle.std.proofs.lemmas.List.{take-append-drop, take_more, length-take-le}
use Rattle.fs_plane.specs.declared.listing.Listed.{Listed}
use Rattle.fs_plane.specs.declared.sites.Stop.{Stop}
use Rattle.fs_plane.specs.declared.sites.Stop.TheVariants.{Undecided, Overflow, NoMemory}
use Rattle.fs_mesh.specs.Meshes.{MeshValue}
use Rattle.fs_lists.specs.Members.{IsIn}
use Rattle.fs_lists.proofs.Items.{IsItem, item_read, drop_item}
use Rattle.fs_lists.proofs.Members.{in_of_contains}
use Rattle.fs_fan.specs.declared.fans.Ray.{Ray}
use Rattle.fs_saddles.specs.Saddles.{IsKeptAs, AreKept, AreEntriesOf}
use Rattle.fs_saddles.specs.Keeping.{AreKeptAs, RayStops, keep_stops, home_stops, StopsKeeping}

module _ (m : MeshValue) where
  kept_more : (rays : List Ray) (entries : List Listed) (ray : Ray) (entry : Listed) → AreKeptAs m rays entries → IsKeptAs m ray entry → AreKeptAs m (rays ++ ray ∷ []) (entries ++ entry ∷ [])
  kept_more [] [] ray entry are is = (is, tt)
  kept_more [] (e ∷ entries) ray entry are is = absurd are
  kept_more (r ∷ rays) [] ray entry are is = absurd are
  kept_more (r ∷ rays) (e ∷ entries) ray entry are is = (are.0, kept_more rays entries ray entry are.1 is)

  -- rays that are kept have entries
  pub kept_of_entries : (rays : List Ray) (entries : List Listed) → AreKeptAs m rays entries → AreKept m rays
  kept_of_entries [] [] are = tt
  kept_of_entries [] (e ∷ entries) are = tt
  kept_of_entries (r ∷ rays) [] are = absurd are
  kept_of_entries (r ∷ rays) (e ∷ entries) are = ((e, are.0), kept_of_entries rays entries are.1)

  -- and these are their entries
  pub entries_of_kept : (rays : List Ray) (entries : List Listed) → AreKeptAs m rays entries → AreEntriesOf m rays entries
  entries_of_kept [] [] are = tt
  entries_of_kept [] (e ∷ entries) are = absurd are
  entries_of_kept (r ∷ rays) [] are = absurd are
  entries_of_kept (r ∷ rays) (e ∷ entries) are = (are.0.is, entries_of_kept rays entries are.1)

  -- a list is its first items, an item, and those after it
  split_at : (rays : List Ray) (i : ℕ) (ray : Ray) → IsItem rays i ray → rays ≡ take i rays ++ ray ∷ drop (i + 1) rays
  split_at rays i ray item = sym (take-append-drop i rays) ∙ ap (λ rest. take i rays ++ rest) (drop_item rays i ray item)

  not_undecided : (ray : Ray) (n k : ℕ) → ¬ RayStops m ray n (Undecided k)
  not_undecided ray n k (keep_stops s) = let e = s.is in cc
  not_undecided ray n k (home_stops kept s) = let e = s.is in cc

  stops_at : (rays : List Ray) (before : List Ray) (ray : Ray) (after : List Ray) (stop : Stop) → rays ≡ before ++ ray ∷ after → AreKept m before → RayStops m ray (length before) stop → StopsKeeping m rays stop
  stops_at rays before ray after NoMemory is kept s = tt
  stops_at rays before ray after (Undecided k) is kept s = absurd (not_undecided ray (length before) k s)
  stops_at rays before ray after (Overflow site) is kept s = record { before = before; ray = ray; after = after; is = is; kept = kept; stops = s }

  module _ (rays : List Ray) (i : ℕ) (ray : Ray) (there : i < length rays) (item : ray ≡ get_or rays i ray) where
    -- ray number i is one of the rays
    pub ray_in : IsIn ray rays
    ray_in = in_of_contains ray rays (i, there, sym item)

    -- it is kept too
    pub kept_next : (entries : List Listed) (entry : Listed) → AreKeptAs m (take i rays) entries → IsKeptAs m ray entry → AreKeptAs m (take (i + 1) rays) (entries ++ entry ∷ [])
    kept_next entries entry are is =
        subst (λ rs. AreKeptAs m rs (entries ++ entry ∷ [])) (sym (take_more rays i ray there ∙ ap (λ r. take i rays ++ r ∷ []) (sym item))) (kept_more (take i rays) entries ray entry are is)

    -- it is the first that can't be
    pub stops_next : (n : ℕ) (stop : Stop) → n ≡ i → AreKept m (take i rays) → RayStops m ray n stop → StopsKeeping m rays stop
    stops_next n stop e kept s =
        stops_at rays (take i rays) ray (drop (i + 1) rays) stop (split_at rays i ray (item_read rays rays i ray ray refl there item refl)) kept
        (subst (λ k. RayStops m ray k stop) (e ∙ sym (length-take-le i rays (omega arith))) s)
