-- The list of the connections along a direction has an end: it is sorted, or stops at the first part that is too large.
use Rattle.std.proofs.Common.{◌≡◌, ◌≢◌, ◌⊎◌, ℕ, Result, Ok, Err, List, [], ◌∷◌, ◌++◌, length, map, refl, ap, inl, inr}
use Rattle.fs_lists.proofs.SortedExists.{sorted_exists}
use Rattle.fs_ring.specs.Direction.{IsAlong}
use Rattle.fs_ring.specs.Operations.{Operations}
use Rattle.fs_ring.specs.OrderedRing.{IsOrderedRing, positive, null, negative}
use Rattle.fs_ring.specs.Vector.{Vector, zero_vector, cross, dot}
use Rattle.fs_ring.proofs.PlaneSolver.{vector_eq}
use Rattle.fs_ring.proofs.Signs as signs
use Rattle.fs_quadratic.specs.Radicand.{IsRadicand}
use Rattle.fs_quadratic.specs.Ring.{quadratic, IsPositive}
use Rattle.fs_quadratic.specs.declared.steps.Place.{Place}
use Rattle.fs_quadratic.proofs.Laws.{field_order}
use Rattle.fs_plane.specs.declared.listing.Listed.{Listed}
use Rattle.fs_plane.specs.declared.sites.Site.TheVariants.{Keep}
use Rattle.fs_plane.specs.declared.sites.Stop.{Stop}
use Rattle.fs_plane.specs.declared.sites.Stop.TheVariants.{Overflow}
use Rattle.fs_plane.specs.Listing.{keep}
use Rattle.fs_plane.specs.ListedLaws.{listed_total}
use Rattle.fs_plane.specs.Vector.{PlaneVector, vector_zero}
use Rattle.fs_gluing.specs.Polygons.{all_sides}
use Rattle.fs_gluing.specs.Surface.{GluedPolygons}
use Rattle.fs_gluing.specs.SurfaceSides.{vector_of}
use Rattle.fs_rauzy.specs.declared.events.Found.{Found}
use Rattle.fs_components.specs.Connections.{ArePicked, none, picks, skips, side_connection, AreConnections, AreKeepable, AreEntriesOf, no_entry, left_out, kept, EndsConnections, keep_overflows, listed}
use Rattle.fs_components.proofs.KeptVectors.{keep_cases}

-- ---- what is decided

-- where P is decided, items are picked
picked_exists : {X : Type 0} (P : X → Type 0) → ((x : X) → P x ⊎ ¬ P x) → (xs : List X) → (ys : List X) × ArePicked P xs ys
picked_exists P decided [] = ([], none)
picked_exists P decided (x ∷ xs) =
    let rest = picked_exists P decided xs in
    elim (decided x) [ inl p ↦ (x ∷ rest.0, picks x xs rest.0 p rest.1) | inr p ↦ (rest.0, skips x xs rest.0 p rest.1) ]

module _ {A : Type 0} {R : Operations A} {P : A → Type 0} (L : IsOrderedRing R P) where
  -- a vector is along a direction or isn't
  along_or_not : (v a : Vector A) → IsAlong R P v a ⊎ ¬ IsAlong R P v a
  along_or_not v a = elim (L.trichotomy (cross R v a)) [
    | positive h ↦ inr (λ k. signs.positive-ne-zero L h k.parallel)
    | null e ↦ elim (L.trichotomy (dot R v a)) [
      | positive h ↦ inl (record { parallel = e; same_way = h })
      | null z ↦ inr (λ k. signs.positive-ne-zero L k.same_way z)
      | negative h ↦ inr (λ k. signs.not_both_signs L k.same_way h)
    ]
    | negative h ↦ inr (λ k. signs.negative-ne-zero L h k.parallel)
  ]

  -- it is 0 or isn't
  zero_or_not : (a : Vector A) → (a ≡ zero_vector R) ⊎ (a ≢ zero_vector R)
  zero_or_not a = elim (L.trichotomy a.x) [
    | positive h ↦ inr (λ e. signs.positive-ne-zero L h (ap (λ (w : Vector A). w.x) e))
    | null x ↦ elim (L.trichotomy a.y) [
      | positive h ↦ inr (λ e. signs.positive-ne-zero L h (ap (λ (w : Vector A). w.y) e))
      | null y ↦ inl (vector_eq x y)
      | negative h ↦ inr (λ e. signs.negative-ne-zero L h (ap (λ (w : Vector A). w.y) e))
    ]
    | negative h ↦ inr (λ e. signs.negative-ne-zero L h (ap (λ (w : Vector A). w.x) e))
  ]

-- ---- entries

module _ {d : ℕ} (radicand : IsRadicand d) where
  -- all connections can be kept, as some entries
  record HasEntries (connections : List Found) : Type 0 where
    pub entries : List Listed
    pub keepable : AreKeepable connections
    pub are : AreEntriesOf d connections entries

  -- or there is a first that can't be
  record HasUnkept (connections : List Found) : Type 0 where
    pub before : List Found
    pub connection : Found
    pub after : List Found
    pub is : connections ≡ before ++ connection ∷ after
    pub keepable : AreKeepable before
    pub nonzero : connection.v ≢ vector_zero
    pub stop : Place
    pub overflows : keep connection.v ≡ Err stop

  -- it is the first too after a connection that is kept or left out
  unkept_after : (c : Found) (cs : List Found) → (c.v ≢ vector_zero → keep c.v ≡ Ok c.v) → HasUnkept cs → HasUnkept (c ∷ cs)
  unkept_after c cs keeps u = record {
    before = c ∷ u.before;
    connection = u.connection;
    after = u.after;
    is = ap (λ xs. c ∷ xs) u.is;
    keepable = (keeps, u.keepable);
    nonzero = u.nonzero;
    stop = u.stop;
    overflows = u.overflows;
  }

  -- a connection whose vector is 0 has no entry
  zero_before : (c : Found) (cs : List Found) → c.v ≡ vector_zero → HasEntries cs → HasEntries (c ∷ cs)
  zero_before c cs is h = record { entries = h.entries; keepable = ((λ n. absurd (n is)), h.keepable); are = left_out c cs h.entries is h.are }

  -- one of both
  entries_cases : (connections : List Found) → HasEntries connections ⊎ HasUnkept connections
  entries_cases [] = inl (record { entries = []; keepable = tt; are = no_entry })
  entries_cases (c ∷ cs) = elim (zero_or_not (field_order radicand) c.v) [
    | inl is ↦ elim (entries_cases cs) [ inl h ↦ inl (zero_before c cs is h) | inr u ↦ inr (unkept_after c cs (λ n. absurd (n is)) u) ]
    | inr some ↦ elim (keep_cases c.v) [
      | inl k ↦ elim (entries_cases cs) [
        | inl h ↦
            let entry : Listed = record { field = record { d = d; radicand = radicand }; v = c.v; start = c.start; nonzero = some; keepable = k.1 } in
            inl (record { entries = entry ∷ h.entries; keepable = ((λ n. k.0), h.keepable); are = kept c cs entry h.entries some (record { field = refl; vector = refl; corner = refl }) h.are })
        | inr u ↦ inr (unkept_after c cs (λ n. k.0) u)
      ]
      | inr k ↦ inr (record { before = []; connection = c; after = cs; is = refl; keepable = tt; nonzero = some; stop = k.0; overflows = k.1 })
    ]
  ]

-- ---- the end

module _ (s : GluedPolygons) (radicand : IsRadicand s.d) (v : PlaneVector) (found : List Found) where
  -- there are connections
  connections_exist : (connections : List Found) × AreConnections s v found connections
  connections_exist =
      let sides = picked_exists (λ e. IsAlong (quadratic s.d) (IsPositive s.d) v (vector_of s.polygons e)) (λ e. along_or_not (field_order radicand) v (vector_of s.polygons e)) (all_sides s.polygons) in
      (map (side_connection s) sides.0 ++ found, record { sides = sides.0; along = sides.1; together = refl })

  -- the list of connections has an end
  pub connections_end_exists : (end : Result (List Listed) Stop) × EndsConnections s v found end
  connections_end_exists =
      let c = connections_exist in
      elim (entries_cases radicand c.0) [
        | inl h ↦ let sorted = sorted_exists listed_total h.entries in (Ok sorted.0, listed c.0 h.entries sorted.0 c.1 h.keepable h.are sorted.1 sorted.2)
        | inr u ↦ (Err (Overflow (Keep (length u.before) u.stop.0)), keep_overflows c.0 u.before u.after u.connection u.stop c.1 u.is u.keepable u.nonzero u.overflows)
      ]
