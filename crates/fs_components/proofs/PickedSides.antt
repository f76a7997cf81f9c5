-- The sides along a direction are picked one after another, and in one way.
use Rattle.std.proofs.Common.{◌≡◌, ℕ, ◌<◌, ◌≤◌, ◌^◌, IfSome, IsOk, List, [], ◌∷◌, ◌++◌, length, map, refl, sym, ap, ◌∙◌, subst, arith, length-append}
use Rattle.std.proofs.lemmas.List.{map-append, length-map}
use Rattle.fs_lists.proofs.Items.{value_of, value_holds}
use Rattle.fs_ring.specs.Direction.{IsAlong}
use Rattle.fs_quadratic.specs.Ring.{quadratic, IsPositive}
use Rattle.fs_plane.specs.declared.corners.Corner.{Corner}
use Rattle.fs_plane.specs.Formulas.{cross_after}
use Rattle.fs_plane.specs.Vector.{PlaneVector}
use Rattle.fs_gluing.specs.Polygons.{all_sides, at_side, HasSide}
use Rattle.fs_gluing.specs.Surface.{GluedPolygons, IsSurface}
use Rattle.fs_gluing.specs.SurfaceSides.{vector_of, vector_or}
use Rattle.fs_gluing.proofs.Sides.AllSides.{length-all_sides}
use Rattle.fs_rauzy.specs.declared.events.Found.{Found}
use Rattle.fs_components.specs.Connections.{ArePicked, none, picks, skips, side_connection, AreConnections}
use Rattle.fs_components.specs.Gathering.{AreSidesAlong}

module _ {X : Type 0} {P : X → Type 0} where
  -- one item more, which is picked
  picked_more : (xs ys : List X) (x : X) → P x → ArePicked P xs ys → ArePicked P (xs ++ x ∷ []) (ys ++ x ∷ [])
  picked_more _ _ x p none = picks x [] [] p none
  picked_more _ _ x p (picks y xs ys q rest) = picks y (xs ++ x ∷ []) (ys ++ x ∷ []) q (picked_more xs ys x p rest)
  picked_more _ _ x p (skips y xs ys q rest) = skips y (xs ++ x ∷ []) (ys ++ x ∷ []) q (picked_more xs ys x p rest)

  -- one that isn't
  skipped_more : (xs ys : List X) (x : X) → ¬ P x → ArePicked P xs ys → ArePicked P (xs ++ x ∷ []) ys
  skipped_more _ _ x p none = skips x [] [] p none
  skipped_more _ _ x p (picks y xs ys q rest) = picks y (xs ++ x ∷ []) ys q (skipped_more xs ys x p rest)
  skipped_more _ _ x p (skips y xs ys q rest) = skips y (xs ++ x ∷ []) ys q (skipped_more xs ys x p rest)

  -- the picked items are determined
  pub picked_unique : (xs ys zs : List X) → ArePicked P xs ys → ArePicked P xs zs → ys ≡ zs
  picked_unique _ _ _ none none = refl
  picked_unique _ _ _ (picks x xs ys p rest) (picks _ _ zs q others) = ap (λ more. x ∷ more) (picked_unique xs ys zs rest others)
  picked_unique _ _ _ (picks x xs ys p rest) (skips _ _ zs q others) = absurd (q p)
  picked_unique _ _ _ (skips x xs ys p rest) (picks _ _ zs q others) = absurd (p q)
  picked_unique _ _ _ (skips x xs ys p rest) (skips _ _ zs q others) = picked_unique xs ys zs rest others

module _ (s : GluedPolygons) (v : PlaneVector) where
  abbrev Along : Corner → Type 0
  Along e = IsAlong (quadratic s.d) (IsPositive s.d) v (vector_of s.polygons e)

  -- the vector of a side
  pub vector_read : (e : Corner) (w : PlaneVector) → HasSide s.polygons e → IfSome (at_side s.polygons e) (λ side. w ≡ side.vector) → w ≡ vector_of s.polygons e
  vector_read e w has h =
      let side = value_of (at_side s.polygons e) has in
      value_holds (at_side s.polygons e) (λ side. w ≡ side.vector) side.value side.is h ∙ sym (ap vector_or side.is)

  -- whether it is along the direction
  pub along_read : (d : ℕ) (e : Corner) (w : PlaneVector) → d ≡ s.d → w ≡ vector_of s.polygons e → IsAlong (quadratic d) (IsPositive d) v w → Along e
  along_read d e w field is h = subst (λ x. IsAlong (quadratic s.d) (IsPositive s.d) v x) is (subst (λ n. IsAlong (quadratic n) (IsPositive n) v w) field h)

  pub along_back : (d : ℕ) (e : Corner) (w : PlaneVector) → d ≡ s.d → w ≡ vector_of s.polygons e → Along e → IsAlong (quadratic d) (IsPositive d) v w
  along_back d e w field is h = subst (λ n. IsAlong (quadratic n) (IsPositive n) v w) (sym field) (subst (λ x. IsAlong (quadratic s.d) (IsPositive s.d) v x) (sym is) h)

  -- no side
  pub no_sides : AreSidesAlong s v [] []
  no_sides = record { picked = []; along = none; are = refl }

  -- one side more, which is along the direction
  pub side_along : (sides : List Corner) (connections : List Found) (e : Corner) → Along e → AreSidesAlong s v sides connections
      → AreSidesAlong s v (sides ++ e ∷ []) (connections ++ side_connection s e ∷ [])
  side_along sides connections e along are = record {
    picked = are.picked ++ e ∷ [];
    along = picked_more sides are.picked e along are.along;
    are = ap (λ cs. cs ++ side_connection s e ∷ []) are.are ∙ sym (map-append (side_connection s) are.picked (e ∷ []));
  }

  -- one that isn't
  pub side_across : (sides : List Corner) (connections : List Found) (e : Corner) → ¬ Along e → AreSidesAlong s v sides connections → AreSidesAlong s v (sides ++ e ∷ []) connections
  side_across sides connections e across are = record { picked = are.picked; along = skipped_more sides are.picked e across are.along; are = are.are }

  -- those of all sides, and what was found after them, are the connections
  pub connections_of_sides : (connections found : List Found) → AreSidesAlong s v (all_sides s.polygons) connections → AreConnections s v found (connections ++ found)
  connections_of_sides connections found are = record { sides = are.picked; along = are.along; together = ap (λ cs. cs ++ found) are.are }

  -- the connections are determined
  pub connections_unique : (found one other : List Found) → AreConnections s v found one → AreConnections s v found other → one ≡ other
  connections_unique found one other h k =
      h.together ∙ ap (λ sides. map (side_connection s) sides ++ found) (picked_unique (all_sides s.polygons) h.sides k.sides h.along k.along) ∙ sym k.together

-- its width across the direction fits
pub width_read : (s : GluedPolygons) (v : PlaneVector) (d : ℕ) (e : Corner) (w : PlaneVector) → d ≡ s.d → w ≡ vector_of s.polygons e → IsOk (cross_after 0 s.d (vector_of s.polygons e) v) → IsOk (cross_after 0 d w v)
width_read s v d e w field is fits = subst (λ n. IsOk (cross_after 0 n w v)) (sym field) (subst (λ x. IsOk (cross_after 0 s.d x v)) (sym is) fits)

-- ---- how many there are

picked_few : {X : Type 0} {P : X → Type 0} (xs ys : List X) → ArePicked P xs ys → length ys ≤ length xs
picked_few _ _ none = omega arith
picked_few _ _ (picks x xs ys p rest) = let less = picked_few xs ys rest in omega arith
picked_few _ _ (skips x xs ys p rest) = let less = picked_few xs ys rest in omega arith

-- the connections are no more than the sides and what was found
pub few_connections : (s : GluedPolygons) (v : PlaneVector) (found connections : List Found) → IsSurface s → AreConnections s v found connections → length found ≤ 1024 → length connections < 2 ^ 32
few_connections s v found connections surface are few =
    let sides = picked_few (all_sides s.polygons) are.sides are.along in
    let all = length-all_sides s.polygons in
    let most = surface.sides in
    let mapped = length-map are.sides (side_connection s) in
    let joined = length-append (map (side_connection s) are.sides) found in
    let total = ap length are.together in
    omega arith
