-- The two rays of a corner: the side that begins there, and the opposite of the one that ends there; the corner doesn't bend right. A library for crates to come.
use Rattle.std.proofs.Common.{◌≡◌, ℕ, zero, suc, ◌-◌, Option, Some, List, [], ◌∷◌, length, unwrap_or, sym, ap, ◌∙◌, refl, subst}
use Rattle.std.proofs.lemmas.Option.{same_Some, slice_get-map}
use Rattle.std.proofs.lemmas.List.{length-map}
use Rattle.std.specs.Option.{option_and_then, option_map}
use Rattle.std.specs.List.{slice_get, AllByRecursion}
use Rattle.fs_lists.proofs.All.{All-slice_get}
use Rattle.fs_lists.proofs.Items.{value_of}
use Rattle.fs_plane.specs.declared.corners.Corner.{Corner}
use Rattle.fs_plane.specs.Vector.{vector_zero, vector_neg, BendsNoRight, PlaneVector}
use Rattle.fs_gluing.specs.declared.surfaces.Side.{Side}
use Rattle.fs_gluing.specs.Convex.{CornerSides, corners_of, corners_from, last_side}
use Rattle.fs_gluing.specs.Polygons.{at_side, HasSide}
use Rattle.fs_gluing.specs.Surface.{GluedPolygons, IsTranslationSurface, IsPolygon, side_vectors}
use Rattle.fs_gluing.specs.NextCorner.{side_before, side_count, length_or_0}
use Rattle.fs_gluing.specs.SurfaceSides.{partner_or, vector_or, vector_of}
use Rattle.fs_gluing.proofs.Polygon.ConvexCorners.{last_side_is}
use Rattle.fs_gluing.proofs.Polygon.CornersBend.{bends_no_right}
use Rattle.fs_gluing.proofs.SurfaceCalls.NextCorner.{in_polygon, has_before, before, before_zero, before_suc}
use Rattle.fs_gluing.proofs.Sides.VertexOrbits.{next}

-- ---- the corners of a polygon by their numbers

corner_at : (P : CornerSides → Type 0) (b : PlaneVector) (sides : List PlaneVector) (j : ℕ) (e a : PlaneVector) → AllByRecursion P (corners_from b sides) → slice_get sides j ≡ Some a → slice_get (b ∷ sides) j ≡ Some e → P (record { before = e; after = a })
corner_at P b [] j e a all h k = cc
corner_at P b (s ∷ sides) zero e a all h k = subst (λ x. P (record { before = x; after = a })) (same_Some b e k) (subst (λ x. P (record { before = b; after = x })) (same_Some s a h) all.0)
corner_at P b (s ∷ sides) (suc j) e a all h k = corner_at P s sides j e a all.1 h k

vector_at : (polygon : List Side) (j : ℕ) (side : Side) → slice_get polygon j ≡ Some side → slice_get (side_vectors polygon) j ≡ Some side.vector
vector_at polygon j side e = slice_get-map (λ (s : Side). s.vector) polygon j ∙ ap (option_map (λ (s : Side). s.vector)) e

-- the last vector is that of the last side
pub last_is : (polygon : List Side) (side : Side) → slice_get polygon (length polygon - 1) ≡ Some side → last_side (side_vectors polygon) ≡ side.vector
last_is polygon side e =
    sym (last_side_is (side_vectors polygon))
    ∙ ap (λ n. unwrap_or (slice_get (side_vectors polygon) (n - 1)) vector_zero) (length-map polygon (λ (s : Side). s.vector))
    ∙ ap (λ o. unwrap_or o vector_zero) (vector_at polygon (length polygon - 1) side e)

-- what holds of all corners of a polygon holds of the one between these two sides
pub corner_in : (P : CornerSides → Type 0) (polygon : List Side) (j : ℕ) (b a : Side) → AllByRecursion P (corners_of (side_vectors polygon)) → slice_get polygon (before (length polygon) j) ≡ Some b → slice_get polygon j ≡ Some a
    → P (record { before = b.vector; after = a.vector })
corner_in P polygon zero b a all e f =
    corner_at P (last_side (side_vectors polygon)) (side_vectors polygon) 0 b.vector a.vector all (vector_at polygon 0 a f)
    (ap Some (last_is polygon b (ap (slice_get polygon) (sym (before_zero (length polygon) 0 refl)) ∙ e)))
corner_in P polygon (suc j) b a all e f =
    corner_at P (last_side (side_vectors polygon)) (side_vectors polygon) (suc j) b.vector a.vector all (vector_at polygon (suc j) a f)
    (vector_at polygon j b (ap (slice_get polygon) (sym (before_suc (length polygon) j)) ∙ e))

-- ---- the two sides at a corner

-- the sides that end and begin at the corner, which is strictly convex or straight
pub record HasRays (s : GluedPolygons) (c : Corner) : Type 0 where
  pub before : Side
  pub after : Side
  pub ends : at_side s.polygons (side_before s.polygons c) ≡ Some before
  pub begins : at_side s.polygons c ≡ Some after
  pub bends : BendsNoRight s.d before.vector after.vector

-- a corner that exists has them
pub rays : (s : GluedPolygons) → IsTranslationSurface s → (c : Corner) → HasSide s.polygons c → HasRays s c
rays s surface c h =
    let st = in_polygon s.polygons c h in
    let b = value_of (at_side s.polygons (side_before s.polygons c)) (has_before s.polygons c h) in
    let a = value_of (at_side s.polygons c) h in
    let polygon = All-slice_get (λ polygon. IsPolygon s.straight s.d (side_vectors polygon)) s.polygons c.polygon st.polygon surface.each st.is in
    record {
      before = b.value;
      after = a.value;
      ends = b.is;
      begins = a.is;
      bends = corner_in (λ corner. BendsNoRight s.d corner.before corner.after) st.polygon c.side b.value a.value (bends_no_right (side_vectors st.polygon) polygon)
          (ap (λ n. slice_get st.polygon (before n c.side)) (sym (ap length_or_0 st.is))
          ∙ sym (ap (λ (o : Option (List Side)). option_and_then (λ p. slice_get p (before (side_count s.polygons c.polygon) c.side)) o) st.is) ∙ b.is)
          (sym (ap (λ (o : Option (List Side)). option_and_then (λ p. slice_get p c.side) o) st.is) ∙ a.is);
    }

module _ (s : GluedPolygons) (surface : IsTranslationSurface s) (c : Corner) (h : HasSide s.polygons c) where
  -- the next ray is the opposite of the side that ends there
  pub next_ray : (r : HasRays s c) → at_side s.polygons (next s.polygons c) ≡ Some (record { vector = vector_neg r.before.vector; partner = side_before s.polygons c })
  next_ray r = ap (λ o. at_side s.polygons (partner_or c o)) r.ends ∙ (surface.glued (side_before s.polygons c) r.before r.ends).back

  -- from the side before a corner to the side after it the boundary doesn't bend right
  pub bends_at : BendsNoRight s.d (vector_of s.polygons (side_before s.polygons c)) (vector_of s.polygons c)
  bends_at =
      let r = rays s surface c h in
      subst (λ o. BendsNoRight s.d (vector_or o) (vector_of s.polygons c)) (sym r.ends) (subst (λ o. BendsNoRight s.d r.before.vector (vector_or o)) (sym r.begins) r.bends)

  -- the ray of the next corner is the opposite of the side before the corner
  pub ray-next : vector_of s.polygons (next s.polygons c) ≡ vector_neg (vector_of s.polygons (side_before s.polygons c))
  ray-next = let r = rays s surface c h in ap vector_or (next_ray r) ∙ ap (λ o. vector_neg (vector_or o)) (sym r.ends)
