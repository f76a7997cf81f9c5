-- The positions of corners: a side leads from the position of its corner to that of the next corner.
use Rattle.std.proofs.Common.{◌≡◌, ℕ, Bool, zero, suc, ◌+◌, ◌<◌, ◌≤◌, List, [], ◌∷◌, Option, Some, None, length, map, take, get_or, sym, ap, ◌∙◌, refl, subst, arith}
use Rattle.std.proofs.lemmas.List.{length-map, take_all}
use Rattle.std.proofs.lemmas.Option.{same_Some, slice_get-map, get_or_from_slice_get}
use Rattle.std.specs.Option.{IfSome, option_map}
use Rattle.std.specs.List.{slice_get}
use Rattle.fs_lists.proofs.All.{All-slice_get}
use Rattle.fs_plane.specs.declared.corners.Corner.{Corner}
use Rattle.fs_plane.specs.Vector.{vector_zero, vector_add, vector_total, vector_total_from, PlaneVector}
use Rattle.fs_gluing.specs.declared.surfaces.Side.{Side}
use Rattle.fs_gluing.specs.Convex.{corner_position}
use Rattle.fs_gluing.specs.Positions.{positions_from, all_positions}
use Rattle.fs_gluing.specs.Surface.{GluedPolygons, IsPolygon, IsSurface, side_vectors}
use Rattle.fs_gluing.proofs.SurfaceCalls.NextCorner.{IsInPolygon}

-- there are as many positions as sides
pub length-positions_from : (at : PlaneVector) (vectors : List PlaneVector) → length (positions_from at vectors) ≡ length vectors
length-positions_from at [] = refl
length-positions_from at (v ∷ vectors) = ap (λ n. suc n) (length-positions_from (vector_add at v) vectors)

get_or-positions_from : (at : PlaneVector) (vectors : List PlaneVector) (j : ℕ) (d : PlaneVector) → j < length vectors → get_or (positions_from at vectors) j d ≡ vector_total_from at (take j vectors)
get_or-positions_from at [] j d l = absurd (omega arith)
get_or-positions_from at (v ∷ vectors) zero d l = refl
get_or-positions_from at (v ∷ vectors) (suc j) d l = get_or-positions_from (vector_add at v) vectors j d (omega arith)

total-next : (at : PlaneVector) (vectors : List PlaneVector) (j : ℕ) (v : PlaneVector) → slice_get vectors j ≡ Some v → vector_add (vector_total_from at (take j vectors)) v ≡ vector_total_from at (take (j + 1) vectors)
total-next at [] j v e = cc
total-next at (w ∷ vectors) zero v e = ap (vector_add at) (sym (same_Some w v e))
total-next at (w ∷ vectors) (suc j) v e =
    let more : suc (j + 1) ≡ suc j + 1 = omega arith in
    total-next (vector_add at w) vectors j v e ∙ ap (λ n. vector_total_from at (take n (w ∷ vectors))) more

-- the positions of the corners of one polygon
row_is : (polygons : List (List Side)) (k : ℕ) (polygon : List Side) (row : List PlaneVector) → slice_get polygons k ≡ Some polygon
    → row ≡ get_or (all_positions (map side_vectors polygons)) k row → row ≡ positions_from vector_zero (side_vectors polygon)
row_is polygons k polygon row there is =
    is ∙ get_or_from_slice_get (all_positions (map side_vectors polygons)) k (positions_from vector_zero (side_vectors polygon)) row
    (slice_get-map (positions_from vector_zero) (map side_vectors polygons) k
    ∙ ap (option_map (positions_from vector_zero)) (slice_get-map side_vectors polygons k ∙ ap (option_map side_vectors) there))

-- the row that is read has the positions of the polygon
pub row_positions : (polygons : List (List Side)) (k : ℕ) (row : List PlaneVector) → row ≡ get_or (all_positions (map side_vectors polygons)) k row
    → IfSome (slice_get polygons k) (λ polygon. row ≡ positions_from vector_zero (side_vectors polygon))
row_positions polygons k row is = row_positions_by (slice_get polygons k) refl
  where
    row_positions_by : (o : Option (List Side)) → slice_get polygons k ≡ o → IfSome o (λ polygon. row ≡ positions_from vector_zero (side_vectors polygon))
    row_positions_by None e = tt
    row_positions_by (Some polygon) e = row_is polygons k polygon row e is

-- the row of polygon k that is read
pub row_read : (polygons others : GluedPolygons) (positions rows : List (List PlaneVector)) (k : ℕ) (item row : List PlaneVector) → polygons ≡ others → positions ≡ all_positions (map side_vectors polygons.polygons)
    → rows ≡ positions → item ≡ get_or rows k item → row ≡ item → row ≡ get_or (all_positions (map side_vectors others.polygons)) k row
row_read polygons others positions rows k item row same kept read at is =
    let whole : rows ≡ all_positions (map side_vectors others.polygons) = read ∙ kept ∙ ap (λ (s : GluedPolygons). all_positions (map side_vectors s.polygons)) same in
    let here : item ≡ get_or (all_positions (map side_vectors others.polygons)) k item = at ∙ ap (λ ps. get_or ps k item) whole in
    subst (λ r. r ≡ get_or (all_positions (map side_vectors others.polygons)) k r) (sym is) here

-- the row that is read has a position for each corner
pub row_long : (polygons : List (List Side)) (c : Corner) (row : List PlaneVector) → IsInPolygon polygons c → row ≡ get_or (all_positions (map side_vectors polygons)) c.polygon row → c.side < length row
row_long polygons c row s is =
    subst (λ n. c.side < n)
    (sym (ap length (row_is polygons c.polygon s.polygon row s.is is) ∙ length-positions_from vector_zero (side_vectors s.polygon) ∙ length-map s.polygon (λ side. side.vector))) s.inside

-- `at` is the position of corner c
pub record IsPosition (polygons : List (List Side)) (c : Corner) (at : PlaneVector) : Type 0 where
  pub corner : IsInPolygon polygons c
  pub is : at ≡ corner_position (side_vectors corner.polygon) c.side

-- the item of the row is the position of the corner
pub is_position : (polygons : List (List Side)) (c : Corner) (row : List PlaneVector) (at : PlaneVector) → IsInPolygon polygons c → row ≡ get_or (all_positions (map side_vectors polygons)) c.polygon row
    → at ≡ get_or row c.side at → IsPosition polygons c at
is_position polygons c row at s row_at at_is =
    let long : c.side < length (side_vectors s.polygon) = subst (λ n. c.side < n) (sym (length-map s.polygon (λ side. side.vector))) s.inside in
    record {
      corner = s;
      is = at_is
          ∙ ap (λ ps. get_or ps c.side at) (row_is polygons c.polygon s.polygon row s.is row_at)
          ∙ get_or-positions_from vector_zero (side_vectors s.polygon) c.side at long;
    }

-- the position of a corner is the sum of the sides before it
pub position_is : (polygons : List (List Side)) (c : Corner) (at : PlaneVector) → IsPosition polygons c at → IfSome (slice_get polygons c.polygon) (λ polygon. at ≡ corner_position (side_vectors polygon) c.side)
position_is polygons c at p = subst (λ o. IfSome o (λ polygon. at ≡ corner_position (side_vectors polygon) c.side)) (sym p.corner.is) p.is

-- corner 0 is at (0,0)
pub first_position : (polygons : List (List Side)) (c : Corner) (at : PlaneVector) → IsPosition polygons c at → c.side ≡ 0 → at ≡ vector_zero
first_position polygons c at p e = p.is ∙ ap (λ j. corner_position (side_vectors p.corner.polygon) j) e

-- a side leads from the position of its corner to the next position
pub next_in : (polygon : List Side) (j : ℕ) (side : Side) → slice_get polygon j ≡ Some side → vector_add (corner_position (side_vectors polygon) j) side.vector ≡ corner_position (side_vectors polygon) (j + 1)
next_in polygon j side e = total-next vector_zero (side_vectors polygon) j side.vector (slice_get-map (λ (s : Side). s.vector) polygon j ∙ ap (option_map (λ (s : Side). s.vector)) e)

-- the last side leads to (0,0)
pub last_in : (straight : Bool) (d : ℕ) (polygon : List Side) (j : ℕ) (side : Side) → IsPolygon straight d (side_vectors polygon) → slice_get polygon j ≡ Some side → j + 1 ≡ length polygon
    → vector_add (corner_position (side_vectors polygon) j) side.vector ≡ vector_zero
last_in straight d polygon j side p e last =
    let long : length (side_vectors polygon) ≤ j + 1 = omega (arith, length-map polygon (λ (s : Side). s.vector)) in
    next_in polygon j side e ∙ ap vector_total (take_all (j + 1) (side_vectors polygon) long) ∙ p.closed

-- a side leads from the position of its corner to that of the next, the last one back to corner 0
abbrev LeadsOn : List Side → ℕ → PlaneVector → Side → Type 0
LeadsOn polygon j at side =
    (j + 1 < length polygon → vector_add at side.vector ≡ corner_position (side_vectors polygon) (j + 1))
    × (j + 1 ≡ length polygon → vector_add at side.vector ≡ vector_zero)

leads_on : (straight : Bool) (d : ℕ) (polygon : List Side) (j : ℕ) (at : PlaneVector) (o : Option Side) → IsPolygon straight d (side_vectors polygon) → at ≡ corner_position (side_vectors polygon) j → slice_get polygon j ≡ o → IfSome o (LeadsOn polygon j at)
leads_on straight d polygon j at None p is e = tt
leads_on straight d polygon j at (Some side) p is e = (
  (λ more. ap (λ a. vector_add a side.vector) is ∙ next_in polygon j side e),
  (λ last. ap (λ a. vector_add a side.vector) is ∙ last_in straight d polygon j side p e last),
)

-- a side leads to the position of the next corner
pub next_position : (s : GluedPolygons) (c : Corner) (at : PlaneVector) → IsSurface s → IsPosition s.polygons c at
    → IfSome (slice_get s.polygons c.polygon) (λ polygon. IfSome (slice_get polygon c.side) (λ side.
    (c.side + 1 < length polygon → vector_add at side.vector ≡ corner_position (side_vectors polygon) (c.side + 1))
    × (c.side + 1 ≡ length polygon → vector_add at side.vector ≡ vector_zero)))
next_position s c at surface p =
    let polygon = All-slice_get (λ polygon. IsPolygon s.straight s.d (side_vectors polygon)) s.polygons c.polygon p.corner.polygon surface.each p.corner.is in
    subst (λ o. IfSome o (λ polygon. IfSome (slice_get polygon c.side) (LeadsOn polygon c.side at))) (sym p.corner.is)
    (leads_on s.straight s.d p.corner.polygon c.side at (slice_get p.corner.polygon c.side) polygon p.is refl)
