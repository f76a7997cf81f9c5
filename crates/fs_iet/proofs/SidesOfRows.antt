-- The sides of a row: which there are, and that they differ.
use Rattle.std.proofs.Common.{◌≡◌, ◌≢◌, ℕ, zero, suc, ◌*◌, ◌<◌, ◌≤◌, List, [], ◌∷◌, ◌++◌, length, get_or, sum_by, refl, sym, ap, ◌∙◌, subst, inl, inr, arith}
use Rattle.std.proofs.lemmas.Option.{slice_get_within}
use Rattle.std.proofs.lemmas.List.{length-append}
use Rattle.std.specs.List.{flat_map}
use Rattle.fs_lists.specs.Members.{IsIn, IsDistinct}
use Rattle.fs_lists.proofs.Members.{in_append_left, in_append_right, in_append_cases, apart_append}
use Rattle.fs_lists.proofs.Removal.{at_most_partners}
use Rattle.fs_plane.specs.declared.corners.Corner.{Corner}
use Rattle.fs_plane.specs.Vector.{PlaneVector, vector_zero}
use Rattle.fs_convex.proofs.Rows.{tiles_distinct}
use Rattle.fs_gluing.specs.CrossingMap.{IsIncoming, IsOutgoing, side_width, block_start, outgoing_left, incoming_left}
use Rattle.fs_gluing.specs.Exchanges.{AreChainsIn, IsTopRow, IsBottomRow}
use Rattle.fs_gluing.specs.Polygons.{HasSide, all_sides}
use Rattle.fs_gluing.specs.Surface.{GluedPolygons, IsTranslationSurface}
use Rattle.fs_gluing.specs.SurfaceSides.{partner}
use Rattle.fs_gluing.proofs.Sides.AllSides.{in_all_sides, length-all_sides}
use Rattle.fs_gluing.proofs.Sides.PartnerSides.{partner-partner}
use Rattle.fs_gluing.proofs.SurfaceCalls.NextCorner.{in_polygon}
use Rattle.fs_iet.proofs.SideMeasures.{surface_order, outgoing_wide, incoming_wide, partner_incoming, not_both_ways}
use Rattle.fs_iet.proofs.SideRows.{top_row_tiles, bottom_row_tiles}

-- ---- members of joined lists

in_lists : {X : Type 0} (x : X) (lists : List (List X)) (j : ℕ) → j < length lists → IsIn x (get_or lists j []) → IsIn x (flat_map (λ xs. xs) lists)
in_lists x [] j l h = absurd (omega arith)
in_lists x (xs ∷ lists) zero l h = in_append_left x xs (flat_map (λ xs. xs) lists) h
in_lists x (xs ∷ lists) (suc j) l h = in_append_right x xs (flat_map (λ xs. xs) lists) (in_lists x lists j (omega arith) h)

lists_in : {X : Type 0} (x : X) (lists : List (List X)) → IsIn x (flat_map (λ xs. xs) lists) → (j : ℕ) × (j < length lists) × IsIn x (get_or lists j [])
lists_in x [] h = absurd h
lists_in x (xs ∷ lists) h = elim (in_append_cases x xs (flat_map (λ xs. xs) lists) h) [
  | inl k ↦ (0, omega arith, k)
  | inr k ↦ let r = lists_in x lists k in (suc r.0, omega (arith, r.1), r.2)
]

module _ {f : Corner → Corner} {P : Corner → Type 0} {n : ℕ} {row : List Corner} (chains : AreChainsIn f P n row) where
  -- a side of a row has the row's property
  pub row_side : (e : Corner) → IsIn e row → P e
  row_side e h =
      let found = lists_in e chains.chains (subst (IsIn e) chains.all h) in
      let count = chains.as_many in
      (((chains.each found.0 (omega (arith, found.1))).sides e).0 found.2).1

  -- a side with the property is in the row
  pub in_row : (e : Corner) → e.polygon < n → P e → IsIn e row
  in_row e l p =
      let count = chains.as_many in
      subst (IsIn e) (sym chains.all) (in_lists e chains.chains e.polygon (omega arith) (((chains.each e.polygon l).sides e).1 (refl, p)))

-- the polygon of a side exists
pub polygon_exists : {X : Type 0} (polygons : List (List X)) (c : Corner) → HasSide polygons c → c.polygon < length polygons
polygon_exists polygons c h = let there = in_polygon polygons c h in slice_get_within polygons c.polygon there.polygon there.is

module _ (s : GluedPolygons) (surface : IsTranslationSurface s) (v : PlaneVector) (some : v ≢ vector_zero) where
  -- each outgoing side is in the top row
  pub in_top_row : {row : List Corner} → IsTopRow s v row → (f : Corner) → IsOutgoing s v f → IsIn f row
  in_top_row chains f o = in_row chains f (polygon_exists s.polygons f o.side) o

  -- each incoming side is in the bottom row
  pub in_bottom_row : {row : List Corner} → IsBottomRow s v row → (e : Corner) → IsIncoming s v e → IsIn e row
  in_bottom_row chains e i = in_row chains e (polygon_exists s.polygons e i.side) i

  -- no side is in a row twice
  pub top_row_distinct : {row : List Corner} → IsTopRow s v row → IsDistinct row
  top_row_distinct {row} chains =
      tiles_distinct (surface_order s surface) (outgoing_left s v) (side_width s v) _ (block_start s v (length s.polygons)) row
      (λ f h. outgoing_wide s surface v f (row_side chains f h)) (top_row_tiles s surface v some row chains)

  pub bottom_row_distinct : {row : List Corner} → IsBottomRow s v row → IsDistinct row
  bottom_row_distinct {row} chains =
      tiles_distinct (surface_order s surface) (incoming_left s v) (side_width s v) _ (block_start s v (length s.polygons)) row
      (λ e h. incoming_wide s surface v e (row_side chains e h)) (bottom_row_tiles s surface v some row chains)

  -- of two glued sides that the flow crosses one is outgoing: these are at most half of all sides
  pub half_outgoing : {top bottom : List Corner} → IsTopRow s v top → IsBottomRow s v bottom → 2 * length top ≤ sum_by length s.polygons
  half_outgoing {top} {bottom} out enter =
      let partners : length top ≤ length bottom = at_most_partners (λ x y. x ≡ y) (λ f e. e ≡ partner s.polygons f) top bottom
      (λ f h. (partner s.polygons f, in_bottom_row enter (partner s.polygons f) (partner_incoming s surface v f (row_side out f h)), refl))
      (λ f g e hf hg p q.
      sym (partner-partner s.polygons surface.glued f (row_side out f hf).side) ∙ ap (partner s.polygons) (sym p ∙ q) ∙ partner-partner s.polygons surface.glued g (row_side out g hg).side)
      (top_row_distinct out) in
      let both : length (top ++ bottom) ≤ length (all_sides s.polygons) = at_most_partners (λ x y. x ≡ y) (λ x y. x ≡ y) (top ++ bottom) (all_sides s.polygons)
      (λ e h. (e, in_all_sides s.polygons e (side_of e h), refl))
      (λ e g u he hg p q. p ∙ sym q)
      (apart_append (λ x y. x ≡ y) top bottom (top_row_distinct out) (bottom_row_distinct enter)
      (λ f e hf he same. not_both_ways s surface v e (row_side enter e he) (subst (IsOutgoing s v) same (row_side out f hf)))) in
      let sum = length-append top bottom in
      let all = length-all_sides s.polygons in
      omega arith
    where
      side_of : (e : Corner) → IsIn e (top ++ bottom) → HasSide s.polygons e
      side_of e h = elim (in_append_cases e top bottom h) [ inl k ↦ (row_side out e k).side | inr k ↦ (row_side enter e k).side ]
