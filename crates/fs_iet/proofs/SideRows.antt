-- The rows of a surface and a flow: there are such rows, and the intervals of the sides of each fill the positions.
use Rattle.std.proofs.Common.{◌≡◌, ◌≢◌, ℕ, suc, ◌+◌, ◌<◌, List, [], length, get_or, refl, sym, subst, arith}
use Rattle.std.specs.List.{flat_map}
use Rattle.fs_quadratic.specs.Ring.{Quadratic, quadratic, zero as nil}
use Rattle.fs_plane.specs.declared.corners.Corner.{Corner}
use Rattle.fs_plane.specs.Vector.{PlaneVector, vector_zero}
use Rattle.fs_convex.proofs.Rows.{Tiles}
use Rattle.fs_gluing.specs.CrossingMap.{IsIncoming, IsOutgoing, side_width, block_start, outgoing_left, incoming_left}
use Rattle.fs_gluing.specs.Exchanges.{IsChainIn, AreChainsIn, IsTopRow, IsBottomRow}
use Rattle.fs_gluing.specs.NextCorner.{corner_after, side_before}
use Rattle.fs_gluing.specs.Surface.{GluedPolygons, IsTranslationSurface}
use Rattle.fs_iet.proofs.Chains.{lists_by_numbers, tiles_of_lists}
use Rattle.fs_iet.proofs.PolygonMeasures.{runs_across}
use Rattle.fs_iet.proofs.PolygonChains.{outgoing_tiles, incoming_tiles, outgoing_chain, incoming_chain}

-- a chain for each polygon makes a row
row_of_chains : (f : Corner → Corner) (P : Corner → Type 0) (n : ℕ) → ((i : ℕ) → i < n → (chain : List Corner) × IsChainIn f P i chain) → (row : List Corner) × AreChainsIn f P n row
row_of_chains f P n each =
    let lists = lists_by_numbers (IsChainIn f P) n each n 0 (omega arith) in (
      flat_map (λ chain. chain) lists.0,
      record { chains = lists.0; as_many = lists.1; each = λ i l. lists.2 i i (omega arith) l; all = refl },
    )

module _ (s : GluedPolygons) (surface : IsTranslationSurface s) (v : PlaneVector) (some : v ≢ vector_zero) where
  -- there is a top row, and a bottom row
  pub top_row_exists : (row : List Corner) × IsTopRow s v row
  top_row_exists =
      row_of_chains (side_before s.polygons) (IsOutgoing s v) (length s.polygons)
      (λ i l. let runs = runs_across s surface v some i l in outgoing_chain s surface v i l runs.4)

  pub bottom_row_exists : (row : List Corner) × IsBottomRow s v row
  bottom_row_exists =
      row_of_chains (corner_after s.polygons) (IsIncoming s v) (length s.polygons)
      (λ i l. let runs = runs_across s surface v some i l in incoming_chain s surface v i l runs.4)

  -- the intervals of a row fill the positions
  row_tiles : (f : Corner → Corner) (P : Corner → Type 0) (left : Corner → Quadratic) (row : List Corner)
      → ((i : ℕ) → i < length s.polygons → (chain : List Corner) → IsChainIn f P i chain → Tiles (quadratic s.d) left (side_width s v) (block_start s v i) chain (block_start s v (suc i)))
      → AreChainsIn f P (length s.polygons) row → Tiles (quadratic s.d) left (side_width s v) nil row (block_start s v (length s.polygons))
  row_tiles f P left row each chains =
      let count = chains.as_many in
      subst (λ (m : ℕ). Tiles (quadratic s.d) left (side_width s v) nil row (block_start s v m)) (let e : 0 + length chains.chains ≡ length s.polygons = omega arith in e)
      (subst (λ xs. Tiles (quadratic s.d) left (side_width s v) nil xs (block_start s v (0 + length chains.chains))) (sym chains.all)
      (tiles_of_lists (quadratic s.d) left (side_width s v) (block_start s v) 0 chains.chains
      (λ j m e l.
      let same : j ≡ m = omega arith in
      subst (λ (k : ℕ). Tiles (quadratic s.d) left (side_width s v) (block_start s v k) (get_or chains.chains j []) (block_start s v (suc k))) same
      (each j (omega arith) (get_or chains.chains j []) (chains.each j (omega arith))))))

  pub top_row_tiles : (row : List Corner) → IsTopRow s v row → Tiles (quadratic s.d) (outgoing_left s v) (side_width s v) nil row (block_start s v (length s.polygons))
  top_row_tiles row chains =
      row_tiles (side_before s.polygons) (IsOutgoing s v) (outgoing_left s v) row
      (λ i l chain c. let runs = runs_across s surface v some i l in outgoing_tiles s surface v i l runs.4 chain c.sides c.in_turn) chains

  pub bottom_row_tiles : (row : List Corner) → IsBottomRow s v row → Tiles (quadratic s.d) (incoming_left s v) (side_width s v) nil row (block_start s v (length s.polygons))
  bottom_row_tiles row chains =
      row_tiles (corner_after s.polygons) (IsIncoming s v) (incoming_left s v) row
      (λ i l chain c. let runs = runs_across s surface v some i l in incoming_tiles s surface v i l runs.4 chain c.sides c.in_turn) chains
