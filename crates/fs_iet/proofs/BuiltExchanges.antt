-- What the parts of an exchange need while it is built, from its two rows.
use Rattle.std.proofs.Common.{◌≡◌, ◌≢◌, ℕ, ◌≤◌, Some, List, length, map, refl, sym, ap, ◌∙◌, subst, arith}
use Rattle.std.specs.List.{slice_get, AllByRecursion}
use Rattle.fs_lists.specs.Members.{IsIn}
use Rattle.fs_lists.proofs.All.{All-of_each, All-weaker}
use Rattle.fs_quadratic.specs.Ring.{Quadratic, zero as nil}
use Rattle.fs_plane.specs.declared.corners.Corner.{Corner}
use Rattle.fs_plane.specs.Vector.{PlaneVector, vector_zero}
use Rattle.fs_gluing.specs.CrossingMap.{IsIncoming, IsOutgoing, block_start}
use Rattle.fs_gluing.specs.Exchanges.{Component, Letter, AreChainsIn, IsTopRow, IsBottomRow, IsLetterOf, IsExchange}
use Rattle.fs_gluing.specs.Polygons.{HasSide}
use Rattle.fs_gluing.specs.Surface.{GluedPolygons, IsSurface}
use Rattle.fs_gluing.specs.SurfaceSides.{partner}
use Rattle.fs_iet.specs.ExchangeValue.{IsExchangeValue, most_letters}
use Rattle.fs_iet.proofs.ExchangeRows.{exchange_value}
use Rattle.fs_iet.proofs.ListsInTurn.{in_by_number}
use Rattle.fs_iet.proofs.SideMeasures.{partner_outgoing}
use Rattle.fs_iet.proofs.SidesOfRows.{row_side, in_top_row, half_outgoing}

-- each side of a row has the row's property
pub all_of_row : {f : Corner → Corner} {P : Corner → Type 0} {n : ℕ} {row : List Corner} → AreChainsIn f P n row → AllByRecursion P row
all_of_row {f} {P} {n} {row} chains = All-of_each P row (λ j x e. row_side chains x (in_by_number row j x e))

module _ (s : GluedPolygons) (surface : IsSurface s) (v : PlaneVector) (some : v ≢ vector_zero) (outgoing incoming : List Corner) (top : IsTopRow s v outgoing) (bottom : IsBottomRow s v incoming) where
  -- the rows are short
  pub top_row_short : length outgoing ≤ most_letters
  top_row_short = let half = half_outgoing s surface.surface v some top bottom in let most = surface.sides in omega arith

  -- their sides exist
  pub outgoing_there : AllByRecursion (HasSide s.polygons) outgoing
  outgoing_there = All-weaker outgoing (λ f (o : IsOutgoing s v f). o.side) (all_of_row top)

  pub incoming_there : AllByRecursion (HasSide s.polygons) incoming
  incoming_there = All-weaker incoming (λ e (i : IsIncoming s v e). i.side) (all_of_row bottom)

  -- the partners of the incoming ones are in the top row
  pub partners_there : AllByRecursion (λ e. IsIn (partner s.polygons e) outgoing) incoming
  partners_there =
      All-weaker incoming (λ e (i : IsIncoming s v e). in_top_row s surface.surface v some top (partner s.polygons e) (partner_outgoing s surface.surface v e i)) (all_of_row bottom)

-- the exchange of these parts, where the rows are read as slices
pub exchange_of_rows : (s : GluedPolygons) (v : PlaneVector) (outgoing incoming read again partners : List Corner) (total : Quadratic) (letters : List Letter) (names items : List ℕ)
    → IsTopRow s v outgoing → IsBottomRow s v incoming → total ≡ block_start s v (length s.polygons) → read ≡ outgoing → length letters ≡ length read
    → ((n : ℕ) (f : Corner) (letter : Letter) → slice_get read n ≡ Some f → slice_get letters n ≡ Some letter → IsLetterOf s v f n letter) → again ≡ outgoing → partners ≡ incoming
    → map (λ n. slice_get again n) items ≡ map (λ e. Some (partner s.polygons e)) partners → names ≡ items → IsExchange s v (record { base = nil; total = total; top = letters; bottom = names })
exchange_of_rows s v outgoing incoming read again partners total letters names items top bottom sum same as_many each same_again same_partners others same_names = record {
  base = refl;
  total = sum;
  outgoing = outgoing;
  incoming = incoming;
  top_row = top;
  bottom_row = bottom;
  as_many = as_many ∙ ap length same;
  letters = subst (λ row. (n : ℕ) (f : Corner) (letter : Letter) → slice_get row n ≡ Some f → slice_get letters n ≡ Some letter → IsLetterOf s v f n letter) same each;
  bottom = ap (map (λ n. slice_get outgoing n)) same_names
      ∙ (λ i. map (λ n. slice_get (sym same_again i) n) items)
      ∙ others
      ∙ ap (map (λ e. Some (partner s.polygons e))) same_partners;
}

-- it is the value of an exchange
pub value_of_field : (s : GluedPolygons) (d : ℕ) → IsSurface s → (v : PlaneVector) → v ≢ vector_zero → (c : Component) → d ≡ s.d → IsExchange s v c → IsExchangeValue (record { d = d; component = c })
value_of_field s d surface v some c same exchange = subst (λ (n : ℕ). IsExchangeValue (record { d = n; component = c })) (sym same) (exchange_value s surface v some c exchange)
