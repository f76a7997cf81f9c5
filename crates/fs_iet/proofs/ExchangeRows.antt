-- The exchange of a flow is lawful, and the left ends of its letters are the measures of their sides.
use Rattle.std.proofs.Common.{◌≡◌, ◌≢◌, ℕ, ◌<◌, ◌≤◌, Some, List, [], ◌∷◌, map, length, refl, sym, ap, ◌∙◌, subst, inl, inr, arith}
use Rattle.std.proofs.lemmas.Option.{same_Some}
use Rattle.std.specs.List.{slice_get, AllByRecursion}
use Rattle.fs_lists.specs.Members.{IsIn}
use Rattle.fs_quadratic.specs.Ring.{Quadratic, quadratic, IsPositive, add, total, zero as nil}
use Rattle.fs_plane.specs.declared.corners.Corner.{Corner}
use Rattle.fs_plane.specs.Vector.{PlaneVector, vector_zero}
use Rattle.fs_convex.proofs.Rows.{Tiles}
use Rattle.fs_gluing.specs.CrossingMap.{IsOutgoing, side_width, block_start, outgoing_left, incoming_left}
use Rattle.fs_gluing.specs.Exchanges.{Letter, Component, IsLawful, length_of, top_left, bottom_left, IsExchange}
use Rattle.fs_gluing.specs.Surface.{GluedPolygons, IsTranslationSurface, IsSurface}
use Rattle.fs_gluing.specs.SurfaceSides.{partner}
use Rattle.fs_iet.specs.ExchangeValue.{most_letters, IsExchangeValue}
use Rattle.fs_iet.proofs.Intervals.{tiles_lefts, tiles_total}
use Rattle.fs_iet.proofs.ListsInTurn.{in_by_number, number_of_member, maps_equal}
use Rattle.fs_iet.proofs.LetterRows.{length_of_letter, top_tiles, bottom_tiles}
use Rattle.fs_iet.proofs.PolygonMeasures.{runs_across, outgoing_numbered}
use Rattle.fs_iet.proofs.SideMeasures.{surface_order, outgoing_wide, incoming_partner_width}
use Rattle.fs_iet.proofs.SideRows.{top_row_tiles, bottom_row_tiles}
use Rattle.fs_iet.proofs.SidesOfRows.{in_top_row, half_outgoing}
use Rattle.fs_iet.proofs.ExchangeNames.{letter_of_side, side_of_letter, names_are_numbers, names_distinct, side_of_bottom, place_of_number, rows_permuted}

module _ (s : GluedPolygons) (surface : IsTranslationSurface s) (v : PlaneVector) (some : v ≢ vector_zero) where
  -- there is a side by which the flow leaves
  pub outgoing_exists : (f : Corner) × IsOutgoing s v f
  outgoing_exists =
      let runs = runs_across s surface v some 0 surface.some_polygon in
      let less = runs.4.some_negative in
      (_, outgoing_numbered s surface v 0 surface.some_polygon runs.4 runs.3 (omega arith) less)

  module _ {c : Component} (exchange : IsExchange s v c) where
    -- there is a letter
    pub some_letter : 0 < length c.top
    some_letter =
        let f = outgoing_exists in
        let many = exchange.as_many in
        go exchange.outgoing (in_top_row s surface v some exchange.top_row f.0 f.1) many
      where
        go : (row : List Corner) → IsIn outgoing_exists.0 row → length c.top ≡ length row → 0 < length c.top
        go [] h e = absurd h
        go (x ∷ row) h e = omega arith

    letters_long : AllByRecursion (λ letter. IsPositive s.d letter.length) c.top
    letters_long = go c.top (λ letter h. let number = number_of_member c.top letter h in let side = side_of_letter s surface v some exchange number.0 letter number.1 in
        subst (IsPositive s.d) (sym side.3.length) (outgoing_wide s surface v side.0 side.2))
      where
        go : (letters : List Letter) → ((letter : Letter) → IsIn letter letters → IsPositive s.d letter.length) → AllByRecursion (λ letter. IsPositive s.d letter.length) letters
        go [] long = tt
        go (letter ∷ letters) long = (long letter (inl refl), go letters (λ l h. long l (inr h)))

    lengths_sum : total (map (λ letter. letter.length) c.top) ≡ c.total
    lengths_sum =
        ap total (maps_equal (λ (l : Letter). l.length) (side_width s v) c.top exchange.outgoing exchange.as_many
        (λ n letter f e h. (exchange.letters n f letter h e).length))
        ∙ sym (tiles_total (surface_order s surface) (outgoing_left s v) (side_width s v) exchange.outgoing (top_row_tiles s surface v some exchange.outgoing exchange.top_row))
        ∙ sym exchange.total

    -- the exchange of a flow is lawful
    pub exchange_lawful : IsLawful s.d c
    exchange_lawful = record {
      some_letter = some_letter;
      names = names_distinct s surface v some exchange;
      rows = rows_permuted s surface v some exchange;
      lengths = letters_long;
      sum = lengths_sum;
    }

    -- ---- left ends

    abbrev end : Quadratic
    end = block_start s v (length s.polygons)

    -- in the top row a letter begins at the left end of its outgoing side
    pub top_left_is : (n : ℕ) (f : Corner) → slice_get exchange.outgoing n ≡ Some f → top_left c n ≡ outgoing_left s v f
    top_left_is n f e =
        let letter = letter_of_side s surface v some exchange n f e in
        ap (top_left c) (sym letter.2.named)
        ∙ tiles_lefts (quadratic s.d) (λ letter. top_left c letter.name) (λ letter. letter.length) (outgoing_left s v) (side_width s v)
        nil end (add c.base c.total) c.top exchange.outgoing
        (subst (λ b. Tiles (quadratic s.d) (λ letter. top_left c letter.name) (λ letter. letter.length) b c.top (add c.base c.total)) exchange.base (top_tiles (surface_order s surface) exchange_lawful))
        (top_row_tiles s surface v some exchange.outgoing exchange.top_row)
        (λ n letter f e h. (exchange.letters n f letter h e).length) n letter.0 f letter.1 e

    -- in the bottom row at the left end of the incoming side that this is glued to
    pub bottom_left_is : (n : ℕ) (f : Corner) → slice_get exchange.outgoing n ≡ Some f → bottom_left c n ≡ incoming_left s v (partner s.polygons f)
    bottom_left_is n f e =
        let place = place_of_number s surface v some exchange n f e in
        tiles_lefts (quadratic s.d) (bottom_left c) (length_of c.top) (incoming_left s v) (side_width s v)
        nil end (add c.base c.total) c.bottom exchange.incoming
        (subst (λ b. Tiles (quadratic s.d) (bottom_left c) (length_of c.top) b c.bottom (add c.base c.total)) exchange.base (bottom_tiles (surface_order s surface) exchange_lawful))
        (bottom_row_tiles s surface v some exchange.incoming exchange.bottom_row)
        (λ m n e h k.
        let side = side_of_bottom s surface v some exchange m n h in
        let letter = letter_of_side s surface v some exchange n (partner s.polygons side.0) side.3 in
        let one = same_item exchange.incoming m e side.0 k side.1 in
        ap (length_of c.top) (sym letter.2.named)
        ∙ length_of_letter c.top letter.0 (names_distinct s surface v some exchange) (in_by_number c.top n letter.0 letter.1)
        ∙ letter.2.length ∙ incoming_partner_width s surface v side.0 side.2 ∙ ap (side_width s v) (sym one))
        place.0 n (partner s.polygons f) place.1 place.2
      where
        same_item : (row : List Corner) (m : ℕ) (e g : Corner) → slice_get row m ≡ Some e → slice_get row m ≡ Some g → e ≡ g
        same_item row m e g h k = same_Some e g (sym h ∙ k)

-- of a surface within the limits it has at most 512 letters
pub few_letters : (s : GluedPolygons) → IsSurface s → (v : PlaneVector) → v ≢ vector_zero → (c : Component) → IsExchange s v c → length c.top ≤ most_letters
few_letters s surface v some c exchange =
    let half = half_outgoing s surface.surface v some exchange.top_row exchange.bottom_row in
    let many = exchange.as_many in
    let limit = surface.sides in
    omega arith

-- the exchange of a flow is what the type of exchanges keeps
pub exchange_value : (s : GluedPolygons) → IsSurface s → (v : PlaneVector) → v ≢ vector_zero → (c : Component) → IsExchange s v c → IsExchangeValue (record { d = s.d; component = c })
exchange_value s surface v some c exchange = record {
  base = exchange.base;
  named = names_are_numbers s surface.surface v some exchange;
  few = few_letters s surface v some c exchange;
  lawful = exchange_lawful s surface.surface v some exchange;
}
