-- The names of the exchange of a flow: those of the top row are their numbers, and the bottom row has the same.
use Rattle.std.proofs.Common.{◌≡◌, ◌≢◌, ℕ, Option, Some, List, length, IsPermutation, sym, ap, ◌∙◌, subst, arith}
use Rattle.std.proofs.lemmas.Option.{slice_get_within, same_Some}
use Rattle.std.specs.List.{slice_get, range_with_len}
use Rattle.fs_lists.specs.Members.{IsDistinct}
use Rattle.fs_lists.proofs.Members.{apart_map}
use Rattle.fs_lists.proofs.Items.{item_inside}
use Rattle.fs_lists.proofs.Ranges.{in_range, range_bounds, range_distinct}
use Rattle.fs_plane.specs.declared.corners.Corner.{Corner}
use Rattle.fs_plane.specs.Vector.{PlaneVector, vector_zero}
use Rattle.fs_gluing.specs.CrossingMap.{IsIncoming, IsOutgoing}
use Rattle.fs_gluing.specs.Exchanges.{Letter, Component, names_of, IsLetterOf, IsExchange}
use Rattle.fs_gluing.specs.Surface.{GluedPolygons, IsTranslationSurface}
use Rattle.fs_gluing.specs.SurfaceSides.{partner}
use Rattle.fs_gluing.proofs.Sides.PartnerSides.{partner-partner}
use Rattle.fs_iet.proofs.Rearrangements.{permutation_of_members}
use Rattle.fs_iet.proofs.ListsInTurn.{in_by_number, number_of_member, number_unique, item_of_other, equal_maps, equal_maps_length, distinct_of_map, map_is_range}
use Rattle.fs_iet.proofs.SideMeasures.{partner_incoming}
use Rattle.fs_iet.proofs.SidesOfRows.{row_side, in_top_row, in_bottom_row, top_row_distinct, bottom_row_distinct}

module _ (s : GluedPolygons) (surface : IsTranslationSurface s) (v : PlaneVector) (some : v ≢ vector_zero) {c : Component} (exchange : IsExchange s v c) where
  -- the letter of each outgoing side
  pub letter_of_side : (n : ℕ) (f : Corner) → slice_get exchange.outgoing n ≡ Some f → (letter : Letter) × (slice_get c.top n ≡ Some letter) × IsLetterOf s v f n letter
  letter_of_side n f e =
      let letter = item_of_other exchange.outgoing c.top n f (sym exchange.as_many) e in
      (letter.0, letter.1, exchange.letters n f letter.0 e letter.1)

  -- the outgoing side of each letter
  pub side_of_letter : (n : ℕ) (letter : Letter) → slice_get c.top n ≡ Some letter → (f : Corner) × (slice_get exchange.outgoing n ≡ Some f) × IsOutgoing s v f × IsLetterOf s v f n letter
  side_of_letter n letter e =
      let f = item_of_other c.top exchange.outgoing n letter exchange.as_many e in
      (f.0, f.1, row_side exchange.top_row f.0 (in_by_number exchange.outgoing n f.0 f.1), exchange.letters n f.0 letter f.1 e)

  -- an outgoing side has a number
  pub number_of_side : (f : Corner) → IsOutgoing s v f → (n : ℕ) × (slice_get exchange.outgoing n ≡ Some f)
  number_of_side f o = number_of_member exchange.outgoing f (in_top_row s surface v some exchange.top_row f o)

  -- the names of the top row are the numbers from 0 on
  pub names_are_numbers : names_of c.top ≡ range_with_len 0 (length c.top)
  names_are_numbers =
      map_is_range (λ (l : Letter). l.name) c.top 0
      (λ n m letter e h. let side = side_of_letter n letter h in let named = side.3.named in let same : n ≡ m = omega arith in named ∙ same)

  -- they differ
  pub names_distinct : IsDistinct (names_of c.top)
  names_distinct = subst (λ (names : List ℕ). IsDistinct names) (sym names_are_numbers) (range_distinct 0 (length c.top))

  abbrev side_at : ℕ → Option Corner
  side_at n = slice_get exchange.outgoing n

  abbrev partner_at : Corner → Option Corner
  partner_at e = Some (partner s.polygons e)

  bottom_count : length c.bottom ≡ length exchange.incoming
  bottom_count = equal_maps_length side_at partner_at c.bottom exchange.incoming exchange.bottom

  -- the side that the bottom row has at a place: its partner has the name there for its number
  pub side_of_bottom : (m n : ℕ) → slice_get c.bottom m ≡ Some n
      → (e : Corner) × (slice_get exchange.incoming m ≡ Some e) × IsIncoming s v e × (slice_get exchange.outgoing n ≡ Some (partner s.polygons e))
  side_of_bottom m n h =
      let e = item_of_other c.bottom exchange.incoming m n bottom_count h in
      (e.0, e.1, row_side exchange.bottom_row e.0 (in_by_number exchange.incoming m e.0 e.1), equal_maps side_at partner_at c.bottom exchange.incoming exchange.bottom m n e.0 h e.1)

  -- the place of each number in the bottom row
  pub place_of_number : (n : ℕ) (f : Corner) → slice_get exchange.outgoing n ≡ Some f → (m : ℕ) × (slice_get c.bottom m ≡ Some n) × (slice_get exchange.incoming m ≡ Some (partner s.polygons f))
  place_of_number n f h =
      let o = row_side exchange.top_row f (in_by_number exchange.outgoing n f h) in
      let e = partner s.polygons f in
      let place = number_of_member exchange.incoming e (in_bottom_row s surface v some exchange.bottom_row e (partner_incoming s surface v f o)) in
      let name = item_of_other exchange.incoming c.bottom place.0 e (sym bottom_count) place.1 in
      let there = equal_maps side_at partner_at c.bottom exchange.incoming exchange.bottom place.0 name.0 e name.1 place.1 in
      let same : name.0 ≡ n = number_unique exchange.outgoing (top_row_distinct s surface v some exchange.top_row) name.0 n f
      (there ∙ ap Some (partner-partner s.polygons surface.glued f o.side)) h in
      (place.0, name.1 ∙ ap Some same, place.1)

  -- the names of the bottom row differ
  pub bottom_names_distinct : IsDistinct c.bottom
  bottom_names_distinct =
      distinct_of_map side_at c.bottom
      (subst (λ (xs : List (Option Corner)). IsDistinct xs) (sym exchange.bottom)
      (apart_map partner_at (λ x y. x ≡ y) (λ x y. x ≡ y) exchange.incoming
      (λ e g he hg same.
      sym (partner-partner s.polygons surface.glued e (row_side exchange.bottom_row e he).side)
      ∙ ap (partner s.polygons) (same_Some (partner s.polygons e) (partner s.polygons g) same)
      ∙ partner-partner s.polygons surface.glued g (row_side exchange.bottom_row g hg).side)
      (bottom_row_distinct s surface v some exchange.bottom_row)))

  -- both rows have the same names
  pub rows_permuted : IsPermutation (names_of c.top) c.bottom
  rows_permuted =
      subst (λ names. IsPermutation names c.bottom) (sym names_are_numbers)
      (permutation_of_members (range_with_len 0 (length c.top)) c.bottom (range_distinct 0 (length c.top)) bottom_names_distinct
      (λ n h.
      let bounds = range_bounds 0 (length c.top) n h in
      let below = bounds.1 in
      let many = exchange.as_many in
      let f = item_inside exchange.outgoing n (omega arith) in
      let place = place_of_number n f.value f.is in
      in_by_number c.bottom place.0 n place.1)
      (λ n h.
      let place = number_of_member c.bottom n h in
      let side = side_of_bottom place.0 n place.1 in
      let inside = slice_get_within exchange.outgoing n (partner s.polygons side.0) side.3 in
      let many = exchange.as_many in
      in_range 0 (length c.top) n (omega arith) (omega arith)))
