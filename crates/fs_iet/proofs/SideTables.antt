-- Tables with an item for each side of polygons: one is written, or a row added.
use Rattle.std.proofs.Common.{◌≡◌, ◌≢◌, ◌⊎◌, ℕ, ◌+◌, ◌<◌, Option, Some, List, [], ◌∷◌, ◌++◌, length, map, set, get_or, refl, sym, ap, ◌∙◌, subst, inl, inr, arith}
use Rattle.std.proofs.lemmas.Bool.{cases_eq}
use Rattle.std.proofs.lemmas.List.{map-set, map-append, length-map}
use Rattle.std.proofs.lemmas.Option.{slice_get-map, slice_get-get_or, slice_get_within}
use Rattle.std.specs.Option.{IsSome, IfSome, option_and_then, option_map}
use Rattle.std.specs.List.{slice_get}
use Rattle.fs_lists.proofs.Items.{slice_get-set_same, slice_get-set_other, some_of_inside, value_holds, inside_of_some}
use Rattle.fs_plane.specs.declared.corners.Corner.{Corner}
use Rattle.fs_gluing.specs.Polygons.{at_side, HasSide}
use Rattle.fs_gluing.proofs.Base.Equality.{corner_eq, same_corner}
use Rattle.fs_gluing.proofs.SurfaceCalls.NextCorner.{in_polygon}
use Rattle.fs_iet.proofs.NumberedItems.{slice_get-before, slice_get-last}

-- the item in a row
abbrev in_row : {X : Type 0} → ℕ → Option (List X) → Option X
in_row j o = option_and_then (λ row. slice_get row j) o

module _ {X : Type 0} (rows : List (List X)) (c : Corner) (row : List X) (x : X) (there : slice_get rows c.polygon ≡ Some row) (inside : c.side < length row) where
  -- the table with x at c
  abbrev put : List (List X)
  put = set rows c.polygon (set row c.side x)

  put_row : slice_get put c.polygon ≡ Some (set row c.side x)
  put_row = slice_get-set_same rows c.polygon (set row c.side x) (slice_get_within rows c.polygon row there)

  put_here : at_side put c ≡ Some x
  put_here = ap (in_row c.side) put_row ∙ slice_get-set_same row c.side x inside

  put_others : (e : Corner) → e ≢ c → at_side put e ≡ at_side rows e
  put_others e n = elim (cases_eq e.polygon c.polygon) [
    | inl same ↦
        ap (λ (i : ℕ). in_row e.side (slice_get put i)) same
        ∙ ap (in_row e.side) put_row
        ∙ slice_get-set_other row c.side e.side x (λ h. n (corner_eq same h))
        ∙ sym (ap (λ (i : ℕ). in_row e.side (slice_get rows i)) same ∙ ap (in_row e.side) there)
    | inr other ↦ ap (in_row e.side) (slice_get-set_other rows c.polygon e.polygon (set row c.side x) other)
  ]

-- ---- rows of some type, of which each has a list of items

module _ {V X : Type 0} (items : V → List X) (rows : List V) where
  module _ (c : Corner) (row written : V) (x : X) (has : HasSide (map items rows) c) (read : row ≡ get_or rows c.polygon row) (is : items written ≡ set (items row) c.side x) where
    row_there : slice_get (map items rows) c.polygon ≡ Some (items row)
    row_there =
        let long = length-map rows items in
        let l = slice_get_within (map items rows) c.polygon (in_polygon (map items rows) c has).polygon (in_polygon (map items rows) c has).is in
        slice_get-map items rows c.polygon
        ∙ ap (option_map items) (slice_get-get_or rows c.polygon row (let m : c.polygon < length rows = omega arith in m))
        ∙ ap (λ (r : V). Some (items r)) (sym read)

    row_inside : c.side < length (items row)
    row_inside = inside_of_some (items row) c.side (subst IsSome (ap (in_row c.side) row_there) has)

    table_is : map items (set rows c.polygon written) ≡ put (map items rows) c (items row) x row_there row_inside
    table_is = map-set items rows c.polygon written ∙ ap (set (map items rows) c.polygon) is

    -- the item that is written
    pub written_here : at_side (map items (set rows c.polygon written)) c ≡ Some x
    written_here = ap (λ t. at_side t c) table_is ∙ put_here (map items rows) c (items row) x row_there row_inside

    -- all others stay
    pub written_others : (e : Corner) → e ≢ c → at_side (map items (set rows c.polygon written)) e ≡ at_side (map items rows) e
    written_others e n = ap (λ t. at_side t e) table_is ∙ put_others (map items rows) c (items row) x row_there row_inside e n

    -- no side is lost
    pub written_sides : (e : Corner) → HasSide (map items rows) e → HasSide (map items (set rows c.polygon written)) e
    written_sides e h = elim (same_corner e c) [
      | inl same ↦ subst (HasSide (map items (set rows c.polygon written))) (sym same) (subst IsSome (sym written_here) refl)
      | inr other ↦ subst IsSome (sym (written_others e other)) h
    ]

  -- one more row: there is an item for each side of the polygons so far
  pub rows_more : {Y : Type 0} (polygons : List (List Y)) (row : V) (more : List V) (i n : ℕ) → more ≡ rows ++ row ∷ [] → length rows ≡ i → i < length polygons → IfSome (slice_get polygons i) (λ polygon. n ≡ length polygon) → length (items row) ≡ n
      → ((c : Corner) → c.polygon < i → HasSide polygons c → HasSide (map items rows) c) → (c : Corner) → c.polygon < i + 1 → HasSide polygons c → HasSide (map items more) c
  rows_more polygons row more i n added as_many inside counted long before c below has = go (cases_eq c.polygon i)
    where
      whole : map items more ≡ map items rows ++ items row ∷ []
      whole = ap (map items) added ∙ map-append items rows (row ∷ [])

      rows_long : length (map items rows) ≡ i
      rows_long = length-map rows items ∙ as_many

      go : (c.polygon ≡ i) ⊎ (c.polygon ≡ i → ⊥) → HasSide (map items more) c
      go (inl same) =
          let there = in_polygon polygons c has in
          let side = there.inside in
          let count : n ≡ length there.polygon = value_holds (slice_get polygons i) (λ polygon. n ≡ length polygon) there.polygon (ap (slice_get polygons) (sym same) ∙ there.is) counted in
          let read : slice_get (map items more) c.polygon ≡ Some (items row)
          = ap (λ t. slice_get t c.polygon) whole ∙ ap (slice_get (map items rows ++ items row ∷ [])) (same ∙ sym rows_long) ∙ slice_get-last (map items rows) (items row) in
          subst IsSome (sym (ap (in_row c.side) read)) (some_of_inside (items row) c.side (omega arith))
      go (inr other) =
          let less : c.polygon < i = omega arith in
          let read : slice_get (map items more) c.polygon ≡ slice_get (map items rows) c.polygon
          = ap (λ t. slice_get t c.polygon) whole ∙ slice_get-before (map items rows) (items row) c.polygon (let l = rows_long in omega arith) in
          subst IsSome (sym (ap (in_row c.side) read)) (before c less has)
