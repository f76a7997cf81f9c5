-- The glue lines of a staircase, side after side.
use Rattle.std.proofs.Common.{◌≡◌, ℕ, ◌+◌, List, [], ◌∷◌, ◌++◌, map, filter, sym, ap, ◌∙◌, append_assoc, arith}
use Rattle.std.proofs.lemmas.List.{map-append, map-id, flat_map_more}
use Rattle.std.proofs.lemmas.List.Elements.{filter-append}
use Rattle.std.proofs.lemmas.List.FromFn.{map-range_with_len_more}
use Rattle.std.specs.List.{range_with_len, flat_map}
use Rattle.fs_plane.specs.declared.corners.Corner.{Corner}
use Rattle.fs_gluing.specs.declared.shapes.Glue.{Glue}
use Rattle.fs_gluing.specs.Gluing.{sides_between}
use Rattle.fs_workload.specs.Staircase.{is_lesser, glue_line, lines_of, rectangle_sides}

-- the lines of two lists of sides
lines_append : (k : ℕ) (sides others : List Corner) → lines_of k sides ++ lines_of k others ≡ lines_of k (sides ++ others)
lines_append k sides others = sym (ap (map (glue_line k)) (filter-append (is_lesser k) sides others) ∙ map-append (glue_line k) (filter (is_lesser k) sides) (filter (is_lesser k) others))

-- the lines of one side more
pub lines_side : (k i j : ℕ) (before : List Glue) → (before ++ lines_of k (sides_between i 0 j)) ++ lines_of k (record { polygon = i; side = j } ∷ []) ≡ before ++ lines_of k (sides_between i 0 (j + 1))
lines_side k i j before =
    append_assoc before (lines_of k (sides_between i 0 j)) (lines_of k (record { polygon = i; side = j } ∷ []))
    ∙ ap (λ lines. before ++ lines) (lines_append k (sides_between i 0 j) (record { polygon = i; side = j } ∷ [])
    ∙ ap (lines_of k) (sym (map-range_with_len_more (λ (s : ℕ). record { polygon = i; side = s }) 0 j j (omega arith))))

range_next : (n : ℕ) → range_with_len 0 n ++ n ∷ [] ≡ range_with_len 0 (n + 1)
range_next n =
    ap (λ xs. xs ++ n ∷ []) (sym (map-id (range_with_len 0 n))) ∙ sym (map-range_with_len_more (λ (x : ℕ). x) 0 n n (omega arith)) ∙ map-id (range_with_len 0 (n + 1))

-- the lines of one rectangle more
pub lines_rectangle : (k i : ℕ) → lines_of k (rectangle_sides i) ++ lines_of k (sides_between i 0 4) ≡ lines_of k (rectangle_sides (i + 1))
lines_rectangle k i =
    lines_append k (rectangle_sides i) (sides_between i 0 4)
    ∙ ap (lines_of k) (flat_map_more (λ (h : ℕ). sides_between h 0 4) [] (range_with_len 0 i) i ∙ ap (flat_map (λ (h : ℕ). sides_between h 0 4)) (range_next i))
