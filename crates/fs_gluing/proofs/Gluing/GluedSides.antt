-- The sides of a polygon get their partners one by one, and so do the polygons.
use Rattle.std.proofs.Common.{◌≡◌, ℕ, ◌+◌, ◌-◌, ◌<◌, Option, Some, List, [], ◌∷◌, ◌++◌, length, drop, sym, ap, ◌∙◌, refl, subst, map, append_assoc, unwrap_or}
use Rattle.std.proofs.lemmas.List.{drop_more}
use Rattle.std.specs.Option.{IsSome}
use Rattle.std.specs.List.{AllByRecursion}
use Rattle.fs_lists.proofs.Items.{IsItem, drop_item}
use Rattle.fs_lists.proofs.Ranges.{range_more}
use Rattle.fs_plane.specs.Vector.{PlaneVector}
use Rattle.fs_plane.specs.declared.corners.Corner.{Corner}
use Rattle.fs_gluing.specs.declared.surfaces.Side.{Side}
use Rattle.fs_gluing.specs.declared.faults.BuildStop.{BuildStop}
use Rattle.fs_gluing.specs.Polygons.{all_sides, sides_from}
use Rattle.fs_gluing.specs.FirstFault.{stop_of, side_glued}
use Rattle.fs_gluing.specs.TestsInOrder.{PassesBefore, IsFirstStop}
use Rattle.fs_gluing.specs.Gluing.{sides_between, glued_polygon, glued_polygons}
use Rattle.fs_gluing.proofs.Base.TestsInOrder.{passes_before_more, passes_before_same, first_stop_of_rest, first_stop_of_prefix}

-- the first j sides have partners, and the row has these sides
pub record GluesSidesUpTo (p : Corner → Option Corner) (i : ℕ) (points : List PlaneVector) (j : ℕ) (row : List Side) : Type 0 where
  pub glued : row ++ glued_polygon p i j (drop j points) ≡ glued_polygon p i 0 points
  pub passed : PassesBefore (λ c. IsSome (p c)) (sides_between i 0 (length points)) (sides_between i j (length points - j))

-- the corners of polygon i with these numbers
abbrev numbered_corners : ℕ → List ℕ → List Corner
numbered_corners i js = map (λ k. record { polygon = i; side = k }) js

sides_between-more : (i j n : ℕ) → j < n → sides_between i j (n - j) ≡ record { polygon = i; side = j } ∷ sides_between i (j + 1) (n - (j + 1))
sides_between-more i j n l = ap (numbered_corners i) (range_more j n l)

-- the side c with this vector and the partner that p gives
abbrev pub side_of : (Corner → Option Corner) → Corner → PlaneVector → Side
side_of p c a = record { vector = a; partner = unwrap_or (p c) c }

-- one more side gets its partner
pub glue_more : (p : Corner → Option Corner) (i : ℕ) (points : List PlaneVector) (j : ℕ) (row : List Side) (a : PlaneVector) (partner k : Corner) → k ≡ record { polygon = i; side = j } → IsItem points j a
    → p k ≡ Some partner → GluesSidesUpTo p i points j row
    → GluesSidesUpTo p i points (j + 1) (row ++ record { vector = a; partner = partner } ∷ [])
glue_more p i points j row a partner k corner item found w =
    let c : Corner = record { polygon = i; side = j } in
    let is : p c ≡ Some partner = ap p (sym corner) ∙ found in
    let rest : List Side = glued_polygon p i (j + 1) (drop (j + 1) points) in
    let there : unwrap_or (p c) c ≡ partner = ap (λ o. unwrap_or o c) is in
    record {
      glued = append_assoc row _ rest
          ∙ ap (λ e. row ++ record { vector = a; partner = e } ∷ rest) (sym there)
          ∙ ap (λ x. row ++ side_of p c x ∷ rest) item.is
          ∙ ap (λ xs. row ++ glued_polygon p i j xs) (sym (drop_more points j a item.inside))
          ∙ w.glued;
      passed = passes_before_more _ _ (c ∷ []) _ (passes_before_same _ _ _ _ (sides_between-more i j (length points) item.inside) w.passed) (subst IsSome (sym is) refl, tt);
    }

-- the sides of the first i polygons have partners, and the rows are these polygons
pub record GluesPolygonsUpTo (p : Corner → Option Corner) (polygons : List (List PlaneVector)) (i : ℕ) (rows : List (List Side)) : Type 0 where
  pub glued : rows ++ glued_polygons p i (drop i polygons) ≡ glued_polygons p 0 polygons
  pub passed : PassesBefore (λ c. IsSome (p c)) (all_sides polygons) (sides_from i (drop i polygons))

sides_from-more : (polygons : List (List PlaneVector)) (i : ℕ) (points : List PlaneVector) → IsItem polygons i points
    → sides_from i (drop i polygons) ≡ sides_between i 0 (length points) ++ sides_from (i + 1) (drop (i + 1) polygons)
sides_from-more polygons i points item = ap (sides_from i) (drop_item polygons i points item)

-- one more polygon is glued
pub rows_more : (p : Corner → Option Corner) (polygons : List (List PlaneVector)) (i : ℕ) (rows : List (List Side)) (points : List PlaneVector) (row : List Side) → IsItem polygons i points
    → row ≡ glued_polygon p i 0 points → AllByRecursion (λ c. IsSome (p c)) (sides_between i 0 (length points)) → GluesPolygonsUpTo p polygons i rows
    → GluesPolygonsUpTo p polygons (i + 1) (rows ++ row ∷ [])
rows_more p polygons i rows points row item is a w =
    let rest : List (List Side) = glued_polygons p (i + 1) (drop (i + 1) polygons) in
    record {
      glued = append_assoc rows _ rest
          ∙ ap (λ r. rows ++ r ∷ rest) is
          ∙ ap (λ xs. rows ++ glued_polygon p i 0 xs ∷ rest) item.is
          ∙ ap (λ xs. rows ++ glued_polygons p i xs) (sym (drop_more polygons i points item.inside))
          ∙ w.glued;
      passed = passes_before_more _ _ _ _ (passes_before_same _ _ _ _ (sides_from-more polygons i points item) w.passed) a;
    }

-- a side of the next polygon has no partner, and it is the first of all sides without one
pub rows_fail : (p : Corner → Option Corner) (polygons : List (List PlaneVector)) (i : ℕ) (rows : List (List Side)) (points : List PlaneVector) (e : BuildStop) → IsItem polygons i points
    → IsFirstStop (λ c. IsSome (p c)) (sides_between i 0 (length points)) (λ c. stop_of (side_glued c)) e → GluesPolygonsUpTo p polygons i rows
    → IsFirstStop (λ c. IsSome (p c)) (all_sides polygons) (λ c. stop_of (side_glued c)) e
rows_fail p polygons i rows points e item a w =
    first_stop_of_rest _ _ _ _ _ (passes_before_same _ _ _ _ (sides_from-more polygons i points item) w.passed) (first_stop_of_prefix _ _ _ _ _ a)
