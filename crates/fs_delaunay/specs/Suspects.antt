-- Marks of half-edges whose edges may fail: which are first, and what a triangulation says of those without a mark. Only proofs and inner calls of this crate cite it; public contracts don't.
use Rattle.std.specs.Prelude.{◌≡◌, ℕ, ◌*◌, ◌/◌, ◌<◌, ◌≤◌, ◌^◌, Bool, true, false, cond, ltb, List, [], ◌∷◌, length, Option, Some, None, slice_index_or, slice_set}
use Rattle.fs_gluing.specs.Triangulation.{Triangulation, IsEdge, edge_twin, next_in_face, prev_in_face}
use Rattle.fs_delaunay.specs.CheckedRuns.{Passes}

-- whether number h is marked
abbrev pub mark_of : List Bool → ℕ → Bool
mark_of marks h = slice_index_or marks h false

-- no number from the one up to the other is marked
abbrev pub HasNoMark : List Bool → ℕ → ℕ → Type 0
HasNoMark marks from to = (o : ℕ) → from ≤ o → o < to → mark_of marks o ≡ false

-- h is the first number from there on that is marked
pub record IsFirstMark (marks : List Bool) (from h : ℕ) : Type 0 where
  pub after : from ≤ h
  pub there : h < length marks
  pub marked : mark_of marks h ≡ true
  pub before : HasNoMark marks from h

-- the first marked number from there on, below some number, or none
abbrev pub FindsMark : List Bool → ℕ → ℕ → Option ℕ → Type 0
FindsMark marks from to (Some h) = IsFirstMark marks from h
FindsMark marks from to None = HasNoMark marks from to

-- the marks come in blocks of 64: a block with a mark is marked itself
pub record AreBlocks (marks blocks : List Bool) : Type 0 where
  pub few : length marks < 2 ^ 32
  pub few_blocks : length blocks < 2 ^ 32
  pub whole : length marks ≤ 64 * length blocks
  pub marked : (h : ℕ) → mark_of marks h ≡ true → mark_of blocks (h / 64) ≡ true

-- the number that names the edge of half-edge h, the lesser of its two
abbrev pub edge_name : Triangulation → ℕ → ℕ
edge_name t h = cond (ltb h (edge_twin t h)) h (edge_twin t h)

-- marks with these numbers marked too
abbrev pub with_marks : List Bool → List ℕ → List Bool
with_marks marks [] = marks
with_marks marks (h ∷ hs) = with_marks (slice_set marks h true) hs

-- the edge of half-edge e, and those of the four sides of its hinge
abbrev pub hinge_edges : Triangulation → ℕ → List ℕ
hinge_edges t e =
    e ∷ edge_name t (next_in_face e) ∷ edge_name t (prev_in_face e) ∷ edge_name t (next_in_face (edge_twin t e)) ∷ edge_name t (prev_in_face (edge_twin t e)) ∷ []

-- each edge that isn't marked passes
pub record MarksSuspects (d : ℕ) (t : Triangulation) (marks : List Bool) : Type 0 where
  pub as_many : length marks ≡ length t.vectors
  pub passes : (e : ℕ) → IsEdge t e → mark_of marks e ≡ false → Passes d t e
