-- The answers to `delaunay` and `cells`: the Delaunay run from the first cut of the surface, and the texts.
use Rattle.std.specs.Prelude.{◌≡◌, ℕ, ◌+◌, ◌*◌, ◌/◌, Bool, true, false, Ok, Err, List, [], ◌∷◌, ◌++◌, length, codes, unsigned_abs}
use Rattle.std.specs.Fmt.{decimal}
use Rattle.std.specs.List.{flat_map, range_with_len}
use Rattle.fs_fraction.specs.Fraction.{reduced}
use Rattle.fs_fraction.specs.Number.{spelling}
use Rattle.fs_plane.specs.declared.sites.Site.{Site}
use Rattle.fs_plane.specs.declared.sites.Stop.{Stop}
use Rattle.fs_plane.specs.declared.sites.Stop.TheVariants.{Undecided, Overflow, NoMemory}
use Rattle.fs_plane.specs.Vector.{PlaneVector}
use Rattle.fs_gluing.specs.Surface.{GluedPolygons}
use Rattle.fs_gluing.specs.Triangulation.{Triangulation, IsCutFrom, edge_vector, edge_twin}
use Rattle.fs_mesh.specs.Meshes.{MeshValue}
use Rattle.fs_delaunay.specs.Runs.{IsFirstMesh, IsDelaunayRun}
use Rattle.fs_delaunay.specs.CheckedRuns.{EndsRun}
use Rattle.fs_delaunay.specs.Cells.{AreCells}
use Rattle.fs_report.specs.Text.{line_of, overflow_line}

-- ---- the run

-- flips of these edges, no more than the budget, lead from the mesh of the first cut of the surface to this one, whose triangulation is a Delaunay one, to which the surface is cut and pasted
pub record IsDelaunayOf (s : GluedPolygons) (budget : ℕ) (edges : List ℕ) (m : MeshValue) : Type 0 where
  pub start : MeshValue
  pub first : IsFirstMesh s start
  pub ends : EndsRun start budget (Ok (record { edges = edges; mesh = m }))
  pub run : IsDelaunayRun s.d start.triangles edges m.triangles
  pub cut : ∥ IsCutFrom s m.triangles ∥₁

-- the budget of flips is spent before the triangulation is a Delaunay one
abbrev pub undecided_line : List ℕ → ℕ → List ℕ
undecided_line words budget = line_of (words ++ codes " undecided flips " ++ decimal budget)

-- the line, after these words, of a run that stops so; where memory runs out there is none
abbrev pub IsStopText : Stop → List ℕ → List ℕ → Bool → Type 0
IsStopText (Overflow site) words text partial = (text ≡ overflow_line words site) × (partial ≡ true)
IsStopText (Undecided n) words text partial = (text ≡ undecided_line words n) × (partial ≡ true)
IsStopText NoMemory words text partial = ⊥

-- the answer, after these words, where the run leads to no Delaunay triangulation
pub data AnswersStopped (s : GluedPolygons) (budget : ℕ) (words text : List ℕ) (partial : Bool) : Type 0 where
  -- a formula of the run overflows
  overflowed : (start : MeshValue) (site : Site) → IsFirstMesh s start → EndsRun start budget (Err (Overflow site)) → text ≡ overflow_line words site → partial ≡ true
      → AnswersStopped s budget words text partial
  -- an edge is illegal after as many flips as the budget allows
  undecided : (start : MeshValue) → IsFirstMesh s start → EndsRun start budget (Err (Undecided budget)) → text ≡ undecided_line words budget → partial ≡ true
      → AnswersStopped s budget words text partial

-- ---- delaunay

-- how many flips there were
abbrev pub delaunay_line : List ℕ → List ℕ
delaunay_line edges = line_of (codes "delaunay flips " ++ decimal (length edges))

-- the line of a flip: its edge
abbrev pub flip_line : ℕ → List ℕ
flip_line e = line_of (codes "flip " ++ decimal e)

-- the lines of flips, in order
abbrev pub flip_lines : List ℕ → List ℕ
flip_lines edges = flat_map flip_line edges

-- x,y of a scaled vector, unscaled
abbrev pub vector_text : ℕ → PlaneVector → List ℕ
vector_text den v = spelling (reduced v.x den) ++ codes "," ++ spelling (reduced v.y den)

-- the vectors of the half-edges of face f
abbrev pub face_vectors : ℕ → Triangulation → ℕ → List ℕ
face_vectors den t f = vector_text den (edge_vector t (3 * f)) ++ codes " " ++ vector_text den (edge_vector t (3 * f + 1)) ++ codes " " ++ vector_text den (edge_vector t (3 * f + 2))

-- their twins
abbrev pub face_twins : Triangulation → ℕ → List ℕ
face_twins t f = decimal (edge_twin t (3 * f)) ++ codes " " ++ decimal (edge_twin t (3 * f + 1)) ++ codes " " ++ decimal (edge_twin t (3 * f + 2))

-- the line of a face
abbrev pub face_line : ℕ → Triangulation → ℕ → List ℕ
face_line den t f = line_of (codes "face " ++ decimal f ++ codes " " ++ face_vectors den t f ++ codes " twins " ++ face_twins t f)

-- the lines of the faces from f on, n of them, in order
abbrev pub face_lines : ℕ → Triangulation → ℕ → ℕ → List ℕ
face_lines den t f n = flat_map (face_line den t) (range_with_len f n)

-- the flips, and the faces after them
abbrev pub delaunay_text : ℕ → List ℕ → Triangulation → List ℕ
delaunay_text den edges t = delaunay_line edges ++ flip_lines edges ++ face_lines den t 0 (length t.vectors / 3)

-- the answer to `delaunay` about a surface, within a budget of flips
pub data AnswersDelaunay (s : GluedPolygons) (budget : ℕ) (text : List ℕ) (partial : Bool) : Type 0 where
  -- the run leads to this Delaunay triangulation
  whole : (edges : List ℕ) (m : MeshValue) → IsDelaunayOf s budget edges m → text ≡ delaunay_text (unsigned_abs s.den) edges m.triangles → partial ≡ false → AnswersDelaunay s budget text partial
  -- it leads to none
  stopped : AnswersStopped s budget (codes "delaunay") text partial → AnswersDelaunay s budget text partial

-- ---- cells

-- how many cells there are, and how many flips there were
abbrev pub cells_line : ℕ → ℕ → List ℕ
cells_line cells flips = line_of (codes "cells " ++ decimal cells ++ codes " flips " ++ decimal flips)

-- numbers with a space before each
abbrev pub spaced_numbers : List ℕ → List ℕ
spaced_numbers numbers = flat_map (λ n. codes " " ++ decimal n) numbers

-- the line of cell c: its faces
abbrev pub cell_line : ℕ → List ℕ → List ℕ
cell_line c faces = line_of (codes "cell " ++ decimal c ++ codes " faces" ++ spaced_numbers faces)

-- the lines of cells, of which the first has the number c
abbrev pub cell_lines : ℕ → List (List ℕ) → List ℕ
cell_lines c [] = []
cell_lines c (faces ∷ cells) = cell_line c faces ++ cell_lines (c + 1) cells

-- the cells after the flips
abbrev pub cells_text : List ℕ → List (List ℕ) → List ℕ
cells_text edges cells = cells_line (length cells) (length edges) ++ cell_lines 0 cells

-- the answer to `cells` about a surface, within a budget of flips
pub data AnswersCells (s : GluedPolygons) (budget : ℕ) (text : List ℕ) (partial : Bool) : Type 0 where
  -- the run leads to a Delaunay triangulation, whose cells are these
  celled : (edges : List ℕ) (m : MeshValue) (cells : List (List ℕ)) → IsDelaunayOf s budget edges m → AreCells s.d m.triangles cells → text ≡ cells_text edges cells → partial ≡ false
      → AnswersCells s budget text partial
  -- it leads to none
  not_celled : AnswersStopped s budget (codes "cells") text partial → AnswersCells s budget text partial
