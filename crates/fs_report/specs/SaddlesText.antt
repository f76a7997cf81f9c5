-- The answer to `saddles`: the saddle list of the surface.
use Rattle.std.specs.Prelude.{◌≡◌, ℕ, Bool, true, false, Ok, Err, List, ◌++◌, length, codes, unsigned_abs}
use Rattle.std.specs.Fmt.{decimal}
use Rattle.std.specs.List.{flat_map}
use Rattle.fs_quadratic.specs.Ring.{Quadratic}
use Rattle.fs_fraction.specs.Fraction.{reduced}
use Rattle.fs_fraction.specs.Number.{spelling}
use Rattle.fs_plane.specs.declared.listing.Listed.{Listed}
use Rattle.fs_plane.specs.declared.sites.Site.{Site}
use Rattle.fs_plane.specs.declared.sites.Stop.{Stop}
use Rattle.fs_plane.specs.declared.sites.Stop.TheVariants.{Undecided, Overflow, NoMemory}
use Rattle.fs_gluing.specs.Surface.{GluedPolygons}
use Rattle.fs_mesh.specs.Meshes.{MeshValue}
use Rattle.fs_saddles.specs.Saddles.{SaddleList, EndsSaddles}
use Rattle.fs_saddles.specs.WholeLists.{IsSaddleListOf}
use Rattle.fs_report.specs.DelaunayText.{IsDelaunayOf, AnswersStopped, vector_text}
use Rattle.fs_report.specs.Text.{line_of, corner_text, overflow_line}

-- the command with its limit
abbrev pub saddles_words : Quadratic → List ℕ
saddles_words limit = codes "saddles " ++ spelling (reduced limit 1)

-- after these words, how many entries the list has, how many words are live, and how many flips there were
abbrev pub saddles_line : List ℕ → List ℕ → SaddleList → List ℕ
saddles_line words edges saddles =
    line_of (words ++ codes " count " ++ decimal (length saddles.list) ++ codes " live " ++ decimal saddles.live ++ codes " flips " ++ decimal (length edges))

-- the line of an entry: its corner and its unscaled vector
abbrev pub saddle_line : ℕ → Listed → List ℕ
saddle_line den entry = line_of (codes "saddle " ++ corner_text entry.start ++ codes " " ++ vector_text den entry.v)

-- the lines of entries, in order
abbrev pub saddle_lines : ℕ → List Listed → List ℕ
saddle_lines den entries = flat_map (saddle_line den) entries

-- the list after the flips of these edges
abbrev pub saddles_text : ℕ → List ℕ → List ℕ → SaddleList → List ℕ
saddles_text den words edges saddles = saddles_line words edges saddles ++ saddle_lines den saddles.list

-- the budget of live words is spent
abbrev pub live_line : List ℕ → ℕ → List ℕ
live_line words budget = line_of (words ++ codes " undecided live " ++ decimal budget)

-- the line, after these words, of a list that stops so; where memory runs out there is none
abbrev pub IsListStopText : Stop → List ℕ → List ℕ → Bool → Type 0
IsListStopText (Overflow site) words text partial = (text ≡ overflow_line words site) × (partial ≡ true)
IsListStopText (Undecided n) words text partial = (text ≡ live_line words n) × (partial ≡ true)
IsListStopText NoMemory words text partial = ⊥

-- the answer to `saddles` about a surface, within a budget of flips and as many live words
pub data AnswersSaddles (s : GluedPolygons) (budget : ℕ) (limit : Quadratic) (text : List ℕ) (partial : Bool) : Type 0 where
  -- the run leads to a Delaunay triangulation, from which the saddle list of the surface is found
  whole : (edges : List ℕ) (m : MeshValue) (saddles : SaddleList) → IsDelaunayOf s budget edges m → EndsSaddles m limit budget (Ok saddles) → IsSaddleListOf s limit saddles.list
      → text ≡ saddles_text (unsigned_abs s.den) (saddles_words limit) edges saddles → partial ≡ false → AnswersSaddles s budget limit text partial
  -- a formula of the list overflows
  overflowed : (edges : List ℕ) (m : MeshValue) (site : Site) → IsDelaunayOf s budget edges m → EndsSaddles m limit budget (Err (Overflow site))
      → text ≡ overflow_line (saddles_words limit) site → partial ≡ true → AnswersSaddles s budget limit text partial
  -- more words are live than the budget allows
  undecided : (edges : List ℕ) (m : MeshValue) → IsDelaunayOf s budget edges m → EndsSaddles m limit budget (Err (Undecided budget))
      → text ≡ live_line (saddles_words limit) budget → partial ≡ true → AnswersSaddles s budget limit text partial
  -- the run leads to no Delaunay triangulation
  not_triangulated : AnswersStopped s budget (saddles_words limit) text partial → AnswersSaddles s budget limit text partial
