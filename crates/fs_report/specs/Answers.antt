-- The answer to each command about a surface.
use Rattle.std.specs.Prelude.{◌≡◌, ◌≢◌, ℕ, Bool, false, List, length, sum_by}
use Rattle.fs_plane.specs.Vector.{vector_zero}
use Rattle.fs_gluing.specs.Polygons.{HasSide}
use Rattle.fs_gluing.specs.Surface.{GluedPolygons}
use Rattle.fs_job.specs.declared.job.Command.{Command}
use Rattle.fs_job.specs.declared.job.Command.TheVariants.{Check, Stratum, Segment, Delaunay, Cells, Saddles, Flow}
use Rattle.fs_report.specs.Text.{check_line, AnswersStratum, AnswersSegment}
use Rattle.fs_report.specs.DelaunayText.{AnswersDelaunay, AnswersCells}
use Rattle.fs_report.specs.SaddlesText.{AnswersSaddles}
use Rattle.fs_report.specs.FlowText.{AnswersFlow}

-- the answer to a command about a surface, within a budget: this text, and whether it is in place of the whole answer; no flow is in the direction 0,0
abbrev pub Answers : GluedPolygons → ℕ → Command → List ℕ → Bool → Type 0
Answers s budget Check text partial = (text ≡ check_line (length s.polygons) (sum_by length s.polygons)) × (partial ≡ false)
Answers s budget Stratum text partial = AnswersStratum s text partial
Answers s budget (Segment line start v) text partial = AnswersSegment s budget start v text partial
Answers s budget Delaunay text partial = AnswersDelaunay s budget text partial
Answers s budget Cells text partial = AnswersCells s budget text partial
Answers s budget (Saddles limit) text partial = AnswersSaddles s budget limit text partial
Answers s budget (Flow v) text partial = (v ≢ vector_zero) × AnswersFlow s budget v text partial

-- the surface has the corner that a command names
abbrev pub HasCorner : GluedPolygons → Command → Type 0
HasCorner s Check = Unit {0}
HasCorner s Stratum = Unit {0}
HasCorner s (Segment line start v) = HasSide s.polygons start
HasCorner s Delaunay = Unit {0}
HasCorner s Cells = Unit {0}
HasCorner s (Saddles limit) = Unit {0}
HasCorner s (Flow v) = Unit {0}
