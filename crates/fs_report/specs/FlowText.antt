-- The answer to `flow`: the decomposition of a flow.
use Rattle.std.specs.Prelude.{◌≡◌, ℕ, Bool, true, false, Ok, Err, List, [], ◌∷◌, ◌++◌, length, codes, unsigned_abs}
use Rattle.std.specs.Fmt.{decimal}
use Rattle.std.specs.List.{flat_map}
use Rattle.fs_fraction.specs.Fraction.{reduced}
use Rattle.fs_fraction.specs.Number.{spelling}
use Rattle.fs_plane.specs.declared.listing.Listed.{Listed}
use Rattle.fs_plane.specs.declared.sites.Site.{Site}
use Rattle.fs_plane.specs.declared.sites.Stop.{Stop}
use Rattle.fs_plane.specs.declared.sites.Stop.TheVariants.{Undecided, Overflow, NoMemory}
use Rattle.fs_plane.specs.Vector.{PlaneVector}
use Rattle.fs_gluing.specs.Surface.{GluedPolygons}
use Rattle.fs_rauzy.specs.declared.parts.Kind.{Kind}
use Rattle.fs_rauzy.specs.declared.parts.Kind.TheVariants.{Cylinder, Looped}
use Rattle.fs_rauzy.specs.declared.parts.Letter.{Letter}
use Rattle.fs_rauzy.specs.declared.parts.Part.{Part}
use Rattle.fs_components.specs.declared.flow.Flow.{Flow}
use Rattle.fs_components.specs.declared.flow.Measured.{Measured}
use Rattle.fs_components.specs.FlowMeaning.{FlowMeans}
use Rattle.fs_components.specs.Flows.{EndsFlow}
use Rattle.fs_report.specs.DelaunayText.{vector_text}
use Rattle.fs_report.specs.Text.{line_of, corner_text, overflow_line}

-- the command with its direction
abbrev pub flow_words : PlaneVector → List ℕ
flow_words v = codes "flow " ++ vector_text 1 v

-- after these words, how many steps the induction took, and how many connections and parts there are
abbrev pub flow_line : List ℕ → Flow → List ℕ
flow_line words flow =
    line_of (words ++ codes " steps " ++ decimal flow.steps ++ codes " connections " ++ decimal (length flow.connections) ++ codes " components " ++ decimal (length flow.parts))

-- the line of a connection: its corner and its unscaled vector
abbrev pub connection_line : ℕ → Listed → List ℕ
connection_line den entry = line_of (codes "connection " ++ corner_text entry.start ++ codes " " ++ vector_text den entry.v)

-- the lines of connections, in order
abbrev pub connection_lines : ℕ → List Listed → List ℕ
connection_lines den entries = flat_map (connection_line den) entries

-- where the base of a part begins, and how wide it is, both unscaled
abbrev pub base_words : ℕ → Part → List ℕ
base_words den p = codes " base " ++ spelling (reduced p.base den) ++ codes " width " ++ spelling (reduced p.width den)

-- the unscaled return vector of the first letter, which is the only one of a cylinder
abbrev pub holonomy_text : ℕ → List Letter → List ℕ
holonomy_text den [] = []
holonomy_text den (letter ∷ letters) = vector_text den letter.back

-- a cylinder: its base, its holonomy, the squares of its circumference and of its height, and its area
abbrev pub cylinder_words : ℕ → Measured → List ℕ
cylinder_words den m =
    codes "cylinder" ++ base_words den m.part ++ codes " holonomy " ++ holonomy_text den m.part.letters ++ codes " square " ++ spelling m.holonomy_square
    ++ codes " height-square " ++ spelling m.height_square ++ codes " area " ++ spelling m.area

-- another part: its base, how many letters it has, the two states of its loop, and its area
abbrev pub minimal_words : ℕ → Measured → ℕ → ℕ → List ℕ
minimal_words den m from to =
    codes "minimal" ++ base_words den m.part ++ codes " letters " ++ decimal (length m.part.letters) ++ codes " loop " ++ decimal from ++ codes " " ++ decimal to ++ codes " area " ++ spelling m.area

-- a part, by its kind
abbrev pub kind_words : ℕ → Measured → Kind → List ℕ
kind_words den m Cylinder = cylinder_words den m
kind_words den m (Looped from to) = minimal_words den m from to

-- the line of a part
abbrev pub part_line : ℕ → Measured → List ℕ
part_line den m = line_of (kind_words den m m.part.kind)

-- the lines of parts, in order
abbrev pub part_lines : ℕ → List Measured → List ℕ
part_lines den parts = flat_map (part_line den) parts

-- after these words, the counts, the connections and the parts
abbrev pub flow_text : ℕ → List ℕ → Flow → List ℕ
flow_text den words flow = flow_line words flow ++ connection_lines den flow.connections ++ part_lines den flow.parts

-- the budget of steps is spent
abbrev pub steps_line : List ℕ → ℕ → List ℕ
steps_line words budget = line_of (words ++ codes " undecided steps " ++ decimal budget)

-- the line, after these words, of a decomposition that stops so; where memory runs out there is none
abbrev pub IsFlowStopText : Stop → List ℕ → List ℕ → Bool → Type 0
IsFlowStopText (Overflow site) words text partial = (text ≡ overflow_line words site) × (partial ≡ true)
IsFlowStopText (Undecided n) words text partial = (text ≡ steps_line words n) × (partial ≡ true)
IsFlowStopText NoMemory words text partial = ⊥

-- the answer to `flow` about a surface, within a budget of steps
pub data AnswersFlow (s : GluedPolygons) (budget : ℕ) (v : PlaneVector) (text : List ℕ) (partial : Bool) : Type 0 where
  -- the flow is decomposed into these parts
  whole : (flow : Flow) → EndsFlow s v budget (Ok flow) → FlowMeans s v flow.parts → text ≡ flow_text (unsigned_abs s.den) (flow_words v) flow → partial ≡ false → AnswersFlow s budget v text partial
  -- a formula overflows
  overflowed : (site : Site) → EndsFlow s v budget (Err (Overflow site)) → text ≡ overflow_line (flow_words v) site → partial ≡ true → AnswersFlow s budget v text partial
  -- the induction takes more steps than the budget allows
  undecided : EndsFlow s v budget (Err (Undecided budget)) → text ≡ steps_line (flow_words v) budget → partial ≡ true → AnswersFlow s budget v text partial
