-- The texts of faults, of overflows, and of the answers to `check`, `stratum` and `segment`. The words of a line end before its line feed.
use Rattle.std.specs.Prelude.{◌≡◌, ℕ, Bool, true, false, Ok, Err, None, Some, List, [], ◌∷◌, ◌++◌, length, codes}
use Rattle.std.specs.Fmt.{decimal}
use Rattle.fs_fraction.specs.Fraction.{Fraction}
use Rattle.fs_fraction.specs.Number.{spelling}
use Rattle.fs_plane.specs.declared.corners.Corner.{Corner}
use Rattle.fs_plane.specs.declared.sites.Site.{Site}
use Rattle.fs_plane.specs.Vector.{PlaneVector}
use Rattle.fs_paths.specs.Ends.{PathEnd, outside_sector, segment, corner_before_end, ends_inside, longer}
use Rattle.fs_gluing.specs.declared.faults.Fault.{Fault}
use Rattle.fs_gluing.specs.declared.faults.Fault.TheVariants.{NotAscii, BadHeader, BadLine, BadNumber, BadField, TooMany, NoEnd, ZeroDirection, Wide, FewSides, NotClosed, NotConvex, TurnsTwice, NoSuchSide, GluedTwice, NotOpposite, Unglued, Apart, GroupTooLarge, TooLong}
use Rattle.fs_gluing.specs.declared.shapes.Point.{Point}
use Rattle.fs_gluing.specs.Surface.{GluedPolygons}
use Rattle.fs_stratum.specs.declared.cones.Cone.{Cone}
use Rattle.fs_stratum.specs.VertexList.{AreVertices, IsGenus}
use Rattle.fs_develop.specs.Grid.{GivesScaled}
use Rattle.fs_develop.specs.Walks.{WalksTo, IsPathEnd}
use Rattle.fs_job.specs.SiteText.{site_text}
use Rattle.fs_report.specs.Area.{GivesArea}
use Rattle.fs_report.specs.Orders.{AreOrders}

-- a line: its words, and a line feed
abbrev pub line_of : List ℕ → List ℕ
line_of words = words ++ 10 ∷ []

-- i.j
abbrev pub corner_text : Corner → List ℕ
corner_text c = decimal c.polygon ++ codes "." ++ decimal c.side

-- the number and the name of a fault, and where it is
abbrev pub fault_words : Fault → List ℕ
fault_words (NotAscii line) = codes "refused 1 NotAscii line " ++ decimal line
fault_words BadHeader = codes "refused 2 BadHeader"
fault_words (BadLine line) = codes "refused 3 BadLine line " ++ decimal line
fault_words (BadNumber line) = codes "refused 4 BadNumber line " ++ decimal line
fault_words BadField = codes "refused 5 BadField"
fault_words (TooMany line) = codes "refused 6 TooMany line " ++ decimal line
fault_words NoEnd = codes "refused 7 NoEnd"
fault_words (ZeroDirection line) = codes "refused 8 ZeroDirection line " ++ decimal line
fault_words (Wide line) = codes "refused 9 Wide line " ++ decimal line
fault_words (FewSides polygon) = codes "refused 10 FewSides " ++ decimal polygon
fault_words (NotClosed polygon) = codes "refused 11 NotClosed " ++ decimal polygon
fault_words (NotConvex corner) = codes "refused 12 NotConvex " ++ corner_text corner
fault_words (TurnsTwice polygon) = codes "refused 13 TurnsTwice " ++ decimal polygon
fault_words (NoSuchSide line) = codes "refused 14 NoSuchSide line " ++ decimal line
fault_words (GluedTwice line) = codes "refused 15 GluedTwice line " ++ decimal line
fault_words (NotOpposite line) = codes "refused 16 NotOpposite line " ++ decimal line
fault_words (Unglued side) = codes "refused 17 Unglued " ++ corner_text side
fault_words (Apart polygon) = codes "refused 18 Apart " ++ decimal polygon
fault_words GroupTooLarge = codes "refused 19 GroupTooLarge"
fault_words TooLong = codes "refused 20 TooLong"

-- the line of a fault
abbrev pub fault_line : Fault → List ℕ
fault_line fault = line_of (fault_words fault)

-- building, or a command, overflowed there
abbrev pub overflow_words : List ℕ → Site → List ℕ
overflow_words what site = what ++ codes " overflow " ++ site_text site

-- the line of an overflow
abbrev pub overflow_line : List ℕ → Site → List ℕ
overflow_line what site = line_of (overflow_words what site)

-- the line of an overflow in building
abbrev pub build_line : Site → List ℕ
build_line site = overflow_line (codes "build") site

-- how many polygons and sides a surface has
abbrev pub check_line : ℕ → ℕ → List ℕ
check_line polygons sides = line_of (codes "check polygons " ++ decimal polygons ++ codes " sides " ++ decimal sides)

-- numbers with commas between them
abbrev pub with_commas : List ℕ → List ℕ
with_commas [] = []
with_commas (n ∷ []) = decimal n
with_commas (n ∷ (m ∷ ns)) = decimal n ++ codes "," ++ with_commas (m ∷ ns)

-- the line of a vertex: its least corner and its cone number
abbrev pub vertex_line : Cone → List ℕ
vertex_line cone = line_of (codes "vertex " ++ corner_text cone.first ++ codes " turns " ++ decimal cone.k)

-- the lines of vertices, in order
abbrev pub vertex_lines : List Cone → List ℕ
vertex_lines [] = []
vertex_lines (cone ∷ cones) = vertex_line cone ++ vertex_lines cones

-- the stratum, the genus, how many vertices there are, and the area
abbrev pub stratum_line : List ℕ → ℕ → ℕ → Fraction → List ℕ
stratum_line orders genus vertices area =
    line_of (codes "stratum H(" ++ with_commas orders ++ codes ") genus " ++ decimal genus ++ codes " vertices " ++ decimal vertices ++ codes " area " ++ spelling area)

-- that, and a line for each vertex
abbrev pub stratum_text : List ℕ → ℕ → List Cone → Fraction → List ℕ
stratum_text orders genus cones area = stratum_line orders genus (length cones) area ++ vertex_lines cones

-- the answer to `stratum` about a surface
pub data AnswersStratum (s : GluedPolygons) (text : List ℕ) (partial : Bool) : Type 0 where
  -- its vertices with their cone numbers, their orders, its genus and its area
  whole : (cones : List Cone) → (orders : List ℕ) → (genus : ℕ) → (area : Fraction)
      → AreVertices s cones → AreOrders cones orders → IsGenus s (length cones) genus → GivesArea s (Ok area)
      → text ≡ stratum_text orders genus cones area → partial ≡ false → AnswersStratum s text partial
  -- the area overflows there
  overflowed : (site : Site) → GivesArea s (Err site) → text ≡ overflow_line (codes "stratum") site → partial ≡ true → AnswersStratum s text partial

-- ---- segment

-- the command with its arguments
abbrev pub segment_words : Corner → Point → List ℕ
segment_words start v = codes "segment " ++ corner_text start ++ codes " " ++ spelling v.x ++ codes "," ++ spelling v.y

-- sides with a space before each
abbrev pub spaced_sides : List Corner → List ℕ
spaced_sides [] = []
spaced_sides (c ∷ word) = (codes " " ++ corner_text c) ++ spaced_sides word

-- the crossed sides with spaces between them, or `-` where there are none
abbrev pub word_text : List Corner → List ℕ
word_text [] = codes "-"
word_text (c ∷ word) = corner_text c ++ spaced_sides word

-- how a path ends, within the budget of crossings
abbrev pub end_words : ℕ → PathEnd Corner → List ℕ
end_words budget outside_sector = codes "out-of-sector"
end_words budget (segment word y) = codes "yes end " ++ corner_text y ++ codes " word " ++ word_text word
end_words budget (corner_before_end word) = codes "vertex word " ++ word_text word
end_words budget (ends_inside word) = codes "inside word " ++ word_text word
end_words budget (longer word) = codes "undecided crossings " ++ decimal budget

-- the budget is spent before the path ends
abbrev pub is_undecided : PathEnd Corner → Bool
is_undecided outside_sector = false
is_undecided (segment word y) = false
is_undecided (corner_before_end word) = false
is_undecided (ends_inside word) = false
is_undecided (longer word) = true

-- the answer to `segment` where the scaled vector is w, after these words: where the path from a corner along it ends
pub data AnswersPath (s : GluedPolygons) (budget : ℕ) (start : Corner) (w : PlaneVector) (words text : List ℕ) (partial : Bool) : Type 0 where
  -- a formula of the path overflows
  overflowed : (site : Site) → WalksTo s start w budget (Err site) → text ≡ overflow_line words site → partial ≡ true → AnswersPath s budget start w words text partial
  -- the path ends so
  ended : (end : PathEnd Corner) → WalksTo s start w budget (Ok end) → IsPathEnd s start w budget end
      → text ≡ line_of (words ++ codes " " ++ end_words budget end) → partial ≡ is_undecided end → AnswersPath s budget start w words text partial

-- the answer to `segment` about a surface
pub data AnswersSegment (s : GluedPolygons) (budget : ℕ) (start : Corner) (v : Point) (text : List ℕ) (partial : Bool) : Type 0 where
  -- the vector times the denominator isn't whole
  off_grid : GivesScaled s v (Ok None) → text ≡ line_of (segment_words start v ++ codes " off-grid") → partial ≡ false → AnswersSegment s budget start v text partial
  -- that product overflows
  wide : (site : Site) → GivesScaled s v (Err site) → text ≡ overflow_line (segment_words start v) site → partial ≡ true → AnswersSegment s budget start v text partial
  -- the path along it is followed
  followed : (w : PlaneVector) → GivesScaled s v (Ok (Some w)) → AnswersPath s budget start w (segment_words start v) text partial → AnswersSegment s budget start v text partial
