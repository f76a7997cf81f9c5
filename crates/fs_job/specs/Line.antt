-- What the reader finds on a line. The contract of `flat` doesn't rest on this file.
use Rattle.std.specs.Prelude.{◌≡◌, ℕ, List, [], ◌∷◌, ◌==◌, ◌⊎◌, Option, None, Some, map, length}
use Rattle.fs_fraction.specs.declared.number.NumberFault.{NumberFault}
use Rattle.fs_gluing.specs.declared.faults.Fault.{Fault}
use Rattle.fs_gluing.specs.declared.faults.Fault.TheVariants as faults
use Rattle.fs_gluing.specs.declared.shapes.Point.{Point}
use Rattle.fs_plane.specs.declared.corners.Corner.{Corner}
use Rattle.fs_plane.specs.Vector.{PlaneVector, vector_zero}
use Rattle.fs_job.specs.declared.statements.Line.{Line}
use Rattle.fs_job.specs.declared.statements.Line.TheVariants as lines
use Rattle.fs_job.specs.declared.statements.Stated.{Stated}
use Rattle.fs_job.specs.declared.statements.Stated.TheVariants as stated
use Rattle.fs_job.specs.Pieces.{pieces, words_of}
use Rattle.fs_job.specs.Statement.{Pair, StatedCommand, check, stratum, segment, delaunay, cells, saddles, flow, Statement, field_line, polygon_line, table_line, glue_line, command_line, end_line, SpellsNumeral, SpellsCorner, IsPair, ArePairs, NumberText, pair_texts, whole_texts, argument_texts}
use Rattle.fs_job.specs.Draft.{HasBadNumber, number_fault, IsPoint, IsOrigin, IsVector}

-- what was found has P; where nothing was found, nothing has P
abbrev pub Finds : {X : Type 0} → (X → Type 0) → Option X → Type 0
Finds {X} P None = (x : X) → ¬ P x
Finds P (Some x) = P x

-- ---- the words after the first one

-- the word after `field` spells d
abbrev pub SpellsField : List (List ℕ) → ℕ → Type 0
SpellsField words d = (digits : List ℕ) × (words ≡ digits ∷ []) × SpellsNumeral 4 digits d

-- the two words after `glue` spell these sides
abbrev pub SpellsGlue : List (List ℕ) → Corner → Corner → Type 0
SpellsGlue words one two = (one_text : List ℕ) × (two_text : List ℕ) × (words ≡ one_text ∷ two_text ∷ []) × SpellsCorner one_text one × SpellsCorner two_text two

-- the two words after `segment` spell this corner and this pair
abbrev pub SpellsSegment : List (List ℕ) → Corner → Pair → Type 0
SpellsSegment words start pair = (start_text : List ℕ) × (pair_text : List ℕ) × (words ≡ start_text ∷ pair_text ∷ []) × SpellsCorner start_text start × IsPair pair_text pair

-- the word after `flow` spells this pair
abbrev pub SpellsFlow : List (List ℕ) → Pair → Type 0
SpellsFlow words pair = (pair_text : List ℕ) × (words ≡ pair_text ∷ []) × IsPair pair_text pair

-- the first two pieces of a word
abbrev pub pair_of_pieces : List (List ℕ) → Pair
pair_of_pieces [] = record { x = []; y = [] }
pair_of_pieces (x ∷ []) = record { x = x; y = [] }
pair_of_pieces (x ∷ y ∷ more) = record { x = x; y = y }

-- the texts before and after the comma of a word
abbrev pub pair_of : List ℕ → Pair
pair_of word = pair_of_pieces (pieces (λ b. b == 44) word)

-- those of each word
abbrev pub pairs_of : List (List ℕ) → List Pair
pairs_of words = map pair_of words

-- ---- the whole line

-- the command that a line states
abbrev pub command_of : Stated → StatedCommand
command_of stated.Check = check
command_of stated.Stratum = stratum
command_of (stated.Segment start pair) = segment start (pair_of pair.now)
command_of stated.Delaunay = delaunay
command_of stated.Cells = cells
command_of (stated.Saddles limit) = saddles limit.now
command_of (stated.Flow pair) = flow (pair_of pair.now)

-- what a line states
abbrev pub statement_of : Line → Statement
statement_of (lines.Field d) = field_line d
statement_of (lines.Polygon pairs) = polygon_line (pairs_of (words_of pairs.words.now))
statement_of (lines.Table pairs) = table_line (pairs_of (words_of pairs.words.now))
statement_of (lines.Glue one two) = glue_line one two
statement_of (lines.Command stated) = command_line (command_of stated)
statement_of lines.End = end_line

-- the word of its vector is a pair
abbrev pub HasPair : Stated → Type 0
HasPair (stated.Segment start pair) = IsPair pair.now (pair_of pair.now)
HasPair (stated.Flow pair) = IsPair pair.now (pair_of pair.now)
HasPair command = Unit {0}

-- each word of a vector is a pair, and those after `polygon` or `table` are counted
abbrev pub HasPairs : Line → Type 0
HasPairs (lines.Polygon pairs) = ArePairs (words_of pairs.words.now) (pairs_of (words_of pairs.words.now)) × (pairs.count ≡ length (words_of pairs.words.now))
HasPairs (lines.Table pairs) = ArePairs (words_of pairs.words.now) (pairs_of (words_of pairs.words.now)) × (pairs.count ≡ length (words_of pairs.words.now))
HasPairs (lines.Command stated) = HasPair stated
HasPairs line = Unit {0}

-- ---- the numbers of a command

-- a text on the line with the number n is no number, by this fault
abbrev pub IsNumberFault : ℕ → List NumberText → Fault → Type 0
IsNumberFault n texts fault = (bad : NumberFault) × HasBadNumber texts bad × (fault ≡ number_fault n bad)

-- a pair on the line with the number n is no direction, by this fault: a text is no number, or both numbers are 0
abbrev pub IsDirectionFault : ℕ → Pair → Fault → Type 0
IsDirectionFault n pair fault = IsNumberFault n (pair_texts pair) fault
    ⊎ ((point : Point) × IsPoint pair point × IsOrigin point × (fault ≡ faults.ZeroDirection n))

-- a pair on the line with the number n is no direction with whole numbers, by this fault
abbrev pub IsWholeDirectionFault : ℕ → Pair → Fault → Type 0
IsWholeDirectionFault n pair fault = IsNumberFault n (whole_texts pair) fault
    ⊎ ((v : PlaneVector) × IsVector pair v × (v ≡ vector_zero) × (fault ≡ faults.ZeroDirection n))

-- this is the fault of the numbers of a command on the line with the number n
abbrev pub IsArgumentFault : ℕ → StatedCommand → Fault → Type 0
IsArgumentFault n check fault = ⊥
IsArgumentFault n stratum fault = ⊥
IsArgumentFault n (segment start pair) fault = IsDirectionFault n pair fault
IsArgumentFault n delaunay fault = ⊥
IsArgumentFault n cells fault = ⊥
IsArgumentFault n (saddles limit) fault = IsNumberFault n (argument_texts (saddles limit)) fault
IsArgumentFault n (flow pair) fault = IsWholeDirectionFault n pair fault
