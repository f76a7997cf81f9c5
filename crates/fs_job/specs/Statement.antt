-- What a line of a job states, its numbers being still texts.
use Rattle.std.specs.Prelude.{◌≡◌, ℕ, ◌≤◌, Bool, true, false, List, [], ◌∷◌, ◌==◌, length, Contains, codes}
use Rattle.std.specs.List.{flat_map}
use Rattle.std.specs.Str.Parse.{IsNumeral, digits_value}
use Rattle.fs_plane.specs.declared.corners.Corner.{Corner}
use Rattle.fs_job.specs.Pieces.{pieces}

-- one to `most` decimal digits, and the number that they stand for
pub record SpellsNumeral (most : ℕ) (text : List ℕ) (n : ℕ) : Type 0 where
  pub digits : IsNumeral 10 text
  pub few : length text ≤ most
  pub value : n ≡ digits_value 10 text

-- i.j, each of one to four digits
pub record SpellsCorner (text : List ℕ) (c : Corner) : Type 0 where
  pub polygon_text : List ℕ
  pub side_text : List ℕ
  pub whole : pieces (λ b. b == 46) text ≡ polygon_text ∷ side_text ∷ []
  pub polygon : SpellsNumeral 4 polygon_text c.polygon
  pub side : SpellsNumeral 4 side_text c.side

-- the texts of two numbers
pub record Pair : Type 0 where
  pub x : List ℕ
  pub y : List ℕ

-- x,y: the word has exactly one comma
abbrev pub IsPair : List ℕ → Pair → Type 0
IsPair word pair = pieces (λ b. b == 44) word ≡ pair.x ∷ pair.y ∷ []

-- each word is the pair at its index
abbrev pub ArePairs : List (List ℕ) → List Pair → Type 0
ArePairs [] [] = Unit {0}
ArePairs [] (pair ∷ pairs) = ⊥
ArePairs (word ∷ words) [] = ⊥
ArePairs (word ∷ words) (pair ∷ pairs) = IsPair word pair × ArePairs words pairs

-- a command as its line states it
pub data StatedCommand : Type 0 where
  check : StatedCommand
  stratum : StatedCommand
  segment : Corner → Pair → StatedCommand
  delaunay : StatedCommand
  cells : StatedCommand
  saddles : List ℕ → StatedCommand
  flow : Pair → StatedCommand

-- what a line states
pub data Statement : Type 0 where
  field_line : ℕ → Statement
  polygon_line : List Pair → Statement
  table_line : List Pair → Statement
  glue_line : Corner → Corner → Statement
  command_line : StatedCommand → Statement
  end_line : Statement

-- the words by which a command is named
abbrev pub command_words : List (List ℕ)
command_words = codes "check" ∷ codes "stratum" ∷ codes "segment" ∷ codes "delaunay" ∷ codes "cells" ∷ codes "saddles" ∷ codes "flow" ∷ []

-- the words of each command
abbrev pub SpellsCommand : List (List ℕ) → StatedCommand → Type 0
SpellsCommand words check = words ≡ codes "check" ∷ []
SpellsCommand words stratum = words ≡ codes "stratum" ∷ []
SpellsCommand words (segment start pair) =
    (start_text : List ℕ) × (pair_text : List ℕ) × (words ≡ codes "segment" ∷ start_text ∷ pair_text ∷ []) × SpellsCorner start_text start × IsPair pair_text pair
SpellsCommand words delaunay = words ≡ codes "delaunay" ∷ []
SpellsCommand words cells = words ≡ codes "cells" ∷ []
SpellsCommand words (saddles limit) = words ≡ codes "saddles" ∷ limit ∷ []
SpellsCommand words (flow pair) = (pair_text : List ℕ) × (words ≡ codes "flow" ∷ pair_text ∷ []) × IsPair pair_text pair

-- the words spell this statement
abbrev pub SpellsStatement : List (List ℕ) → Statement → Type 0
SpellsStatement words (field_line d) = (digits : List ℕ) × (words ≡ codes "field" ∷ digits ∷ []) × SpellsNumeral 4 digits d
SpellsStatement words (polygon_line pairs) = (rest : List (List ℕ)) × (words ≡ codes "polygon" ∷ rest) × ArePairs rest pairs
SpellsStatement words (table_line pairs) = (rest : List (List ℕ)) × (words ≡ codes "table" ∷ rest) × ArePairs rest pairs
SpellsStatement words (glue_line one two) =
    (one_text : List ℕ) × (two_text : List ℕ) × (words ≡ codes "glue" ∷ one_text ∷ two_text ∷ []) × SpellsCorner one_text one × SpellsCorner two_text two
SpellsStatement words (command_line command) = (word : List ℕ) × (rest : List (List ℕ)) × (words ≡ word ∷ rest) × Contains command_words word × SpellsCommand words command
SpellsStatement words end_line = words ≡ codes "end" ∷ []

-- the text of a number, and whether it has to be whole: a number without a denominator
pub record NumberText : Type 0 where
  pub whole : Bool
  pub text : List ℕ

-- the texts of a pair, which may have denominators
abbrev pub pair_texts : Pair → List NumberText
pair_texts pair = record { whole = false; text = pair.x } ∷ record { whole = false; text = pair.y } ∷ []

-- the texts of a pair of whole numbers
abbrev pub whole_texts : Pair → List NumberText
whole_texts pair = record { whole = true; text = pair.x } ∷ record { whole = true; text = pair.y } ∷ []

-- those of a command, from left to right
abbrev pub argument_texts : StatedCommand → List NumberText
argument_texts check = []
argument_texts stratum = []
argument_texts (segment start pair) = pair_texts pair
argument_texts delaunay = []
argument_texts cells = []
argument_texts (saddles limit) = record { whole = true; text = limit } ∷ []
argument_texts (flow pair) = whole_texts pair

-- the texts of a statement's numbers, from left to right
abbrev pub number_texts : Statement → List NumberText
number_texts (field_line d) = []
number_texts (polygon_line pairs) = flat_map pair_texts pairs
number_texts (table_line pairs) = flat_map pair_texts pairs
number_texts (glue_line one two) = []
number_texts (command_line command) = argument_texts command
number_texts end_line = []
