-- Words spell at most one statement, and which words spell none.
use Rattle.std.proofs.Common.{◌≡◌, ◌≢◌, ℕ, ◌<◌, ◌≤◌, List, [], ◌∷◌, ◌⊎◌, eqb, inl, inr, refl, sym, ap, ◌∙◌, subst, arith}
use Rattle.std.specs.Prelude.{codes, ◌==◌, if◌then◌else◌}
use Rattle.std.specs.Str.{bytes_eq}
use Rattle.fs_plane.specs.declared.corners.Corner.{Corner}
use Rattle.fs_job.specs.Pieces.{pieces}
use Rattle.fs_job.specs.Statement.{Pair, SpellsNumeral, SpellsCorner, IsPair, ArePairs, StatedCommand, check, stratum, segment, delaunay, cells, saddles, flow, SpellsCommand, Statement, field_line, polygon_line, table_line, glue_line, command_line, end_line, SpellsStatement}
use Rattle.fs_job.specs.Line.{SpellsField, SpellsGlue, SpellsSegment, SpellsFlow}
use Rattle.fs_lists.proofs.Equal.{heads_equal, tails_equal}
use Rattle.fs_job.proofs.Pairs.{pair_unique, pairs_unique}

-- ---- numerals and corners

-- a text spells one number at most
numeral_unique : (most : ℕ) (text : List ℕ) (m n : ℕ) → SpellsNumeral most text m → SpellsNumeral most text n → m ≡ n
numeral_unique most text m n s t = s.value ∙ sym t.value

-- two equal texts spell one number
numeral_unique_along : (most : ℕ) (text text' : List ℕ) (m n : ℕ) → text ≡ text' → SpellsNumeral most text m → SpellsNumeral most text' n → m ≡ n
numeral_unique_along most text text' m n e s t = numeral_unique most text m n s (subst (λ u. SpellsNumeral most u n) (sym e) t)

-- a text spells one corner at most
corner_unique : (text : List ℕ) (c e : Corner) → SpellsCorner text c → SpellsCorner text e → c ≡ e
corner_unique text c e s t =
    let whole = sym s.whole ∙ t.whole in
    let one = heads_equal s.polygon_text t.polygon_text (s.side_text ∷ []) (t.side_text ∷ []) whole in
    let two = heads_equal s.side_text t.side_text [] [] (tails_equal s.polygon_text t.polygon_text (s.side_text ∷ []) (t.side_text ∷ []) whole) in
    let polygon = numeral_unique_along 4 s.polygon_text t.polygon_text c.polygon e.polygon one s.polygon t.polygon in
    let side = numeral_unique_along 4 s.side_text t.side_text c.side e.side two s.side t.side in
    ap (λ (n : ℕ). record { polygon = n; side = c.side }) polygon ∙ ap (λ (n : ℕ). record { polygon = e.polygon; side = n }) side

-- ---- the words after the first one

only_word_unique : (word word' : List ℕ) (words : List (List ℕ)) → words ≡ word ∷ [] → words ≡ word' ∷ [] → word ≡ word'
only_word_unique word word' words e f = heads_equal word word' [] [] (sym e ∙ f)

-- the words that two words after the first one are
two_words : (words rest : List (List ℕ)) (word one two : List ℕ) → words ≡ word ∷ rest → words ≡ one ∷ two ∷ [] → (one ≡ word) × (rest ≡ two ∷ [])
two_words words rest word one two e f = (heads_equal one word (two ∷ []) rest (sym f ∙ e), sym (tails_equal one word (two ∷ []) rest (sym f ∙ e)))

-- the first word is no side
pub first_not_corner : (words rest : List (List ℕ)) (word : List ℕ) → words ≡ word ∷ rest → ((c : Corner) → ¬ SpellsCorner word c) → (one two : Corner) → ¬ SpellsGlue words one two
first_not_corner words rest word e none one two s = none one (subst (λ u. SpellsCorner u one) (two_words words rest word s.0 s.1 e s.2).0 s.3)

-- the second word is no side
pub second_not_corner : (words rest : List (List ℕ)) (word last : List ℕ) → words ≡ word ∷ rest → rest ≡ last ∷ [] → ((c : Corner) → ¬ SpellsCorner last c) → (one two : Corner) → ¬ SpellsGlue words one two
second_not_corner words rest word last e f none one two s =
    none two (subst (λ u. SpellsCorner u two) (only_word_unique s.1 last rest (two_words words rest word s.0 s.1 e s.2).1 f) s.4)

-- the first word is no corner
pub start_not_corner : (words rest : List (List ℕ)) (word : List ℕ) → words ≡ word ∷ rest → ((c : Corner) → ¬ SpellsCorner word c) → (start : Corner) (pair : Pair) → ¬ SpellsSegment words start pair
start_not_corner words rest word e none start pair s = none start (subst (λ u. SpellsCorner u start) (two_words words rest word s.0 s.1 e s.2).0 s.3)

-- the second word is no pair
pub end_not_pair : (words rest : List (List ℕ)) (word last : List ℕ) → words ≡ word ∷ rest → rest ≡ last ∷ [] → ((x y : List ℕ) → pieces (λ b. eqb b 44) last ≢ x ∷ y ∷ [])
    → (start : Corner) (pair : Pair) → ¬ SpellsSegment words start pair
end_not_pair words rest word last e f none start pair s =
    none pair.x pair.y (subst (λ u. IsPair u pair) (only_word_unique s.1 last rest (two_words words rest word s.0 s.1 e s.2).1 f) s.4)

-- the only word is no pair
pub word_not_pair : (words : List (List ℕ)) (word : List ℕ) → words ≡ word ∷ [] → ((x y : List ℕ) → pieces (λ b. eqb b 44) word ≢ x ∷ y ∷ []) → (pair : Pair) → ¬ SpellsFlow words pair
word_not_pair words word e none pair s = none pair.x pair.y (subst (λ u. IsPair u pair) (only_word_unique s.0 word words s.1 e) s.2)

-- ---- the first word tells which statement it is

-- the word of a command
abbrev command_word : StatedCommand → List ℕ
command_word check = codes "check"
command_word stratum = codes "stratum"
command_word (segment start pair) = codes "segment"
command_word delaunay = codes "delaunay"
command_word cells = codes "cells"
command_word (saddles limit) = codes "saddles"
command_word (flow pair) = codes "flow"

-- the first word of a statement
abbrev statement_word : Statement → List ℕ
statement_word (field_line d) = codes "field"
statement_word (polygon_line pairs) = codes "polygon"
statement_word (table_line pairs) = codes "table"
statement_word (glue_line one two) = codes "glue"
statement_word (command_line stated) = command_word stated
statement_word end_line = codes "end"

-- the words after it spell the arguments of a command
abbrev SpellsArguments : List (List ℕ) → StatedCommand → Type 0
SpellsArguments rest check = rest ≡ []
SpellsArguments rest stratum = rest ≡ []
SpellsArguments rest (segment start pair) = SpellsSegment rest start pair
SpellsArguments rest delaunay = rest ≡ []
SpellsArguments rest cells = rest ≡ []
SpellsArguments rest (saddles limit) = rest ≡ limit ∷ []
SpellsArguments rest (flow pair) = SpellsFlow rest pair

-- the words after it spell the rest of a statement
abbrev SpellsRest : List (List ℕ) → Statement → Type 0
SpellsRest rest (field_line d) = SpellsField rest d
SpellsRest rest (polygon_line pairs) = ArePairs rest pairs
SpellsRest rest (table_line pairs) = ArePairs rest pairs
SpellsRest rest (glue_line one two) = SpellsGlue rest one two
SpellsRest rest (command_line stated) = SpellsArguments rest stated
SpellsRest rest end_line = rest ≡ []

-- the first word of a command, and what the others spell
command_parts : (words : List (List ℕ)) (stated : StatedCommand) → SpellsCommand words stated → (rest : List (List ℕ)) × (words ≡ command_word stated ∷ rest) × SpellsArguments rest stated
command_parts words check s = ([], s, refl)
command_parts words stratum s = ([], s, refl)
command_parts words (segment start pair) s = (s.0 ∷ s.1 ∷ [], s.2, (s.0, s.1, refl, s.3, s.4))
command_parts words delaunay s = ([], s, refl)
command_parts words cells s = ([], s, refl)
command_parts words (saddles limit) s = (limit ∷ [], s, refl)
command_parts words (flow pair) s = (s.0 ∷ [], s.1, (s.0, refl, s.2))

-- the first word of a statement, and what the others spell
spelled_parts : (words : List (List ℕ)) (s : Statement) → SpellsStatement words s → (rest : List (List ℕ)) × (words ≡ statement_word s ∷ rest) × SpellsRest rest s
spelled_parts words (field_line d) s = (s.0 ∷ [], s.1, (s.0, refl, s.2))
spelled_parts words (polygon_line pairs) s = (s.0, s.1, s.2)
spelled_parts words (table_line pairs) s = (s.0, s.1, s.2)
spelled_parts words (glue_line one two) s = (s.0 ∷ s.1 ∷ [], s.2, (s.0, s.1, refl, s.3, s.4))
spelled_parts words (command_line stated) s = command_parts words stated s.4
spelled_parts words end_line s = ([], s, refl)

-- the words after a first word that is known
spelled_rest : (words rest : List (List ℕ)) (word : List ℕ) → words ≡ word ∷ rest → (s : Statement) → SpellsStatement words s → (statement_word s ≡ word) × SpellsRest rest s
spelled_rest words rest word e s shows =
    let p = spelled_parts words s shows in
    let same = sym p.1 ∙ e in
    (heads_equal (statement_word s) word p.0 rest same, subst (λ ws. SpellsRest ws s) (tails_equal (statement_word s) word p.0 rest same) p.2)

-- no words spell nothing
pub nil_spells_none : (words : List (List ℕ)) → words ≡ [] → (s : Statement) → ¬ SpellsStatement words s
nil_spells_none words e s shows = some (statement_word s) (spelled_parts words s shows).0 (sym (spelled_parts words s shows).1 ∙ e)
  where
    some : (word : List ℕ) (rest : List (List ℕ)) → word ∷ rest ≢ []
    some word rest f = cc

-- ---- the first word tells the kind of the statement

-- a number for each command
abbrev command_kind : StatedCommand → ℕ
command_kind check = 5
command_kind stratum = 6
command_kind (segment start pair) = 7
command_kind delaunay = 8
command_kind cells = 9
command_kind (saddles limit) = 10
command_kind (flow pair) = 11

-- a number for each kind of statement, and for each command
abbrev kind : Statement → ℕ
kind (field_line d) = 0
kind (polygon_line pairs) = 1
kind (table_line pairs) = 2
kind (glue_line one two) = 3
kind end_line = 4
kind (command_line stated) = command_kind stated

-- the kind that a first word tells
abbrev kind_of_word : List ℕ → ℕ
kind_of_word name =
    if bytes_eq name (codes "field") then 0
    else if bytes_eq name (codes "polygon") then 1
    else if bytes_eq name (codes "table") then 2
    else if bytes_eq name (codes "glue") then 3
    else if bytes_eq name (codes "end") then 4
    else if bytes_eq name (codes "check") then 5
    else if bytes_eq name (codes "stratum") then 6
    else if bytes_eq name (codes "segment") then 7
    else if bytes_eq name (codes "delaunay") then 8
    else if bytes_eq name (codes "cells") then 9
    else if bytes_eq name (codes "saddles") then 10
    else 11

kind_of_command_word : (stated : StatedCommand) → kind_of_word (command_word stated) ≡ command_kind stated
kind_of_command_word check = refl
kind_of_command_word stratum = refl
kind_of_command_word (segment start pair) = refl
kind_of_command_word delaunay = refl
kind_of_command_word cells = refl
kind_of_command_word (saddles limit) = refl
kind_of_command_word (flow pair) = refl

kind_of_statement_word : (s : Statement) → kind_of_word (statement_word s) ≡ kind s
kind_of_statement_word (field_line d) = refl
kind_of_statement_word (polygon_line pairs) = refl
kind_of_statement_word (table_line pairs) = refl
kind_of_statement_word (glue_line one two) = refl
kind_of_statement_word end_line = refl
kind_of_statement_word (command_line stated) = kind_of_command_word stated

kind_unique : (s t : Statement) → statement_word s ≡ statement_word t → kind s ≡ kind t
kind_unique s t e = sym (kind_of_statement_word s) ∙ (ap kind_of_word e ∙ kind_of_statement_word t)

-- commands have the last numbers
command_kind_least : (stated : StatedCommand) → 5 ≤ command_kind stated
command_kind_least check = omega arith
command_kind_least stratum = omega arith
command_kind_least (segment start pair) = omega arith
command_kind_least delaunay = omega arith
command_kind_least cells = omega arith
command_kind_least (saddles limit) = omega arith
command_kind_least (flow pair) = omega arith

-- ---- lines whose first word is known, and whose other words spell nothing

rest_not_glue : (rest : List (List ℕ)) → ((one two : Corner) → ¬ SpellsGlue rest one two) → (s : Statement) → kind s ≡ 3 → SpellsRest rest s → ⊥
rest_not_glue rest none (glue_line one two) k shows = none one two shows
rest_not_glue rest none (field_line d) k shows = absurd (omega arith)
rest_not_glue rest none (polygon_line pairs) k shows = absurd (omega arith)
rest_not_glue rest none (table_line pairs) k shows = absurd (omega arith)
rest_not_glue rest none (command_line stated) k shows = absurd (omega (arith, command_kind_least stated))
rest_not_glue rest none end_line k shows = absurd (omega arith)

rest_not_field : (rest : List (List ℕ)) → ((d : ℕ) → ¬ SpellsField rest d) → (s : Statement) → kind s ≡ 0 → SpellsRest rest s → ⊥
rest_not_field rest none (field_line d) k shows = none d shows
rest_not_field rest none (polygon_line pairs) k shows = absurd (omega arith)
rest_not_field rest none (table_line pairs) k shows = absurd (omega arith)
rest_not_field rest none (glue_line one two) k shows = absurd (omega arith)
rest_not_field rest none (command_line stated) k shows = absurd (omega (arith, command_kind_least stated))
rest_not_field rest none end_line k shows = absurd (omega arith)

-- words after `glue` that aren't two sides
pub not_glue_statement : (words rest : List (List ℕ)) (word : List ℕ) → words ≡ word ∷ rest → word ≡ codes "glue" → ((one two : Corner) → ¬ SpellsGlue rest one two) → (s : Statement) → ¬ SpellsStatement words s
not_glue_statement words rest word e named none s shows =
    let b = spelled_rest words rest word e s shows in
    rest_not_glue rest none s (sym (kind_of_statement_word s) ∙ ap kind_of_word (b.0 ∙ named)) b.1

-- words after `field` that aren't a numeral
pub not_field_statement : (words rest : List (List ℕ)) (word : List ℕ) → words ≡ word ∷ rest → word ≡ codes "field" → ((d : ℕ) → ¬ SpellsField rest d) → (s : Statement) → ¬ SpellsStatement words s
not_field_statement words rest word e named none s shows =
    let b = spelled_rest words rest word e s shows in
    rest_not_field rest none s (sym (kind_of_statement_word s) ∙ ap kind_of_word (b.0 ∙ named)) b.1

-- ---- commands

-- the words after a first word that is known spell the arguments of a command
spelled_arguments : (word : List ℕ) (rest : List (List ℕ)) (stated : StatedCommand) → SpellsCommand (word ∷ rest) stated → (command_word stated ≡ word) × SpellsArguments rest stated
spelled_arguments word rest stated shows =
    let p = command_parts (word ∷ rest) stated shows in
    (heads_equal (command_word stated) word p.0 rest (sym p.1), subst (λ ws. SpellsArguments ws stated) (tails_equal (command_word stated) word p.0 rest (sym p.1)) p.2)

arguments_not_segment : (rest : List (List ℕ)) → ((start : Corner) (pair : Pair) → ¬ SpellsSegment rest start pair) → (stated : StatedCommand) → command_kind stated ≡ 7 → SpellsArguments rest stated → ⊥
arguments_not_segment rest none check k shows = absurd (omega arith)
arguments_not_segment rest none stratum k shows = absurd (omega arith)
arguments_not_segment rest none (segment start pair) k shows = none start pair shows
arguments_not_segment rest none delaunay k shows = absurd (omega arith)
arguments_not_segment rest none cells k shows = absurd (omega arith)
arguments_not_segment rest none (saddles limit) k shows = absurd (omega arith)
arguments_not_segment rest none (flow pair) k shows = absurd (omega arith)

-- words after `segment` that aren't a corner and a pair
pub not_segment_command : (word : List ℕ) (rest : List (List ℕ)) → word ≡ codes "segment" → ((start : Corner) (pair : Pair) → ¬ SpellsSegment rest start pair) → (stated : StatedCommand) → ¬ SpellsCommand (word ∷ rest) stated
not_segment_command word rest named none stated shows =
    let b = spelled_arguments word rest stated shows in
    arguments_not_segment rest none stated (sym (kind_of_command_word stated) ∙ ap kind_of_word (b.0 ∙ named)) b.1

arguments_not_flow : (rest : List (List ℕ)) → ((pair : Pair) → ¬ SpellsFlow rest pair) → (stated : StatedCommand) → command_kind stated ≡ 11 → SpellsArguments rest stated → ⊥
arguments_not_flow rest none check k shows = absurd (omega arith)
arguments_not_flow rest none stratum k shows = absurd (omega arith)
arguments_not_flow rest none (segment start pair) k shows = absurd (omega arith)
arguments_not_flow rest none delaunay k shows = absurd (omega arith)
arguments_not_flow rest none cells k shows = absurd (omega arith)
arguments_not_flow rest none (saddles limit) k shows = absurd (omega arith)
arguments_not_flow rest none (flow pair) k shows = none pair shows

-- words after `flow` that aren't a pair
pub not_flow_command : (word : List ℕ) (rest : List (List ℕ)) → word ≡ codes "flow" → ((pair : Pair) → ¬ SpellsFlow rest pair) → (stated : StatedCommand) → ¬ SpellsCommand (word ∷ rest) stated
not_flow_command word rest named none stated shows =
    let b = spelled_arguments word rest stated shows in
    arguments_not_flow rest none stated (sym (kind_of_command_word stated) ∙ ap kind_of_word (b.0 ∙ named)) b.1

-- ---- words spell at most one statement

-- the command without arguments that has this number
abbrev bare : ℕ → StatedCommand
bare kind = if kind == 5 then check else if kind == 6 then stratum else if kind == 8 then delaunay else cells

-- the numbers of the commands with arguments
abbrev HasArguments : ℕ → Type 0
HasArguments kind = (kind ≡ 7) ⊎ (10 ≤ kind)

bare_of_kind : (stated : StatedCommand) → ¬ HasArguments (command_kind stated) → stated ≡ bare (command_kind stated)
bare_of_kind check other = refl
bare_of_kind stratum other = refl
bare_of_kind (segment start pair) other = absurd (other (inl refl))
bare_of_kind delaunay other = refl
bare_of_kind cells other = refl
bare_of_kind (saddles limit) other = absurd (other (inr (omega arith)))
bare_of_kind (flow pair) other = absurd (other (inr (omega arith)))

-- commands without arguments are equal where their numbers are
bare_unique : (c e : StatedCommand) → command_kind c ≡ command_kind e → ¬ HasArguments (command_kind c) → c ≡ e
bare_unique c e k other = bare_of_kind c other ∙ (ap bare k ∙ sym (bare_of_kind e (λ has. other (subst HasArguments (sym k) has))))

no_arguments : (kind : ℕ) → kind ≢ 7 → kind < 10 → ¬ HasArguments kind
no_arguments kind seven few (inl e) = seven e
no_arguments kind seven few (inr many) = absurd (omega arith)

arguments_unique : (rest : List (List ℕ)) (c e : StatedCommand) → command_kind c ≡ command_kind e → SpellsArguments rest c → SpellsArguments rest e → c ≡ e
arguments_unique rest check e k a b = bare_unique check e k (no_arguments 5 (omega arith) (omega arith))
arguments_unique rest stratum e k a b = bare_unique stratum e k (no_arguments 6 (omega arith) (omega arith))
arguments_unique rest delaunay e k a b = bare_unique delaunay e k (no_arguments 8 (omega arith) (omega arith))
arguments_unique rest cells e k a b = bare_unique cells e k (no_arguments 9 (omega arith) (omega arith))
arguments_unique rest (segment start pair) check k a b = absurd (omega arith)
arguments_unique rest (segment start pair) stratum k a b = absurd (omega arith)
arguments_unique rest (segment start pair) delaunay k a b = absurd (omega arith)
arguments_unique rest (segment start pair) cells k a b = absurd (omega arith)
arguments_unique rest (segment start pair) (saddles limit) k a b = absurd (omega arith)
arguments_unique rest (segment start pair) (flow other) k a b = absurd (omega arith)
arguments_unique rest (saddles limit) check k a b = absurd (omega arith)
arguments_unique rest (saddles limit) stratum k a b = absurd (omega arith)
arguments_unique rest (saddles limit) (segment start pair) k a b = absurd (omega arith)
arguments_unique rest (saddles limit) delaunay k a b = absurd (omega arith)
arguments_unique rest (saddles limit) cells k a b = absurd (omega arith)
arguments_unique rest (saddles limit) (flow pair) k a b = absurd (omega arith)
arguments_unique rest (saddles limit) (saddles limit') k a b = ap saddles (only_word_unique limit limit' rest a b)
arguments_unique rest (flow pair) check k a b = absurd (omega arith)
arguments_unique rest (flow pair) stratum k a b = absurd (omega arith)
arguments_unique rest (flow pair) (segment start other) k a b = absurd (omega arith)
arguments_unique rest (flow pair) delaunay k a b = absurd (omega arith)
arguments_unique rest (flow pair) cells k a b = absurd (omega arith)
arguments_unique rest (flow pair) (saddles limit) k a b = absurd (omega arith)
arguments_unique rest (flow pair) (flow pair') k a b =
    ap flow (pair_unique a.0 pair pair' a.2 (subst (λ u. IsPair u pair') (only_word_unique b.0 a.0 rest b.1 a.1) b.2))
arguments_unique rest (segment start pair) (segment start' pair') k a b =
    let words = two_words rest (a.1 ∷ []) a.0 b.0 b.1 a.2 b.2 in
    let second = heads_equal b.1 a.1 [] [] (sym words.1) in
    let one = corner_unique a.0 start start' a.3 (subst (λ u. SpellsCorner u start') words.0 b.3) in
    let other = pair_unique a.1 pair pair' a.4 (subst (λ u. IsPair u pair') second b.4) in
    ap (λ (c : Corner). segment c pair) one ∙ ap (λ (p : Pair). segment start' p) other

rest_unique : (rest : List (List ℕ)) (s t : Statement) → kind s ≡ kind t → SpellsRest rest s → SpellsRest rest t → s ≡ t
rest_unique rest (field_line d) (field_line e) k a b = ap field_line (numeral_unique 4 a.0 d e a.2 (subst (λ u. SpellsNumeral 4 u e) (only_word_unique b.0 a.0 rest b.1 a.1) b.2))
rest_unique rest (field_line d) (polygon_line others) k a b = absurd (omega arith)
rest_unique rest (field_line d) (table_line others) k a b = absurd (omega arith)
rest_unique rest (field_line d) (glue_line three four) k a b = absurd (omega arith)
rest_unique rest (field_line d) (command_line c) k a b = absurd (omega (arith, command_kind_least c))
rest_unique rest (field_line d) end_line k a b = absurd (omega arith)
rest_unique rest (polygon_line pairs) (field_line e) k a b = absurd (omega arith)
rest_unique rest (polygon_line pairs) (polygon_line others) k a b = ap polygon_line (pairs_unique rest pairs others a b)
rest_unique rest (polygon_line pairs) (table_line others) k a b = absurd (omega arith)
rest_unique rest (polygon_line pairs) (glue_line three four) k a b = absurd (omega arith)
rest_unique rest (polygon_line pairs) (command_line c) k a b = absurd (omega (arith, command_kind_least c))
rest_unique rest (polygon_line pairs) end_line k a b = absurd (omega arith)
rest_unique rest (table_line pairs) (field_line e) k a b = absurd (omega arith)
rest_unique rest (table_line pairs) (polygon_line others) k a b = absurd (omega arith)
rest_unique rest (table_line pairs) (table_line others) k a b = ap table_line (pairs_unique rest pairs others a b)
rest_unique rest (table_line pairs) (glue_line three four) k a b = absurd (omega arith)
rest_unique rest (table_line pairs) (command_line c) k a b = absurd (omega (arith, command_kind_least c))
rest_unique rest (table_line pairs) end_line k a b = absurd (omega arith)
rest_unique rest (glue_line one two) (field_line e) k a b = absurd (omega arith)
rest_unique rest (glue_line one two) (polygon_line others) k a b = absurd (omega arith)
rest_unique rest (glue_line one two) (table_line others) k a b = absurd (omega arith)
rest_unique rest (glue_line one two) (glue_line three four) k a b =
    let words = two_words rest (a.1 ∷ []) a.0 b.0 b.1 a.2 b.2 in
    let second = heads_equal b.1 a.1 [] [] (sym words.1) in
    let first_same = corner_unique a.0 one three a.3 (subst (λ u. SpellsCorner u three) words.0 b.3) in
    let second_same = corner_unique a.1 two four a.4 (subst (λ u. SpellsCorner u four) second b.4) in
    ap (λ (c : Corner). glue_line c two) first_same ∙ ap (λ (c : Corner). glue_line three c) second_same
rest_unique rest (glue_line one two) (command_line c) k a b = absurd (omega (arith, command_kind_least c))
rest_unique rest (glue_line one two) end_line k a b = absurd (omega arith)
rest_unique rest (command_line c) (field_line e) k a b = absurd (omega (arith, command_kind_least c))
rest_unique rest (command_line c) (polygon_line others) k a b = absurd (omega (arith, command_kind_least c))
rest_unique rest (command_line c) (table_line others) k a b = absurd (omega (arith, command_kind_least c))
rest_unique rest (command_line c) (glue_line three four) k a b = absurd (omega (arith, command_kind_least c))
rest_unique rest (command_line c) (command_line e) k a b = ap command_line (arguments_unique rest c e k a b)
rest_unique rest (command_line c) end_line k a b = absurd (omega (arith, command_kind_least c))
rest_unique rest end_line (field_line e) k a b = absurd (omega arith)
rest_unique rest end_line (polygon_line others) k a b = absurd (omega arith)
rest_unique rest end_line (table_line others) k a b = absurd (omega arith)
rest_unique rest end_line (glue_line three four) k a b = absurd (omega arith)
rest_unique rest end_line (command_line c) k a b = absurd (omega (arith, command_kind_least c))
rest_unique rest end_line end_line k a b = refl

-- words spell one statement at most
pub statement_unique : (words : List (List ℕ)) (s t : Statement) → SpellsStatement words s → SpellsStatement words t → s ≡ t
statement_unique words s t a b =
    let p = spelled_parts words s a in
    let q = spelled_rest words p.0 (statement_word s) p.1 t b in
    rest_unique p.0 s t (kind_unique s t (sym q.0)) p.2 q.1
