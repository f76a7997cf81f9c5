-- The pieces of a text.
use Rattle.std.proofs.Common.{◌≡◌, ◌≢◌, ℕ, Bool, true, false, cond, List, [], ◌∷◌, ◌++◌, eqb, refl, sym, ap, ◌∙◌}
use Rattle.std.specs.List.{AllByRecursion}
use Rattle.fs_job.specs.Pieces.{onto_first, pieces}
use Rattle.fs_job.specs.Cuts.{IsCut}
use Rattle.fs_job.proofs.ByteTests.{eqb-false, eqb-same}
use Rattle.fs_lists.proofs.Equal.{heads_equal, tails_equal}
use Rattle.fs_lists.proofs.All.{All-weaker}

-- a prefix in which no byte passes, and a byte that does
pub pieces-cut : (at : ℕ → Bool) (prefix : List ℕ) (b : ℕ) (rest : List ℕ) → AllByRecursion (λ c. at c ≡ false) prefix → at b ≡ true → pieces at (prefix ++ b ∷ rest) ≡ prefix ∷ pieces at rest
pieces-cut at [] b rest all e = ap (λ (t : Bool). cond t ([] ∷ pieces at rest) (onto_first b (pieces at rest))) e
pieces-cut at (c ∷ cs) b rest all e =
    ap (λ (t : Bool). cond t ([] ∷ pieces at (cs ++ b ∷ rest)) (onto_first c (pieces at (cs ++ b ∷ rest)))) all.0
    ∙ ap (onto_first c) (pieces-cut at cs b rest all.1 e)

-- no byte passes
pub pieces-whole : (at : ℕ → Bool) (text : List ℕ) → AllByRecursion (λ c. at c ≡ false) text → pieces at text ≡ text ∷ []
pieces-whole at [] all = refl
pieces-whole at (c ∷ cs) all =
    ap (λ (t : Bool). cond t ([] ∷ pieces at cs) (onto_first c (pieces at cs))) all.0 ∙ ap (onto_first c) (pieces-whole at cs all.1)

onto_first-not_nil : (b : ℕ) (ps : List (List ℕ)) → onto_first b ps ≢ []
onto_first-not_nil b [] e = cc
onto_first-not_nil b (p ∷ ps) e = cc

empty_first-not_nil : (ps : List (List ℕ)) → ◌≢◌ {A = List (List ℕ)} ([] ∷ ps) []
empty_first-not_nil ps e = cc

cond-not_nil : (t : Bool) (ps qs : List (List ℕ)) → ps ≢ [] → qs ≢ [] → cond t ps qs ≢ []
cond-not_nil true ps qs a b = a
cond-not_nil false ps qs a b = b

-- there is a piece
pieces-not_nil : (at : ℕ → Bool) (text : List ℕ) → pieces at text ≢ []
pieces-not_nil at [] = empty_first-not_nil []
pieces-not_nil at (c ∷ cs) = cond-not_nil (at c) ([] ∷ pieces at cs) (onto_first c (pieces at cs)) (empty_first-not_nil (pieces at cs)) (onto_first-not_nil c (pieces at cs))

-- ---- cuts at one byte

tests_false : (separator : ℕ) (text : List ℕ) → AllByRecursion (λ b. b ≢ separator) text → AllByRecursion (λ b. eqb b separator ≡ false) text
tests_false separator text all = All-weaker text (λ b. eqb-false b separator) all

-- a text cut at its first separator
pub pieces_of_cut : (separator : ℕ) (text prefix rest : List ℕ) → IsCut separator text prefix rest → pieces (λ b. eqb b separator) text ≡ prefix ∷ pieces (λ b. eqb b separator) rest
pieces_of_cut separator text prefix rest c =
    ap (pieces (λ b. eqb b separator)) c.whole ∙ pieces-cut (λ b. eqb b separator) prefix separator rest (tests_false separator prefix c.first) (eqb-same separator)

-- a text without the separator
pub pieces_of_uncut : (separator : ℕ) (text : List ℕ) → AllByRecursion (λ b. b ≢ separator) text → pieces (λ b. eqb b separator) text ≡ text ∷ []
pieces_of_uncut separator text all = pieces-whole (λ b. eqb b separator) text (tests_false separator text all)

one_not_two : {X : Type 0} (x y z : X) → x ∷ [] ≢ y ∷ z ∷ []
one_not_two x y z e = cc

three_not_two : {X : Type 0} (x y z w : X) (ws : List X) → x ∷ y ∷ ws ≡ z ∷ w ∷ [] → ws ≡ []
three_not_two x y z w ws e = cc

-- a text without the separator, with one, and with more
pub uncut_not_two : (separator : ℕ) (text : List ℕ) → AllByRecursion (λ b. b ≢ separator) text → (x y : List ℕ) → pieces (λ b. eqb b separator) text ≢ x ∷ y ∷ []
uncut_not_two separator text all x y e = one_not_two text x y (sym (pieces_of_uncut separator text all) ∙ e)

-- a text with one separator has two pieces
pub cut_once_two : (separator : ℕ) (text prefix rest : List ℕ) → IsCut separator text prefix rest → AllByRecursion (λ b. b ≢ separator) rest → pieces (λ b. eqb b separator) text ≡ prefix ∷ rest ∷ []
cut_once_two separator text prefix rest c all = pieces_of_cut separator text prefix rest c ∙ ap (λ (ps : List (List ℕ)). prefix ∷ ps) (pieces_of_uncut separator rest all)

-- a text with two separators hasn't two pieces
pub cut_twice_not_two : (separator : ℕ) (text prefix mid more rest : List ℕ) → IsCut separator text prefix more → IsCut separator more mid rest → (x y : List ℕ) → pieces (λ b. eqb b separator) text ≢ x ∷ y ∷ []
cut_twice_not_two separator text prefix mid more rest c c' x y e =
    let at = λ (b : ℕ). eqb b separator in
    pieces-not_nil at rest (three_not_two prefix mid x y (pieces at rest)
    (sym (pieces_of_cut separator text prefix more c ∙ ap (λ (ps : List (List ℕ)). prefix ∷ ps) (pieces_of_cut separator more mid rest c')) ∙ e))

-- ---- one piece is the whole text

single_piece_step : (t : Bool) (c : ℕ) (ps : List (List ℕ)) (y : List ℕ) → ps ≢ [] → cond t ([] ∷ ps) (onto_first c ps) ≡ y ∷ [] → (p : List ℕ) × (ps ≡ p ∷ []) × (c ∷ p ≡ y)
single_piece_step true c ps y some e = absurd (some (tails_equal [] y ps [] e))
single_piece_step false c [] y some e = absurd (some refl)
single_piece_step false c (p ∷ ps) y some e = (p, ap (λ (qs : List (List ℕ)). p ∷ qs) (tails_equal (c ∷ p) y ps [] e), heads_equal (c ∷ p) y ps [] e)

-- a text with one piece is that piece
pub single_piece : (at : ℕ → Bool) (text y : List ℕ) → pieces at text ≡ y ∷ [] → text ≡ y
single_piece at [] y e = heads_equal [] y [] [] e
single_piece at (c ∷ cs) y e =
    let step = single_piece_step (at c) c (pieces at cs) y (pieces-not_nil at cs) e in
    ap (λ (xs : List ℕ). c ∷ xs) (single_piece at cs step.0 step.1) ∙ step.2
