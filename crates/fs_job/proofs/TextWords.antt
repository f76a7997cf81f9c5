-- The words of a line.
use Rattle.std.proofs.Common.{◌≡◌, ◌≢◌, ℕ, ◌-◌, ◌<◌, ◌≤◌, Bool, true, false, cond, List, [], ◌∷◌, ◌++◌, length, filter, refl, sym, ap, ◌∙◌, subst, arith, append-nil, length-append, take-append-drop, take, drop}
use Rattle.std.proofs.lemmas.List.{take_rest, take_all}
use Rattle.std.specs.List.{AllByRecursion}
use Rattle.fs_job.specs.Pieces.{onto_first, pieces, is_blank, is_not_empty, words_of}
use Rattle.fs_job.specs.Cuts.{Begins}
use Rattle.fs_job.proofs.TextPieces.{pieces-cut, pieces-whole}

words-blank : (b : ℕ) (bytes : List ℕ) → is_blank b ≡ true → words_of (b ∷ bytes) ≡ words_of bytes
words-blank b bytes e = ap (λ (t : Bool). filter is_not_empty (cond t ([] ∷ pieces is_blank bytes) (onto_first b (pieces is_blank bytes)))) e

-- blanks before the first word
words-blanks : (prefix rest : List ℕ) → AllByRecursion (λ b. is_blank b ≡ true) prefix → words_of (prefix ++ rest) ≡ words_of rest
words-blanks [] rest all = refl
words-blanks (b ∷ bs) rest all = words-blank b (bs ++ rest) all.0 ∙ words-blanks bs rest all.1

-- the words after the blanks that a text begins with
pub words-skipped : (text : List ℕ) (i : ℕ) → AllByRecursion (λ b. is_blank b ≡ true) (take i text) → words_of text ≡ words_of (take (length text - i) (drop i text))
words-skipped text i all =
    ap words_of (sym (take-append-drop i text)) ∙ (words-blanks (take i text) (drop i text) all ∙ ap words_of (sym (take_rest text i)))

-- eight spaces before the first word
pub words-eight : (text rest : List ℕ) → text ≡ 32 ∷ 32 ∷ 32 ∷ 32 ∷ 32 ∷ 32 ∷ 32 ∷ 32 ∷ rest → words_of text ≡ words_of rest
words-eight text rest e = ap words_of e ∙ words-blanks (32 ∷ 32 ∷ 32 ∷ 32 ∷ 32 ∷ 32 ∷ 32 ∷ 32 ∷ []) rest (refl, (refl, (refl, (refl, (refl, (refl, (refl, (refl, tt))))))))

-- blanks alone have no words
pub words-all_blank : (text : List ℕ) (i : ℕ) → length text ≤ i → AllByRecursion (λ b. is_blank b ≡ true) (take i text) → words_of text ≡ []
words-all_blank text i h all =
    ap words_of (sym (append-nil text)) ∙ words-blanks text [] (subst (AllByRecursion (λ b. is_blank b ≡ true)) (take_all i text h) all)

-- a word, and then a blank or nothing
words-word : (b : ℕ) (bs rest : List ℕ) → AllByRecursion (λ c. is_blank c ≡ false) (b ∷ bs) → Begins (λ c. is_blank c ≡ true) rest → words_of ((b ∷ bs) ++ rest) ≡ (b ∷ bs) ∷ words_of rest
words-word b bs [] all ends = ap words_of (append-nil (b ∷ bs)) ∙ ap (filter is_not_empty) (pieces-whole is_blank (b ∷ bs) all)
words-word b bs (c ∷ cs) all ends =
    ap (filter is_not_empty) (pieces-cut is_blank (b ∷ bs) c cs all ends) ∙ ap (λ (ws : List (List ℕ)). (b ∷ bs) ∷ ws) (sym (words-blank c cs ends))

true_not_false : true ≡ false → ⊥
true_not_false e = cc

-- the word that a text begins with
pub first_word : (text word rest : List ℕ) → text ≡ word ++ rest → text ≢ [] → Begins (λ c. is_blank c ≡ false) text → AllByRecursion (λ c. is_blank c ≡ false) word → Begins (λ c. is_blank c ≡ true) rest
    → (words_of text ≡ word ∷ words_of rest) × (length rest < length text)
first_word text [] [] e some begins all ends = absurd (some e)
first_word text [] (c ∷ cs) e some begins all ends = absurd (true_not_false (sym ends ∙ subst (Begins (λ c. is_blank c ≡ false)) e begins))
first_word text (b ∷ bs) rest e some begins all ends =
    (ap words_of e ∙ words-word b bs rest all ends, let long = ap length e ∙ length-append (b ∷ bs) rest in omega arith)

onto_first_word : (b : ℕ) (ps : List (List ℕ)) → filter is_not_empty (onto_first b ps) ≢ []
onto_first_word b [] e = cc
onto_first_word b (p ∷ ps) e = cc

-- a text that begins with no blank and has no words is empty
pub empty_without_words : (text : List ℕ) → Begins (λ c. is_blank c ≡ false) text → words_of text ≡ [] → text ≡ []
empty_without_words [] begins e = refl
empty_without_words (b ∷ bytes) begins e =
    absurd
    (onto_first_word b (pieces is_blank bytes)
    (sym (ap (λ (t : Bool). filter is_not_empty (cond t ([] ∷ pieces is_blank bytes) (onto_first b (pieces is_blank bytes)))) begins) ∙ e))
