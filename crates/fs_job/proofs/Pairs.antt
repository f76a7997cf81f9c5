-- Words that are pairs.
use Rattle.std.proofs.Common.{◌≡◌, ◌≢◌, ℕ, ◌+◌, List, [], ◌∷◌, ◌++◌, eqb, length, refl, sym, ap, ◌∙◌, subst, arith, append_assoc, length-append}
use Rattle.fs_job.specs.Pieces.{pieces}
use Rattle.fs_job.specs.Statement.{Pair, IsPair, ArePairs}
use Rattle.fs_job.specs.Line.{pair_of_pieces, pair_of, pairs_of}
use Rattle.fs_lists.proofs.Equal.{heads_equal, tails_equal}

pieces_of_pair : (ps : List (List ℕ)) (x y : List ℕ) → ps ≡ x ∷ y ∷ [] → ps ≡ (pair_of_pieces ps).x ∷ (pair_of_pieces ps).y ∷ []
pieces_of_pair ps x y e = subst (λ (qs : List (List ℕ)). qs ≡ (pair_of_pieces qs).x ∷ (pair_of_pieces qs).y ∷ []) (sym e) refl

-- a word with one comma
pub pair_of_word : (word x y : List ℕ) → pieces (λ b. eqb b 44) word ≡ x ∷ y ∷ [] → IsPair word (pair_of word)
pair_of_word word x y e = pieces_of_pair (pieces (λ b. eqb b 44) word) x y e

-- ---- the pairs so far

-- the words before the rest are pairs, and so many
pub record PairsBefore (words rest : List (List ℕ)) (count : ℕ) : Type 0 where
  pub before : List (List ℕ)
  pub whole : words ≡ before ++ rest
  pub pairs : ArePairs before (pairs_of before)
  pub counted : count ≡ length before

-- a pair more
are_pairs_append : (before : List (List ℕ)) (word : List ℕ) → ArePairs before (pairs_of before) → IsPair word (pair_of word) → ArePairs (before ++ word ∷ []) (pairs_of (before ++ word ∷ []))
are_pairs_append [] word all pair = (pair, tt)
are_pairs_append (w ∷ ws) word all pair = (all.0, are_pairs_append ws word all.1 pair)

-- the next word is a pair
pub pairs_before_next : (words old rest : List (List ℕ)) (word : List ℕ) (count : ℕ) → PairsBefore words old count → old ≡ word ∷ rest → IsPair word (pair_of word) → PairsBefore words rest (count + 1)
pairs_before_next words old rest word count p e pair = record {
  before = p.before ++ word ∷ [];
  whole = p.whole ∙ (ap (λ (ws : List (List ℕ)). p.before ++ ws) e ∙ sym (append_assoc p.before (word ∷ []) rest));
  pairs = are_pairs_append p.before word p.pairs pair;
  counted = let counted = p.counted in omega (arith, length-append p.before (word ∷ []));
}

-- a word that is no pair
not_pairs_from : (before rest : List (List ℕ)) (word : List ℕ) → ((x y : List ℕ) → pieces (λ b. eqb b 44) word ≢ x ∷ y ∷ []) → (pairs : List Pair) → ArePairs (before ++ word ∷ rest) pairs → ⊥
not_pairs_from [] rest word no_pair [] all = all
not_pairs_from [] rest word no_pair (pair ∷ pairs) all = no_pair pair.x pair.y all.0
not_pairs_from (w ∷ ws) rest word no_pair [] all = all
not_pairs_from (w ∷ ws) rest word no_pair (pair ∷ pairs) all = not_pairs_from ws rest word no_pair pairs all.1

-- the next word is no pair
pub not_pairs : (words old rest : List (List ℕ)) (word : List ℕ) (count : ℕ) → PairsBefore words old count → old ≡ word ∷ rest → ((x y : List ℕ) → pieces (λ b. eqb b 44) word ≢ x ∷ y ∷ []) → (pairs : List Pair) → ¬ ArePairs words pairs
not_pairs words old rest word count p e no_pair pairs all =
    not_pairs_from p.before rest word no_pair pairs (subst (λ (ws : List (List ℕ)). ArePairs ws pairs) (p.whole ∙ ap (λ (ws : List (List ℕ)). p.before ++ ws) e) all)

-- ---- words are pairs in one way only

-- a word is one pair at most
pub pair_unique : (word : List ℕ) (p q : Pair) → IsPair word p → IsPair word q → p ≡ q
pair_unique word p q s t =
    let e = sym s ∙ t in
    let x = heads_equal p.x q.x (p.y ∷ []) (q.y ∷ []) e in
    let y = heads_equal p.y q.y [] [] (tails_equal p.x q.x (p.y ∷ []) (q.y ∷ []) e) in
    ap (λ (u : List ℕ). record { x = u; y = p.y }) x ∙ ap (λ (u : List ℕ). record { x = q.x; y = u }) y

-- words are one list of pairs at most
pub pairs_unique : (words : List (List ℕ)) (ps qs : List Pair) → ArePairs words ps → ArePairs words qs → ps ≡ qs
pairs_unique [] [] [] s t = refl
pairs_unique [] [] (q ∷ qs) s t = absurd t
pairs_unique [] (p ∷ ps) qs s t = absurd s
pairs_unique (w ∷ ws) [] qs s t = absurd s
pairs_unique (w ∷ ws) (p ∷ ps) [] s t = absurd t
pairs_unique (w ∷ ws) (p ∷ ps) (q ∷ qs) s t = ap (λ (r : Pair). r ∷ ps) (pair_unique w p q s.0 t.0) ∙ ap (λ (rs : List Pair). q ∷ rs) (pairs_unique ws ps qs s.1 t.1)

-- as many pairs as words
pub length-pairs_of : (words : List (List ℕ)) → length (pairs_of words) ≡ length words
length-pairs_of [] = refl
length-pairs_of (w ∷ ws) = let more = length-pairs_of ws in omega arith
