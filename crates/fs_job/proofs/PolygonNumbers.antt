-- The numbers of a polygon or table line, read from left to right.
use Rattle.std.proofs.Common.{◌≡◌, ◌≢◌, ℕ, List, [], ◌∷◌, ◌++◌, Option, None, Some, MatchOption, unwrap_or, eqb, length, refl, sym, ap, ◌∙◌, subst, append_assoc, arith}
use denote.Ref.{Bor}
use Rattle.std.specs.List.{AllByRecursion}
use Rattle.fs_fraction.specs.declared.number.NumberFault.{NumberFault}
use Rattle.fs_gluing.specs.declared.shapes.Point.{Point}
use Rattle.fs_job.specs.Pieces.{pieces}
use Rattle.fs_job.specs.Statement.{Pair, IsPair, ArePairs, NumberText, pair_texts, polygon_line, number_texts}
use Rattle.fs_job.specs.Draft.{IsPoint, ArePoints, IsNumber, HasBadNumber}
use Rattle.fs_job.specs.Line.{pair_of, pairs_of}
use Rattle.fs_job.specs.Cuts.{IsCut}
use Rattle.fs_lists.proofs.First.{first_of_prefix, first_of_suffix}
use Rattle.fs_lists.proofs.Equal.{heads_equal, tails_equal}
use Rattle.fs_job.proofs.NumberTexts.{point_is_numbers, point_unique}
use Rattle.fs_job.proofs.TextPieces.{uncut_not_two, pieces_of_cut, single_piece}

-- ---- the two texts of a pair

abbrev Bytes : Type 0
Bytes = Bor (List ℕ)

-- the texts that a cut at the comma gives
pub texts_of_cut : (word none : Bytes) (found : Option (Bytes × Bytes)) → MatchOption found (AllByRecursion (λ b. b ≢ 44) word.now) (λ parts. IsCut 44 word.now parts.0.now parts.1.now) → IsPair word.now (pair_of word.now)
    → ((unwrap_or found (word, none)).0.now ≡ (pair_of word.now).x) × ((unwrap_or found (word, none)).1.now ≡ (pair_of word.now).y)
texts_of_cut word none None all pair = absurd (uncut_not_two 44 word.now all (pair_of word.now).x (pair_of word.now).y pair)
texts_of_cut word none (Some parts) cut pair =
    let p = pair_of word.now in
    let e = sym (pieces_of_cut 44 word.now parts.0.now parts.1.now cut) ∙ pair in
    let rest = tails_equal parts.0.now p.x (pieces (λ b. eqb b 44) parts.1.now) (p.y ∷ []) e in
    (heads_equal parts.0.now p.x (pieces (λ b. eqb b 44) parts.1.now) (p.y ∷ []) e, single_piece (λ b. eqb b 44) parts.1.now p.y rest)

-- ---- the first text that is no number

bad_number_append : (texts more : List NumberText) (fault : NumberFault) → HasBadNumber texts fault → HasBadNumber (texts ++ more) fault
bad_number_append texts more fault u = (u.0, first_of_prefix IsNumber texts more u.0 u.1, u.2)

bad_number_after_pair : (pair : Pair) (texts : List NumberText) (fault : NumberFault) → AllByRecursion IsNumber (pair_texts pair) → HasBadNumber texts fault → HasBadNumber (pair_texts pair ++ texts) fault
bad_number_after_pair pair texts fault all u = (u.0, first_of_suffix IsNumber (pair_texts pair) texts u.0 all u.1, u.2)

-- ---- the points so far

-- the words before the rest spell these points
pub record PointsBefore (words rest : List (List ℕ)) (points : List Point) : Type 0 where
  pub before : List (List ℕ)
  pub whole : words ≡ before ++ rest
  pub spelled : ArePoints (pairs_of before) points

are_points_append : (before : List (List ℕ)) (word : List ℕ) (points : List Point) (point : Point) → ArePoints (pairs_of before) points
    → IsPoint (pair_of word) point → ArePoints (pairs_of (before ++ word ∷ [])) (points ++ point ∷ [])
are_points_append [] word [] point all read = (read, tt)
are_points_append [] word (p ∷ ps) point all read = absurd all
are_points_append (w ∷ ws) word [] point all read = absurd all
are_points_append (w ∷ ws) word (p ∷ ps) point all read = (all.0, are_points_append ws word ps point all.1 read)

-- the next word spells a point
pub points_before_next : (words old rest : List (List ℕ)) (word : List ℕ) (points : List Point) (point : Point) → PointsBefore words old points → old ≡ word ∷ rest
    → IsPoint (pair_of word) point → PointsBefore words rest (points ++ point ∷ [])
points_before_next words old rest word points point p e read = record {
  before = p.before ++ word ∷ [];
  whole = p.whole ∙ (ap (λ (ws : List (List ℕ)). p.before ++ ws) e ∙ sym (append_assoc p.before (word ∷ []) rest));
  spelled = are_points_append p.before word points point p.spelled read;
}

-- the next word is a pair
pair_at : (before rest : List (List ℕ)) (word : List ℕ) → ArePairs (before ++ word ∷ rest) (pairs_of (before ++ word ∷ rest)) → IsPair word (pair_of word)
pair_at [] rest word all = all.0
pair_at (w ∷ ws) rest word all = pair_at ws rest word all.1

-- the next word is a pair
pub next_is_pair : (words old rest : List (List ℕ)) (word : List ℕ) (points : List Point) → PointsBefore words old points → old ≡ word ∷ rest → ArePairs words (pairs_of words) → IsPair word (pair_of word)
next_is_pair words old rest word points p e all =
    pair_at p.before rest word (subst (λ (ws : List (List ℕ)). ArePairs ws (pairs_of ws)) (p.whole ∙ ap (λ (ws : List (List ℕ)). p.before ++ ws) e) all)

bad_number_from : (before rest : List (List ℕ)) (word : List ℕ) (points : List Point) (fault : NumberFault) → ArePoints (pairs_of before) points
    → HasBadNumber (pair_texts (pair_of word)) fault → HasBadNumber (number_texts (polygon_line (pairs_of (before ++ word ∷ rest)))) fault
bad_number_from [] rest word points fault all u = bad_number_append (pair_texts (pair_of word)) (number_texts (polygon_line (pairs_of rest))) fault u
bad_number_from (w ∷ ws) rest word [] fault all u = absurd all
bad_number_from (w ∷ ws) rest word (p ∷ ps) fault all u =
    bad_number_after_pair (pair_of w) (number_texts (polygon_line (pairs_of (ws ++ word ∷ rest)))) fault (point_is_numbers (pair_of w) p all.0) (bad_number_from ws rest word ps fault all.1 u)

-- the next word has a text that is no number
pub bad_number_at : (words old rest : List (List ℕ)) (word : List ℕ) (points : List Point) (fault : NumberFault) → PointsBefore words old points → old ≡ word ∷ rest
    → HasBadNumber (pair_texts (pair_of word)) fault → HasBadNumber (number_texts (polygon_line (pairs_of words))) fault
bad_number_at words old rest word points fault p e u =
    subst (λ (ws : List (List ℕ)). HasBadNumber (number_texts (polygon_line (pairs_of ws))) fault) (sym (p.whole ∙ ap (λ (ws : List (List ℕ)). p.before ++ ws) e))
    (bad_number_from p.before rest word points fault p.spelled u)

-- ---- points and their texts

-- the texts of points are numbers
pub points_are_numbers : (pairs : List Pair) (points : List Point) → ArePoints pairs points → AllByRecursion IsNumber (number_texts (polygon_line pairs))
points_are_numbers [] points all = tt
points_are_numbers (p ∷ ps) [] all = absurd all
points_are_numbers (p ∷ ps) (q ∷ qs) all = ((q.x, all.0.0), ((q.y, all.0.1), points_are_numbers ps qs all.1))

-- texts that are numbers spell points
pub points_exist : (pairs : List Pair) → AllByRecursion IsNumber (number_texts (polygon_line pairs)) → (points : List Point) × ArePoints pairs points
points_exist [] all = ([], tt)
points_exist (p ∷ ps) all =
    let more = points_exist ps all.1.1 in
    ((record { x = all.0.0; y = all.1.0.0 }) ∷ more.0, ((all.0.1, all.1.0.1), more.1))

-- pairs spell one list of points at most
pub points_unique : (pairs : List Pair) (ps qs : List Point) → ArePoints pairs ps → ArePoints pairs qs → ps ≡ qs
points_unique [] [] [] a b = refl
points_unique [] [] (q ∷ qs) a b = absurd b
points_unique [] (p ∷ ps) qs a b = absurd a
points_unique (r ∷ rs) [] qs a b = absurd a
points_unique (r ∷ rs) (p ∷ ps) [] a b = absurd b
points_unique (r ∷ rs) (p ∷ ps) (q ∷ qs) a b =
    ap (λ (u : Point). u ∷ ps) (point_unique r p q a.0 b.0) ∙ ap (λ (us : List Point). q ∷ us) (points_unique rs ps qs a.1 b.1)

-- as many points as pairs
pub length-points : (pairs : List Pair) (points : List Point) → ArePoints pairs points → length points ≡ length pairs
length-points [] [] all = refl
length-points [] (q ∷ qs) all = absurd all
length-points (p ∷ ps) [] all = absurd all
length-points (p ∷ ps) (q ∷ qs) all = let more = length-points ps qs all.1 in omega arith
