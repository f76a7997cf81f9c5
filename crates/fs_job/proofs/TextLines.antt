-- The lines of a text.
use Rattle.std.proofs.Common.{◌≡◌, ◌≢◌, ℕ, ◌+◌, ◌<◌, ◌≤◌, Bool, true, false, cond, ◌&&◌, Option, None, Some, MatchOption, unwrap_or, List, [], ◌∷◌, ◌++◌, eqb, length, inl, inr, refl, sym, ap, ◌∙◌, subst, arith}
use denote.Ref.{Bor}
use Rattle.std.specs.List.{AllByRecursion}
use Rattle.fs_job.specs.Pieces.{pieces, is_first_byte, without_returns, lines_of}
use Rattle.fs_job.specs.Cuts.{IsCut, DropsReturn}
use Rattle.fs_lists.proofs.All.{All-prefix}
use Rattle.fs_job.proofs.ByteTests.{eqb-false}
use Rattle.fs_job.proofs.TextPieces.{pieces_of_cut, pieces_of_uncut}

and_false : (t : Bool) → (t && false) ≡ false
and_false true = refl
and_false false = refl

-- a byte that no line feed follows is kept
byte_kept : (b : ℕ) (bytes : List ℕ) → is_first_byte 10 bytes ≡ false → without_returns (b ∷ bytes) ≡ b ∷ without_returns bytes
byte_kept b bytes e =
    ap (λ (t : Bool). cond (eqb b 13 && t) (without_returns bytes) (b ∷ without_returns bytes)) e
    ∙ ap (λ (t : Bool). cond t (without_returns bytes) (b ∷ without_returns bytes)) (and_false (eqb b 13))

-- so is one that is no carriage return
no_return_kept : (b : ℕ) (bytes : List ℕ) → b ≢ 13 → without_returns (b ∷ bytes) ≡ b ∷ without_returns bytes
no_return_kept b bytes h = ap (λ (t : Bool). cond (t && is_first_byte 10 bytes) (without_returns bytes) (b ∷ without_returns bytes)) (eqb-false b 13 h)

prefix_not_feed : (prefix rest : List ℕ) → AllByRecursion (λ b. b ≢ 10) prefix → is_first_byte 10 ((prefix ++ 13 ∷ []) ++ 10 ∷ rest) ≡ false
prefix_not_feed [] rest all = refl
prefix_not_feed (b ∷ bs) rest all = eqb-false b 10 all.0

free_not_feed : (text : List ℕ) → AllByRecursion (λ b. b ≢ 10) text → is_first_byte 10 text ≡ false
free_not_feed [] all = refl
free_not_feed (b ∷ bs) all = eqb-false b 10 all.0

with_return : (prefix rest : List ℕ) → AllByRecursion (λ b. b ≢ 10) prefix → without_returns ((prefix ++ 13 ∷ []) ++ 10 ∷ rest) ≡ prefix ++ 10 ∷ without_returns rest
with_return [] rest all = refl
with_return (b ∷ bs) rest all = byte_kept b ((bs ++ 13 ∷ []) ++ 10 ∷ rest) (prefix_not_feed bs rest all.1) ∙ ap (λ (xs : List ℕ). b ∷ xs) (with_return bs rest all.1)

without_return : (prefix rest : List ℕ) → AllByRecursion (λ b. b ≢ 10) prefix → ((more : List ℕ) → prefix ≢ more ++ 13 ∷ []) → without_returns (prefix ++ 10 ∷ rest) ≡ prefix ++ 10 ∷ without_returns rest
without_return [] rest all free = refl
without_return (b ∷ []) rest all free = no_return_kept b (10 ∷ rest) (λ e. free [] (ap (λ (c : ℕ). c ∷ []) e))
without_return (b ∷ c ∷ bs) rest all free =
    byte_kept b (c ∷ bs ++ 10 ∷ rest) (eqb-false c 10 all.1.0)
    ∙ ap (λ (xs : List ℕ). b ∷ xs) (without_return (c ∷ bs) rest all.1 (λ more e. free (b ∷ more) (ap (λ (xs : List ℕ). b ∷ xs) e)))

without_feed : (text : List ℕ) → AllByRecursion (λ b. b ≢ 10) text → without_returns text ≡ text
without_feed [] all = refl
without_feed (b ∷ bs) all = byte_kept b bs (free_not_feed bs all.1) ∙ ap (λ (xs : List ℕ). b ∷ xs) (without_feed bs all.1)

-- a text that is cut at its first line feed
pub lines-cut : (text prefix line rest : List ℕ) → IsCut 10 text prefix rest → DropsReturn prefix line → lines_of text ≡ line ∷ lines_of rest
lines-cut text prefix line rest c drops = elim drops [
  | inl e ↦
      let all = All-prefix (λ b. b ≢ 10) line (13 ∷ []) (subst_all prefix (line ++ 13 ∷ []) e c.first) in
      ap (pieces (λ b. eqb b 10)) (ap without_returns (c.whole ∙ ap (λ (xs : List ℕ). xs ++ 10 ∷ rest) e) ∙ with_return line rest all)
      ∙ pieces_of_cut 10 (line ++ 10 ∷ without_returns rest) line (without_returns rest) (record { whole = refl; first = all })
  | inr e ↦
      let all = subst_all prefix line e.0 c.first in
      ap (pieces (λ b. eqb b 10)) (ap without_returns (c.whole ∙ ap (λ (xs : List ℕ). xs ++ 10 ∷ rest) e.0) ∙ without_return line rest all (λ more f. e.1 more (e.0 ∙ f)))
      ∙ pieces_of_cut 10 (line ++ 10 ∷ without_returns rest) line (without_returns rest) (record { whole = refl; first = all })
]
  where
    subst_all : (xs ys : List ℕ) → xs ≡ ys → AllByRecursion (λ b. b ≢ 10) xs → AllByRecursion (λ b. b ≢ 10) ys
    subst_all xs ys e all = subst (AllByRecursion (λ b. b ≢ 10)) e all

-- a text without one is one line
pub lines-single : (text : List ℕ) → AllByRecursion (λ b. b ≢ 10) text → lines_of text ≡ text ∷ []
lines-single text all = ap (pieces (λ b. eqb b 10)) (without_feed text all) ∙ pieces_of_uncut 10 text all

-- ---- what `strip_suffix` leaves

-- a line, by what `strip_suffix` returns
pub drops_return : (line rest : Bor (List ℕ)) (found : Option (Bor (List ℕ))) → MatchOption found ((prefix : List ℕ) → line.now ≢ prefix ++ 13 ∷ []) (λ x. line.now ≡ x.now ++ 13 ∷ []) → rest ≡ unwrap_or found line → DropsReturn line.now rest.now
drops_return line rest None h e = inr (ap (λ (x : Bor (List ℕ)). x.now) (sym e), h)
drops_return line rest (Some x) h e = inl (h ∙ ap (λ (y : Bor (List ℕ)). y.now ++ 13 ∷ []) (sym e))

-- ---- what is left to be read, where something is

-- the lines of what is left
abbrev pub lines_left : Option (Bor (List ℕ)) → List (List ℕ)
lines_left None = []
lines_left (Some rest) = lines_of rest.now

-- one more than the bytes that are left
abbrev pub bytes_left : Option (Bor (List ℕ)) → ℕ
bytes_left None = 0
bytes_left (Some rest) = length rest.now + 1

-- nothing is left
pub lines_left-none : (rest : Option (Bor (List ℕ))) → ((text : Bor (List ℕ)) → rest ≢ Some text) → lines_left rest ≡ []
lines_left-none None none = refl
lines_left-none (Some text) none = absurd (none text refl)

-- the next line, and those after it
pub lines_left-next : (text line : List ℕ) (more : Option (Bor (List ℕ))) → MatchOption more (lines_of text ≡ line ∷ []) (λ rest. (lines_of text ≡ line ∷ lines_of rest.now) × (length rest.now < length text))
    → lines_of text ≡ line ∷ lines_left more
lines_left-next text line None e = e
lines_left-next text line (Some rest) e = e.0

-- after a line fewer bytes are left
pub bytes_left-fewer : (text line : List ℕ) (more : Option (Bor (List ℕ))) → MatchOption more (lines_of text ≡ line ∷ []) (λ rest. (lines_of text ≡ line ∷ lines_of rest.now) × (length rest.now < length text))
    → bytes_left more ≤ length text
bytes_left-fewer text line None e = omega arith
bytes_left-fewer text line (Some rest) e = let fewer = e.1 in omega arith
