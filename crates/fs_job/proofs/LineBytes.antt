-- The bytes of the lines of a text.
use Rattle.std.proofs.Common.{◌≡◌, ℕ, Bool, true, false, cond, ◌&&◌, inl, inr, List, [], ◌∷◌, eqb, refl, sym, ap, ◌∙◌, subst}
use Rattle.std.specs.List.{AllByRecursion}
use Rattle.fs_job.specs.Cuts.{IsTextOrFeed}
use Rattle.fs_job.specs.Pieces.{onto_first, pieces, is_first_byte, without_returns, lines_of, IsTextByte, IsText}

all_kept : (P : ℕ → Type 0) (b : ℕ) (bytes : List ℕ) (drops : Bool) → P b → AllByRecursion P bytes → AllByRecursion P (cond drops bytes (b ∷ bytes))
all_kept P b bytes true one all = all
all_kept P b bytes false one all = (one, all)

without_returns_all : (P : ℕ → Type 0) (bytes : List ℕ) → AllByRecursion P bytes → AllByRecursion P (without_returns bytes)
without_returns_all P [] all = tt
without_returns_all P (b ∷ bytes) all = all_kept P b (without_returns bytes) (eqb b 13 && is_first_byte 10 bytes) all.0 (without_returns_all P bytes all.1)

onto_first_text : (b : ℕ) (ps : List (List ℕ)) → IsTextByte b → AllByRecursion IsText ps → AllByRecursion IsText (onto_first b ps)
onto_first_text b [] text all = ((text, tt), tt)
onto_first_text b (p ∷ ps) text all = ((text, all.0), all.1)

piece_text : (b : ℕ) (ps : List (List ℕ)) (feed : Bool) → eqb b 10 ≡ feed → IsTextOrFeed b → AllByRecursion IsText ps → AllByRecursion IsText (cond feed ([] ∷ ps) (onto_first b ps))
piece_text b ps true e one all = (tt, all)
piece_text b ps false e one all = elim one [
  | inl text ↦ onto_first_text b ps text all
  | inr same ↦ absurd (not_false (sym (ap (λ (c : ℕ). eqb c 10) same) ∙ e))
]
  where
    not_false : true ≡ false → ⊥
    not_false f = cc

pieces_text : (bytes : List ℕ) → AllByRecursion IsTextOrFeed bytes → AllByRecursion IsText (pieces (λ b. eqb b 10) bytes)
pieces_text [] all = (tt, tt)
pieces_text (b ∷ bytes) all = piece_text b (pieces (λ c. eqb c 10) bytes) (eqb b 10) refl all.0 (pieces_text bytes all.1)

-- where each byte is one that a line may have, or a line feed, each line is text
pub lines_text : (bytes : List ℕ) → AllByRecursion IsTextOrFeed bytes → AllByRecursion IsText (lines_of bytes)
lines_text bytes all = pieces_text (without_returns bytes) (without_returns_all IsTextOrFeed bytes all)

-- a line and those after it
pub next_text : (old rest : List (List ℕ)) (line : List ℕ) → old ≡ line ∷ rest → AllByRecursion IsText old → IsText line × AllByRecursion IsText rest
next_text old rest line e all = subst (AllByRecursion IsText) e all
