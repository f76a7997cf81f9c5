-- Texts of corners, cut at their first dot.
use Rattle.std.proofs.Common.{◌≢◌, ℕ, List, [], ◌∷◌, eqb, sym, ◌∙◌, subst, arith}
use Rattle.std.specs.List.{AllByRecursion}
use Rattle.std.specs.Str.Parse.{AllDigits}
use Rattle.fs_lists.proofs.Digits.{digit_in_range}
use Rattle.fs_lists.proofs.Equal.{heads_equal, tails_equal}
use Rattle.fs_plane.specs.declared.corners.Corner.{Corner}
use Rattle.fs_job.specs.Cuts.{IsCut}
use Rattle.fs_job.specs.Pieces.{pieces}
use Rattle.fs_job.specs.Statement.{SpellsNumeral, SpellsCorner}
use Rattle.fs_job.proofs.TextPieces.{pieces_of_cut, uncut_not_two, cut_once_two, single_piece}

digits_no_dot : (text : List ℕ) → AllDigits 10 text → AllByRecursion (λ b. b ≢ 46) text
digits_no_dot [] all = tt
digits_no_dot (c ∷ cs) all = ((λ e. let range = digit_in_range c all.0 in absurd (grind arith)), digits_no_dot cs all.1)

-- a text without a dot is no corner
pub corner_has_dot : (text : List ℕ) → AllByRecursion (λ b. b ≢ 46) text → (c : Corner) → ¬ SpellsCorner text c
corner_has_dot text all c s = uncut_not_two 46 text all s.polygon_text s.side_text s.whole

module _ (text polygon side : List ℕ) (cut : IsCut 46 text polygon side) (c : Corner) where
  -- the texts before and after the first dot of a corner are its two numbers
  pub corner_parts : SpellsCorner text c → SpellsNumeral 4 polygon c.polygon × SpellsNumeral 4 side c.side
  corner_parts s =
      let two = sym (pieces_of_cut 46 text polygon side cut) ∙ s.whole in
      let before = heads_equal polygon s.polygon_text (pieces (λ b. eqb b 46) side) (s.side_text ∷ []) two in
      let after = single_piece (λ b. eqb b 46) side s.side_text (tails_equal polygon s.polygon_text (pieces (λ b. eqb b 46) side) (s.side_text ∷ []) two) in
      (subst (λ u. SpellsNumeral 4 u c.polygon) (sym before) s.polygon, subst (λ u. SpellsNumeral 4 u c.side) (sym after) s.side)

  -- two numbers before and after the first dot are a corner: the second has no dot
  pub corner_of_parts : SpellsNumeral 4 polygon c.polygon → SpellsNumeral 4 side c.side → SpellsCorner text c
  corner_of_parts before after = record {
    polygon_text = polygon;
    side_text = side;
    whole = cut_once_two 46 text polygon side cut (digits_no_dot side after.digits.1);
    polygon = before;
    side = after;
  }
