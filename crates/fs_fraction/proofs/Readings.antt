-- What is read of a text is unique.
use Rattle.std.proofs.Common.{◌≡◌, ℕ, List, Option, Some, None, Result, Ok, refl, sym, ◌∙◌, ap, subst}
use Rattle.std.specs.Option.{SomeIff, ok_or}
use Rattle.fs_fraction.specs.declared.number.NumberFault.{NumberFault}
use Rattle.fs_fraction.specs.declared.number.NumberFault.TheVariants.{BadNumber}
use Rattle.fs_fraction.specs.Fraction.{Fraction}
use Rattle.fs_fraction.specs.Number.{Written, Spells, IsNarrow, IsDefined, Reads, number, wide_number, zero_denominator, no_number, value}
use Rattle.fs_fraction.proofs.Parts.{same_written}

-- ---- at most one result

-- what holds of a number as it is written holds of each that the text spells
along : (P : Written → Type 0) (text : List ℕ) (w w' : Written) → Spells text w → Spells text w' → P w → P w'
along P text w w' s s' h = subst P (same_written text w w' s s') h

pub same_read : (text : List ℕ) (r r' : Result Fraction NumberFault) → Reads text r → Reads text r' → r' ≡ r
same_read text r r' (number w s n d e) (number w' s' n' d' e') = e' ∙ (ap (λ (v : Written). Ok (value v)) (same_written text w' w s' s) ∙ sym e)
same_read text r r' (number w s n d e) (wide_number w' s' n' e') = absurd (n' (along IsNarrow text w w' s s' n))
same_read text r r' (number w s n d e) (zero_denominator w' s' n' d' e') = absurd (d' (along IsDefined text w w' s s' d))
same_read text r r' (number w s n d e) (no_number none e') = absurd (none w s)
same_read text r r' (wide_number w s n e) (number w' s' n' d' e') = absurd (n (along IsNarrow text w' w s' s n'))
same_read text r r' (wide_number w s n e) (wide_number w' s' n' e') = e' ∙ sym e
same_read text r r' (wide_number w s n e) (zero_denominator w' s' n' d' e') = absurd (n (along IsNarrow text w' w s' s n'))
same_read text r r' (wide_number w s n e) (no_number none e') = absurd (none w s)
same_read text r r' (zero_denominator w s n d e) (number w' s' n' d' e') = absurd (d (along IsDefined text w' w s' s d'))
same_read text r r' (zero_denominator w s n d e) (wide_number w' s' n' e') = absurd (n' (along IsNarrow text w w' s s' n))
same_read text r r' (zero_denominator w s n d e) (zero_denominator w' s' n' d' e') = e' ∙ sym e
same_read text r r' (zero_denominator w s n d e) (no_number none e') = e' ∙ sym e
same_read text r r' (no_number none e) (number w' s' n' d' e') = absurd (none w' s')
same_read text r r' (no_number none e) (wide_number w' s' n' e') = absurd (none w' s')
same_read text r r' (no_number none e) (zero_denominator w' s' n' d' e') = e' ∙ sym e
same_read text r r' (no_number none e) (no_number none' e') = e' ∙ sym e

-- a narrow number is read as its value, or refused where a denominator is 0
pub read_narrow : (text : List ℕ) (w : Written) (o : Option Fraction) → Spells text w → IsNarrow w → SomeIff o (IsDefined w) (value w) → Reads text (ok_or o BadNumber)
read_narrow text w None s n h = zero_denominator w s n h refl
read_narrow text w (Some x) s n h = number w s n h.0 (ap Ok h.1)
