-- The parts of a number as they are written, and the texts that begin with them.
use Rattle.std.specs.Prelude.{◌≡◌, ℕ, ◌<◌, ◌≤◌, ◌^◌, Bool, List, [], ◌∷◌, ◌++◌, Option, Some, None, option_map, length}
use Rattle.std.specs.List.{AllByRecursion}
use Rattle.std.specs.Int.{◌∣◌}
use Rattle.std.specs.Char.{digit_value}
use Rattle.std.specs.Str.Parse.{IsNumeral, digits_value}
use Rattle.fs_fraction.specs.declared.written.Ratio.{Ratio as RatioSlices}
use Rattle.fs_fraction.specs.declared.written.Written.{Written as WrittenSlices}
use Rattle.fs_fraction.specs.declared.written.Written.TheVariants.{Rational as RationalSlices, Root as RootSlices, Both as BothSlices}
use Rattle.fs_fraction.specs.Number.{Ratio, Written, Rational, Root, Both, ratio_text, under_runs, numerators, denominators, middle_sign_text}

-- a decimal digit
abbrev pub IsDigit : ℕ → Type 0
IsDigit b = digit_value b < 10

-- the text is empty, or its first byte isn't a P
abbrev pub Stops : (ℕ → Type 0) → List ℕ → Type 0
Stops P [] = Unit {0}
Stops P (b ∷ bs) = ¬ P b

-- the text is a numeral, and then nothing or a byte that is no digit
pub record BeginsNumeral (text digits rest : List ℕ) : Type 0 where
  pub whole : text ≡ digits ++ rest
  pub numeral : IsNumeral 10 digits
  pub ends : Stops IsDigit rest

-- ---- ratios

-- each run is one decimal digit or more
pub record IsRatio (a : Ratio) : Type 0 where
  pub over : IsNumeral 10 a.over
  pub under : AllByRecursion (IsNumeral 10) (under_runs a.under)

-- no run has more than 18 digits
abbrev pub IsNarrowRatio : Ratio → Type 0
IsNarrowRatio a = AllByRecursion (λ run. length run ≤ 18) (a.over ∷ under_runs a.under)

-- the denominator isn't 0
abbrev pub IsDefinedRatio : Ratio → Type 0
IsDefinedRatio a = AllByRecursion (λ run. digits_value 10 run ≡ 0 → ⊥) (under_runs a.under)

-- 1 is the only common divisor of the two numbers, the second of which is above 0, and neither has more than 18 digits
pub record IsLowestRatio (over under : ℕ) : Type 0 where
  pub positive : 0 < under
  pub coprime : (k : ℕ) → k ∣ over → k ∣ under → k ≡ 1
  pub over_below : over < 10 ^ 18
  pub under_below : under < 10 ^ 18

-- a ratio ends there: no digit follows, and no stroke where it has none
abbrev pub Ends : Option (List ℕ) → List ℕ → Type 0
Ends None rest = Stops IsDigit rest × Stops (λ b. b ≡ 47) rest
Ends (Some digits) rest = Stops IsDigit rest

-- the text is a ratio, and then a rest that isn't part of it
pub record Begins (text : List ℕ) (a : Ratio) (rest : List ℕ) : Type 0 where
  pub whole : text ≡ ratio_text a ++ rest
  pub digits : IsRatio a
  pub ends : Ends a.under rest

-- ---- numbers

-- a second part: its sign, a ratio, and the letter r
pub record SpellsSecond (text : List ℕ) (minus : Bool) (a : Ratio) : Type 0 where
  pub whole : text ≡ middle_sign_text minus ++ (ratio_text a ++ 114 ∷ [])
  pub digits : IsRatio a

-- each run of a number is one decimal digit or more
pub record IsWritten (w : Written) : Type 0 where
  pub over : AllByRecursion (IsNumeral 10) (numerators w)
  pub under : AllByRecursion (IsNumeral 10) (denominators w)

-- the ratio and the number that slices of a text spell
abbrev pub ratio_of : RatioSlices → Ratio
ratio_of a = record { over = a.over.now; under = option_map (λ digits. digits.now) a.under }

abbrev pub written_of : WrittenSlices → Written
written_of (RationalSlices a) = Rational a.minus (ratio_of a.ratio)
written_of (RootSlices a) = Root a.minus (ratio_of a.ratio)
written_of (BothSlices a b) = Both a.minus (ratio_of a.ratio) b.minus (ratio_of b.ratio)
