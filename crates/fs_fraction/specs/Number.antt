-- How numbers are spelled, and which number a text spells.
use Rattle.std.specs.Prelude.{◌≡◌, ℕ, ℤ, pos, neg_ℤ, ◌*◌, ◌/◌, ◌≤◌, ◌*ℤ◌, Bool, true, false, if◌then◌else◌, ◌==◌, List, [], ◌∷◌, ◌++◌, Option, Some, None, Result, Ok, Err, length, unsigned_abs}
use Rattle.std.specs.List.{AllByRecursion}
use Rattle.std.specs.Str.Parse.{IsNumeral, digits_value}
use Rattle.std.specs.Fmt.{decimal}
use Rattle.std.specs.Int.{is_negative}
use Rattle.fs_fraction.specs.declared.number.NumberFault.{NumberFault}
use Rattle.fs_fraction.specs.declared.number.NumberFault.TheVariants.{BadNumber, Wide}
use Rattle.fs_fraction.specs.Divisor.{gcd}
use Rattle.fs_fraction.specs.Fraction.{Fraction, reduced}

-- ---- numbers as they are written

-- a ratio without a sign: the digits before the stroke, and those after it where there is one
pub record Ratio : Type 0 where
  pub over : List ℕ
  pub under : Option (List ℕ)

-- the digits after the stroke, where there is one, as a list of runs
abbrev pub under_runs : Option (List ℕ) → List (List ℕ)
under_runs None = []
under_runs (Some digits) = digits ∷ []

abbrev pub under_text : Option (List ℕ) → List ℕ
under_text None = []
under_text (Some digits) = 47 ∷ digits

-- 3, 3/4
abbrev pub ratio_text : Ratio → List ℕ
ratio_text a = a.over ++ under_text a.under

-- a number: a rational part, an r part, or both. True means a minus sign
pub data Written : Type 0 where
  Rational : Bool → Ratio → Written
  Root : Bool → Ratio → Written
  Both : Bool → Ratio → Bool → Ratio → Written

-- the sign before a first part
abbrev pub sign_text : Bool → List ℕ
sign_text true = 45 ∷ []
sign_text false = []

-- the sign between two parts
abbrev pub middle_sign_text : Bool → List ℕ
middle_sign_text true = 45 ∷ []
middle_sign_text false = 43 ∷ []

-- -3/4, 2r, 1/2-3r
abbrev pub written_text : Written → List ℕ
written_text (Rational minus a) = sign_text minus ++ ratio_text a
written_text (Root minus a) = sign_text minus ++ (ratio_text a ++ 114 ∷ [])
written_text (Both minus a minus' b) = sign_text minus ++ (ratio_text a ++ (middle_sign_text minus' ++ (ratio_text b ++ 114 ∷ [])))

-- the runs of digits after a stroke
abbrev pub denominators : Written → List (List ℕ)
denominators (Rational minus a) = under_runs a.under
denominators (Root minus a) = under_runs a.under
denominators (Both minus a minus' b) = under_runs a.under ++ under_runs b.under

-- those that aren't
abbrev pub numerators : Written → List (List ℕ)
numerators (Rational minus a) = a.over ∷ []
numerators (Root minus a) = a.over ∷ []
numerators (Both minus a minus' b) = a.over ∷ b.over ∷ []

-- the text spells it, each run being one decimal digit or more
pub record Spells (text : List ℕ) (w : Written) : Type 0 where
  pub whole : text ≡ written_text w
  pub over : AllByRecursion (IsNumeral 10) (numerators w)
  pub under : AllByRecursion (IsNumeral 10) (denominators w)

-- no run has more than 18 digits
abbrev pub IsNarrow : Written → Type 0
IsNarrow w = AllByRecursion (λ run. length run ≤ 18) (numerators w ++ denominators w)

-- no denominator is 0
abbrev pub IsDefined : Written → Type 0
IsDefined w = AllByRecursion (λ run. digits_value 10 run ≡ 0 → ⊥) (denominators w)

-- ---- the number that is written

abbrev pub signed : Bool → ℕ → ℤ
signed true n = neg_ℤ (pos n)
signed false n = pos n

abbrev pub over_value : Bool → Ratio → ℤ
over_value minus a = signed minus (digits_value 10 a.over)

-- 1 without a stroke
abbrev pub under_value : Option (List ℕ) → ℕ
under_value None = 1
under_value (Some digits) = digits_value 10 digits

-- in lowest terms
abbrev pub value : Written → Fraction
value (Rational minus a) = reduced (record { p = over_value minus a; q = pos 0 }) (under_value a.under)
value (Root minus a) = reduced (record { p = pos 0; q = over_value minus a }) (under_value a.under)
value (Both minus a minus' b) = reduced
    (record { p = over_value minus a *ℤ pos (under_value b.under); q = over_value minus' b *ℤ pos (under_value a.under) })
    (under_value a.under * under_value b.under)

-- what is read of a text: its number; `Wide`; or `BadNumber`, for a denominator 0 or for a text that spells none
pub data Reads (text : List ℕ) (result : Result Fraction NumberFault) : Type 0 where
  number : (w : Written) → Spells text w → IsNarrow w → IsDefined w → result ≡ Ok (value w) → Reads text result
  wide_number : (w : Written) → Spells text w → ¬ IsNarrow w → result ≡ Err Wide → Reads text result
  zero_denominator : (w : Written) → Spells text w → IsNarrow w → ¬ IsDefined w → result ≡ Err BadNumber → Reads text result
  no_number : ((w : Written) → ¬ Spells text w) → result ≡ Err BadNumber → Reads text result

-- ---- the one spelling of a fraction

-- n/m in lowest terms; a denominator of 1 isn't written
abbrev pub ratio_spelling : ℕ → ℕ → List ℕ
ratio_spelling n m = decimal (n / gcd n m) ++ (if m / gcd n m == 1 then [] else 47 ∷ decimal (m / gcd n m))

-- the rational part with its sign
abbrev pub rational_spelling : ℤ → ℕ → List ℕ
rational_spelling p den = sign_text (is_negative p) ++ ratio_spelling (unsigned_abs p) den

-- the r part without its sign
abbrev pub r_part_spelling : ℤ → ℕ → List ℕ
r_part_spelling q den = ratio_spelling (unsigned_abs q) den ++ 114 ∷ []

-- a part that is 0 isn't written, but for the number 0
abbrev pub spelling : Fraction → List ℕ
spelling x =
    if unsigned_abs x.num.q == 0 then rational_spelling x.num.p x.den
    else if unsigned_abs x.num.p == 0 then sign_text (is_negative x.num.q) ++ r_part_spelling x.num.q x.den
    else rational_spelling x.num.p x.den ++ (middle_sign_text (is_negative x.num.q) ++ r_part_spelling x.num.q x.den)
