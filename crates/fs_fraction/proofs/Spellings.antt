-- The spelling of a fraction spells it.
use Rattle.std.proofs.Common.{◌≡◌, ℕ, ℤ, pos, negsuc, ◌*ℤ◌, ◌*◌, ◌/◌, ◌<◌, ◌^◌, Bool, true, false, if◌then◌else◌, List, [], ◌∷◌, ◌++◌, Some, None, Ok, refl, sym, ◌∙◌, ap, subst, arith, append_assoc}
use Rattle.std.proofs.Math.Nat.{mul-div_cancel', div-le_self, mul-pos}
use Rattle.std.proofs.lemmas.Bool.Decides.{nat_tests}
use Rattle.std.proofs.lemmas.List.{append-nil}
use Rattle.std.proofs.lemmas.Fmt.{decimal_is_IsNumeral_wide}
use Rattle.std.specs.Prelude.{unsigned_abs, int_div, ◌==◌}
use Rattle.std.specs.Int.{is_negative}
use Rattle.std.specs.Fmt.{decimal}
use Rattle.std.specs.List.{AllByRecursion}
use Rattle.std.specs.Str.Parse.{IsNumeral, digits_value}
use Rattle.fs_ring.proofs.Integers.{integer_ring}
use Rattle.fs_ring.proofs.Solver.{identity, numeral, ◌⊗◌, ◌≐◌}
use Rattle.fs_quadratic.specs.Width.{Fits}
use Rattle.fs_lists.proofs.All.{All-append}
use Rattle.fs_quadratic.proofs.Laws.{quadratic_eq}
use Rattle.fs_fraction.specs.Divisor.{gcd}
use Rattle.fs_fraction.specs.Fraction.{Fraction, IsLowest}
use Rattle.fs_fraction.specs.Number.{Ratio, Written, Rational, Root, Both, Spells, IsNarrow, IsDefined, Reads, number, value, over_value, under_value, signed, ratio_text, under_text, under_runs, sign_text, middle_sign_text, ratio_spelling, rational_spelling, r_part_spelling, spelling}
use Rattle.fs_fraction.specs.Parts.{IsRatio, IsDefinedRatio}
use Rattle.fs_fraction.proofs.Divisors.{gcd-is, quotient_positive}
use Rattle.fs_fraction.proofs.Lowest.{quotient_times, zero_size, size_within}
use Rattle.fs_fraction.proofs.Values.{reduced-unique}

-- ---- n/m in lowest terms

-- as it is written
quotient_as : ℕ → ℕ → Ratio
quotient_as n m = record { over = decimal (n / gcd n m); under = if m / gcd n m == 1 then None else Some (decimal (m / gcd n m)) }

under_text-if : (b : Bool) (digits : List ℕ) → under_text (if b then None else Some digits) ≡ (if b then [] else 47 ∷ digits)
under_text-if true digits = refl
under_text-if false digits = refl

as_text : (n m : ℕ) → ratio_text (quotient_as n m) ≡ ratio_spelling n m
unfolding quotient_as
as_text n m = ap (λ (t : List ℕ). decimal (n / gcd n m) ++ t) (under_text-if (m / gcd n m == 1) (decimal (m / gcd n m)))

numeral_of : (n : ℕ) → n < 2 ^ 127 → IsNumeral 10 (decimal n) × (digits_value 10 (decimal n) ≡ n)
numeral_of n h = decimal_is_IsNumeral_wide n (omega arith)

runs-if : (P : List ℕ → Type 0) (b : Bool) (digits : List ℕ) → P digits → AllByRecursion P (under_runs (if b then None else Some digits))
runs-if P true digits h = tt
runs-if P false digits h = (h, tt)

under_value-if : (b : Bool) (k : ℕ) → (b ≡ true → k ≡ 1) → digits_value 10 (decimal k) ≡ k → under_value (if b then None else Some (decimal k)) ≡ k
under_value-if true k one e = sym (one refl)
under_value-if false k one e = e

module _ (n m : ℕ) (small : n < 2 ^ 127) (within : m < 2 ^ 127) (up : 0 < m) where
  over_small : n / gcd n m < 2 ^ 127
  over_small = let less = div-le_self n (gcd n m) in omega arith

  under_small : m / gcd n m < 2 ^ 127
  under_small = let less = div-le_self m (gcd n m) in omega arith

  as_digits : IsRatio (quotient_as n m)
  unfolding quotient_as
  as_digits = record { over = (numeral_of (n / gcd n m) over_small).0; under = runs-if (IsNumeral 10) (m / gcd n m == 1) (decimal (m / gcd n m)) (numeral_of (m / gcd n m) under_small).0 }

  as_defined : IsDefinedRatio (quotient_as n m)
  unfolding quotient_as
  as_defined =
      let positive : 0 < m / gcd n m = quotient_positive (gcd n m) m ((gcd-is n m).1) up in
      let same = (numeral_of (m / gcd n m) under_small).1 in
      runs-if (λ run. digits_value 10 run ≡ 0 → ⊥) (m / gcd n m == 1) (decimal (m / gcd n m)) (λ none. absurd (omega arith))

  as_over : digits_value 10 (quotient_as n m).over ≡ n / gcd n m
  unfolding quotient_as
  as_over = (numeral_of (n / gcd n m) over_small).1

  as_under : under_value (quotient_as n m).under ≡ m / gcd n m
  unfolding quotient_as
  as_under = under_value-if (m / gcd n m == 1) (m / gcd n m) (λ e. grind (arith, nat_tests)) (numeral_of (m / gcd n m) under_small).1

-- where the denominator that is left is 1, it is the numerator that is left
pub without_stroke : (n m g : ℕ) → g ≡ gcd n m → m / g ≡ 1 → decimal (n / g) ≡ ratio_spelling n m
without_stroke n m g e one =
    let last : m / gcd n m ≡ 1 = ap (λ (k : ℕ). m / k) (sym e) ∙ one in
    let test : (m / gcd n m == 1) ≡ true = grind (arith, nat_tests) in
    ap (λ (k : ℕ). decimal (n / k)) e
    ∙ (sym (append-nil (decimal (n / gcd n m)))
    ∙ ap (λ (b : Bool). decimal (n / gcd n m) ++ (if b then [] else 47 ∷ decimal (m / gcd n m))) (sym test))

-- ---- parts with their signs

plus_sign : (n : ℕ) → is_negative (pos n) ≡ false
plus_sign n = grind (arith, nat_tests)

signed-quotient : (z : ℤ) (k : ℕ) → signed (is_negative z) (unsigned_abs z / k) ≡ int_div z (pos k)
signed-quotient (pos n) k = ap (λ (b : Bool). signed b (n / k)) (plus_sign n)
signed-quotient (negsuc n) k = refl

-- a part times what it has in common with the denominator
part_times : (z : ℤ) (den : ℕ) → unsigned_abs z < 2 ^ 127 → den < 2 ^ 127 → 0 < den → pos (gcd (unsigned_abs z) den) *ℤ over_value (is_negative z) (quotient_as (unsigned_abs z) den) ≡ z
part_times z den small within up =
    let n = unsigned_abs z in
    ap (λ (k : ℕ). pos (gcd n den) *ℤ signed (is_negative z) k) (as_over n den small within up)
    ∙ (ap (λ (w : ℤ). pos (gcd n den) *ℤ w) (signed-quotient z (gcd n den)) ∙ quotient_times z (gcd n den) ((gcd-is n den).0))

-- the denominator that is left, times the same
den_times : (n den : ℕ) → n < 2 ^ 127 → den < 2 ^ 127 → 0 < den → gcd n den * under_value (quotient_as n den).under ≡ den
den_times n den small within up = ap (λ (k : ℕ). gcd n den * k) (as_under n den small within up) ∙ mul-div_cancel' (gcd n den) ((gcd-is n den).1)

den_positive : (n den : ℕ) → n < 2 ^ 127 → den < 2 ^ 127 → 0 < den → 0 < under_value (quotient_as n den).under
den_positive n den small within up = subst (λ (k : ℕ). 0 < k) (sym (as_under n den small within up)) (quotient_positive (gcd n den) den ((gcd-is n den).1) up)

-- z over m is the part over den
single : (g m den : ℕ) (part z : ℤ) → pos g *ℤ z ≡ part → g * m ≡ den → pos m *ℤ part ≡ pos den *ℤ z
single g m den part z e f =
    ap (λ (w : ℤ). pos m *ℤ w) (sym e) ∙ (identity integer_ring (pos g ∷ pos m ∷ z ∷ []) (λ g m z. m ⊗ (g ⊗ z) ≐ (g ⊗ m) ⊗ z) refl ∙ ap (λ (k : ℕ). pos k *ℤ z) f)

nothing : (m den : ℕ) (part : ℤ) → part ≡ pos 0 → pos m *ℤ part ≡ pos den *ℤ pos 0
nothing m den part e = ap (λ (w : ℤ). pos m *ℤ w) e ∙ identity integer_ring (pos m ∷ pos den ∷ []) (λ m d. m ⊗ numeral 0 ≐ d ⊗ numeral 0) refl

-- z·n over m·n is the part over den
double : (g m n den : ℕ) (part z : ℤ) → pos g *ℤ z ≡ part → g * m ≡ den → pos (m * n) *ℤ part ≡ pos den *ℤ (z *ℤ pos n)
double g m n den part z e f =
    ap (λ (w : ℤ). pos (m * n) *ℤ w) (sym e)
    ∙ (identity integer_ring (pos g ∷ pos m ∷ pos n ∷ z ∷ []) (λ g m n z. (m ⊗ n) ⊗ (g ⊗ z) ≐ (g ⊗ m) ⊗ (z ⊗ n)) refl ∙ ap (λ (k : ℕ). pos k *ℤ (z *ℤ pos n)) f)

-- the same with the denominators in the other order
double_right : (h m n den : ℕ) (part z : ℤ) → pos h *ℤ z ≡ part → h * n ≡ den → pos (m * n) *ℤ part ≡ pos den *ℤ (z *ℤ pos m)
double_right h m n den part z e f =
    ap (λ (w : ℤ). pos (m * n) *ℤ w) (sym e)
    ∙ (identity integer_ring (pos h ∷ pos m ∷ pos n ∷ z ∷ []) (λ h m n z. (m ⊗ n) ⊗ (h ⊗ z) ≐ (h ⊗ n) ⊗ (z ⊗ m)) refl ∙ ap (λ (k : ℕ). pos k *ℤ (z *ℤ pos m)) f)

-- ---- numbers

-- the text spells the number, and is read back where its runs are narrow
abbrev pub IsSpelling : List ℕ → Fraction → Type 0
IsSpelling text x = (w : Written) × Spells text w × (value w ≡ x) × (IsNarrow w → Reads text (Ok x))

spelled : (text : List ℕ) (x : Fraction) (w : Written) → Spells text w → IsDefined w → x ≡ value w → IsSpelling text x
spelled text x w s defined e = (w, s, sym e, λ narrow. number w s narrow defined (ap Ok e))

module _ (x : Fraction) (fits : Fits x.num) (low : IsLowest x.num x.den) where
  p_small : unsigned_abs x.num.p < 2 ^ 127
  p_small = size_within x.num.p fits.0

  q_small : unsigned_abs x.num.q < 2 ^ 127
  q_small = size_within x.num.q fits.1

  p_part : Ratio
  p_part = quotient_as (unsigned_abs x.num.p) x.den

  q_part : Ratio
  q_part = quotient_as (unsigned_abs x.num.q) x.den

  p_digits : IsRatio p_part
  unfolding p_part
  p_digits = as_digits (unsigned_abs x.num.p) x.den p_small low.within low.positive

  q_digits : IsRatio q_part
  unfolding q_part
  q_digits = as_digits (unsigned_abs x.num.q) x.den q_small low.within low.positive

  rational_is : x.num.q ≡ pos 0 → IsSpelling (rational_spelling x.num.p x.den) x
  unfolding p_part
  rational_is none =
      let n = unsigned_abs x.num.p in
      let times = part_times x.num.p x.den p_small low.within low.positive in
      let den = den_times n x.den p_small low.within low.positive in
      spelled (rational_spelling x.num.p x.den) x (Rational (is_negative x.num.p) p_part)
      (record { whole = ap (λ (t : List ℕ). sign_text (is_negative x.num.p) ++ t) (sym (as_text n x.den)); over = (p_digits.over, tt); under = p_digits.under })
      (as_defined n x.den p_small low.within low.positive)
      (reduced-unique x (record { p = over_value (is_negative x.num.p) p_part; q = pos 0 }) (under_value p_part.under) low (den_positive n x.den p_small low.within low.positive)
      (quadratic_eq (single (gcd n x.den) (under_value p_part.under) x.den x.num.p (over_value (is_negative x.num.p) p_part) times den) (nothing (under_value p_part.under) x.den x.num.q none)))

  root_is : x.num.p ≡ pos 0 → IsSpelling (sign_text (is_negative x.num.q) ++ r_part_spelling x.num.q x.den) x
  unfolding q_part
  root_is none =
      let n = unsigned_abs x.num.q in
      let times = part_times x.num.q x.den q_small low.within low.positive in
      let den = den_times n x.den q_small low.within low.positive in
      spelled (sign_text (is_negative x.num.q) ++ r_part_spelling x.num.q x.den) x (Root (is_negative x.num.q) q_part)
      (record { whole = ap (λ (t : List ℕ). sign_text (is_negative x.num.q) ++ (t ++ 114 ∷ [])) (sym (as_text n x.den)); over = (q_digits.over, tt); under = q_digits.under })
      (as_defined n x.den q_small low.within low.positive)
      (reduced-unique x (record { p = pos 0; q = over_value (is_negative x.num.q) q_part }) (under_value q_part.under) low (den_positive n x.den q_small low.within low.positive)
      (quadratic_eq (nothing (under_value q_part.under) x.den x.num.p none) (single (gcd n x.den) (under_value q_part.under) x.den x.num.q (over_value (is_negative x.num.q) q_part) times den)))

  both_text : rational_spelling x.num.p x.den ++ (middle_sign_text (is_negative x.num.q) ++ r_part_spelling x.num.q x.den) ≡ sign_text (is_negative x.num.p) ++ (ratio_text p_part ++ (middle_sign_text (is_negative x.num.q) ++ (ratio_text q_part ++ 114 ∷ [])))
  unfolding p_part q_part
  both_text =
      append_assoc (sign_text (is_negative x.num.p)) (ratio_spelling (unsigned_abs x.num.p) x.den) (middle_sign_text (is_negative x.num.q) ++ r_part_spelling x.num.q x.den)
      ∙ (ap (λ (t : List ℕ). sign_text (is_negative x.num.p) ++ (t ++ (middle_sign_text (is_negative x.num.q) ++ r_part_spelling x.num.q x.den))) (sym (as_text (unsigned_abs x.num.p) x.den))
      ∙ ap (λ (t : List ℕ). sign_text (is_negative x.num.p) ++ (ratio_text p_part ++ (middle_sign_text (is_negative x.num.q) ++ (t ++ 114 ∷ [])))) (sym (as_text (unsigned_abs x.num.q) x.den)))

  both_is : IsSpelling (rational_spelling x.num.p x.den ++ (middle_sign_text (is_negative x.num.q) ++ r_part_spelling x.num.q x.den)) x
  unfolding p_part q_part
  both_is =
      let n = unsigned_abs x.num.p in
      let k = unsigned_abs x.num.q in
      let p_times = part_times x.num.p x.den p_small low.within low.positive in
      let q_times = part_times x.num.q x.den q_small low.within low.positive in
      let p_den = den_times n x.den p_small low.within low.positive in
      let q_den = den_times k x.den q_small low.within low.positive in
      let u = under_value p_part.under in
      let v = under_value q_part.under in
      let a = over_value (is_negative x.num.p) p_part in
      let b = over_value (is_negative x.num.q) q_part in
      spelled _ x (Both (is_negative x.num.p) p_part (is_negative x.num.q) q_part)
      (record { whole = both_text; over = (p_digits.over, (q_digits.over, tt)); under = All-append (IsNumeral 10) (under_runs p_part.under) (under_runs q_part.under) p_digits.under q_digits.under })
      (All-append _ (under_runs p_part.under) (under_runs q_part.under) (as_defined n x.den p_small low.within low.positive) (as_defined k x.den q_small low.within low.positive))
      (reduced-unique x (record { p = a *ℤ pos v; q = b *ℤ pos u }) (u * v) low (mul-pos (den_positive n x.den p_small low.within low.positive) (den_positive k x.den q_small low.within low.positive))
      (quadratic_eq (double (gcd n x.den) u v x.den x.num.p a p_times p_den) (double_right (gcd k x.den) u v x.den x.num.q b q_times q_den)))

choice : {X : Type 0} (P : X → Type 0) (b : Bool) (u v : X) → (b ≡ true → P u) → (b ≡ false → P v) → P (if b then u else v)
choice P true u v first second = first refl
choice P false u v first second = second refl

no_size : (z : ℤ) → (unsigned_abs z == 0) ≡ true → z ≡ pos 0
no_size z e = zero_size z (grind (arith, nat_tests))

-- the spelling of a fraction spells it
spelling_is : (x : Fraction) → Fits x.num → IsLowest x.num x.den → IsSpelling (spelling x) x
spelling_is x fits low =
    choice (λ (t : List ℕ). IsSpelling t x) (unsigned_abs x.num.q == 0) _ _ (λ e. rational_is x fits low (no_size x.num.q e))
    (λ some. choice (λ (t : List ℕ). IsSpelling t x) (unsigned_abs x.num.p == 0) _ _ (λ e. root_is x fits low (no_size x.num.p e)) (λ _. both_is x fits low))

pub spelling_reads : (text : List ℕ) (x : Fraction) → Fits x.num → IsLowest x.num x.den → text ≡ spelling x → IsSpelling text x
spelling_reads text x fits low e = subst (λ (t : List ℕ). IsSpelling t x) (sym e) (spelling_is x fits low)
