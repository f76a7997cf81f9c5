-- A text spells at most one number, as it is written.
use Rattle.std.proofs.Common.{◌≡◌, ◌≢◌, ℕ, Bool, true, false, List, [], ◌∷◌, ◌++◌, Option, Some, None, refl, sym, ◌∙◌, ap, subst, arith, append_assoc}
use Rattle.std.proofs.lemmas.List.{append-nil}
use Rattle.std.specs.List.{AllByRecursion}
use Rattle.std.specs.Str.Parse.{IsNumeral}
use Rattle.fs_fraction.specs.Number.{Ratio, Written, Rational, Root, Both, Spells, ratio_text, under_text, under_runs, sign_text, middle_sign_text}
use Rattle.fs_fraction.specs.Parts.{IsDigit, Stops, BeginsNumeral, IsRatio, Ends, Begins, SpellsSecond}
use Rattle.fs_fraction.proofs.Numerals.{same_digits}
use Rattle.fs_lists.proofs.Equal.{heads_equal, tails_equal}

ratio_eq : {a b : Ratio} → a.over ≡ b.over → a.under ≡ b.under → a ≡ b
ratio_eq e f = λ i. record { over = e i; under = f i }

not_minus : IsDigit 45 → ⊥
not_minus h = absurd (omega (arith, h))

pub all_left : (P : List ℕ → Type 0) (xs ys : List (List ℕ)) → AllByRecursion P (xs ++ ys) → AllByRecursion P xs
all_left P [] ys all = tt
all_left P (x ∷ xs) ys all = (all.0, all_left P xs ys all.1)

pub all_right : (P : List ℕ → Type 0) (xs ys : List (List ℕ)) → AllByRecursion P (xs ++ ys) → AllByRecursion P ys
all_right P [] ys all = all
all_right P (x ∷ xs) ys all = all_right P xs ys all.1

-- ---- quotients

-- a text that begins with no digit doesn't begin with a numeral
no_digit : (text digits rest : List ℕ) → Stops IsDigit text → IsNumeral 10 digits → text ≡ digits ++ rest → ⊥
no_digit text [] rest s n e = absurd (let some = n.0 in omega arith)
no_digit text (d ∷ ds) rest s n e = subst (Stops IsDigit) e s n.1.0

-- after the first digits comes the stroke, or what follows the ratio
under_stops : (under : Option (List ℕ)) (rest : List ℕ) → Ends under rest → Stops IsDigit (under_text under ++ rest)
under_stops None rest ends = ends.0
under_stops (Some digits) rest ends = λ digit. absurd (omega (arith, digit))

stroke_free : (bytes rest : List ℕ) → Stops (λ b. b ≡ 47) bytes → bytes ≡ 47 ∷ rest → ⊥
stroke_free [] rest s e = cc
stroke_free (b ∷ bs) rest s e = s (heads_equal b 47 bs rest e)

same_under : (under under' : Option (List ℕ)) (rest rest' : List ℕ) → AllByRecursion (IsNumeral 10) (under_runs under) → AllByRecursion (IsNumeral 10) (under_runs under') → Ends under rest → Ends under' rest'
    → under_text under ++ rest ≡ under_text under' ++ rest' → (under ≡ under') × (rest ≡ rest')
same_under None None rest rest' a b s t e = (refl, e)
same_under None (Some digits') rest rest' a b s t e = absurd (stroke_free rest (digits' ++ rest') s.1 e)
same_under (Some digits) None rest rest' a b s t e = absurd (stroke_free rest' (digits ++ rest) t.1 (sym e))
same_under (Some digits) (Some digits') rest rest' a b s t e =
    let split = same_digits digits rest digits' rest' a.0.1 b.0.1 s t (tails_equal 47 47 (digits ++ rest) (digits' ++ rest') e) in
    (ap Some split.0, split.1)

-- a text begins with at most one quotient
pub same_quotient : (text : List ℕ) (a a' : Ratio) (rest rest' : List ℕ) → Begins text a rest → Begins text a' rest' → (a ≡ a') × (rest ≡ rest')
same_quotient text a a' rest rest' s t =
    let left = sym (append_assoc a.over (under_text a.under) rest) in
    let split = same_digits a.over (under_text a.under ++ rest) a'.over (under_text a'.under ++ rest') s.digits.over.1 t.digits.over.1 (under_stops a.under rest s.ends) (under_stops a'.under rest' t.ends)
    (sym (append_assoc a.over (under_text a.under) rest) ∙ (sym s.whole ∙ (t.whole ∙ append_assoc a'.over (under_text a'.under) rest'))) in
    let under = same_under a.under a'.under rest rest' s.digits.under t.digits.under s.ends t.ends split.1 in
    (ratio_eq split.0 under.0, under.1)

-- where it begins with no digit, it begins with none
pub no_over : (text : List ℕ) → Stops IsDigit text → (a : Ratio) (rest : List ℕ) → ¬ Begins text a rest
no_over text stops a rest s = no_digit text a.over (under_text a.under ++ rest) stops s.digits.over (s.whole ∙ append_assoc a.over (under_text a.under) rest)

no_run : (under : Option (List ℕ)) (rest tail : List ℕ) → AllByRecursion (IsNumeral 10) (under_runs under) → Ends under tail → Stops IsDigit rest → 47 ∷ rest ≡ under_text under ++ tail → ⊥
no_run None rest tail a ends stops e = stroke_free tail rest ends.1 (sym e)
no_run (Some digits) rest tail a ends stops e = no_digit rest digits tail stops a.0 (tails_equal 47 47 rest (digits ++ tail) e)

-- where no digits follow the stroke, the text begins with no ratio
pub no_under : (text over rest : List ℕ) → BeginsNumeral text over (47 ∷ rest) → Stops IsDigit rest → (a : Ratio) (tail : List ℕ) → ¬ Begins text a tail
no_under text over rest s stops a tail t =
    let split = same_digits over (47 ∷ rest) a.over (under_text a.under ++ tail) s.numeral.1 t.digits.over.1 s.ends (under_stops a.under tail t.ends)
    (sym s.whole ∙ (t.whole ∙ append_assoc a.over (under_text a.under) tail)) in
    no_run a.under rest tail t.digits.under t.ends stops split.1

-- ---- second parts

r_stops : (under : Option (List ℕ)) → Ends under (114 ∷ [])
r_stops None = (λ digit. absurd (omega (arith, digit)), λ e. absurd (omega (arith, e)))
r_stops (Some digits) = λ digit. absurd (omega (arith, digit))

-- what the sign of a second part is
pub joint_byte : Bool → ℕ
joint_byte true = 45
joint_byte false = 43

joint-is : (minus : Bool) (rest : List ℕ) → middle_sign_text minus ++ rest ≡ joint_byte minus ∷ rest
unfolding joint_byte
joint-is true rest = refl
joint-is false rest = refl

same_joint : (minus minus' : Bool) → joint_byte minus ≡ joint_byte minus' → minus ≡ minus'
unfolding joint_byte
same_joint true true e = refl
same_joint true false e = absurd (omega arith)
same_joint false true e = absurd (omega arith)
same_joint false false e = refl

second_head : (text : List ℕ) (minus : Bool) (a : Ratio) → SpellsSecond text minus a → text ≡ joint_byte minus ∷ (ratio_text a ++ 114 ∷ [])
second_head text minus a s = s.whole ∙ joint-is minus (ratio_text a ++ 114 ∷ [])

second_begins : (a : Ratio) → IsRatio a → Begins (ratio_text a ++ 114 ∷ []) a (114 ∷ [])
second_begins a digits = record { whole = refl; digits = digits; ends = r_stops a.under }

-- a text spells at most one second part
pub same_second : (text : List ℕ) (minus minus' : Bool) (a a' : Ratio) → SpellsSecond text minus a → SpellsSecond text minus' a' → (minus ≡ minus') × (a ≡ a')
same_second text minus minus' a a' s t =
    let e = sym (second_head text minus a s) ∙ second_head text minus' a' t in
    let rest = tails_equal (joint_byte minus) (joint_byte minus') (ratio_text a ++ 114 ∷ []) (ratio_text a' ++ 114 ∷ []) e in (
      same_joint minus minus' (heads_equal (joint_byte minus) (joint_byte minus') (ratio_text a ++ 114 ∷ []) (ratio_text a' ++ 114 ∷ []) e),
      (same_quotient (ratio_text a ++ 114 ∷ []) a a' (114 ∷ []) (114 ∷ []) (second_begins a s.digits) (record { whole = rest; digits = t.digits; ends = r_stops a'.under })).0,
    )

begins_behind : (byte : ℕ) (rest : List ℕ) (minus : Bool) (a : Ratio) → SpellsSecond (byte ∷ rest) minus a → Begins rest a (114 ∷ [])
begins_behind byte rest minus a s =
    record { whole = tails_equal byte (joint_byte minus) rest (ratio_text a ++ 114 ∷ []) (second_head (byte ∷ rest) minus a s); digits = s.digits; ends = r_stops a.under }

-- where the ratio isn't followed by an r alone, the text spells no second part
pub no_second_letter : (byte : ℕ) (rest : List ℕ) (b : Ratio) (tail : List ℕ) → Begins rest b tail → tail ≢ 114 ∷ [] → (minus : Bool) (a : Ratio) → ¬ SpellsSecond (byte ∷ rest) minus a
no_second_letter byte rest b tail begins other minus a s = other ((same_quotient rest b a tail (114 ∷ []) begins (begins_behind byte rest minus a s)).1)

-- ---- numbers

pub record IsFront (text : List ℕ) (minus : Bool) (a : Ratio) (tail : List ℕ) : Type 0 where
  pub whole : text ≡ sign_text minus ++ (ratio_text a ++ tail)
  pub digits : IsRatio a
  pub ends : Ends a.under tail

digit_first : (digits rest : List ℕ) → IsNumeral 10 digits → Stops (λ b. b ≡ 45) (digits ++ rest)
digit_first [] rest n = absurd (let some = n.0 in omega arith)
digit_first (d ∷ ds) rest n = λ e. not_minus (subst IsDigit e n.1.0)

quotient_begins : (a : Ratio) (tail : List ℕ) → IsRatio a → Stops (λ b. b ≡ 45) (ratio_text a ++ tail)
quotient_begins a tail q = subst (Stops (λ b. b ≡ 45)) (sym (append_assoc a.over (under_text a.under) tail)) (digit_first a.over (under_text a.under ++ tail) q.over)

same_sign : (minus minus' : Bool) (rest rest' : List ℕ) → (minus ≡ false → Stops (λ b. b ≡ 45) rest) → Stops (λ b. b ≡ 45) rest' → sign_text minus ++ rest ≡ sign_text minus' ++ rest' → (minus ≡ minus') × (rest ≡ rest')
same_sign true true rest rest' s t e = (refl, tails_equal 45 45 rest rest' e)
same_sign true false rest rest' s t e = absurd (subst (Stops (λ b. b ≡ 45)) (sym e) t refl)
same_sign false true rest rest' s t e = absurd (subst (Stops (λ b. b ≡ 45)) e (s refl) refl)
same_sign false false rest rest' s t e = (refl, e)

-- after the sign come the ratio and its tail
pub front_begins : (text : List ℕ) (minus minus' : Bool) (rest : List ℕ) (a : Ratio) (tail : List ℕ) → text ≡ sign_text minus ++ rest → (minus ≡ false → Stops (λ b. b ≡ 45) rest) → IsFront text minus' a tail → (minus ≡ minus') × Begins rest a tail
front_begins text minus minus' rest a tail e plain front =
    let same = same_sign minus minus' rest (ratio_text a ++ tail) plain (quotient_begins a tail front.digits) (sym e ∙ front.whole) in
    (same.0, record { whole = same.1; digits = front.digits; ends = front.ends })

-- a text has at most one first part
same_front : (text : List ℕ) (minus minus' : Bool) (a a' : Ratio) (tail tail' : List ℕ) → IsFront text minus a tail → IsFront text minus' a' tail' → (minus ≡ minus') × (a ≡ a') × (tail ≡ tail')
same_front text minus minus' a a' tail tail' s t =
    let next = front_begins text minus minus' (ratio_text a ++ tail) a' tail' s.whole (λ _. quotient_begins a tail s.digits) t in
    let same = same_quotient (ratio_text a ++ tail) a a' tail tail' (record { whole = refl; digits = s.digits; ends = s.ends }) next.1 in
    (next.0, same.0, same.1)

-- the first part of a number, and what follows it
minus_of : Written → Bool
minus_of (Rational minus a) = minus
minus_of (Root minus a) = minus
minus_of (Both minus a minus' b) = minus

first_of : Written → Ratio
first_of (Rational minus a) = a
first_of (Root minus a) = a
first_of (Both minus a minus' b) = a

tail_of : Written → List ℕ
tail_of (Rational minus a) = []
tail_of (Root minus a) = 114 ∷ []
tail_of (Both minus a minus' b) = middle_sign_text minus' ++ (ratio_text b ++ 114 ∷ [])

nil_ends : (under : Option (List ℕ)) → Ends under []
nil_ends None = (tt, tt)
nil_ends (Some digits) = tt

joint_ends : (under : Option (List ℕ)) (minus : Bool) (rest : List ℕ) → Ends under (middle_sign_text minus ++ rest)
joint_ends None true rest = (λ digit. absurd (omega (arith, digit)), λ e. absurd (omega (arith, e)))
joint_ends None false rest = (λ digit. absurd (omega (arith, digit)), λ e. absurd (omega (arith, e)))
joint_ends (Some digits) true rest = λ digit. absurd (omega (arith, digit))
joint_ends (Some digits) false rest = λ digit. absurd (omega (arith, digit))

front_of : (text : List ℕ) (w : Written) → Spells text w → IsFront text (minus_of w) (first_of w) (tail_of w)
unfolding minus_of first_of tail_of
front_of text (Rational minus a) s = record {
  whole = s.whole ∙ ap (λ (t : List ℕ). sign_text minus ++ t) (sym (append-nil (ratio_text a)));
  digits = record { over = s.over.0; under = s.under };
  ends = nil_ends a.under;
}
front_of text (Root minus a) s = record { whole = s.whole; digits = record { over = s.over.0; under = s.under }; ends = r_stops a.under }
front_of text (Both minus a minus' b) s = record {
  whole = s.whole;
  digits = record { over = s.over.0; under = all_left (IsNumeral 10) (under_runs a.under) (under_runs b.under) s.under };
  ends = joint_ends a.under minus' (ratio_text b ++ 114 ∷ []);
}

second_of : (text : List ℕ) (minus : Bool) (a : Ratio) (minus' : Bool) (b : Ratio) → Spells text (Both minus a minus' b) → SpellsSecond (tail_of (Both minus a minus' b)) minus' b
unfolding tail_of
second_of text minus a minus' b s = record { whole = refl; digits = record { over = s.over.1.0; under = all_right (IsNumeral 10) (under_runs a.under) (under_runs b.under) s.under } }

joint_first : (minus : Bool) (rest more : List ℕ) (byte : ℕ) → byte ≢ 43 → byte ≢ 45 → byte ∷ more ≡ middle_sign_text minus ++ rest → ⊥
joint_first true rest more byte plus dash e = dash (heads_equal byte 45 more rest e)
joint_first false rest more byte plus dash e = plus (heads_equal byte 43 more rest e)

joint_some : (minus : Bool) (rest : List ℕ) → [] ≡ middle_sign_text minus ++ rest → ⊥
joint_some true rest e = cc
joint_some false rest e = cc

no_joint_r : (minus : Bool) (rest : List ℕ) → 114 ∷ [] ≡ middle_sign_text minus ++ rest → ⊥
no_joint_r minus rest e = joint_first minus rest [] 114 (λ f. absurd (omega (arith, f))) (λ f. absurd (omega (arith, f))) e

same_by_tail : (text : List ℕ) (w w' : Written) → Spells text w → Spells text w' → minus_of w ≡ minus_of w' → first_of w ≡ first_of w' → tail_of w ≡ tail_of w' → w ≡ w'
unfolding minus_of first_of tail_of
same_by_tail text (Rational minus a) (Rational minus' a') s t m f e = cc
same_by_tail text (Rational minus a) (Root minus' a') s t m f e = absurd (cc e)
same_by_tail text (Rational minus a) (Both minus' a' sign b) s t m f e = absurd (joint_some sign (ratio_text b ++ 114 ∷ []) e)
same_by_tail text (Root minus a) (Rational minus' a') s t m f e = absurd (cc e)
same_by_tail text (Root minus a) (Root minus' a') s t m f e = cc
same_by_tail text (Root minus a) (Both minus' a' sign b) s t m f e = absurd (no_joint_r sign (ratio_text b ++ 114 ∷ []) e)
same_by_tail text (Both minus a sign b) (Rational minus' a') s t m f e = absurd (joint_some sign (ratio_text b ++ 114 ∷ []) (sym e))
same_by_tail text (Both minus a sign b) (Root minus' a') s t m f e = absurd (no_joint_r sign (ratio_text b ++ 114 ∷ []) (sym e))
same_by_tail text (Both minus a sign b) (Both minus' a' sign' b') s t m f e =
    let more = same_second (tail_of (Both minus a sign b)) sign sign' b b' (second_of text minus a sign b s) (subst (λ (u : List ℕ). SpellsSecond u sign' b') (sym e) (second_of text minus' a' sign' b' t)) in
    let p = more.0 in
    let q = more.1 in
    cc

-- a text spells at most one number, in one way
pub same_written : (text : List ℕ) (w w' : Written) → Spells text w → Spells text w' → w ≡ w'
same_written text w w' s t =
    let same = same_front text (minus_of w) (minus_of w') (first_of w) (first_of w') (tail_of w) (tail_of w') (front_of text w s) (front_of text w' t) in
    same_by_tail text w w' s t same.0 same.1 same.2

-- ---- what a parser finds

-- where no ratio follows the sign, the text spells no number
pub no_front : (text : List ℕ) (minus : Bool) (rest : List ℕ) → text ≡ sign_text minus ++ rest → (minus ≡ false → Stops (λ b. b ≡ 45) rest) → ((a : Ratio) (tail : List ℕ) → ¬ Begins rest a tail) → (w : Written) → ¬ Spells text w
no_front text minus rest e plain none w s =
    none (first_of w) (tail_of w) (front_begins text minus (minus_of w) rest (first_of w) (tail_of w) e plain (front_of text w s)).1

foreign_tail : (text : List ℕ) (w : Written) (tail : List ℕ) → tail ≡ tail_of w → tail ≢ [] → tail ≢ 114 ∷ [] → ((minus : Bool) (b : Ratio) → ¬ SpellsSecond tail minus b) → Spells text w → ⊥
unfolding tail_of
foreign_tail text (Rational minus a) tail e some other none s = some e
foreign_tail text (Root minus a) tail e some other none s = other e
foreign_tail text (Both minus a minus' b) tail e some other none s = none minus' b (subst (λ (u : List ℕ). SpellsSecond u minus' b) (sym e) (second_of text minus a minus' b s))

-- where nothing that may follow the first part follows it, the text spells no number
pub no_tail : (text : List ℕ) (minus : Bool) (rest : List ℕ) (a : Ratio) (tail : List ℕ) → text ≡ sign_text minus ++ rest → (minus ≡ false → Stops (λ b. b ≡ 45) rest) → Begins rest a tail
    → tail ≢ [] → tail ≢ 114 ∷ [] → ((minus' : Bool) (b : Ratio) → ¬ SpellsSecond tail minus' b) → (w : Written) → ¬ Spells text w
no_tail text minus rest a tail e plain begins some other none w s =
    let next = front_begins text minus (minus_of w) rest (first_of w) (tail_of w) e plain (front_of text w s) in
    let same = same_quotient rest a (first_of w) tail (tail_of w) begins next.1 in
    foreign_tail text w tail same.1 some other none s
