-- The texts of numbers and of pairs: each is read in one way.
use Rattle.std.proofs.Common.{◌≡◌, ℕ, Bool, true, false, List, [], ◌∷◌, ◌++◌, Result, Ok, Err, refl, sym, ap, ◌∙◌, subst, append_assoc}
use Rattle.std.specs.List.{AllByRecursion}
use Rattle.fs_fraction.specs.Fraction.{Fraction}
use Rattle.fs_fraction.specs.Number.{Reads, number, wide_number, zero_denominator, no_number}
use Rattle.fs_fraction.specs.declared.number.NumberFault.{NumberFault}
use Rattle.fs_fraction.proofs.Readings.{same_read}
use Rattle.fs_quadratic.specs.Ring.{Quadratic}
use Rattle.fs_plane.specs.Vector.{PlaneVector}
use Rattle.fs_gluing.specs.declared.shapes.Point.{Point}
use Rattle.fs_job.specs.Statement.{Pair, NumberText, pair_texts, whole_texts}
use Rattle.fs_job.specs.Draft.{ReadsWhole, ReadsEither, ReadsText, IsNumber, HasBadNumber, IsPoint, SpellsWhole, IsVector}
use Rattle.fs_job.specs.Draft as readings
use Rattle.fs_lists.specs.First.{IsFirstWithout}
use Rattle.fs_lists.proofs.First.{first_not_all, first_unique, first_or_all}
use Rattle.fs_lists.proofs.Results.{ok_equal, err_equal, ok_not_err}

-- ---- one text

reading_exists : (text : List ℕ) → ((r : Result Fraction NumberFault) → ¬ Reads text r) → ⊥
reading_exists text none =
    none _ (no_number (λ w spells. none _ (wide_number w spells (λ narrow. none _ (zero_denominator w spells narrow (λ defined. none _ (number w spells narrow defined refl)) refl)) refl)) refl)

whole_unique : (text : List ℕ) (r r' : Result Fraction NumberFault) → ReadsWhole text r → ReadsWhole text r' → r ≡ r'
whole_unique text r r' (readings.whole_number x read plain) (readings.whole_number x' read' plain') = same_read text (Ok x') (Ok x) read' read
whole_unique text r r' (readings.whole_number x read plain) (readings.bad_text f read') = absurd (ok_not_err x f (same_read text (Err f) (Ok x) read' read))
whole_unique text r r' (readings.whole_number x read plain) (readings.with_denominator x' read' has) = absurd (plain has)
whole_unique text r r' (readings.bad_text f read) (readings.whole_number x read' plain) = absurd (ok_not_err x f (same_read text (Err f) (Ok x) read read'))
whole_unique text r r' (readings.bad_text f read) (readings.bad_text f' read') = same_read text (Err f') (Err f) read' read
whole_unique text r r' (readings.bad_text f read) (readings.with_denominator x read' has) = absurd (ok_not_err x f (same_read text (Err f) (Ok x) read read'))
whole_unique text r r' (readings.with_denominator x read has) (readings.whole_number x' read' plain) = absurd (plain has)
whole_unique text r r' (readings.with_denominator x read has) (readings.bad_text f read') = absurd (ok_not_err x f (same_read text (Err f) (Ok x) read' read))
whole_unique text r r' (readings.with_denominator x read has) (readings.with_denominator x' read' has') = refl

whole_exists : (text : List ℕ) → ((r : Result Fraction NumberFault) → ¬ ReadsWhole text r) → ⊥
whole_exists text none = reading_exists text by_reading
  where
    by_reading : (r : Result Fraction NumberFault) → ¬ Reads text r
    by_reading (Ok x) read = none _ (readings.whole_number x read (λ has. none _ (readings.with_denominator x read has)))
    by_reading (Err f) read = none _ (readings.bad_text f read)

-- a whole number, or any
unique_at : (whole : Bool) (text : List ℕ) (r r' : Result Fraction NumberFault) → ReadsEither whole text r → ReadsEither whole text r' → r ≡ r'
unique_at true text r r' a b = whole_unique text r r' a b
unique_at false text r r' a b = same_read text r' r b a

exists_at : (whole : Bool) (text : List ℕ) → ((r : Result Fraction NumberFault) → ¬ ReadsEither whole text r) → ⊥
exists_at true text none = whole_exists text none
exists_at false text none = reading_exists text none

-- a text is read in one way
pub text_unique : (text : NumberText) (r r' : Result Fraction NumberFault) → ReadsText text r → ReadsText text r' → r ≡ r'
text_unique text r r' a b = unique_at text.whole text.text r r' a b

-- a text that is read with a fault is no number
number_not_bad : (text : NumberText) (fault : NumberFault) → IsNumber text → ReadsText text (Err fault) → ⊥
number_not_bad text fault a b = ok_not_err a.0 fault (text_unique text (Ok a.0) (Err fault) a.1 b)

-- ---- texts in order

-- all texts are numbers, or a first one isn't
pub numbers_or_bad : (texts : List NumberText) → ¬ AllByRecursion IsNumber texts → ((fault : NumberFault) → ¬ HasBadNumber texts fault) → ⊥
numbers_or_bad texts not_all none = first_or_all IsNumber texts (λ text first. exists_at text.whole text.text (by_reading text first)) not_all
  where
    by_reading : (text : NumberText) → IsFirstWithout IsNumber texts text → (r : Result Fraction NumberFault) → ¬ ReadsText text r
    by_reading text first (Ok x) read = first.fails (x, read)
    by_reading text first (Err fault) read = none fault (text, first, read)

-- and not both
pub numbers_not_bad : (texts : List NumberText) (fault : NumberFault) → AllByRecursion IsNumber texts → HasBadNumber texts fault → ⊥
numbers_not_bad texts fault all u = first_not_all IsNumber texts u.0 u.1 all

-- texts have at most one first fault
pub bad_number_unique : (texts : List NumberText) (f g : NumberFault) → HasBadNumber texts f → HasBadNumber texts g → f ≡ g
bad_number_unique texts f g u v =
    let same = first_unique IsNumber texts u.0 v.0 u.1 v.1 in
    err_equal f g (text_unique v.0 (Err f) (Err g) (subst (λ (text : NumberText). ReadsText text (Err f)) same u.2) v.2)

-- a text that has to be a whole number, and isn't
pub bad_whole : (text : List ℕ) (fault : NumberFault) → ReadsWhole text (Err fault) → HasBadNumber (record { whole = true; text = text } ∷ []) fault
bad_whole text fault reads =
    let it : NumberText = record { whole = true; text = text } in
    (it, record { before = []; after = []; whole = refl; passed = tt; fails = λ is. number_not_bad it fault is reads }, reads)

-- ---- pairs

-- the texts of a point are numbers
pub point_is_numbers : (pair : Pair) (point : Point) → IsPoint pair point → AllByRecursion IsNumber (pair_texts pair)
point_is_numbers pair point is = ((point.x, is.0), ((point.y, is.1), tt))

-- two texts that are numbers spell a point
pub point_exists : (pair : Pair) → AllByRecursion IsNumber (pair_texts pair) → (point : Point) × IsPoint pair point
point_exists pair all = (record { x = all.0.0; y = all.1.0.0 }, (all.0.1, all.1.0.1))

-- a pair spells one point at most
pub point_unique : (pair : Pair) (p q : Point) → IsPoint pair p → IsPoint pair q → p ≡ q
point_unique pair p q a b =
    let x = ok_equal p.x q.x (same_read pair.x (Ok q.x) (Ok p.x) b.0 a.0) in
    let y = ok_equal p.y q.y (same_read pair.y (Ok q.y) (Ok p.y) b.1 a.1) in
    ap (λ (u : Fraction). record { x = u; y = p.y }) x ∙ ap (λ (u : Fraction). record { x = q.x; y = u }) y

-- the first text of a pair is no number
pub bad_number_first : (pair : Pair) (fault : NumberFault) → Reads pair.x (Err fault) → HasBadNumber (pair_texts pair) fault
bad_number_first pair fault fails =
    let x : NumberText = record { whole = false; text = pair.x } in
    let y : NumberText = record { whole = false; text = pair.y } in
    (x, record { before = []; after = y ∷ []; whole = refl; passed = tt; fails = λ is. number_not_bad x fault is fails }, fails)

-- the first text of a pair is a number, and the second isn't
pub bad_number_second : (pair : Pair) (x_number : Fraction) (fault : NumberFault) → Reads pair.x (Ok x_number) → Reads pair.y (Err fault) → HasBadNumber (pair_texts pair) fault
bad_number_second pair x_number fault read fails =
    let x : NumberText = record { whole = false; text = pair.x } in
    let y : NumberText = record { whole = false; text = pair.y } in
    (y, record { before = x ∷ []; after = []; whole = refl; passed = ((x_number, read), tt); fails = λ is. number_not_bad y fault is fails }, fails)

-- ---- pairs of whole numbers

-- a text spells one whole number at most
spelled_unique : (text : List ℕ) (m n : Quadratic) → SpellsWhole text m → SpellsWhole text n → m ≡ n
spelled_unique text m n a b = a.2 ∙ (ap (λ (x : Fraction). x.num) (ok_equal a.0 b.0 (whole_unique text (Ok a.0) (Ok b.0) a.1 b.1)) ∙ sym b.2)

-- the texts of a vector are numbers
pub vector_is_numbers : (pair : Pair) (v : PlaneVector) → IsVector pair v → AllByRecursion IsNumber (whole_texts pair)
vector_is_numbers pair v is = ((is.0.0, is.0.1), ((is.1.0, is.1.1), tt))

-- two texts that are whole numbers spell a vector
pub vector_exists : (pair : Pair) → AllByRecursion IsNumber (whole_texts pair) → (v : PlaneVector) × IsVector pair v
vector_exists pair all = (record { x = all.0.0.num; y = all.1.0.0.num }, ((all.0.0, all.0.1, refl), (all.1.0.0, all.1.0.1, refl)))

-- a pair spells one vector at most
pub vector_unique : (pair : Pair) (v w : PlaneVector) → IsVector pair v → IsVector pair w → v ≡ w
vector_unique pair v w a b =
    let x = spelled_unique pair.x v.x w.x a.0 b.0 in
    let y = spelled_unique pair.y v.y w.y a.1 b.1 in
    λ i. record { x = x i; y = y i }

-- the first text of a pair is no whole number
pub bad_whole_first : (pair : Pair) (fault : NumberFault) → HasBadNumber (record { whole = true; text = pair.x } ∷ []) fault → HasBadNumber (whole_texts pair) fault
bad_whole_first pair fault bad =
    let y : NumberText = record { whole = true; text = pair.y } in (
      bad.0,
      record {
        before = bad.1.before;
        after = bad.1.after ++ y ∷ [];
        whole = ap (λ (texts : List NumberText). texts ++ y ∷ []) bad.1.whole ∙ append_assoc bad.1.before (bad.0 ∷ bad.1.after) (y ∷ []);
        passed = bad.1.passed;
        fails = bad.1.fails;
      },
      bad.2,
    )

-- the first text of a pair is a whole number, and the second isn't
pub bad_whole_second : (pair : Pair) (n : Quadratic) (fault : NumberFault) → SpellsWhole pair.x n → HasBadNumber (record { whole = true; text = pair.y } ∷ []) fault → HasBadNumber (whole_texts pair) fault
bad_whole_second pair n fault read bad =
    let x : NumberText = record { whole = true; text = pair.x } in (
      bad.0,
      record {
        before = x ∷ bad.1.before;
        after = bad.1.after;
        whole = ap (λ (texts : List NumberText). x ∷ texts) bad.1.whole;
        passed = ((read.0, read.1), bad.1.passed);
        fails = bad.1.fails;
      },
      bad.2,
    )
