-- Texts that begin with decimal digits.
use Rattle.std.proofs.Common.{◌≡◌, ℕ, List, [], ◌∷◌, ◌++◌, refl, sym, subst}
use Rattle.std.specs.Str.Parse.{AllDigits}
use Rattle.fs_lists.proofs.Equal.{heads_equal, tails_equal}
use Rattle.fs_fraction.specs.Parts.{IsDigit, Stops}

-- the digits that a text begins with are the same in each way to cut it after them
pub same_digits : (digits rest digits' rest' : List ℕ) → AllDigits 10 digits → AllDigits 10 digits' → Stops IsDigit rest → Stops IsDigit rest' → digits ++ rest ≡ digits' ++ rest' → (digits ≡ digits') × (rest ≡ rest')
same_digits [] rest [] rest' a b s t e = (refl, e)
same_digits [] [] (y ∷ ys) rest' a b s t e = absurd (cc e)
same_digits [] (x ∷ xs) (y ∷ ys) rest' a b s t e = absurd (s (subst IsDigit (sym (heads_equal x y xs (ys ++ rest') e)) b.0))
same_digits (x ∷ xs) rest [] [] a b s t e = absurd (cc e)
same_digits (x ∷ xs) rest [] (y ∷ ys) a b s t e = absurd (t (subst IsDigit (heads_equal x y (xs ++ rest) ys e) a.0))
same_digits (x ∷ xs) rest (y ∷ ys) rest' a b s t e =
    let more = same_digits xs rest ys rest' a.1 b.1 s t (tails_equal x y (xs ++ rest) (ys ++ rest') e) in
    let head = heads_equal x y (xs ++ rest) (ys ++ rest') e in
    (cc (head, more.0), more.1)
