-- Whether a matrix is in a list is decided by its parts.
use Rattle.std.proofs.Common.{◌≡◌, ◌==◌, ◌&&◌, ◌||◌, Bool, false, List, [], ◌∷◌, ap, ◌∙◌}
use Rattle.std.specs.Bool.{Decides}
use Rattle.std.proofs.lemmas.Bool.Decides.{Decides-eqb, Decides-and, Decides-or, Decides-like}
use Rattle.fs_lists.specs.Members.{IsIn}
use Rattle.fs_fraction.specs.Fraction.{Fraction}
use Rattle.fs_plane.specs.Vector.{is_same_number}
use Rattle.fs_plane.specs.EqualVectors.{Decides-is_same_number}
use Rattle.fs_unfold.specs.declared.matrices.Matrix.{Matrix}

abbrev is_same_fraction : Fraction → Fraction → Bool
is_same_fraction x y = is_same_number x.num y.num && x.den == y.den

Decides-is_same_fraction : (x y : Fraction) → Decides (is_same_fraction x y) (x ≡ y)
Decides-is_same_fraction x y = Decides-like _
    (λ e. ap (λ n. record { num = n; den = x.den }) e.0 ∙ ap (λ k. record { num = y.num; den = k }) e.1)
    (λ e. (ap (λ (z : Fraction). z.num) e, ap (λ (z : Fraction). z.den) e))
    (Decides-and _ _ (Decides-is_same_number x.num y.num) (Decides-eqb x.den y.den))

-- whether all entries of two matrices are equal
abbrev is_same_matrix : Matrix → Matrix → Bool
is_same_matrix m n = is_same_fraction m.a n.a && (is_same_fraction m.b n.b && (is_same_fraction m.c n.c && is_same_fraction m.e n.e))

-- whether two matrices are equal
pub Decides-is_same_matrix : (m n : Matrix) → Decides (is_same_matrix m n) (m ≡ n)
Decides-is_same_matrix m n = Decides-like _
    (λ e. λ i. record { a = e.0 i; b = e.1.0 i; c = e.1.1.0 i; e = e.1.1.1 i })
    (λ e. (ap (λ (x : Matrix). x.a) e, (ap (λ (x : Matrix). x.b) e, (ap (λ (x : Matrix). x.c) e, ap (λ (x : Matrix). x.e) e))))
    (Decides-and _ _ (Decides-is_same_fraction m.a n.a) (Decides-and _ _ (Decides-is_same_fraction m.b n.b) (Decides-and _ _ (Decides-is_same_fraction m.c n.c) (Decides-is_same_fraction m.e n.e))))

-- whether it is in the list
abbrev pub is_listed : Matrix → List Matrix → Bool
is_listed m [] = false
is_listed m (n ∷ ns) = is_same_matrix m n || is_listed m ns

pub Decides-is_listed : (m : Matrix) (ns : List Matrix) → Decides (is_listed m ns) (IsIn m ns)
Decides-is_listed m [] = ((λ e. cc), (λ h. absurd h))
Decides-is_listed m (n ∷ ns) = Decides-or _ _ (Decides-is_same_matrix m n) (Decides-is_listed m ns)
