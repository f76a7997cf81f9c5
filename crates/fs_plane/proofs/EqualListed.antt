-- Listed vectors with the same field, vector and corner are equal, and so are those that compare as equal.
use Rattle.std.proofs.Common.{◌≡◌, ◌≢◌, ℕ, ◌∙◌, subst}
use Rattle.std.specs.Cmp.{Equal-is}
use Rattle.std.specs.declared.cmp.Ordering.TheVariants.{Equal}
use Rattle.std.proofs.lemmas.Bool.Decides.{Decides-eqb, Decides-and}
use Rattle.std.proofs.Math.Bridge.{le_prop}
use Rattle.fs_quadratic.specs.Radicand.{IsRadicand}
use Rattle.fs_quadratic.specs.declared.radicand.Field.{Field}
use Rattle.fs_plane.specs.declared.listing.Listed.{Listed}
use Rattle.fs_plane.specs.Vector.{PlaneVector, vector_zero}
use Rattle.fs_plane.specs.Listing.{IsKeepable}
use Rattle.fs_plane.specs.ListedOrder.{listed_cmp}
use Rattle.fs_plane.specs.ListedLaws.{same_listed}
use Rattle.fs_plane.specs.EqualVectors.{Decides-is_same_vector}

-- two proofs that something is false are one
nots_equal : {P : Type 0} (n m : ¬ P) → n ≡ m
nots_equal n m = λ i p. (absurd {A = n p ≡ m p} (n p)) i

radicands_equal : {d : ℕ} (r s : IsRadicand d) → r ≡ s
radicands_equal r s = λ i. record {
  least = le_prop r.least s.least i;
  greatest = le_prop r.greatest s.greatest i;
  squarefree = λ k l. nots_equal (r.squarefree k l) (s.squarefree k l) i;
}

keepables_equal : {v : PlaneVector} (k l : IsKeepable v) → k ≡ l
keepables_equal k l = λ i. record { x_p = le_prop k.x_p l.x_p i; x_q = le_prop k.x_q l.x_q i; y_p = le_prop k.y_p l.y_p i; y_q = le_prop k.y_q l.y_q i }

fields_equal : (a b : Field) → a.d ≡ b.d → a ≡ b
fields_equal a b e =
    subst (λ d. (r : IsRadicand d) → ◌≡◌ {A = Field} a (record { d = d; radicand = r })) e (λ r i. record { d = a.d; radicand = radicands_equal a.radicand r i }) b.radicand

-- equal where the fields have one d, and the vectors and corners are equal
pub listed_equal : (a b : Listed) → a.field.d ≡ b.field.d → a.v ≡ b.v → a.start ≡ b.start → a ≡ b
listed_equal a b field v start =
    subst
    (λ w. (n : w ≢ vector_zero) (k : IsKeepable w) → ◌≡◌ {A = Listed} a (record { field = b.field; v = w; start = b.start; nonzero = n; keepable = k }))
    v
    (λ n k i. record { field = fields_equal a.field b.field field i; v = a.v; start = start i; nonzero = nots_equal a.nonzero n i; keepable = keepables_equal a.keepable k i })
    b.nonzero
    b.keepable

-- equal where they compare as equal
pub listed_exact : (a b : Listed) → listed_cmp a b ≡ Equal → a ≡ b
listed_exact a b e =
    let same =
    (Decides-and _ _ (Decides-eqb a.field.d b.field.d) (Decides-and _ _ (Decides-is_same_vector a.v b.v)
    (Decides-and _ _ (Decides-eqb a.start.polygon b.start.polygon) (Decides-eqb a.start.side b.start.side)))).0 (same_listed a b ∙ (Equal-is (listed_cmp a b)).1 e) in
    listed_equal a b same.0 same.1.0 (λ i. record { polygon = same.1.1.0 i; side = same.1.1.1 i })
