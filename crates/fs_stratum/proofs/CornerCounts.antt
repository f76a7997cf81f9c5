-- How many corners of a list have a property.
use Rattle.std.proofs.Common.{◌≡◌, ◌⊎◌, inl, inr, ℕ, suc, ◌+◌, ◌≤◌, Bool, true, List, [], ◌∷◌, length, sym, ap, ◌∙◌, refl, subst, arith}
use Rattle.std.proofs.lemmas.Bool.{cases_Bool}
use Rattle.fs_lists.specs.Members.{IsIn, IsDistinct}
use Rattle.fs_lists.proofs.Counts.{tally, one_if}
use Rattle.fs_plane.specs.declared.corners.Corner.{Corner}
use Rattle.fs_gluing.specs.Vertices.{IsCount}

-- properties that hold of the same corners have one count
pub count_same : (P Q : Corner → Type 0) (xs : List Corner) (k : ℕ) → ((c : Corner) → IsIn c xs → P c → Q c) → ((c : Corner) → IsIn c xs → Q c → P c) → IsCount P xs k → IsCount Q xs k
count_same P Q [] k f g h = h
count_same P Q (x ∷ xs) k f g h = elim h [
  | inl a ↦ inl (f x (inl refl) a.0, (a.1.0, a.1.1, count_same P Q xs a.1.0 (λ c i. f c (inr i)) (λ c i. g c (inr i)) a.1.2))
  | inr b ↦ inr ((λ q. b.0 (g x (inl refl) q)), count_same P Q xs k (λ c i. f c (inr i)) (λ c i. g c (inr i)) b.1)
]

-- the count where one more corner has the property
pub count_more : (P Q : Corner → Type 0) (xs : List Corner) (x : Corner) (k : ℕ) → IsDistinct xs → IsIn x xs → ¬ P x → Q x
    → ((c : Corner) → ¬ (x ≡ c) → P c → Q c) → ((c : Corner) → ¬ (x ≡ c) → Q c → P c) → IsCount P xs k → IsCount Q xs (suc k)
count_more P Q [] x k apart i n q f g h = absurd i
count_more P Q (y ∷ xs) x k apart (inl e) n q f g h = elim h [
  | inl a ↦ absurd (n (subst P (sym e) a.0))
  | inr b ↦ inl (
    subst Q e q,
    (k, refl, count_same P Q xs k (λ c i. f c (λ same. apart.0 c i (sym e ∙ same))) (λ c i. g c (λ same. apart.0 c i (sym e ∙ same))) b.1),
  )
]
count_more P Q (y ∷ xs) x k apart (inr i) n q f g h =
    let other : ¬ (x ≡ y) = λ same. apart.0 x i (sym same) in
    elim h [
      | inl a ↦ inl (f y other a.0, (suc a.1.0, ap (λ n. suc n) a.1.1, count_more P Q xs x a.1.0 apart.1 i n q f g a.1.2))
      | inr b ↦ inr ((λ r. b.0 (g y other r)), count_more P Q xs x k apart.1 i n q f g b.1)
    ]

-- a count is at most the length of the list
pub count_at_most : (P : Corner → Type 0) (xs : List Corner) (k : ℕ) → IsCount P xs k → k ≤ length xs
count_at_most P [] k h = omega arith
count_at_most P (x ∷ xs) k h = elim h [
  | inl a ↦ let l = count_at_most P xs a.1.0 a.1.2 in let e = a.1.1 in omega arith
  | inr b ↦ let l = count_at_most P xs k b.1 in omega arith
]

-- where no corner has the property, the count is 0
pub count_none : (P : Corner → Type 0) (xs : List Corner) → ((c : Corner) → IsIn c xs → ¬ P c) → IsCount P xs 0
count_none P [] n = refl
count_none P (x ∷ xs) n = inr (n x (inl refl), count_none P xs (λ c i. n c (inr i)))

-- where the count is 0, no corner has the property
pub count_zero : (P : Corner → Type 0) (xs : List Corner) (c : Corner) → IsCount P xs 0 → IsIn c xs → ¬ P c
count_zero P [] c h i p = i
count_zero P (x ∷ xs) c h i p = elim h [
  | inl a ↦ let e = a.1.1 in absurd (omega arith)
  | inr b ↦ elim i [ inl e ↦ b.0 (subst P e p) | inr j ↦ count_zero P xs c b.1 j p ]
]

-- the count of one property or another that exclude each other is the sum
pub count_join : (P Q S : Corner → Type 0) (xs : List Corner) (m n : ℕ) → ((c : Corner) → P c → Q c → ⊥) → ((c : Corner) → P c → S c) → ((c : Corner) → Q c → S c)
    → ((c : Corner) → S c → P c ⊎ Q c) → IsCount P xs m → IsCount Q xs n → IsCount S xs (m + n)
count_join P Q S [] m n out f g r h k = let a : m ≡ 0 = h in let b : n ≡ 0 = k in omega arith
count_join P Q S (x ∷ xs) m n out f g r h k = elim h [
  | inl a ↦ elim k [
    | inl b ↦ absurd (out x a.0 b.0)
    | inr b ↦ let e = a.1.1 in inl (f x a.0, (a.1.0 + n, let l : m + n ≡ suc (a.1.0 + n) = omega arith in l, count_join P Q S xs a.1.0 n out f g r a.1.2 b.1))
  ]
  | inr a ↦ elim k [
    | inl b ↦ let e = b.1.1 in inl (g x b.0, (m + b.1.0, let l : m + n ≡ suc (m + b.1.0) = omega arith in l, count_join P Q S xs m b.1.0 out f g r a.1 b.1.2))
    | inr b ↦ inr ((λ s. elim (r x s) [ inl p ↦ a.0 p | inr q ↦ b.0 q ]), count_join P Q S xs m n out f g r a.1 b.1)
  ]
]

-- the count of a property that a test decides
pub count-tally : (P : Corner → Type 0) (q : Corner → Bool) (xs : List Corner) (k : ℕ) → ((c : Corner) → IsIn c xs → P c → q c ≡ true) → ((c : Corner) → IsIn c xs → q c ≡ true → P c)
    → IsCount P xs k → k ≡ tally q xs
count-tally P q [] k f g h = h
count-tally P q (x ∷ xs) k f g h = elim h [
  | inl a ↦
      let rest = count-tally P q xs a.1.0 (λ c i. f c (inr i)) (λ c i. g c (inr i)) a.1.2 in
      let here : one_if (q x) ≡ 1 = ap one_if (f x (inl refl) a.0) in
      let e = a.1.1 in
      omega arith
  | inr b ↦ elim (cases_Bool (q x)) [
    | inl e ↦ absurd (b.0 (g x (inl refl) e))
    | inr e ↦
        let rest = count-tally P q xs k (λ c i. f c (inr i)) (λ c i. g c (inr i)) b.1 in
        let here : one_if (q x) ≡ 0 = ap one_if e in
        omega arith
  ]
]
