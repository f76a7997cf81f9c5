-- How many items of a list pass a test.
use Rattle.std.proofs.Common.{◌≡◌, inl, inr, ℕ, ◌+◌, ◌<◌, ◌≤◌, Bool, true, false, not, cond, List, [], ◌∷◌, ◌++◌, length, map, sym, ap, ◌∙◌, refl, arith}
use Rattle.std.proofs.lemmas.Bool.{cases_Bool}
use Rattle.fs_lists.specs.Members.{IsIn, IsDistinct}
use Rattle.fs_lists.proofs.Removal.{without, without_or}

-- 1 where the test passes
abbrev pub one_if : Bool → ℕ
one_if b = cond b 1 0

-- how many items pass the test
abbrev pub tally : {X : Type 0} → (X → Bool) → List X → ℕ
tally q [] = 0
tally q (x ∷ xs) = one_if (q x) + tally q xs

-- the items of joined lists that pass are those of both
pub tally-append : {X : Type 0} (q : X → Bool) (xs ys : List X) → tally q (xs ++ ys) ≡ tally q xs + tally q ys
tally-append q [] ys = omega arith
tally-append q (x ∷ xs) ys = let e = tally-append q xs ys in omega arith

-- tests that agree on each member count the same
pub tally-agree : {X : Type 0} (p q : X → Bool) (xs : List X) → ((x : X) → IsIn x xs → p x ≡ q x) → tally p xs ≡ tally q xs
tally-agree p q [] h = refl
tally-agree p q (x ∷ xs) h =
    let e = tally-agree p q xs (λ y k. h y (inr k)) in
    let f = ap one_if (h x (inl refl)) in
    λ i. f i + e i

tally-without : {X : Type 0} (q : X → Bool) (y : X) (ys : List X) (h : IsIn y ys) → tally q ys ≡ one_if (q y) + tally q (without y ys h)
tally-without q y [] h = absurd h
tally-without q y (z ∷ ys) (inl e) = ap (λ w. one_if (q w) + tally q ys) (sym e)
tally-without q y (z ∷ ys) (inr h) = let e = tally-without q y ys h in omega arith

-- what is sent one to one into another list isn't more than what is counted there
pub tally-at_most : {X Y : Type 0} (p : X → Bool) (q : Y → Bool) (f : X → Y) (xs : List X) (ys : List Y) → IsDistinct xs
    → ((x : X) → IsIn x xs → p x ≡ true → IsIn (f x) ys × (q (f x) ≡ true))
    → ((x z : X) → IsIn x xs → IsIn z xs → f x ≡ f z → x ≡ z) → tally p xs ≤ tally q ys
tally-at_most p q f [] ys apart sent one = omega arith
tally-at_most p q f (x ∷ xs) ys apart sent one = elim (cases_Bool (p x)) [
  | inr e ↦
      let rest = tally-at_most p q f xs ys apart.1 (λ z h. sent z (inr h)) (λ a b h k. one a b (inr h) (inr k)) in
      let head : one_if (p x) ≡ 0 = ap one_if e in
      omega arith
  | inl e ↦
      let s = sent x (inl refl) e in
      let rest = tally-at_most p q f xs (without (f x) ys s.0) apart.1
      (λ z h t.
      let u = sent z (inr h) t in
      (elim (without_or (f x) ys s.0 (f z) u.0) [ inl same ↦ absurd (apart.0 z h (one x z (inl refl) (inr h) (sym same))) | inr m ↦ m ], u.1))
      (λ a b h k. one a b (inr h) (inr k)) in
      let head : one_if (p x) ≡ 1 = ap one_if e in
      let there : one_if (q (f x)) ≡ 1 = ap one_if s.1 in
      let count = tally-without q (f x) ys s.0 in
      omega arith
]

-- those that pass and those that don't are all
pub tally-not : {X : Type 0} (q : X → Bool) (xs : List X) → tally q xs + tally (λ x. not (q x)) xs ≡ length xs
tally-not q [] = refl
tally-not q (x ∷ xs) =
    let rest = tally-not q xs in
    elim (cases_Bool (q x)) [
      | inl e ↦ let a : one_if (q x) ≡ 1 = ap one_if e in let b : one_if (not (q x)) ≡ 0 = ap (λ v. one_if (not v)) e in omega arith
      | inr e ↦ let a : one_if (q x) ≡ 0 = ap one_if e in let b : one_if (not (q x)) ≡ 1 = ap (λ v. one_if (not v)) e in omega arith
    ]

-- through a map
pub tally-map : {X Y : Type 0} (q : Y → Bool) (f : X → Y) (xs : List X) → tally q (map f xs) ≡ tally (λ x. q (f x)) xs
tally-map q f [] = refl
tally-map q f (x ∷ xs) = ap (λ n. one_if (q (f x)) + n) (tally-map q f xs)

-- a test that passes only where another does counts no more
pub tally-weaker : {X : Type 0} (p q : X → Bool) (xs : List X) → ((x : X) → q x ≡ true → p x ≡ true) → tally q xs ≤ tally p xs
tally-weaker p q [] f = omega arith
tally-weaker p q (x ∷ xs) f =
    let rest = tally-weaker p q xs f in
    let here : one_if (q x) ≤ one_if (p x) = elim (cases_Bool (q x)) [
      | inl e ↦ let a = ap one_if e in let b = ap one_if (f x e) in omega arith
      | inr e ↦ let a = ap one_if e in omega arith
    ] in
    omega arith

-- and fewer where a member passes the other alone
pub tally-less : {X : Type 0} (p q : X → Bool) (xs : List X) (c : X) → IsIn c xs → ((x : X) → q x ≡ true → p x ≡ true) → p c ≡ true → q c ≡ false → tally q xs < tally p xs
tally-less p q [] c h f passes fails = absurd h
tally-less p q (x ∷ xs) c (inl e) f passes fails =
    let rest = tally-weaker p q xs f in
    let here : one_if (q x) ≡ 0 = ap (λ y. one_if (q y)) (sym e) ∙ ap one_if fails in
    let there : one_if (p x) ≡ 1 = ap (λ y. one_if (p y)) (sym e) ∙ ap one_if passes in
    omega arith
tally-less p q (x ∷ xs) c (inr h) f passes fails =
    let rest = tally-less p q xs c h f passes fails in
    let one = tally-weaker p q (x ∷ []) f in
    omega arith
