-- Relations that hold round a list: of each item and the next one, and of the last item and the first.
use Rattle.std.proofs.Common.{List, [], ◌∷◌, ◌++◌, refl, subst, sym, inl, inr, append-nil}
use Rattle.fs_lists.specs.Members.{IsIn, IsDistinct}
use Rattle.fs_lists.proofs.Members.{in_append_left, in_append_right, in_append_cases}
use Rattle.fs_triangles.specs.Ears.{last_after}

module _ {X : Type 0} (P : X → X → Type 0) where
  -- from x through the list to z, each item and the next one have P
  abbrev pub Leads : X → List X → X → Type 0
  Leads x [] z = P x z
  Leads x (y ∷ ys) z = P x y × Leads y ys z

  -- all items round the list have P
  abbrev pub Round : List X → Type 0
  Round [] = Unit {0}
  Round (x ∷ xs) = Leads x xs x

module _ {X : Type 0} (P : X → X → Type 0) where
  leads_join : (x : X) (xs : List X) (y : X) (ys : List X) (z : X) → Leads P x xs y → Leads P y ys z → Leads P x (xs ++ y ∷ ys) z
  leads_join x [] y ys z a b = (a, b)
  leads_join x (w ∷ xs) y ys z a b = (a.0, leads_join w xs y ys z a.1 b)

  leads_before : (x : X) (xs : List X) (y : X) (ys : List X) (z : X) → Leads P x (xs ++ y ∷ ys) z → Leads P x xs y
  leads_before x [] y ys z a = a.0
  leads_before x (w ∷ xs) y ys z a = (a.0, leads_before w xs y ys z a.1)

  leads_after : (x : X) (xs : List X) (y : X) (ys : List X) (z : X) → Leads P x (xs ++ y ∷ ys) z → Leads P y ys z
  leads_after x [] y ys z a = a.1
  leads_after x (w ∷ xs) y ys z a = leads_after w xs y ys z a.1

  -- it doesn't matter where the list begins
  pub round_turned : (xs ys : List X) → Round P (xs ++ ys) → Round P (ys ++ xs)
  round_turned [] ys a = subst (Round P) (sym (append-nil ys)) a
  round_turned (x ∷ xs) [] a = subst (Round P) (append-nil (x ∷ xs)) a
  round_turned (x ∷ xs) (y ∷ ys) a = leads_join y ys x xs y (leads_after x xs y ys x a) (leads_before x xs y ys x a)

  -- the last item and what it leads to have P
  pub leads_last : (x : X) (xs : List X) (z : X) → Leads P x xs z → P (last_after x xs) z
  leads_last x [] z a = a
  leads_last x (y ∷ ys) z a = leads_last y ys z a.1

  -- another end
  pub leads_to_other : (x : X) (xs : List X) (z o : X) → Leads P x xs z → P (last_after x xs) o → Leads P x xs o
  leads_to_other x [] z o a b = b
  leads_to_other x (y ∷ ys) z o a b = (a.0, leads_to_other y ys z o a.1 b)

-- another relation, which holds of the last item, and of the others wherever the first one does
pub leads_by : {X : Type 0} (P Q : X → X → Type 0) (x : X) (xs : List X) (z o : X)
    → ((u y : X) → IsIn u (x ∷ xs) → IsIn y xs → P u y → Q u y) → Q (last_after x xs) o → Leads P x xs z → Leads Q x xs o
leads_by P Q x [] z o f b a = b
leads_by P Q x (y ∷ ys) z o f b a = (f x y (inl refl) (inl refl) a.0, leads_by P Q y ys z o (λ u w m n p. f u w (inr m) (inr n) p) b a.1)

-- ---- members

module _ {X : Type 0} where
  -- the last item is one of the list
  pub last_in : (x : X) (xs : List X) → IsIn (last_after x xs) (x ∷ xs)
  last_in x [] = inl refl
  last_in x (y ∷ ys) = inr (last_in y ys)

  -- the items are the same wherever the list begins
  pub in_turned : (x : X) (xs ys : List X) → IsIn x (xs ++ ys) → IsIn x (ys ++ xs)
  in_turned x xs ys m = elim (in_append_cases x xs ys m) [ inl h ↦ in_append_right x ys xs h | inr h ↦ in_append_left x ys xs h ]

  apart_of_pieces : (xs ys : List X) → IsDistinct xs → IsDistinct ys → ((x : X) → IsIn x xs → ¬ IsIn x ys) → IsDistinct (xs ++ ys)
  apart_of_pieces [] ys a b n = b
  apart_of_pieces (x ∷ xs) ys a b n = (
    λ y m e. elim (in_append_cases y xs ys m) [ inl h ↦ a.0 y h e | inr h ↦ n x (inl refl) (subst (λ w. IsIn w ys) (sym e) h) ],
    apart_of_pieces xs ys a.1 b (λ y m. n y (inr m)),
  )

  -- so in each of two pieces
  pub apart_first : (xs ys : List X) → IsDistinct (xs ++ ys) → IsDistinct xs
  apart_first [] ys a = tt
  apart_first (x ∷ xs) ys a = (λ y m. a.0 y (in_append_left y xs ys m), apart_first xs ys a.1)

  pub apart_second : (xs ys : List X) → IsDistinct (xs ++ ys) → IsDistinct ys
  apart_second [] ys a = a
  apart_second (x ∷ xs) ys a = apart_second xs ys a.1

  -- an item of the first piece isn't one of the second
  pub apart_between : (xs ys : List X) → IsDistinct (xs ++ ys) → (x : X) → IsIn x xs → ¬ IsIn x ys
  apart_between [] ys a x m n = m
  apart_between (w ∷ xs) ys a x (inl e) n = a.0 x (in_append_right x xs ys n) (sym e)
  apart_between (w ∷ xs) ys a x (inr m) n = apart_between xs ys a.1 x m n

  -- no item is twice in the list wherever it begins
  pub distinct_turned : (xs ys : List X) → IsDistinct (xs ++ ys) → IsDistinct (ys ++ xs)
  distinct_turned xs ys a = apart_of_pieces ys xs (apart_second xs ys a) (apart_first xs ys a) (λ x m n. apart_between xs ys a x n m)
