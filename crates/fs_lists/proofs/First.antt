-- The first item of a list without a property.
use Rattle.std.proofs.Common.{◌≡◌, List, [], ◌∷◌, ◌++◌, refl, sym, ap, ◌∙◌, subst, append_assoc, append-nil, map}
use Rattle.std.proofs.lemmas.List.{map-append}
use Rattle.std.specs.List.{AllByRecursion}
use Rattle.fs_lists.specs.First.{IsFirstWithout}
use Rattle.fs_lists.proofs.Equal.{heads_equal, tails_equal}
use Rattle.fs_lists.proofs.All.{All-append, All-map, All-between}

-- the first of a prefix is the first of the whole list
pub first_of_prefix : {X : Type 0} (P : X → Type 0) (xs ys : List X) (x : X) → IsFirstWithout P xs x → IsFirstWithout P (xs ++ ys) x
first_of_prefix P xs ys x f = record {
  before = f.before;
  after = f.after ++ ys;
  whole = ap (λ zs. zs ++ ys) f.whole ∙ append_assoc f.before (x ∷ f.after) ys;
  passed = f.passed;
  fails = f.fails;
}

-- where each item of a prefix has the property, the first of the rest is the first of the whole list
pub first_of_suffix : {X : Type 0} (P : X → Type 0) (xs ys : List X) (x : X) → AllByRecursion P xs → IsFirstWithout P ys x → IsFirstWithout P (xs ++ ys) x
first_of_suffix P xs ys x a f = record {
  before = xs ++ f.before;
  after = f.after;
  whole = ap (λ zs. xs ++ zs) f.whole ∙ sym (append_assoc xs f.before (x ∷ f.after));
  passed = All-append P xs f.before a f.passed;
  fails = f.fails;
}

-- a map leads from the first item to the first item
pub first_of_map : {X Y : Type 0} (f : X → Y) (P : Y → Type 0) (xs : List X) (x : X) → IsFirstWithout (λ z. P (f z)) xs x → IsFirstWithout P (map f xs) (f x)
first_of_map f P xs x i = record {
  before = map f i.before;
  after = map f i.after;
  whole = ap (map f) i.whole ∙ map-append f i.before (x ∷ i.after);
  passed = All-map f P i.before i.passed;
  fails = i.fails;
}

-- where there is a first item without P, not each item has P
pub first_not_all : {X : Type 0} (P : X → Type 0) (xs : List X) (x : X) → IsFirstWithout P xs x → AllByRecursion P xs → ⊥
first_not_all P xs x f a = f.fails (All-between P xs f.before f.after x f.whole a)

-- in two splits of one list, the items after which no more is known to have P, and which haven't, are equal
pub first_of_splits : {X : Type 0} (P : X → Type 0) (xs ys cs ds : List X) (x y : X) → xs ++ x ∷ cs ≡ ys ++ y ∷ ds → AllByRecursion P xs → AllByRecursion P ys → ¬ P x → ¬ P y → x ≡ y
first_of_splits P [] [] cs ds x y e a b p q = cc
first_of_splits P [] (b ∷ bs) cs ds x y e a h p q = absurd (p (subst P (sym (heads_equal x b cs (bs ++ y ∷ ds) e)) h.0))
first_of_splits P (a ∷ rest) [] cs ds x y e h b p q = absurd (q (subst P (heads_equal a y (rest ++ x ∷ cs) ds e) h.0))
first_of_splits P (a ∷ rest) (b ∷ bs) cs ds x y e h k p q = first_of_splits P rest bs cs ds x y (tails_equal a b _ _ e) h.1 k.1 p q

-- there is at most one first item without P
pub first_unique : {X : Type 0} (P : X → Type 0) (xs : List X) (x y : X) → IsFirstWithout P xs x → IsFirstWithout P xs y → x ≡ y
first_unique P xs x y f g = first_of_splits P f.before g.before f.after g.after x y (sym f.whole ∙ g.whole) f.passed g.passed f.fails g.fails

-- each item has P, or there is a first one without it: it can't be that neither holds
module _ {X : Type 0} (P : X → Type 0) (xs : List X) (no_first : (x : X) → ¬ IsFirstWithout P xs x) (not_all : ¬ AllByRecursion P xs) where
  none_from : (before rest : List X) → xs ≡ before ++ rest → AllByRecursion P before → ⊥
  none_from before [] e all = not_all (subst (AllByRecursion P) (sym (e ∙ append-nil before)) all)
  none_from before (x ∷ rest) e all =
      let not_here : ¬ P x = λ here. none_from (before ++ x ∷ []) rest (e ∙ sym (append_assoc before (x ∷ []) rest)) (All-append P before (x ∷ []) all (here, tt)) in
      no_first x (record { before = before; after = rest; whole = e; passed = all; fails = not_here })

  pub first_or_all : ⊥
  first_or_all = none_from [] xs refl tt
