-- Letters by their names, and what the write of one letter changes: the components that have its name.
use Rattle.std.proofs.Common.{◌≡◌, ℕ, zero, suc, ◌+◌, ◌<◌, ◌==◌, if◌then◌else◌, List, [], ◌∷◌, length, get_or, set, take, drop, refl, sym, ap, ◌∙◌, subst, inl, inr, arith}
use Rattle.std.proofs.Math.Seq.{map-set_same}
use Rattle.std.proofs.lemmas.Bool.Decides.{eqb_tells}
use Rattle.std.proofs.lemmas.List.{length-set, get_or-set_same, get_or-set_other}
use Rattle.std.specs.List.{AllByRecursion, range_with_len}
use Rattle.fs_lists.specs.Members.{IsIn}
use Rattle.fs_lists.proofs.Equal.{heads_equal, tails_equal}
use Rattle.fs_lists.proofs.Members.{All-member, in_map_cases}
use Rattle.fs_gluing.specs.Exchanges.{Letter, names_of}
use Rattle.fs_rauzy.specs.declared.rows.Extent.{Extent}
use Rattle.fs_rauzy.specs.Events.{with_letter}
use Rattle.fs_rauzy.specs.StatesInPlace.{no_letter, letters_at, opened}

-- each letter is at its name
abbrev pub AreNamed : List Letter → Type 0
AreNamed letters = names_of letters ≡ range_with_len 0 (length letters)

-- the names are those of letters
abbrev pub AreWithin : List Letter → List ℕ → Type 0
AreWithin letters names = AllByRecursion (λ name. name < length letters) names

-- ---- letters by their names

-- the letter at a name has it
pub name_at : (letters : List Letter) (name : ℕ) → AreNamed letters → name < length letters → (get_or letters name no_letter).name ≡ name
name_at letters name named within = go letters 0 name named within ∙ (omega arith)
  where
    go : (ls : List Letter) (i k : ℕ) → names_of ls ≡ range_with_len i (length ls) → k < length ls → (get_or ls k no_letter).name ≡ i + k
    go [] i k e l = absurd (omega arith)
    go (x ∷ ls) i zero e l = heads_equal x.name i (names_of ls) (range_with_len (i + 1) (length ls)) e ∙ (omega arith)
    go (x ∷ ls) i (suc k) e l = go ls (i + 1) k (tails_equal x.name i (names_of ls) (range_with_len (i + 1) (length ls)) e) (omega arith) ∙ (omega arith)

-- the names of the letters at names
pub names_at : (letters : List Letter) (names : List ℕ) → AreNamed letters → AreWithin letters names → names_of (letters_at letters names) ≡ names
names_at letters [] named within = refl
names_at letters (name ∷ names) named within = λ i. name_at letters name named within.0 i ∷ names_at letters names named within.1 i

-- a letter among those at names is the one at its own name
pub letter_of_names : (letters : List Letter) (names : List ℕ) (a : Letter) → AreNamed letters → AreWithin letters names → IsIn a (letters_at letters names)
    → IsIn a.name names × (a ≡ get_or letters a.name no_letter)
letter_of_names letters names a named within h =
    let from = in_map_cases (λ (name : ℕ). get_or letters name no_letter) a names h in
    let same : a.name ≡ from.0 =
    ap (λ (l : Letter). l.name) from.2 ∙ name_at letters from.0 named (All-member (λ name. name < length letters) names from.0 within from.1) in
    (subst (λ (n : ℕ). IsIn n names) (sym same) from.1, from.2 ∙ ap (λ (n : ℕ). get_or letters n no_letter) (sym same))

-- ---- after the write of a letter under its own name

module _ (letters : List Letter) (n : ℕ) (new : Letter) (named : AreNamed letters) (inside : n < length letters) (own : new.name ≡ n) where
  -- the letters keep their names
  pub named_set : AreNamed (set letters n new)
  named_set =
      map-set_same (λ (l : Letter). l.name) letters n new no_letter (own ∙ sym (name_at letters n named inside))
      ∙ named ∙ ap (range_with_len 0) (sym (length-set letters n new))

  pub within_set : (names : List ℕ) → AreWithin letters names → AreWithin (set letters n new) names
  within_set names within = subst (λ (k : ℕ). AllByRecursion (λ name. name < k) names) (sym (length-set letters n new)) within

  -- the letter at a name is the written one where it has its name
  at_set : (name : ℕ) → name < length letters
      → get_or (set letters n new) name no_letter ≡ (if (get_or letters name no_letter).name == new.name then new else get_or letters name no_letter)
  at_set name within =
      let old = get_or letters name no_letter in
      elim (eqb_tells old.name new.name) [
        | inl h ↦
            let same : name ≡ n = sym (name_at letters name named within) ∙ h.1 ∙ own in
            ap (λ (k : ℕ). get_or (set letters n new) k no_letter) same ∙ get_or-set_same letters n new no_letter inside ∙ sym (ap (λ t. if t then new else old) h.0)
        | inr h ↦
            get_or-set_other letters n name new no_letter (λ same. h.1 (name_at letters name named within ∙ same ∙ sym own)) ∙ sym (ap (λ t. if t then new else old) h.0)
      ]

  -- so are the letters at names
  pub letters_at_set : (names : List ℕ) → AreWithin letters names → letters_at (set letters n new) names ≡ with_letter new (letters_at letters names)
  letters_at_set [] within = refl
  letters_at_set (name ∷ names) within = λ i. at_set name within.0 i ∷ letters_at_set names within.1 i

-- ---- what stays the same

-- both lists have the same letters at these names
abbrev pub AreSameAt : List Letter → List Letter → List ℕ → Type 0
AreSameAt letters others names = (name : ℕ) → IsIn name names → get_or letters name no_letter ≡ get_or others name no_letter

-- a write changes nothing at other names
pub same_at_set : (letters : List Letter) (n : ℕ) (new : Letter) (names : List ℕ) → ¬ IsIn n names → AreSameAt (set letters n new) letters names
same_at_set letters n new names other name h = get_or-set_other letters n name new no_letter (λ e. other (subst (λ (k : ℕ). IsIn k names) e h))

pub letters_at_same : (letters others : List Letter) (names : List ℕ) → AreSameAt letters others names → letters_at letters names ≡ letters_at others names
letters_at_same letters others [] same = refl
letters_at_same letters others (name ∷ names) same = λ i. same name (inl refl) i ∷ letters_at_same letters others names (λ other h. same other (inr h)) i

pub in_drop : {X : Type 0} (x : X) (k : ℕ) (xs : List X) → IsIn x (drop k xs) → IsIn x xs
in_drop x zero xs h = h
in_drop x (suc k) [] h = absurd h
in_drop x (suc k) (y ∷ ys) h = inr (in_drop x k ys h)

pub in_take : {X : Type 0} (x : X) (k : ℕ) (xs : List X) → IsIn x (take k xs) → IsIn x xs
in_take x zero xs h = absurd h
in_take x (suc k) [] h = absurd h
in_take x (suc k) (y ∷ ys) (inl e) = inl e
in_take x (suc k) (y ∷ ys) (inr h) = inr (in_take x k ys h)

-- components whose letters stay are the same
pub opened_same : (letters others : List Letter) (top bottom : List ℕ) (extents : List Extent) → AreSameAt letters others top
    → opened letters top bottom extents ≡ opened others top bottom extents
opened_same letters others top bottom [] same = refl
opened_same letters others top bottom (e ∷ extents) same =
    let now = letters_at_same letters others (drop e.first top) (λ name h. same name (in_drop name e.first top h)) in
    let rest = opened_same letters others (take e.first top) (take e.first bottom) extents (λ name h. same name (in_take name e.first top h)) in
    λ i. record { base = e.base; total = e.total; top = now i; bottom = drop e.first bottom } ∷ rest i
