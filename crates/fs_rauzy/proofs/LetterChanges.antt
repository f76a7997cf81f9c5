-- Rows in which one letter changes, and rows whose letters get other tags: names, lengths and their sums. A library for crates to come.
use Rattle.std.proofs.Common.{◌≡◌, ◌≢◌, ◌⊎◌, ℕ, ◌==◌, if◌then◌else◌, true, false, List, [], ◌∷◌, length, map, refl, sym, ap, ◌∙◌, subst, inl, inr}
use Rattle.std.proofs.lemmas.List.{length-map}
use Rattle.std.proofs.lemmas.Bool.Decides.{eqb_tells}
use Rattle.std.specs.List.{AllByRecursion}
use Rattle.fs_lists.specs.Members.{IsIn, IsDistinct}
use Rattle.fs_lists.proofs.Members.{in_map}
use Rattle.fs_ring.proofs.Solver.{◌⊕◌, ◌≐◌, identity}
use Rattle.fs_quadratic.specs.Ring.{Quadratic, add, total}
use Rattle.fs_quadratic.proofs.Laws.{quadratic_ring}
use Rattle.fs_gluing.specs.Exchanges.{Letter, names_of}
use Rattle.fs_rauzy.specs.Events.{with_letter, without_start, without_end}

-- the lengths of letters
abbrev pub lengths_of : List Letter → List Quadratic
lengths_of letters = map (λ letter. letter.length) letters

-- ---- one letter in place of another

-- what stands for a letter
abbrev put : Letter → Letter → Letter
put new letter = if letter.name == new.name then new else letter

-- a letter of the name, or of another one
pub put_cases : (new letter : Letter) → ((letter.name ≡ new.name) × (put new letter ≡ new)) ⊎ ((letter.name ≢ new.name) × (put new letter ≡ letter))
put_cases new letter =
    elim (eqb_tells letter.name new.name) [
      | inl h ↦ inl (h.1, ap (λ t. if t then new else letter) h.0)
      | inr h ↦ inr (h.1, ap (λ t. if t then new else letter) h.0)
    ]

put-name : (new letter : Letter) → (put new letter).name ≡ letter.name
put-name new letter = elim (put_cases new letter) [ inl h ↦ ap (λ (l : Letter). l.name) h.1 ∙ sym h.0 | inr h ↦ ap (λ (l : Letter). l.name) h.1 ]

-- the names stay
pub with_letter-names : (new : Letter) (letters : List Letter) → names_of (with_letter new letters) ≡ names_of letters
with_letter-names new [] = refl
with_letter-names new (l ∷ ls) = λ i. put-name new l i ∷ with_letter-names new ls i

pub with_letter-length : (new : Letter) (letters : List Letter) → length (with_letter new letters) ≡ length letters
with_letter-length new letters = length-map letters (put new)

-- letters of other names stay
pub with_letter_other : (new letter : Letter) (letters : List Letter) → IsIn letter letters → letter.name ≢ new.name → IsIn letter (with_letter new letters)
with_letter_other new letter letters h n =
    elim (put_cases new letter) [
      | inl k ↦ absurd (n k.0)
      | inr k ↦ subst (λ l. IsIn l (with_letter new letters)) k.1 (in_map (put new) letter letters h)
    ]

-- what holds of the new letter and of all others holds of all
pub with_letter_all : (P : Letter → Type 0) (new : Letter) (letters : List Letter) → P new → AllByRecursion P letters → AllByRecursion P (with_letter new letters)
with_letter_all P new [] p a = tt
with_letter_all P new (l ∷ ls) p a =
    (elim (put_cases new l) [ inl h ↦ subst P (sym h.1) p | inr h ↦ subst P (sym h.1) a.0 ], with_letter_all P new ls p a.1)

with_letter_absent : (new : Letter) (letters : List Letter) → ¬ IsIn new.name (names_of letters) → with_letter new letters ≡ letters
with_letter_absent new [] n = refl
with_letter_absent new (l ∷ ls) n =
    elim (put_cases new l) [
      | inl h ↦ absurd (n (inl (sym h.0)))
      | inr h ↦ λ i. h.1 i ∷ with_letter_absent new ls (λ k. n (inr k)) i
    ]

-- the sum is more by the new length, and less by the old one
pub with_letter_total : (new old : Letter) (letters : List Letter) → IsDistinct (names_of letters) → IsIn old letters → old.name ≡ new.name
    → add (total (lengths_of (with_letter new letters))) old.length ≡ add (total (lengths_of letters)) new.length
with_letter_total new old [] p h e = absurd h
with_letter_total new old (l ∷ ls) p (inl f) e =
    let named : l.name ≡ new.name = ap (λ (l : Letter). l.name) (sym f) ∙ e in
    let here : put new l ≡ new = elim (put_cases new l) [ inl k ↦ k.1 | inr k ↦ absurd (k.0 named) ] in
    let rest : with_letter new ls ≡ ls = with_letter_absent new ls (λ k. p.0 new.name k named) in
    (λ i. add (add (here i).length (total (lengths_of (rest i)))) (f i).length)
    ∙ identity (quadratic_ring 0) (new.length ∷ l.length ∷ total (lengths_of ls) ∷ []) (λ n l t. (n ⊕ t) ⊕ l ≐ (l ⊕ t) ⊕ n) refl
with_letter_total new old (l ∷ ls) p (inr h) e =
    let there = in_map (λ (l : Letter). l.name) old ls h in
    let other : l.name ≢ new.name = λ f. p.0 old.name there (f ∙ sym e) in
    let here : put new l ≡ l = elim (put_cases new l) [ inl k ↦ absurd (other k.0) | inr k ↦ k.1 ] in
    (λ i. add (add (here i).length (total (lengths_of (with_letter new ls)))) old.length)
    ∙ (quadratic_ring 0).add_assoc l.length (total (lengths_of (with_letter new ls))) old.length
    ∙ ap (add l.length) (with_letter_total new old ls p.1 h e)
    ∙ sym ((quadratic_ring 0).add_assoc l.length (total (lengths_of ls)) new.length)

-- ---- other tags

-- the letters have the same names and lengths
pub record AreRelabelled (f : Letter → Letter) : Type 0 where
  pub names : (letter : Letter) → (f letter).name ≡ letter.name
  pub lengths : (letter : Letter) → (f letter).length ≡ letter.length

pub relabelled-names : {f : Letter → Letter} → AreRelabelled f → (letters : List Letter) → names_of (map f letters) ≡ names_of letters
relabelled-names h [] = refl
relabelled-names h (l ∷ ls) = λ i. h.names l i ∷ relabelled-names h ls i

pub relabelled-lengths : {f : Letter → Letter} → AreRelabelled f → (letters : List Letter) → lengths_of (map f letters) ≡ lengths_of letters
relabelled-lengths h [] = refl
relabelled-lengths h (l ∷ ls) = λ i. h.lengths l i ∷ relabelled-lengths h ls i

-- without a real start of the one name and a real end of the other
pub ends_relabelled : (starting ending : ℕ) → AreRelabelled (λ letter. without_end ending (without_start starting letter))
ends_relabelled starting ending = record {
  names = λ letter. end-name (without_start starting letter) ∙ start-name letter;
  lengths = λ letter. end-length (without_start starting letter) ∙ start-length letter;
}
  where
    start-name : (letter : Letter) → (without_start starting letter).name ≡ letter.name
    start-name letter = elim (letter.name == starting) as (λ t. (if t then record letter { start = record letter.start { real = false } } else letter).name ≡ letter.name) [ true ↦ refl | false ↦ refl ]

    start-length : (letter : Letter) → (without_start starting letter).length ≡ letter.length
    start-length letter = elim (letter.name == starting) as (λ t. (if t then record letter { start = record letter.start { real = false } } else letter).length ≡ letter.length) [ true ↦ refl | false ↦ refl ]

    end-name : (letter : Letter) → (without_end ending letter).name ≡ letter.name
    end-name letter = elim (letter.name == ending) as (λ t. (if t then record letter { end = record letter.end { real = false } } else letter).name ≡ letter.name) [ true ↦ refl | false ↦ refl ]

    end-length : (letter : Letter) → (without_end ending letter).length ≡ letter.length
    end-length letter = elim (letter.name == ending) as (λ t. (if t then record letter { end = record letter.end { real = false } } else letter).length ≡ letter.length) [ true ↦ refl | false ↦ refl ]
