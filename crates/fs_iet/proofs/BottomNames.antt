-- The names of the bottom row: outgoing sides by their numbers, and the numbers of the partners of incoming sides.
use Rattle.std.proofs.Common.{◌≡◌, ◌≢◌, ◌⊎◌, ℕ, ◌+◌, ◌<◌, Some, List, [], ◌∷◌, ◌++◌, length, map, take, get_or, refl, sym, ap, ◌∙◌, subst, inl, inr, arith}
use Rattle.std.proofs.lemmas.Bool.{cases_eq}
use Rattle.std.proofs.lemmas.List.{map-append, take_more}
use Rattle.std.proofs.lemmas.Option.{same_Some, slice_get-get_or, get_or_from_slice_get}
use Rattle.std.specs.Option.{IsSome}
use Rattle.std.specs.List.{slice_get}
use Rattle.fs_lists.specs.Members.{IsIn, IsDistinct}
use Rattle.fs_plane.specs.declared.corners.Corner.{Corner}
use Rattle.fs_gluing.specs.Polygons.{at_side, HasSide}
use Rattle.fs_iet.proofs.ListsInTurn.{number_of_member, number_unique}

-- the table has the number of each of the first n sides
abbrev pub AreNumbered : List Corner → List (List ℕ) → ℕ → Type 0
AreNumbered outgoing table n = (k : ℕ) (f : Corner) → k < n → slice_get outgoing k ≡ Some f → at_side table f ≡ Some k

-- that of one more side is written
pub numbered_more : (outgoing : List Corner) (old new : List (List ℕ)) (n : ℕ) (d : Corner) → IsDistinct outgoing → n < length outgoing → at_side new (get_or outgoing n d) ≡ Some n
    → ((e : Corner) → e ≢ get_or outgoing n d → at_side new e ≡ at_side old e) → AreNumbered outgoing old n → AreNumbered outgoing new (n + 1)
numbered_more outgoing old new n d once inside here others before k f below e = go (cases_eq k n)
  where
    go : (k ≡ n) ⊎ (k ≡ n → ⊥) → at_side new f ≡ Some k
    go (inl same) =
        let read : get_or outgoing n d ≡ f = ap (λ (i : ℕ). get_or outgoing i d) (sym same) ∙ get_or_from_slice_get outgoing k f d e in
        ap (at_side new) (sym read) ∙ here ∙ ap (λ (i : ℕ). Some i) (sym same)
    go (inr other) =
        let less : k < n = omega arith in
        others f (λ h. other (number_unique outgoing once k n f e (slice_get-get_or outgoing n d inside ∙ ap (λ (x : Corner). Some x) (sym h)))) ∙ before k f less e

module _ (outgoing : List Corner) (table : List (List ℕ)) (numbers : (n : ℕ) (f : Corner) → slice_get outgoing n ≡ Some f → at_side table f ≡ Some n) (f : Corner) (there : IsIn f outgoing) where
  -- an outgoing side has a number
  pub has_number : HasSide table f
  has_number = let r = number_of_member outgoing f there in subst IsSome (sym (numbers r.0 f r.1)) refl

  -- by which it is found
  pub side_of_number : (name : ℕ) → at_side table f ≡ Some name → slice_get outgoing name ≡ Some f
  side_of_number name e =
      let r = number_of_member outgoing f there in
      let same : r.0 ≡ name = same_Some r.0 name (sym (numbers r.0 f r.1) ∙ e) in
      ap (slice_get outgoing) (sym same) ∙ r.1

-- one more name
pub names_more : (outgoing incoming : List Corner) (other : Corner → Corner) (names : List ℕ) (name i : ℕ) (d : Corner) → i < length incoming → slice_get outgoing name ≡ Some (other (get_or incoming i d))
    → map (λ n. slice_get outgoing n) names ≡ map (λ e. Some (other e)) (take i incoming) → map (λ n. slice_get outgoing n) (names ++ name ∷ []) ≡ map (λ e. Some (other e)) (take (i + 1) incoming)
names_more outgoing incoming other names name i d inside is before =
    map-append (λ n. slice_get outgoing n) names (name ∷ [])
    ∙ (λ k. before k ++ is k ∷ [])
    ∙ sym (map-append (λ e. Some (other e)) (take i incoming) (get_or incoming i d ∷ []))
    ∙ ap (map (λ e. Some (other e))) (sym (take_more incoming i d inside))
