-- The rays that are seen: at the opening of a half-edge, and at a visit.
use Rattle.std.proofs.Common.{◌≡◌, ◌⊎◌, ◌↔◌, ℕ, ◌+◌, ◌<◌, Bool, true, Option, Some, None, List, [], ◌∷◌, ◌++◌, refl, sym, ap, subst, inl, inr, arith}
use Rattle.std.proofs.lemmas.Bool.{cases_order}
use Rattle.fs_quadratic.specs.Ring.{Quadratic}
use Rattle.fs_gluing.specs.Triangulation.{Triangulation}
use Rattle.fs_words.specs.Words.{Letter}
use Rattle.fs_lists.specs.Members.{IsIn}
use Rattle.fs_fan.specs.Search.{Word, IsBefore, by_half_edge, by_letters, Sighting, IsSeenBefore, seen_by_half_edge, along_first, seen_by_letters, IsSighting}
use Rattle.fs_fan.specs.Entries.{optional}
use Rattle.fs_fan.specs.Searching.{AreSeen, IsPassed}
use Rattle.fs_fan.proofs.OrderedLists.{in_optional, in_optional_cases, in_last, in_more_cases, in_order-optional}
use Rattle.fs_lists.proofs.Members.{in_append_left, in_append_right, in_append_cases}

module _ (d : ℕ) (t : Triangulation) (bound : Quadratic) where
  abbrev Holds : Sighting → Type 0
  Holds at = IsSighting d t bound at

  abbrev Passed : ℕ → List Word → Sighting → Type 0
  Passed n words at = IsPassed n words at.half_edge at.letters

  -- one sighting more is passed, which comes after all that are seen
  seen_more : (n m : ℕ) (words more : List Word) (seen : List Sighting) (at : Sighting) (is_seen : Bool) → AreSeen d t bound n words seen
      → ((x : Sighting) → Passed n words x → Passed m more x) → ((x : Sighting) → Passed m more x → Passed n words x ⊎ (x ≡ at)) → Passed m more at
      → ((x : Sighting) → Passed n words x → IsSeenBefore x at) → (is_seen ≡ true) ↔ Holds at → AreSeen d t bound m more (seen ++ optional is_seen at)
  seen_more n m words more seen at is_seen s keeps cases new before tells = record {
    in_order = in_order-optional IsSeenBefore seen is_seen at s.in_order (λ x k. before x ((s.all x).0 k).1);
    all = λ x. (
      (λ k. elim (in_append_cases x seen (optional is_seen at) k) [
        | inl h ↦ let old = (s.all x).0 h in (old.0, keeps x old.1)
        | inr h ↦ let c = in_optional_cases is_seen at x h in (subst Holds (sym c.0) (tells.0 c.1), subst (Passed m more) (sym c.0) new)
      ]),
      (λ h. elim (cases x h.1) [
        | inl p ↦ in_append_left x seen (optional is_seen at) ((s.all x).1 (h.0, p))
        | inr e ↦ in_append_right x seen (optional is_seen at) (subst (λ y. IsIn y (optional is_seen at)) (sym e) (in_optional is_seen at (tells.1 (subst Holds e h.0))))
      ]),
    );
  }

  -- ---- a half-edge is opened

  -- the sighting along a half-edge
  abbrev pub along : ℕ → Sighting
  along h = record { half_edge = h; letters = None }

  module _ (n : ℕ) (words : List Word) where
    opened_keeps : (h : ℕ) (o : Option (List Letter)) → IsPassed n words h o → IsPassed (n + 1) words h o
    opened_keeps h None l = omega arith
    opened_keeps h (Some letters) m = m

    opened_cases : (h : ℕ) (o : Option (List Letter)) → IsPassed (n + 1) words h o → IsPassed n words h o ⊎ (◌≡◌ {A = Sighting} (record { half_edge = h; letters = o }) (along n))
    opened_cases h None l = elim (cases_order h n) [
      | inl e ↦ inr (λ i. record { half_edge = e i; letters = None })
      | inr (inl less) ↦ inl less
      | inr (inr more) ↦ absurd (omega arith)
    ]
    opened_cases h (Some letters) m = inl m

    opened_before : ((w : Word) → IsIn w words → w.half_edge < n) → (h : ℕ) (o : Option (List Letter)) → IsPassed n words h o → IsSeenBefore (record { half_edge = h; letters = o }) (along n)
    opened_before below h None l = seen_by_half_edge l
    opened_before below h (Some letters) m = seen_by_half_edge (below (record { half_edge = h; letters = letters }) m)

    -- half-edge n is seen, where it is a ray within the bound
    pub seen_opened : (seen : List Sighting) → ((w : Word) → IsIn w words → w.half_edge < n) → AreSeen d t bound n words seen → (is_seen : Bool) → (is_seen ≡ true) ↔ Holds (along n)
        → AreSeen d t bound (n + 1) words (seen ++ optional is_seen (along n))
    seen_opened seen below s is_seen tells =
        seen_more n (n + 1) words words seen (along n) is_seen s (λ x. opened_keeps x.half_edge x.letters) (λ x. opened_cases x.half_edge x.letters) (omega arith)
        (λ x. opened_before below x.half_edge x.letters) tells

    -- ---- a word is visited

    module _ (w : Word) (before : (u : Word) → IsIn u words → IsBefore u w) (last : w.half_edge + 1 ≡ n) where
      -- the sighting at its tip
      abbrev pub at_tip : Sighting
      at_tip = record { half_edge = w.half_edge; letters = Some w.letters }

      visited_keeps : (h : ℕ) (o : Option (List Letter)) → IsPassed n words h o → IsPassed n (words ++ w ∷ []) h o
      visited_keeps h None l = l
      visited_keeps h (Some letters) m = in_append_left (record { half_edge = h; letters = letters }) words (w ∷ []) m

      visited_cases : (h : ℕ) (o : Option (List Letter)) → IsPassed n (words ++ w ∷ []) h o → IsPassed n words h o ⊎ (◌≡◌ {A = Sighting} (record { half_edge = h; letters = o }) at_tip)
      visited_cases h None l = inl l
      visited_cases h (Some letters) m = elim (in_more_cases words w (record { half_edge = h; letters = letters }) m) [
        | inl k ↦ inl k
        | inr e ↦ inr (ap (λ (u : Word). record { half_edge = u.half_edge; letters = Some u.letters }) e)
      ]

      seen_by_word : (h : ℕ) (letters : List Letter) → IsBefore (record { half_edge = h; letters = letters }) w → IsSeenBefore (record { half_edge = h; letters = Some letters }) at_tip
      seen_by_word h letters (by_half_edge l) = seen_by_half_edge l
      seen_by_word h letters (by_letters e b) = seen_by_letters letters w.letters e refl refl b

      visited_before : (h : ℕ) (o : Option (List Letter)) → IsPassed n words h o → IsSeenBefore (record { half_edge = h; letters = o }) at_tip
      visited_before h None l = elim (cases_order h w.half_edge) [
        | inl e ↦ along_first w.letters e refl refl
        | inr (inl less) ↦ seen_by_half_edge less
        | inr (inr more) ↦ absurd (omega arith)
      ]
      visited_before h (Some letters) m = seen_by_word h letters (before (record { half_edge = h; letters = letters }) m)

      -- the tip is seen, where it is a ray within the bound
      pub seen_visited : (seen : List Sighting) → AreSeen d t bound n words seen → (is_seen : Bool) → (is_seen ≡ true) ↔ Holds at_tip → AreSeen d t bound n (words ++ w ∷ []) (seen ++ optional is_seen at_tip)
      seen_visited seen s is_seen tells =
          seen_more n n words (words ++ w ∷ []) seen at_tip is_seen s (λ x. visited_keeps x.half_edge x.letters) (λ x. visited_cases x.half_edge x.letters) (in_last words w)
          (λ x. visited_before x.half_edge x.letters) tells
