-- The visited words, and those that wait: at the opening of a half-edge, and at a visit.
use Rattle.std.proofs.Common.{◌≡◌, ◌⊎◌, ◌↔◌, ℕ, ◌+◌, ◌<◌, Bool, true, false, List, [], ◌∷◌, ◌++◌, length, refl, sym, ap, ◌∙◌, subst, inl, inr, arith}
use Rattle.std.proofs.lemmas.Bool.{cases_order}
use Rattle.fs_ring.specs.OrderedRing.{IsOrderedRing}
use Rattle.fs_quadratic.specs.Ring.{Quadratic, quadratic, IsPositive}
use Rattle.fs_triangles.specs.Triangles.{AreTriangles}
use Rattle.fs_gluing.specs.Triangulation.{Triangulation, face_sides}
use Rattle.fs_mesh.proofs.HalfEdgeNumbers.{side_of_number}
use Rattle.fs_words.specs.Words.{right, left}
use Rattle.fs_words.specs.LiveWords.{IsLive}
use Rattle.fs_words.proofs.LiveWords as live_words
use Rattle.fs_lists.specs.Members.{IsIn}
use Rattle.fs_lists.proofs.Members.{in_append_left}
use Rattle.fs_fan.specs.Search.{Word, IsBefore, IsLiveWord, by_half_edge}
use Rattle.fs_fan.specs.Entries.{optional}
use Rattle.fs_fan.specs.Searching.{Extends, ExtendsOne, AreBefore, AreVisited}
use Rattle.fs_fan.proofs.OrderedLists.{in_optional, in_optional_cases, in_last, in_more_cases, in_order-more, in_order-optional, in_order-prefix, before_last}
use Rattle.fs_fan.proofs.WordsBefore.{word_irrefl, word_trans, below_of_before}
use Rattle.fs_fan.proofs.Extensions.{
  with_letter,
  stack_after,
  before_with_letter,
  before_of_all,
  all_before_with_letter,
  extended_after,
  at_or_after,
  right_all_before_left,
  extension,
  none,
  by_right,
  by_left,
  stack_cases,
  already,
  with_left,
  with_right,
  still_waits,
  left_waits,
  right_waits,
}

module _ {d : ℕ} (L : IsOrderedRing (quadratic d) (IsPositive d)) (t : Triangulation) (triangles : AreTriangles (quadratic d) (IsPositive d) (face_sides t)) (bound : Quadratic) where
  abbrev Live : Word → Type 0
  Live w = IsLiveWord d t bound w

  -- a word is live where one that goes on from it is
  live_from : (u w : Word) → Extends u w → Live u → Live w
  live_from u w h live = record {
    there = subst (λ k. k < length t.vectors) h.half_edge live.there;
    live =
        live_words.live_prefix L triangles bound w.half_edge (side_of_number t w.half_edge (subst (λ k. k < length t.vectors) h.half_edge live.there)) w.letters h.more
        (subst (λ l. IsLive (quadratic d) (IsPositive d) (face_sides t) bound w.half_edge l) h.letters
        (subst (λ k. IsLive (quadratic d) (IsPositive d) (face_sides t) bound k u.letters) h.half_edge live.live));
  }

  -- the first word of a half-edge
  abbrev pub first_word : ℕ → Word
  first_word h = record { half_edge = h; letters = [] }

  -- each word of a half-edge goes on from the first
  from_first : (w : Word) (n : ℕ) → w.half_edge ≡ n → Extends w (first_word n)
  from_first w n e = record { half_edge = e; more = w.letters; letters = refl }

  module _ (n : ℕ) (words : List Word) where
    -- no word waits: half-edge n is opened
    pub visited_opened : AreVisited d t bound n words [] → (is_live : Bool) → (is_live ≡ true) ↔ Live (first_word n) → AreVisited d t bound (n + 1) words (optional is_live (first_word n))
    visited_opened v is_live tells = record {
      in_order = v.in_order;
      live = v.live;
      below = λ w m. let l = v.below w m in omega arith;
      covered = λ w live l. elim (cases_order w.half_edge n) [
        | inl e ↦ let from = from_first w n e in
            inr (record { from = first_word n; waits = in_optional is_live (first_word n) (tells.1 (live_from w (first_word n) from live)); extends = from })
        | inr (inl less) ↦ elim (v.covered w live less) [ inl m ↦ inl m | inr x ↦ absurd x.waits ]
        | inr (inr more) ↦ absurd (omega arith)
      ];
      waiting = λ s m. let c = in_optional_cases is_live (first_word n) s m in subst Live (sym c.0) (tells.0 c.1);
      last = λ s m. let c = in_optional_cases is_live (first_word n) s m in ap (λ (w : Word). w.half_edge + 1) c.0;
      before = λ w s m k.
          let c = in_optional_cases is_live (first_word n) s k in
          by_half_edge (subst (λ (u : Word). w.half_edge < u.half_edge) (sym c.0) (v.below w m));
      apart = in_order-optional (λ lower upper. AreBefore upper lower) [] is_live (first_word n) tt (λ y m. absurd m);
    }

    -- w, the last word that waits, is visited
    module _ (rest : List Word) (w : Word) (v : AreVisited d t bound n words (rest ++ w ∷ [])) (goes_left goes_right : Bool)
        (tells_left : (goes_left ≡ true) ↔ Live (with_letter w left)) (tells_right : (goes_right ≡ true) ↔ Live (with_letter w right)) where
      abbrev now : List Word
      now = stack_after rest w goes_left goes_right

      rest_before : (s : Word) → IsIn s rest → AreBefore w s
      rest_before = before_last (λ lower upper. AreBefore upper lower) rest w v.apart

      old : (s : Word) → IsIn s rest → IsIn s (rest ++ w ∷ [])
      old s m = in_append_left s rest (w ∷ []) m

      covered : (u : Word) → Live u → u.half_edge < n → IsIn u (words ++ w ∷ []) ⊎ ExtendsOne u now
      covered u live l = elim (v.covered u live l) [
        | inl m ↦ inl (in_append_left u words (w ∷ []) m)
        | inr x ↦ elim (in_more_cases rest w x.from x.waits) [
          | inl m ↦ inr (record { from = x.from; waits = still_waits rest w goes_left goes_right x.from m; extends = x.extends })
          | inr e ↦ elim (extension u w (subst (Extends u) e x.extends)) [
            | none same ↦ inl (subst (λ y. IsIn y (words ++ w ∷ [])) (sym same) (in_last words w))
            | by_right h ↦ inr (record {
              from = with_letter w right;
              waits = right_waits rest w goes_left goes_right (in_optional goes_right (with_letter w right) (tells_right.1 (live_from u (with_letter w right) h live)));
              extends = h;
            })
            | by_left h ↦ inr (record {
              from = with_letter w left;
              waits = left_waits rest w goes_left goes_right (in_optional goes_left (with_letter w left) (tells_left.1 (live_from u (with_letter w left) h live)));
              extends = h;
            })
          ]
        ]
      ]

      waiting : (s : Word) → IsIn s now → Live s
      waiting s m = elim (stack_cases s rest w goes_left goes_right m) [
        | already k ↦ v.waiting s (old s k)
        | with_left e h ↦ subst Live (sym e) (tells_left.0 h)
        | with_right e h ↦ subst Live (sym e) (tells_right.0 h)
      ]

      last : (s : Word) → IsIn s now → s.half_edge + 1 ≡ n
      last s m = elim (stack_cases s rest w goes_left goes_right m) [
        | already k ↦ v.last s (old s k)
        | with_left e h ↦ ap (λ (u : Word). u.half_edge + 1) e ∙ v.last w (in_last rest w)
        | with_right e h ↦ ap (λ (u : Word). u.half_edge + 1) e ∙ v.last w (in_last rest w)
      ]

      after_w : (s : Word) → IsIn s now → IsBefore w s
      after_w s m = elim (stack_cases s rest w goes_left goes_right m) [
        | already k ↦ before_of_all w s (rest_before s k)
        | with_left e h ↦ subst (IsBefore w) (sym e) (before_with_letter w left)
        | with_right e h ↦ subst (IsBefore w) (sym e) (before_with_letter w right)
      ]

      before : (u s : Word) → IsIn u (words ++ w ∷ []) → IsIn s now → IsBefore u s
      before u s m k = elim (in_more_cases words w u m) [
        | inl m ↦ word_trans (v.before u w m (in_last rest w)) (after_w s k)
        | inr e ↦ subst (λ x. IsBefore x s) (sym e) (after_w s k)
      ]

      left_apart : (s : Word) → IsIn s rest → AreBefore (with_letter w left) s
      left_apart s m = all_before_with_letter w s left (rest_before s m)

      right_apart : (s : Word) → IsIn s (rest ++ optional goes_left (with_letter w left)) → AreBefore (with_letter w right) s
      right_apart s m = elim (stack_cases s rest w goes_left false (in_append_left s (rest ++ optional goes_left (with_letter w left)) [] m)) [
        | already k ↦ all_before_with_letter w s right (rest_before s k)
        | with_left e h ↦ subst (AreBefore (with_letter w right)) (sym e) (right_all_before_left w)
        | with_right e h ↦ absurd cc
      ]

      pub visited_more : AreVisited d t bound n (words ++ w ∷ []) now
      visited_more = record {
        in_order = in_order-more IsBefore words w v.in_order (λ u m. v.before u w m (in_last rest w));
        live = λ u m. elim (in_more_cases words w u m) [ inl k ↦ v.live u k | inr e ↦ subst Live (sym e) (v.waiting w (in_last rest w)) ];
        below = λ u m. elim (in_more_cases words w u m) [
          | inl k ↦ v.below u k
          | inr e ↦ let one = v.last w (in_last rest w) in let same = ap (λ (x : Word). x.half_edge) e in omega arith
        ];
        covered = covered;
        waiting = waiting;
        last = last;
        before = before;
        apart =
            in_order-optional (λ lower upper. AreBefore upper lower) (rest ++ optional goes_left (with_letter w left)) goes_right (with_letter w right)
            (in_order-optional (λ lower upper. AreBefore upper lower) rest goes_left (with_letter w left) (in_order-prefix (λ lower upper. AreBefore upper lower) rest (w ∷ []) v.apart) left_apart)
            right_apart;
      }

    -- ---- the live words before the next one, and all live words

    -- what goes on from a word that waits isn't before the last one that does
    not_before : (rest : List Word) (w : Word) → AreVisited d t bound n words (rest ++ w ∷ []) → (u : Word) → ExtendsOne u (rest ++ w ∷ []) → ¬ IsBefore u w
    not_before rest w v u x b = elim (in_more_cases rest w x.from x.waits) [
      | inl m ↦ word_irrefl u (word_trans b (extended_after w x.from u (before_last (λ lower upper. AreBefore upper lower) rest w v.apart x.from m) x.extends))
      | inr e ↦ elim (at_or_after w u (subst (Extends u) e x.extends)) [
        | inl same ↦ word_irrefl w (subst (λ y. IsBefore y w) (sym same) b)
        | inr c ↦ word_irrefl u (word_trans b c)
      ]
    ]

    -- the live words before the last word that waits are those that are visited
    pub visited_before : (rest : List Word) (w : Word) → AreVisited d t bound n words (rest ++ w ∷ []) → (u : Word) → IsIn u words ↔ (Live u × IsBefore u w)
    visited_before rest w v u = (
      (λ m. (v.live u m, v.before u w m (in_last rest w))),
      (λ h. elim (v.covered u h.0 (below_of_before u w n (v.last w (in_last rest w)) h.1)) [ inl m ↦ m | inr x ↦ absurd (not_before rest w v u x h.1) ]),
    )

    -- where no word waits the visited ones are all live words of the half-edges below n
    pub visited_below : AreVisited d t bound n words [] → (u : Word) → IsIn u words ↔ (Live u × (u.half_edge < n))
    visited_below v u = ((λ m. (v.live u m, v.below u m)), (λ h. elim (v.covered u h.0 h.1) [ inl m ↦ m | inr x ↦ absurd x.waits ]))
