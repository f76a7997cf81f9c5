-- Numbers that rise and fall along four runs: seen from below they fall and rise along four runs, so the greatest is where the second run ends.
use Rattle.std.proofs.Common.{◌≡◌, ℕ, ◌+◌, ◌-◌, ◌≤◌, [], ◌∷◌, refl, sym, ap, ◌∙◌, subst, arith}
use Rattle.fs_ring.specs.Operations.{Operations}
use Rattle.fs_ring.specs.OrderedRing.{IsOrderedRing, IsAtMost}
use Rattle.fs_ring.proofs.Signs as signs
use Rattle.fs_ring.proofs.RingLaws as ring_laws
use Rattle.fs_ring.proofs.Solver.{expressions as E, ◌⊖◌, ◌≐◌}
use Rattle.fs_convex.proofs.Runs.{IsFourRuns}
use Rattle.fs_convex.proofs.Measures.{HasSteps, first_is_least}

module _ {A : Type 0} {R : Operations A} {IsPositive : A → Type 0} (L : IsOrderedRing R IsPositive) where
  open R use {neg}

  -- the negations of four runs that come again are four runs, from the third run on
  opposite_runs : {w : ℕ → A} {n r a h p : ℕ} → IsFourRuns R IsPositive w n r a h p → ((j : ℕ) → w (n + j) ≡ w j)
      → IsFourRuns R IsPositive (λ j. neg (w j)) n (r + h) (p - h) (n - h) (n - h + a)
  opposite_runs {w} {n} {r} {a} {h} {p} runs again =
      let some_positive = runs.some_positive in
      let in_order = runs.in_order in
      let some_negative = runs.some_negative in
      record {
        some_positive = omega arith;
        in_order = omega arith;
        some_negative = omega arith;
        first_zeros = λ j l. ap neg (ap w (sum j) ∙ runs.second_zeros (h + j) (omega arith) (omega arith)) ∙ ring_laws.neg_zero L.ring;
        positive = λ j l m. subst (λ x. IsPositive (neg x)) (ap w (sym (sum j))) (runs.negative (h + j) (omega arith) (omega arith));
        second_zeros = λ j l m.
            ap neg (again_at j (omega arith) ∙ runs.first_zeros (h + j - n) (omega arith)) ∙ ring_laws.neg_zero L.ring;
        negative = λ j l m.
            signs.neg-neg_positive L (subst IsPositive (sym (again_at j (omega arith))) (runs.positive (h + j - n) (omega arith) (omega arith)));
      }
    where
      sum : (j : ℕ) → r + h + j ≡ r + (h + j)
      sum j = omega arith

      again_at : (j : ℕ) → n ≤ h + j → w (r + h + j) ≡ w (r + (h + j - n))
      again_at j l = ap w (let e : r + h + j ≡ n + (r + (h + j - n)) = omega arith in e) ∙ again (r + (h + j - n))

  -- the number where the second run ends is the greatest
  pub second_end_is_greatest : {w x : ℕ → A} {n r a h p : ℕ} → HasSteps R x w → IsFourRuns R IsPositive w n r a h p → ((j : ℕ) → w (n + j) ≡ w j) → ((j : ℕ) → x (n + j) ≡ x j)
      → (j : ℕ) → j ≤ n → IsAtMost R IsPositive (x (r + h + j)) (x (r + h))
  second_end_is_greatest {w} {x} {n} {r} {a} {h} {p} steps runs again back j l k =
      first_is_least L {w = λ j. neg (w j)} {x = λ j. neg (x j)} (λ j. ap neg (steps j) ∙ ring_laws.neg-add L.ring (x j) (w j)) (opposite_runs runs again)
      (ap neg (ap x (let e : r + h + n ≡ n + (r + h) = omega arith in e) ∙ back (r + h))) j l
      (signs.positive_by L (x (r + h) ∷ x (r + h + j) ∷ []) (λ x y. E.neg x ⊖ E.neg y ≐ y ⊖ x) refl k)
