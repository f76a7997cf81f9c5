-- The sector test gives whether the vector is in the sector.
use Rattle.std.proofs.Common.{◌≡◌, ℕ, ◌+◌, Bool, true, false, Result, Ok, Err, IfOk, IsTrue, ◌↔◌, refl, sym, ◌∙◌, subst}
use Rattle.std.specs.declared.cmp.Ordering.{Ordering}
use Rattle.std.specs.declared.cmp.Ordering.TheVariants.{Less, Equal, Greater}
use Rattle.fs_ring.specs.Direction.{at_start, inside}
use Rattle.fs_quadratic.specs.Radicand.{IsRadicand}
use Rattle.fs_quadratic.specs.Ring.{Quadratic, sign}
use Rattle.fs_quadratic.proofs.SquareRoot.{radicand_no_square}
use Rattle.fs_quadratic.proofs.Signs.{sign-positive, sign-zero, positive_of_sign, zero_of_sign}
use Rattle.fs_quadratic.specs.declared.steps.Place.{Place}
use Rattle.fs_plane.specs.Formulas.{cross_after, dot_after, is_above_zero, by_turn, in_sector_after}
use Rattle.fs_plane.specs.Vector.{PlaneVector, vector_neg, cross, dot, IsInSector}
use Rattle.fs_plane.proofs.FormulaLaws.{cross_value, dot_value}
use Rattle.fs_plane.proofs.ComputedSigns.{after_value, same_answer, above_zero}

module _ {d : ℕ} (radicand : IsRadicand d) where
  module _ (before : ℕ) (outgoing incoming v : PlaneVector) where
    abbrev along : Result Bool Place
    along = is_above_zero d (dot_after (before + 3) d outgoing v)

    abbrev ends : Result Bool Place
    ends = is_above_zero d (cross_after (before + 6) d v (vector_neg incoming))

    abbrev turn : Quadratic
    turn = cross d outgoing v

    by_sign : (o : Ordering) → sign d turn ≡ o → (held : Bool) → by_turn o along ends ≡ Ok held → IsTrue held ↔ IsInSector d outgoing incoming v
    by_sign Less s held e = (
      (λ h. absurd (not_true (sym (same_answer false held e) ∙ h))),
      (λ i. elim i [
        | at_start a ↦ absurd (not_equal (sym s ∙ sign-zero d turn a.parallel))
        | inside left right ↦ absurd (not_greater (sym s ∙ sign-positive d turn left))
      ]),
    )
      where
        not_true : false ≡ true → ⊥
        not_true f = cc

        not_equal : Less ≡ Equal → ⊥
        not_equal f = cc

        not_greater : Less ≡ Greater → ⊥
        not_greater f = cc
    by_sign Equal s held e =
        let both = above_zero radicand (dot_after (before + 3) d outgoing v) (dot d outgoing v) (λ x is. dot_value (before + 3) d outgoing v x is) held e in (
          (λ h. at_start (record { parallel = zero_of_sign (radicand_no_square radicand) turn s; same_way = both.0 h })),
          (λ i. elim i [
            | at_start a ↦ both.1 a.same_way
            | inside left right ↦ absurd (not_greater (sym s ∙ sign-positive d turn left))
          ]),
        )
      where
        not_greater : Equal ≡ Greater → ⊥
        not_greater f = cc
    by_sign Greater s held e =
        let both = above_zero radicand (cross_after (before + 6) d v (vector_neg incoming)) (cross d v (vector_neg incoming)) (λ x is. cross_value (before + 6) d v (vector_neg incoming) x is) held e in (
          (λ h. inside (positive_of_sign (radicand_no_square radicand) turn s) (both.0 h)),
          (λ i. elim i [
            | at_start a ↦ absurd (not_equal (sym s ∙ sign-zero d turn a.parallel))
            | inside left right ↦ both.1 right
          ]),
        )
      where
        not_equal : Greater ≡ Equal → ⊥
        not_equal f = cc

    in_sector_meaning : (held : Bool) → in_sector_after before d outgoing incoming v ≡ Ok held → IsTrue held ↔ IsInSector d outgoing incoming v
    unfolding in_sector_after
    in_sector_meaning held e =
        let found = after_value (cross_after before d outgoing v) (λ x. by_turn (sign d x) along ends) held e in
        let is = cross_value before d outgoing v found.0 found.1 in
        by_sign (sign d turn) refl held (subst (λ (x : Quadratic). by_turn (sign d x) along ends ≡ Ok held) is found.2)

    pub sector_of_formula : (answer : Result Bool Place) → answer ≡ in_sector_after before d outgoing incoming v → IfOk answer (λ held. IsTrue held ↔ IsInSector d outgoing incoming v)
    sector_of_formula (Ok held) e = in_sector_meaning held (sym e)
    sector_of_formula (Err stop) e = tt
