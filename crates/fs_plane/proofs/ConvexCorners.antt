-- The convexity test gives whether a polygon may have the corner.
use Rattle.std.proofs.Common.{◌≡◌, ℕ, ◌+◌, Bool, true, false, Result, Ok, Err, IfOk, IsTrue, ◌↔◌, refl, sym, ◌∙◌, subst}
use Rattle.std.specs.declared.cmp.Ordering.{Ordering}
use Rattle.std.specs.declared.cmp.Ordering.TheVariants.{Less, Equal, Greater}
use Rattle.fs_ring.specs.Direction.{at_start, inside}
use Rattle.fs_quadratic.specs.Radicand.{IsRadicand}
use Rattle.fs_quadratic.specs.Ring.{Quadratic, IsPositive, sign}
use Rattle.fs_quadratic.proofs.SquareRoot.{radicand_no_square}
use Rattle.fs_quadratic.proofs.Signs.{sign-positive, sign-zero, positive_of_sign, zero_of_sign}
use Rattle.fs_quadratic.specs.declared.steps.Place.{Place}
use Rattle.fs_plane.specs.Formulas.{cross_after, dot_after, is_above_zero, by_bend, is_convex_after}
use Rattle.fs_plane.specs.Vector.{PlaneVector, cross, dot, IsAllowedCorner}
use Rattle.fs_plane.proofs.FormulaLaws.{cross_value, dot_value}
use Rattle.fs_plane.proofs.ComputedSigns.{after_value, same_answer, above_zero}

module _ {d : ℕ} (radicand : IsRadicand d) (before : ℕ) (a b : PlaneVector) where
  abbrev along : Result Bool Place
  along = is_above_zero d (dot_after (before + 3) d a b)

  abbrev turn : Quadratic
  turn = cross d a b

  -- a corner that isn't strictly convex, by the sign of its cross product, and one that isn't straight
  not_left : (o : Ordering) → sign d turn ≡ o → ¬ (o ≡ Greater) → ¬ IsPositive d turn
  not_left o s other p = other (sym s ∙ sign-positive d turn p)

  by_sign : (straight : Bool) (o : Ordering) → sign d turn ≡ o → (held : Bool) → by_bend straight o along ≡ Ok held → IsTrue held ↔ IsAllowedCorner straight d a b
  by_sign true Greater s held e = ((λ h. inside (positive_of_sign (radicand_no_square radicand) turn s)), (λ i. same_answer true held e))
  by_sign false Greater s held e = ((λ h. positive_of_sign (radicand_no_square radicand) turn s), (λ i. same_answer true held e))
  by_sign true Less s held e = (
    (λ h. absurd (let f = sym (same_answer false held e) ∙ h in cc)),
    (λ i. elim i [
      | at_start h ↦ absurd (let f = sym s ∙ sign-zero d turn h.parallel in cc)
      | inside p ↦ absurd (not_left Less s (λ f. cc) p)
    ]),
  )
  by_sign false Less s held e = ((λ h. absurd (let f = sym (same_answer false held e) ∙ h in cc)), (λ p. absurd (not_left Less s (λ f. cc) p)))
  by_sign false Equal s held e = ((λ h. absurd (let f = sym (same_answer false held e) ∙ h in cc)), (λ p. absurd (not_left Equal s (λ f. cc) p)))
  by_sign true Equal s held e =
      let both = above_zero radicand (dot_after (before + 3) d a b) (dot d a b) (λ x is. dot_value (before + 3) d a b x is) held e in (
        (λ h. at_start (record { parallel = zero_of_sign (radicand_no_square radicand) turn s; same_way = both.0 h })),
        (λ i. elim i [
          | at_start h ↦ both.1 h.same_way
          | inside p ↦ absurd (not_left Equal s (λ f. cc) p)
        ]),
      )

  meaning : (straight held : Bool) → is_convex_after before straight d a b ≡ Ok held → IsTrue held ↔ IsAllowedCorner straight d a b
  unfolding is_convex_after
  meaning straight held e =
      let found = after_value (cross_after before d a b) (λ x. by_bend straight (sign d x) along) held e in
      let is = cross_value before d a b found.0 found.1 in
      by_sign straight (sign d turn) refl held (subst (λ (x : Quadratic). by_bend straight (sign d x) along ≡ Ok held) is found.2)

  -- a value of the formula says whether the corner is allowed
  pub convex_of_formula : (straight : Bool) (result : Result Bool Place) → result ≡ is_convex_after before straight d a b → IfOk result (λ held. IsTrue held ↔ IsAllowedCorner straight d a b)
  convex_of_formula straight (Ok held) e = meaning straight held (sym e)
  convex_of_formula straight (Err stop) e = tt
