-- How a path begins at a corner says where its vector is in the corner's sector.
use Rattle.std.proofs.Common.{◌≡◌, ◌≢◌, ℕ, Bool, true, false, if◌then◌else◌, Result, Ok, IsTrue, ◌↔◌, refl, sym, ap, ◌∙◌, subst}
use Rattle.std.specs.Ordering.{is_lt}
use Rattle.std.specs.declared.cmp.Ordering.{Ordering}
use Rattle.std.specs.declared.cmp.Ordering.TheVariants.{Less, Equal, Greater}
use Rattle.fs_ring.specs.Direction.{IsAlong, at_start, inside}
use Rattle.fs_quadratic.specs.Radicand.{IsRadicand}
use Rattle.fs_quadratic.specs.Ring.{Quadratic, quadratic, sign, compare, IsPositive, IsLess}
use Rattle.fs_quadratic.specs.Checked.{◌>>=◌}
use Rattle.fs_quadratic.specs.declared.steps.Place.{Place}
use Rattle.fs_quadratic.proofs.SquareRoot.{radicand_no_square}
use Rattle.fs_quadratic.proofs.Signs.{sign-positive, sign-zero, positive_of_sign, zero_of_sign, less_iff_less}
use Rattle.fs_plane.specs.Vector.{PlaneVector, vector_neg, cross, dot, norm, is_same_vector, IsInSector}
use Rattle.fs_plane.specs.Formulas.{cross_after, dot_after, norm_after, is_above_zero}
use Rattle.fs_plane.proofs.FormulaLaws.{cross_value, dot_value, norm_value}
use Rattle.fs_plane.proofs.ComputedSigns.{after_value, above_zero}
use Rattle.fs_plane.proofs.EqualVectors.{Decides-is_same_vector}
use Rattle.fs_develop.specs.declared.entering.Entry.{Entry}
use Rattle.fs_develop.specs.declared.entering.Entry.TheVariants.{Outside, WholeSide, WithinSide, BeyondSide, Inside}
use Rattle.fs_develop.specs.Entering.{enter, enter_along, by_turn}
use Rattle.fs_develop.proofs.Values.{less_of, not_less_of}

module _ {d : ℕ} (radicand : IsRadicand d) (outgoing incoming v : PlaneVector) where
  abbrev IsAlongSide : Type 0
  IsAlongSide = IsAlong (quadratic d) (IsPositive d) outgoing v

  -- what an entry says of v
  abbrev pub SaysOf : Entry → Type 0
  SaysOf Outside = ¬ IsInSector d outgoing incoming v
  SaysOf WholeSide = IsAlongSide × (v ≡ outgoing)
  SaysOf WithinSide = IsAlongSide × IsLess d (norm d v) (norm d outgoing)
  SaysOf BeyondSide = IsAlongSide × (v ≢ outgoing) × ¬ IsLess d (norm d v) (norm d outgoing)
  SaysOf Inside = IsPositive d (cross d outgoing v) × IsPositive d (cross d v (vector_neg incoming))

  same_entry : {a b : Entry} → ◌≡◌ {A = Result Entry Place} (Ok a) (Ok b) → a ≡ b
  same_entry e = cc

  not_true : false ≡ true → ⊥
  not_true h = cc

  -- ---- along the outgoing side

  by_length : (o : Bool) → is_lt (compare d (norm d v) (norm d outgoing)) ≡ o → IsAlongSide → v ≢ outgoing → SaysOf (if o then WithinSide else BeyondSide)
  by_length true e a n = (a, (less_iff_less (radicand_no_square radicand) _ _ _ refl).0 (less_of _ e))
  by_length false e a n = (a, n, λ l. not_less_of _ e ((less_iff_less (radicand_no_square radicand) _ _ _ refl).1 l))

  by_sameness : (same : Bool) → is_same_vector v outgoing ≡ same → IsAlongSide → (f : Entry)
      → (if same then Ok WholeSide else (norm_after 9 d v >>= (λ path. norm_after 12 d outgoing >>= (λ side. Ok (if is_lt (compare d path side) then WithinSide else BeyondSide))))) ≡ Ok f → SaysOf f
  by_sameness true s a f e = subst SaysOf (same_entry e) (a, (Decides-is_same_vector v outgoing).0 s)
  by_sameness false s a f e =
      let first = after_value (norm_after 9 d v) (λ path. norm_after 12 d outgoing >>= (λ side. Ok (if is_lt (compare d path side) then WithinSide else BeyondSide))) f e in
      let second = after_value (norm_after 12 d outgoing) (λ side. Ok (if is_lt (compare d first.0 side) then WithinSide else BeyondSide)) f first.2 in
      let path = norm_value 9 d v first.0 first.1 in
      let side = norm_value 12 d outgoing second.0 second.1 in
      subst SaysOf
      (ap (λ x. if is_lt (compare d x (norm d outgoing)) then WithinSide else BeyondSide) (sym path)
      ∙ ap (λ x. if is_lt (compare d first.0 x) then WithinSide else BeyondSide) (sym side) ∙ same_entry second.2)
      (by_length (is_lt (compare d (norm d v) (norm d outgoing))) refl a (λ same. not_true (sym s ∙ (Decides-is_same_vector v outgoing).1 same)))

  along_says : IsAlongSide → (f : Entry) → enter_along d outgoing v ≡ Ok f → SaysOf f
  unfolding enter_along
  along_says a f e = by_sameness (is_same_vector v outgoing) refl a f e

  -- ---- by the sign of the cross product

  along_side : (ahead : Bool) → IsTrue ahead ↔ IsPositive d (dot d outgoing v) → sign d (cross d outgoing v) ≡ Equal → (f : Entry)
      → (if ahead then enter_along d outgoing v else Ok Outside) ≡ Ok f → SaysOf f
  along_side true both s f e = along_says (record { parallel = zero_of_sign (radicand_no_square radicand) _ s; same_way = both.0 refl }) f e
  along_side false both s f e = subst SaysOf (same_entry e) (λ i. elim i [
    | at_start a ↦ not_true (both.1 a.same_way)
    | inside left right ↦ not_greater (sym s ∙ sign-positive d _ left)
  ])
    where
      not_greater : Equal ≡ Greater → ⊥
      not_greater g = cc

  left_of_side : (held : Bool) → IsTrue held ↔ IsPositive d (cross d v (vector_neg incoming)) → sign d (cross d outgoing v) ≡ Greater → (f : Entry)
      → ◌≡◌ {A = Result Entry Place} (Ok (if held then Inside else Outside)) (Ok f) → SaysOf f
  left_of_side true both s f e = subst SaysOf (same_entry e) (positive_of_sign (radicand_no_square radicand) _ s, both.0 refl)
  left_of_side false both s f e = subst SaysOf (same_entry e) (λ i. elim i [
    | at_start a ↦ not_equal (sym s ∙ sign-zero d _ a.parallel)
    | inside left right ↦ not_true (both.1 right)
  ])
    where
      not_equal : Greater ≡ Equal → ⊥
      not_equal g = cc

  abbrev along : Result Entry Place
  along = is_above_zero d (dot_after 3 d outgoing v) >>= (λ ahead. if ahead then enter_along d outgoing v else Ok Outside)

  abbrev to_left : Result Entry Place
  to_left = is_above_zero d (cross_after 6 d v (vector_neg incoming)) >>= (λ held. Ok (if held then Inside else Outside))

  by_sign : (o : Ordering) → sign d (cross d outgoing v) ≡ o → (f : Entry) → by_turn o along to_left ≡ Ok f → SaysOf f
  by_sign Less s f e = subst SaysOf (same_entry e) (λ i. elim i [
    | at_start a ↦ not_equal (sym s ∙ sign-zero d _ a.parallel)
    | inside left right ↦ not_greater (sym s ∙ sign-positive d _ left)
  ])
    where
      not_equal : Less ≡ Equal → ⊥
      not_equal g = cc

      not_greater : Less ≡ Greater → ⊥
      not_greater g = cc
  by_sign Equal s f e =
      let found = after_value (is_above_zero d (dot_after 3 d outgoing v)) (λ ahead. if ahead then enter_along d outgoing v else Ok Outside) f e in
      along_side found.0 (above_zero radicand (dot_after 3 d outgoing v) (dot d outgoing v) (λ x is. dot_value 3 d outgoing v x is) found.0 found.1) s f found.2
  by_sign Greater s f e =
      let found = after_value (is_above_zero d (cross_after 6 d v (vector_neg incoming))) (λ held. Ok (if held then Inside else Outside)) f e in
      left_of_side found.0 (above_zero radicand (cross_after 6 d v (vector_neg incoming)) (cross d v (vector_neg incoming)) (λ x is. cross_value 6 d v (vector_neg incoming) x is) found.0 found.1) s f found.2

  -- how the path begins says this
  pub entry_says : (f : Entry) → enter d outgoing incoming v ≡ Ok f → SaysOf f
  unfolding enter
  entry_says f e =
      let found = after_value (cross_after 0 d outgoing v) (λ turn. by_turn (sign d turn) along to_left) f e in
      let turn = cross_value 0 d outgoing v found.0 found.1 in
      by_sign (sign d (cross d outgoing v)) refl f (subst (λ (x : Quadratic). by_turn (sign d x) along to_left ≡ Ok f) turn found.2)
