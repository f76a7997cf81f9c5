-- What a path finds at a corner says where the corner is, and whether the path comes so far.
use Rattle.std.proofs.Common.{◌≡◌, ◌≢◌, ◌⊎◌, ℕ, ◌+◌, ◌*◌, Bool, true, false, if◌then◌else◌, [], ◌∷◌, Result, Ok, refl, sym, ap, ◌∙◌, subst, inl, inr}
use Rattle.std.specs.Ordering.{is_lt}
use Rattle.std.specs.declared.cmp.Ordering.{Ordering}
use Rattle.std.specs.declared.cmp.Ordering.TheVariants.{Less, Equal, Greater}
use Rattle.fs_ring.specs.Vector.{sub_vector}
use Rattle.fs_ring.specs.Vector as plane
use Rattle.fs_ring.proofs.Directions as directions
use Rattle.fs_ring.proofs.Solver.{expressions as E, ◌≐◌}
use Rattle.fs_quadratic.specs.Radicand.{IsRadicand}
use Rattle.fs_quadratic.specs.Ring.{quadratic, zero, neg, sign, compare, IsPositive, IsLess}
use Rattle.fs_quadratic.specs.Checked.{◌>>=◌}
use Rattle.fs_quadratic.specs.declared.steps.Place.{Place}
use Rattle.fs_quadratic.proofs.SquareRoot.{radicand_no_square}
use Rattle.fs_quadratic.proofs.Signs.{sign-negative, negative_of_sign, positive_of_sign, zero_of_sign, less_iff_less}
use Rattle.fs_quadratic.proofs.Laws.{field_order}
use Rattle.fs_plane.specs.Vector.{PlaneVector, vector_add, cross, dot, is_same_vector}
use Rattle.fs_plane.specs.Formulas.{cross_after, dot_after, norm_after, vector_sum_after, vector_difference_after}
use Rattle.fs_plane.proofs.FormulaLaws.{cross_value, dot_value, norm_value, sum_value, difference_value}
use Rattle.fs_plane.proofs.ComputedSigns.{after_value}
use Rattle.fs_plane.proofs.EqualVectors.{Decides-is_same_vector}
use Rattle.fs_develop.specs.declared.looking.Finding.{Finding}
use Rattle.fs_develop.specs.declared.looking.Finding.TheVariants.{RightOfPath, Last}
use Rattle.fs_develop.specs.declared.looking.Departure.TheVariants.{EndsAtCorner, MeetsCorner, EndsBefore, Crosses}
use Rattle.fs_develop.specs.Looking.{look, look_at_corner, look_at_side, by_side}
use Rattle.fs_develop.proofs.Values.{less_of, not_less_of}

module _ {d : ℕ} (radicand : IsRadicand d) (t : ℕ) (v from side : PlaneVector) where
  -- the corner to which the side leads
  abbrev pub corner : PlaneVector
  corner = vector_add from side

  -- v is beyond the side
  abbrev pub IsBeyond : Type 0
  IsBeyond = IsPositive d (cross d (sub_vector (quadratic d) v from) side)

  -- what a finding says of the corner and of v
  abbrev pub Says : Finding → Type 0
  Says (RightOfPath q) = (q ≡ corner) × IsPositive d (cross d corner v)
  Says (Last EndsAtCorner) = (cross d v corner ≡ zero) × (corner ≡ v)
  Says (Last MeetsCorner) = (cross d v corner ≡ zero) × IsLess d (dot d v corner) (dot d v v)
  Says (Last EndsBefore) = ((cross d v corner ≡ zero) × (corner ≢ v) × ¬ IsLess d (dot d v corner) (dot d v v)) ⊎ (IsPositive d (cross d v corner) × ¬ IsBeyond)
  Says (Last Crosses) = IsPositive d (cross d v corner) × IsBeyond

  -- the cross product the other way round is the negation
  turned : (a b : PlaneVector) → IsPositive d (neg (cross d a b)) → IsPositive d (cross d b a)
  turned a b p = directions.positive_by_plane (field_order radicand) [] (a ∷ b ∷ []) (λ a b. plane.cross E b a ≐ E.neg (plane.cross E a b)) refl p

  turned_back : (a b : PlaneVector) → IsPositive d (cross d b a) → IsPositive d (neg (cross d a b))
  turned_back a b p = directions.positive_by_plane (field_order radicand) [] (a ∷ b ∷ []) (λ a b. E.neg (plane.cross E a b) ≐ plane.cross E b a) refl p

  same_finding : {a b : Finding} → ◌≡◌ {A = Result Finding Place} (Ok a) (Ok b) → a ≡ b
  same_finding e = cc

  -- ---- at a corner on the line

  on_line_by_length : (o : Bool) → is_lt (compare d (dot d v corner) (dot d v v)) ≡ o → cross d v corner ≡ zero → corner ≢ v → Says (Last (if o then MeetsCorner else EndsBefore))
  on_line_by_length true e z n = (z, (less_iff_less (radicand_no_square radicand) _ _ _ refl).0 (less_of _ e))
  on_line_by_length false e z n = inl (z, n, λ l. not_less_of _ e ((less_iff_less (radicand_no_square radicand) _ _ _ refl).1 l))

  on_line_by_sameness : (same : Bool) → is_same_vector corner v ≡ same → cross d v corner ≡ zero → (f : Finding)
      → (if same then Ok (Last EndsAtCorner) else
      (dot_after 6000 d v corner >>= (λ reach. norm_after 6003 d v >>= (λ length. Ok (Last (if is_lt (compare d reach length) then MeetsCorner else EndsBefore)))))) ≡ Ok f → Says f
  on_line_by_sameness true s z f e = subst Says (same_finding e) (z, (Decides-is_same_vector corner v).0 s)
  on_line_by_sameness false s z f e =
      let first = after_value (dot_after 6000 d v corner) (λ reach. norm_after 6003 d v >>= (λ length. Ok (Last (if is_lt (compare d reach length) then MeetsCorner else EndsBefore)))) f e in
      let second = after_value (norm_after 6003 d v) (λ length. Ok (Last (if is_lt (compare d first.0 length) then MeetsCorner else EndsBefore))) f first.2 in
      let reach = dot_value 6000 d v corner first.0 first.1 in
      let length = norm_value 6003 d v second.0 second.1 in
      subst Says
      (ap (λ x. Last (if is_lt (compare d x (dot d v v)) then MeetsCorner else EndsBefore)) (sym reach)
      ∙ ap (λ x. Last (if is_lt (compare d first.0 x) then MeetsCorner else EndsBefore)) (sym length) ∙ same_finding second.2)
      (on_line_by_length (is_lt (compare d (dot d v corner) (dot d v v))) refl z (λ same. differ s same))
    where
      not_true : false ≡ true → ⊥
      not_true h = cc

      differ : is_same_vector corner v ≡ false → corner ≡ v → ⊥
      differ s same = not_true (sym s ∙ (Decides-is_same_vector corner v).1 same)

  on_line : cross d v corner ≡ zero → (f : Finding) → look_at_corner d v corner ≡ Ok f → Says f
  unfolding look_at_corner
  on_line z f e = on_line_by_sameness (is_same_vector corner v) refl z f e

  -- ---- at a corner to the left of the line

  left_by_turn : (o : Bool) → is_lt (sign d (cross d side (sub_vector (quadratic d) v from))) ≡ o → IsPositive d (cross d v corner) → Says (Last (if o then Crosses else EndsBefore))
  left_by_turn true e l = (l, turned side (sub_vector (quadratic d) v from) (negative_of_sign (radicand_no_square radicand) _ (less_of _ e)))
  left_by_turn false e l = inr (l, λ b. not_less_of _ e (sign-negative d _ (turned_back side (sub_vector (quadratic d) v from) b)))

  left : IsPositive d (cross d v corner) → (f : Finding) → look_at_side d v from side ≡ Ok f → Says f
  unfolding look_at_side
  left l f e =
      let first = after_value (vector_difference_after 6010 v from) (λ rest. cross_after 6012 d side rest >>= (λ turn. Ok (Last (if is_lt (sign d turn) then Crosses else EndsBefore)))) f e in
      let second = after_value (cross_after 6012 d side first.0) (λ turn. Ok (Last (if is_lt (sign d turn) then Crosses else EndsBefore))) f first.2 in
      let rest = difference_value d 6010 v from first.0 first.1 in
      let turn = cross_value 6012 d side first.0 second.0 second.1 in
      subst Says
      (ap (λ x. Last (if is_lt (sign d (cross d side x)) then Crosses else EndsBefore)) (sym rest)
      ∙ ap (λ x. Last (if is_lt (sign d x) then Crosses else EndsBefore)) (sym turn) ∙ same_finding second.2)
      (left_by_turn (is_lt (sign d (cross d side (sub_vector (quadratic d) v from)))) refl l)

  -- ---- at any corner

  by_sign : (o : Ordering) → sign d (cross d v corner) ≡ o → (f : Finding) → by_side o corner (look_at_corner d v corner) (look_at_side d v from side) ≡ Ok f → Says f
  by_sign Less s f e = subst Says (same_finding e) (refl, turned v corner (negative_of_sign (radicand_no_square radicand) _ s))
  by_sign Equal s f e = on_line (zero_of_sign (radicand_no_square radicand) _ s) f e
  by_sign Greater s f e = left (positive_of_sign (radicand_no_square radicand) _ s) f e

  -- what is found says this
  pub finding_says : (f : Finding) → look t d v from side ≡ Ok f → Says f
  unfolding look
  finding_says f e =
      let first = after_value (vector_sum_after (5 * t) from side)
      (λ q. cross_after (5 * t + 2) d v q >>= (λ turn. by_side (sign d turn) q (look_at_corner d v q) (look_at_side d v from side))) f e in
      let second = after_value (cross_after (5 * t + 2) d v first.0) (λ turn. by_side (sign d turn) first.0 (look_at_corner d v first.0) (look_at_side d v from side)) f first.2 in
      let at = sum_value (5 * t) from side first.0 first.1 in
      let turn = cross_value (5 * t + 2) d v first.0 second.0 second.1 in
      by_sign (sign d (cross d v corner)) refl f
      (subst (λ q. by_side (sign d (cross d v q)) q (look_at_corner d v q) (look_at_side d v from side) ≡ Ok f) at
      (subst (λ x. by_side (sign d x) first.0 (look_at_corner d v first.0) (look_at_side d v from side) ≡ Ok f) turn second.2))
