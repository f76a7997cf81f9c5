-- The rectangles of a staircase, by the draws of their widths and heights.
use Rattle.std.proofs.Common.{◌≡◌, ℕ, suc, ◌+◌, ◌*◌, ◌/◌, ◌%◌, ◌≢◌, map, ◌++◌, ◌∷◌, [], Result, Ok, Err, IfOk, sym, ap, ◌∙◌, subst, arith}
use Rattle.std.proofs.lemmas.List.FromFn.{map-range_with_len_more}
use Rattle.std.specs.List.{range_with_len}
use Rattle.fs_workload.specs.Draws.{next_state, state_after, number_of}
use Rattle.fs_workload.specs.Staircase.{rectangle, width, rectangle_at}

-- what holds of the value that a result has holds of its value
pub value_holds : {A E : Type 0} (r : Result A E) (v : A) (Q : A → Type 0) → IfOk r (λ x. x ≡ v) → Q v → IfOk r Q
value_holds (Ok x) v Q e q = subst Q (sym e) q
value_holds (Err x) v Q e q = tt

module _ (seed i state next : ℕ) (first : state ≡ state_after seed (i + 1)) (second : next ≡ state_after seed (i + 2)) where
  by_numbers : (w h : ℕ) → w ≡ state_after seed (suc (2 * ((i + 1) / 2))) → h ≡ state_after seed (suc (2 * (i / 2) + 1)) → rectangle (number_of w) (number_of h) ≡ rectangle_at seed i
  by_numbers w h e f = ap (λ s. rectangle (number_of s) (number_of h)) e ∙ ap (λ s. rectangle (width seed i) (number_of s)) f

  -- where i is even, its width comes before its height
  pub rectangle_even : i % 2 ≡ 0 → rectangle (number_of state) (number_of next) ≡ rectangle_at seed i
  rectangle_even even =
      let w : i + 1 ≡ suc (2 * ((i + 1) / 2)) = omega (arith, even) in
      let h : i + 2 ≡ suc (2 * (i / 2) + 1) = omega (arith, even) in
      by_numbers state next (first ∙ ap (state_after seed) w) (second ∙ ap (state_after seed) h)

  -- where i is odd, its height comes before its width
  pub rectangle_odd : i % 2 ≢ 0 → rectangle (number_of next) (number_of state) ≡ rectangle_at seed i
  rectangle_odd odd =
      let w : i + 2 ≡ suc (2 * ((i + 1) / 2)) = omega (arith, odd) in
      let h : i + 1 ≡ suc (2 * (i / 2) + 1) = omega (arith, odd) in
      by_numbers next state (second ∙ ap (state_after seed) w) (first ∙ ap (state_after seed) h)

-- the rectangles with one more
pub rectangles_next : (seed i : ℕ) → map (rectangle_at seed) (range_with_len 0 i) ++ rectangle_at seed i ∷ [] ≡ map (rectangle_at seed) (range_with_len 0 (i + 1))
rectangles_next seed i = sym (map-range_with_len_more (rectangle_at seed) 0 i i (omega arith))

-- the state after one more draw
pub state_next : (seed i state : ℕ) → state ≡ state_after seed (i + 1) → next_state state ≡ state_after seed (i + 2)
state_next seed i state is = ap next_state (is ∙ ap (state_after seed) one) ∙ ap (state_after seed) two
  where
    one : i + 1 ≡ suc i
    one = omega arith

    two : suc (suc i) ≡ i + 2
    two = omega arith
