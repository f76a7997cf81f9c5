-- What the computed numbers of an event are, where all of them fit, and what the comparison of two lengths says.
use Rattle.std.proofs.Common.{◌≡◌, ◌&&◌, ℕ, ◌+◌, Bool, true, false, if◌then◌else◌, Option, Some, None, Result, Ok, List, [], ◌∷◌, map, sym, ap, ◌∙◌, ◌↔◌}
use Rattle.std.specs.declared.cmp.Ordering.{Ordering}
use Rattle.std.specs.declared.cmp.Ordering.TheVariants.{Less, Equal, Greater}
use Rattle.fs_ring.specs.OrderedRing.{IsOrderedRing, less, equal, greater}
use Rattle.fs_ring.proofs.Order as order
use Rattle.fs_quadratic.specs.Checked.{◌>>=◌, checked_sum, checked_difference}
use Rattle.fs_quadratic.specs.Ring as ring
use Rattle.fs_quadratic.specs.Ring.{Quadratic, quadratic, IsPositive, IsLess, add, sub, total}
use Rattle.fs_quadratic.specs.Width.{is_fitting}
use Rattle.fs_quadratic.specs.declared.steps.Place.{Place}
use Rattle.fs_quadratic.proofs.Laws.{quadratic_ring}
use Rattle.fs_quadratic.proofs.StepChains.{step_value}
use Rattle.fs_plane.specs.Formulas.{vector_sum_after}
use Rattle.fs_plane.specs.Vector.{PlaneVector, vector_add}
use Rattle.fs_plane.proofs.ComputedSigns.{after_value}
use Rattle.fs_plane.proofs.FormulaLaws.{sum_value}
use Rattle.fs_gluing.specs.Exchanges.{Letter}
use Rattle.fs_rauzy.specs.declared.events.Found.{Found}
use Rattle.fs_rauzy.specs.Events.{connection}
use Rattle.fs_rauzy.specs.Rule.{WonNumbers, MergedNumbers, SplitNumbers, checked_won, checked_merged, checked_connection, checked_lengths, checked_prefix, checked_parts}

difference_is : (n : ℕ) (x y z : Quadratic) → checked_difference n x y ≡ Ok z → z ≡ sub x y
difference_is n x y z e = step_value n (is_fitting (sub x y)) (sub x y) z e

sum_is : (n : ℕ) (x y z : Quadratic) → checked_sum n x y ≡ Ok z → z ≡ add x y
sum_is n x y z e = step_value n (is_fitting (add x y)) (add x y) z e

same_value : {A : Type 0} (x y : A) → ◌≡◌ {A = Result A Place} (Ok x) (Ok y) → y ≡ x
same_value x y e = cc

-- ---- won comparisons

-- the numbers of a won comparison
pub record AreWonNumbers (winner loser : Letter) (sum : Quadratic) (end : PlaneVector) (numbers : WonNumbers) : Type 0 where
  pub length : numbers.length ≡ sub winner.length loser.length
  pub total : numbers.total ≡ sub sum loser.length
  pub back : numbers.back ≡ vector_add loser.back winner.back
  pub vector : numbers.vector ≡ vector_add end winner.back

pub won_numbers : (winner loser : Letter) (total : Quadratic) (vector : PlaneVector) (numbers : WonNumbers) → checked_won winner loser total vector ≡ Ok numbers
    → AreWonNumbers winner loser total vector numbers
unfolding checked_won
won_numbers winner loser total vector numbers e =
    let one = after_value (checked_difference 1 winner.length loser.length) _ numbers e in
    let two = after_value (checked_difference 2 total loser.length) _ numbers one.2 in
    let three = after_value (vector_sum_after 2 loser.back winner.back) _ numbers two.2 in
    let four = after_value (vector_sum_after 4 vector winner.back) _ numbers three.2 in
    let is : numbers ≡ record { length = one.0; total = two.0; back = three.0; vector = four.0 } = same_value _ numbers four.2 in
    record {
      length = ap (λ (n : WonNumbers). n.length) is ∙ difference_is 1 winner.length loser.length one.0 one.1;
      total = ap (λ (n : WonNumbers). n.total) is ∙ difference_is 2 total loser.length two.0 two.1;
      back = ap (λ (n : WonNumbers). n.back) is ∙ sum_value 2 loser.back winner.back three.0 three.1;
      vector = ap (λ (n : WonNumbers). n.vector) is ∙ sum_value 4 vector winner.back four.0 four.1;
    }

-- ---- connections

-- the connection, where its vector fits
connection_value : (before : ℕ) (starting ending : Letter) (found : Option Found) → checked_connection before starting ending ≡ Ok found → found ≡ connection starting ending
connection_value before starting ending found = go (starting.start.real && ending.end.real)
  where
    go : (real : Bool)
        → (if real then (vector_sum_after before starting.start.vector ending.end.vector >>= (λ v. Ok (Some (record { start = starting.corner; v = v })))) else Ok None) ≡ Ok found
        → found ≡ (if real then Some (record { start = starting.corner; v = vector_add starting.start.vector ending.end.vector }) else None)
    go true e =
        let one = after_value (vector_sum_after before starting.start.vector ending.end.vector) _ found e in
        same_value _ found one.2 ∙ ap (λ (v : PlaneVector). Some (record { start = starting.corner; v = v })) (sum_value before starting.start.vector ending.end.vector one.0 one.1)
    go false e = same_value None found e

-- ---- merges

-- the numbers of a merge of x and y
pub record AreMergedNumbers (x y : Letter) (sum : Quadratic) (numbers : MergedNumbers) : Type 0 where
  pub total : numbers.total ≡ sub sum x.length
  pub back : numbers.back ≡ vector_add y.back x.back
  pub found : numbers.found ≡ connection y x

pub merged_numbers : (x y : Letter) (total : Quadratic) (numbers : MergedNumbers) → checked_merged x y total ≡ Ok numbers → AreMergedNumbers x y total numbers
unfolding checked_merged
merged_numbers x y total numbers e =
    let one = after_value (checked_difference 1 total x.length) _ numbers e in
    let two = after_value (vector_sum_after 1 y.back x.back) _ numbers one.2 in
    let three = after_value (checked_connection 3 y x) _ numbers two.2 in
    let is : numbers ≡ record { total = one.0; back = two.0; found = three.0 } = same_value _ numbers three.2 in
    record {
      total = ap (λ (n : MergedNumbers). n.total) is ∙ difference_is 1 total x.length one.0 one.1;
      back = ap (λ (n : MergedNumbers). n.back) is ∙ sum_value 1 y.back x.back two.0 two.1;
      found = ap (λ (n : MergedNumbers). n.found) is ∙ connection_value 3 y x three.0 three.1;
    }

-- ---- splits

-- a sum that goes on is the sum before and that of the lengths
lengths_value : (n : ℕ) (sum : Quadratic) (letters : List Letter) (value : Quadratic) → checked_lengths n sum letters ≡ Ok value → value ≡ add sum (total (map (λ letter. letter.length) letters))
lengths_value n sum [] value e = same_value sum value e ∙ sym ((quadratic_ring 0).add_zero sum)
lengths_value n sum (letter ∷ letters) value e =
    let one = after_value (checked_sum n sum letter.length) _ value e in
    let rest = total (map (λ (l : Letter). l.length) letters) in
    lengths_value (n + 1) one.0 letters value one.2
    ∙ ap (λ (s : Quadratic). add s rest) (sum_is n sum letter.length one.0 one.1)
    ∙ (quadratic_ring 0).add_assoc sum letter.length rest

-- the sum of the lengths, where it fits
pub prefix_value : (letters : List Letter) (value : Quadratic) → checked_prefix letters ≡ Ok value → value ≡ total (map (λ letter. letter.length) letters)
prefix_value [] value e = same_value ring.zero value e
prefix_value (letter ∷ letters) value e = lengths_value 1 letter.length letters value e

-- the numbers of a split after k letters, whose lengths have this sum
pub record ArePartNumbers (left whole part : Quadratic) (starting ending : Letter) (numbers : SplitNumbers) : Type 0 where
  pub sum : numbers.sum ≡ part
  pub rest : numbers.rest ≡ sub whole part
  pub base : numbers.base ≡ add left part
  pub found : numbers.found ≡ connection starting ending

pub part_numbers : (base total : Quadratic) (k : ℕ) (sum : Quadratic) (starting ending : Letter) (numbers : SplitNumbers) → checked_parts base total k sum starting ending ≡ Ok numbers
    → ArePartNumbers base total sum starting ending numbers
part_numbers base total k sum starting ending numbers e =
    let one = after_value (checked_difference k total sum) _ numbers e in
    let two = after_value (checked_sum (k + 1) base sum) _ numbers one.2 in
    let three = after_value (checked_connection (k + 1) starting ending) _ numbers two.2 in
    let is : numbers ≡ record { sum = sum; rest = one.0; base = two.0; found = three.0 } = same_value _ numbers three.2 in
    record {
      sum = ap (λ (n : SplitNumbers). n.sum) is;
      rest = ap (λ (n : SplitNumbers). n.rest) is ∙ difference_is k total sum one.0 one.1;
      base = ap (λ (n : SplitNumbers). n.base) is ∙ sum_is (k + 1) base sum two.0 two.1;
      found = ap (λ (n : SplitNumbers). n.found) is ∙ connection_value (k + 1) starting ending three.0 three.1;
    }

-- ---- comparisons

-- lengths of which neither is less are equal
pub equal_lengths : {d : ℕ} (L : IsOrderedRing (quadratic d) (IsPositive d)) (x y : Quadratic) (r : Ordering) → r ≡ Equal → r ≡ Greater ↔ IsLess d y x → r ≡ Less ↔ IsLess d x y → x ≡ y
equal_lengths L x y r e over below = elim (order.compare L x y) [
  | less h ↦ absurd (equal_not_less (sym e ∙ below.1 h))
  | equal h ↦ h
  | greater h ↦ absurd (equal_not_greater (sym e ∙ over.1 h))
]
  where
    equal_not_less : Equal ≡ Less → ⊥
    equal_not_less e = cc

    equal_not_greater : Equal ≡ Greater → ⊥
    equal_not_greater e = cc
