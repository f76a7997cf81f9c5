-- Sums and differences of numbers with room are within the width.
use Rattle.std.proofs.Common.{◌≡◌, ℕ, ◌+◌, ◌^◌, ◌<◌, ◌≤◌, ℤ, pos, negsuc, ◌+ℤ◌, ◌-ℤ◌, Result, Ok, ap, ◌∙◌, arith}
use Rattle.std.proofs.lemmas.Int.{ints}
use Rattle.std.specs.Prelude.{unsigned_abs}
use Rattle.fs_quadratic.specs.Checked.{◌>>=◌, checked_sum, checked_difference}
use Rattle.fs_quadratic.specs.Ring.{Quadratic, add, sub}
use Rattle.fs_quadratic.specs.Width.{InWidth, Fits, is_fitting}
use Rattle.fs_quadratic.specs.declared.steps.Place.{Place}
use Rattle.fs_quadratic.proofs.Bits.{within_of_abs}
use Rattle.fs_quadratic.proofs.Small.{abs_add}
use Rattle.fs_quadratic.proofs.StepChains.{step_fits}
use Rattle.fs_quadratic.proofs.WidthTests.{Decides-is_fitting}
use Rattle.fs_plane.specs.Formulas.{vector_sum_after}
use Rattle.fs_plane.specs.Vector.{PlaneVector, vector_add}
use Rattle.fs_gluing.specs.Exchanges.{Letter}
use Rattle.fs_rauzy.specs.RoomForSums.{HasRoom, VectorHasRoom}
use Rattle.fs_rauzy.specs.Rule.{WonNumbers, checked_won}

abs_sub : (y z : ℤ) → unsigned_abs (y -ℤ z) ≤ unsigned_abs y + unsigned_abs z
abs_sub (pos m) (pos n) = omega (arith, ints)
abs_sub (pos m) (negsuc n) = omega (arith, ints)
abs_sub (negsuc m) (pos n) = omega (arith, ints)
abs_sub (negsuc m) (negsuc n) = omega (arith, ints)

below : (k m n : ℕ) → k ≤ m + n → m ≤ 2 ^ 125 → n ≤ 2 ^ 125 → k < 2 ^ 127
below k m n h s t = omega arith

part_sum : (y z : ℤ) → unsigned_abs y ≤ 2 ^ 125 → unsigned_abs z ≤ 2 ^ 125 → InWidth (y +ℤ z)
part_sum y z h k = within_of_abs (y +ℤ z) (below (unsigned_abs (y +ℤ z)) (unsigned_abs y) (unsigned_abs z) (abs_add y z) h k)

part_difference : (y z : ℤ) → unsigned_abs y ≤ 2 ^ 125 → unsigned_abs z ≤ 2 ^ 125 → InWidth (y -ℤ z)
part_difference y z h k = within_of_abs (y -ℤ z) (below (unsigned_abs (y -ℤ z)) (unsigned_abs y) (unsigned_abs z) (abs_sub y z) h k)

-- the sum is within the width
pub room_add : (x y : Quadratic) → HasRoom x → HasRoom y → Fits (add x y)
room_add x y h k = (part_sum x.p y.p h.0 k.0, part_sum x.q y.q h.1 k.1)

-- so is the difference
pub room_sub : (x y : Quadratic) → HasRoom x → HasRoom y → Fits (sub x y)
room_sub x y h k = (part_difference x.p y.p h.0 k.0, part_difference x.q y.q h.1 k.1)

sum_ok : (n : ℕ) (x y : Quadratic) → HasRoom x → HasRoom y → checked_sum n x y ≡ Ok (add x y)
sum_ok n x y h k = step_fits n (is_fitting (add x y)) (add x y) (Decides-is_fitting (add x y)) (room_add x y h k)

difference_ok : (n : ℕ) (x y : Quadratic) → HasRoom x → HasRoom y → checked_difference n x y ≡ Ok (sub x y)
difference_ok n x y h k = step_fits n (is_fitting (sub x y)) (sub x y) (Decides-is_fitting (sub x y)) (room_sub x y h k)

after_ok : {A B : Type 0} (r : Result A Place) (x : A) (next : A → Result B Place) (end : Result B Place) → r ≡ Ok x → next x ≡ end → (r >>= next) ≡ end
after_ok r x next end e f = ap (λ s. s >>= next) e ∙ f

vector_ok : (before : ℕ) (a b : PlaneVector) → VectorHasRoom a → VectorHasRoom b → vector_sum_after before a b ≡ Ok (vector_add a b)
unfolding vector_sum_after
vector_ok before a b h k =
    after_ok (checked_sum (before + 1) a.x b.x) (add a.x b.x) (λ x. checked_sum (before + 2) a.y b.y >>= (λ y. Ok (record { x = x; y = y }))) (Ok (vector_add a b)) (sum_ok (before + 1) a.x b.x h.0 k.0)
    (ap (λ s. s >>= (λ y. Ok (record { x = add a.x b.x; y = y }))) (sum_ok (before + 2) a.y b.y h.1 k.1))

-- the numbers of a won comparison with room
pub won_in_room : (winner loser : Letter) (total : Quadratic) (vector : PlaneVector) → HasRoom winner.length → HasRoom loser.length → HasRoom total → VectorHasRoom winner.back → VectorHasRoom loser.back
    → VectorHasRoom vector
    → checked_won winner loser total vector
    ≡ Ok (record { length = sub winner.length loser.length; total = sub total loser.length; back = vector_add loser.back winner.back; vector = vector_add vector winner.back })
unfolding checked_won
won_in_room winner loser total vector w l t wb lb vb =
    let numbers : Quadratic → Quadratic → PlaneVector → PlaneVector → Result WonNumbers Place = λ length rest back moved. Ok (record { length = length; total = rest; back = back; vector = moved }) in
    let length = sub winner.length loser.length in
    let rest = sub total loser.length in
    let back = vector_add loser.back winner.back in
    ap (λ s. s >>= (λ length. checked_difference 2 total loser.length >>= (λ rest. vector_sum_after 2 loser.back winner.back >>= (λ back. vector_sum_after 4 vector winner.back >>= numbers length rest back))))
    (difference_ok 1 winner.length loser.length w l)
    ∙ ap (λ s. s >>= (λ rest. vector_sum_after 2 loser.back winner.back >>= (λ back. vector_sum_after 4 vector winner.back >>= numbers length rest back))) (difference_ok 2 total loser.length t l)
    ∙ ap (λ s. s >>= (λ back. vector_sum_after 4 vector winner.back >>= numbers length rest back)) (vector_ok 2 loser.back winner.back lb wb)
    ∙ ap (λ s. s >>= numbers length rest back) (vector_ok 4 vector winner.back vb wb)
