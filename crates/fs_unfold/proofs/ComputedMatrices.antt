-- What is computed without overflow is the exact value.
use Rattle.std.proofs.Common.{◌≡◌, ℕ, ◌+◌, Result, Ok, Err, List, [], ◌∷◌, refl, sym, ap, ◌∙◌}
use Rattle.fs_lists.proofs.Results.{ok_equal}
use Rattle.fs_quadratic.specs.Checked.{◌>>=◌}
use Rattle.fs_quadratic.specs.declared.steps.Place.{Place}
use Rattle.fs_quadratic.proofs.StepChains.{step_value}
use Rattle.fs_fraction.specs.Arithmetic.{negated, sum, product, reciprocal, is_fitting_sum, is_fitting_product, is_fitting_reciprocal}
use Rattle.fs_fraction.specs.CheckedFractions.{checked_fraction_sum, checked_fraction_difference, checked_fraction_product, checked_reciprocal}
use Rattle.fs_fraction.specs.Fraction.{Fraction}
use Rattle.fs_gluing.specs.declared.shapes.Point.{Point}
use Rattle.fs_unfold.specs.declared.matrices.Matrix.{Matrix}
use Rattle.fs_unfold.specs.declared.matrices.Mirror.{Mirror}
use Rattle.fs_unfold.specs.Matrices.{difference, squared_length, mirror, times, image, checked_mirror, checked_first, checked_second, checked_times, checked_image}
use Rattle.fs_unfold.specs.Products.{mirrors}
use Rattle.fs_unfold.specs.Unfolding.{AreMirrors}

-- a computation that goes on after another gives a value only where both do
record HasSteps {A B : Type 0} (r : Result A Place) (next : A → Result B Place) (y : B) : Type 0 where
  pub value : A
  pub given : r ≡ Ok value
  pub rest : next value ≡ Ok y

steps_of : {A B : Type 0} (r : Result A Place) (next : A → Result B Place) (y : B) → r >>= next ≡ Ok y → HasSteps r next y
steps_of (Ok x) next y e = record { value = x; given = refl; rest = e }
steps_of (Err stop) next y e = absurd cc

sum_is : (n : ℕ) (x y z : Fraction) → checked_fraction_sum n x y ≡ Ok z → z ≡ sum x y
sum_is n x y z e = step_value n (is_fitting_sum x y) (sum x y) z e

difference_is : (n : ℕ) (x y z : Fraction) → checked_fraction_difference n x y ≡ Ok z → z ≡ difference x y
difference_is n x y z e = sum_is n x (negated y) z e

product_is : (d n : ℕ) (x y z : Fraction) → checked_fraction_product d n x y ≡ Ok z → z ≡ product d x y
product_is d n x y z e = step_value n (is_fitting_product d x y) (product d x y) z e

inverse_is : (d n : ℕ) (x z : Fraction) → checked_reciprocal d n x ≡ Ok z → z ≡ reciprocal d x
inverse_is d n x z e = step_value n (is_fitting_reciprocal d x) (reciprocal d x) z e

-- ---- products and images

first_is : (d n : ℕ) (x u y w z : Fraction) → checked_first d n x u y w ≡ Ok z → z ≡ sum (product d x u) (product d y w)
unfolding checked_first
first_is d n x u y w z e =
    let one = steps_of (checked_fraction_product d (n + 1) x u) _ z e in
    let two = steps_of (checked_fraction_product d (n + 2) y w) _ z one.rest in
    sum_is (n + 3) one.value two.value z two.rest ∙ (λ i. sum (product_is d (n + 1) x u one.value one.given i) (product_is d (n + 2) y w two.value two.given i))

second_is : (d n : ℕ) (x u y w z : Fraction) → checked_second d n x u y w ≡ Ok z → z ≡ difference (product d x u) (product d y w)
unfolding checked_second
second_is d n x u y w z e =
    let one = steps_of (checked_fraction_product d (n + 1) x u) _ z e in
    let two = steps_of (checked_fraction_product d (n + 2) y w) _ z one.rest in
    difference_is (n + 3) one.value two.value z two.rest ∙ (λ i. difference (product_is d (n + 1) x u one.value one.given i) (product_is d (n + 2) y w two.value two.given i))

-- a product
pub times_is : (d : ℕ) (m : Matrix) (r : Mirror) (n : Matrix) → checked_times d m r ≡ Ok n → n ≡ times d m r
unfolding checked_times times
times_is d m r n e =
    let a = steps_of (checked_first d 0 m.a r.u m.b r.w) _ n e in
    let b = steps_of (checked_second d 3 m.a r.w m.b r.u) _ n a.rest in
    let c = steps_of (checked_first d 6 m.c r.u m.e r.w) _ n b.rest in
    let f = steps_of (checked_second d 9 m.c r.w m.e r.u) _ n c.rest in
    sym (ok_equal _ n f.rest)
    ∙ (λ i. record {
      a = first_is d 0 m.a r.u m.b r.w a.value a.given i;
      b = second_is d 3 m.a r.w m.b r.u b.value b.given i;
      c = first_is d 6 m.c r.u m.e r.w c.value c.given i;
      e = second_is d 9 m.c r.w m.e r.u f.value f.given i;
    })

-- an image
pub image_is : (d : ℕ) (m : Matrix) (p q : Point) → checked_image d m p ≡ Ok q → q ≡ image d m p
unfolding checked_image image
image_is d m p q e =
    let x = steps_of (checked_first d 0 m.a p.x m.b p.y) _ q e in
    let y = steps_of (checked_first d 3 m.c p.x m.e p.y) _ q x.rest in
    sym (ok_equal _ q y.rest) ∙ (λ i. record { x = first_is d 0 m.a p.x m.b p.y x.value x.given i; y = first_is d 3 m.c p.x m.e p.y y.value y.given i })

-- ---- reflections

-- a reflection
mirror_is : (d : ℕ) (p : Point) (r : Mirror) → checked_mirror d p ≡ Ok r → r ≡ mirror d p
unfolding checked_mirror mirror
mirror_is d p r e =
    let xx = steps_of (checked_fraction_product d 1 p.x p.x) _ r e in
    let yy = steps_of (checked_fraction_product d 2 p.y p.y) _ r xx.rest in
    let xy = steps_of (checked_fraction_product d 3 p.x p.y) _ r yy.rest in
    let length = steps_of (checked_fraction_sum 4 xx.value yy.value) _ r xy.rest in
    let inverse = steps_of (checked_reciprocal d 5 length.value) _ r length.rest in
    let less = steps_of (checked_fraction_difference 6 xx.value yy.value) _ r inverse.rest in
    let u = steps_of (checked_fraction_product d 7 less.value inverse.value) _ r less.rest in
    let twice = steps_of (checked_fraction_sum 8 xy.value xy.value) _ r u.rest in
    let w = steps_of (checked_fraction_product d 9 twice.value inverse.value) _ r twice.rest in
    let exx = product_is d 1 p.x p.x xx.value xx.given in
    let eyy = product_is d 2 p.y p.y yy.value yy.given in
    let exy = product_is d 3 p.x p.y xy.value xy.given in
    let el : length.value ≡ squared_length d p = sum_is 4 xx.value yy.value length.value length.given ∙ (λ i. sum (exx i) (eyy i)) in
    let ei : inverse.value ≡ reciprocal d (squared_length d p) = inverse_is d 5 length.value inverse.value inverse.given ∙ ap (reciprocal d) el in
    let eless : less.value ≡ difference (product d p.x p.x) (product d p.y p.y) = difference_is 6 xx.value yy.value less.value less.given ∙ (λ i. difference (exx i) (eyy i)) in
    let etwice : twice.value ≡ sum (product d p.x p.y) (product d p.x p.y) = sum_is 8 xy.value xy.value twice.value twice.given ∙ (λ i. sum (exy i) (exy i)) in
    let eu = product_is d 7 less.value inverse.value u.value u.given ∙ (λ i. product d (eless i) (ei i)) in
    let ew = product_is d 9 twice.value inverse.value w.value w.given ∙ (λ i. product d (etwice i) (ei i)) in
    sym (ok_equal _ r w.rest) ∙ (λ i. record { u = eu i; w = ew i })

-- those of all sides
pub mirrors_are : (d : ℕ) (table : List Point) (rs : List Mirror) → AreMirrors d table rs → rs ≡ mirrors d table
mirrors_are d [] [] h = refl
mirrors_are d [] (r ∷ rs) h = absurd h
mirrors_are d (p ∷ table) [] h = absurd h
mirrors_are d (p ∷ table) (r ∷ rs) h = λ i. mirror_is d p r h.0 i ∷ mirrors_are d table rs h.1 i
