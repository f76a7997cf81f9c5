-- The products of reflections by frames: a vector f over a number k, whose square is the squared length of f, and whether the orientation is turned. The product takes x to the dot product of f and x, and to their cross product, or its negation, both over k.
use Rattle.std.proofs.Common.{◌≡◌, ◌≢◌, ℕ, ◌<◌, Bool, true, false, if◌then◌else◌, not, [], ◌∷◌, refl, sym, ap, ◌∙◌, subst, arith}
use Rattle.std.specs.Int.{◌∣◌}
use Rattle.std.specs.Ordering.{is_lt}
use Rattle.fs_ring.proofs.Directions as directions
use Rattle.fs_ring.proofs.RingLaws as ring
use Rattle.fs_ring.proofs.Signs as signs
use Rattle.fs_ring.proofs.Solver.{derived, identity, numeral, negative, ◌⊗◌, ◌⊕◌, ◌⊖◌, ◌≐◌, ◌from◌}
use Rattle.fs_quadratic.specs.Radicand.{IsNoSquare}
use Rattle.fs_quadratic.specs.Ring.{Quadratic, IsPositive, add, neg, mul, sign, zero as nil, one}
use Rattle.fs_quadratic.proofs.Laws.{quadratic_ring, quadratic_order}
use Rattle.fs_quadratic.proofs.Signs.{sign-positive, sign-negative}
use Rattle.fs_fraction.specs.Arithmetic.{negated, sum, product, reciprocal}
use Rattle.fs_fraction.specs.Fraction.{Fraction, one_fraction}
use Rattle.fs_fraction.proofs.Divisors.{divisor_positive, divisor_at_most}
use Rattle.fs_fraction.proofs.Values.{whole, whole-positive}
use Rattle.fs_plane.specs.Vector.{PlaneVector, vector_zero, norm, dot, cross}
use Rattle.fs_gluing.specs.declared.shapes.Point.{Point}
use Rattle.fs_gluing.specs.Shape.{IsScaledVector}
use Rattle.fs_unfold.specs.declared.matrices.Matrix.{Matrix}
use Rattle.fs_unfold.specs.declared.matrices.Mirror.{Mirror}
use Rattle.fs_unfold.specs.Copies.{is_turned}
use Rattle.fs_unfold.specs.Matrices.{identity as unit, zero_fraction, difference, squared_length, mirror, times, image, row_first, row_second}
use Rattle.fs_unfold.proofs.Ratios.{IsRatio, IsCanonical, ratio_of_value, ratio_negated, ratio_cancel, ratio_cross, ratio_equal, ratio_sum_over_one, ratio_product, ratio_reciprocal, product_not_zero, cancel, canonical_sum, canonical_product, canonical_reciprocal}

-- ---- frames

-- the numbers of the second row over k: the first one turned by a right angle, the other way where the orientation is turned
abbrev second_x : Bool → PlaneVector → Quadratic
second_x turned f = if turned then f.y else neg f.y

abbrev second_y : Bool → PlaneVector → Quadratic
second_y turned f = if turned then neg f.x else f.x

-- the matrix has this frame
pub record HasFrame (d : ℕ) (m : Matrix) (f : PlaneVector) (k : Quadratic) (turned : Bool) : Type 0 where
  pub positive : IsPositive d k
  pub length : norm d f ≡ mul d k k
  pub a : IsRatio d m.a f.x k
  pub b : IsRatio d m.b f.y k
  pub c : IsRatio d m.c (second_x turned f) k
  pub e : IsRatio d m.e (second_y turned f) k
  pub reduced_a : IsCanonical m.a
  pub reduced_b : IsCanonical m.b
  pub reduced_c : IsCanonical m.c
  pub reduced_e : IsCanonical m.e

-- a vector with fractions, which is this one over a denominator, and isn't 0
pub record IsSide (den : ℕ) (p : Point) (side : PlaneVector) : Type 0 where
  pub den_positive : 0 < den
  pub scaled : IsScaledVector den p side
  pub x : IsCanonical p.x
  pub y : IsCanonical p.y
  pub nonzero : side ≢ vector_zero

-- (X² - Y², 2XY) of a vector (X,Y): its direction has twice the angle
abbrev doubled : ℕ → PlaneVector → PlaneVector
doubled d v = record { x = add (mul d v.x v.x) (neg (mul d v.y v.y)); y = add (mul d v.x v.y) (mul d v.x v.y) }

-- the frame of a product with a reflection
abbrev reflected : ℕ → PlaneVector → PlaneVector → PlaneVector
reflected d f v = record { x = dot d f (doubled d v); y = cross d f (doubled d v) }

module _ {d : ℕ} (no_square : IsNoSquare d) where
  whole_not_zero : (n : ℕ) → 0 < n → whole n ≢ nil
  whole_not_zero n up = signs.positive-ne-zero (quadratic_order no_square) (whole-positive d n up)

  -- ---- reflections

  module _ (den : ℕ) (p : Point) (v : PlaneVector) (is : IsSide den p v) where
    abbrev D : Quadratic
    D = whole den

    ratio_x : IsRatio d p.x v.x D
    ratio_x = ratio_of_value d p.x v.x den is.scaled.0

    ratio_y : IsRatio d p.y v.y D
    ratio_y = ratio_of_value d p.y v.y den is.scaled.1

    D_not_zero : D ≢ nil
    D_not_zero = whole_not_zero den is.den_positive

    square_not_zero : mul d D D ≢ nil
    square_not_zero = product_not_zero no_square D D D_not_zero D_not_zero

    -- the squared length isn't 0
    length_positive : IsPositive d (norm d v)
    length_positive = directions.norm_positive (quadratic_order no_square) v is.nonzero

    length_not_zero : norm d v ≢ nil
    length_not_zero = signs.positive-ne-zero (quadratic_order no_square) length_positive

    xx : IsRatio d (product d p.x p.x) (mul d v.x v.x) (mul d D D)
    xx = ratio_product no_square p.x p.x v.x D v.x D is.x.positive is.x.positive ratio_x ratio_x

    yy : IsRatio d (product d p.y p.y) (mul d v.y v.y) (mul d D D)
    yy = ratio_product no_square p.y p.y v.y D v.y D is.y.positive is.y.positive ratio_y ratio_y

    xy : IsRatio d (product d p.x p.y) (mul d v.x v.y) (mul d D D)
    xy = ratio_product no_square p.x p.y v.x D v.y D is.x.positive is.y.positive ratio_x ratio_y

    xx_positive : 0 < (product d p.x p.x).den
    xx_positive = (canonical_product d p.x p.x is.x.positive is.x.positive).positive

    yy_positive : 0 < (product d p.y p.y).den
    yy_positive = (canonical_product d p.y p.y is.y.positive is.y.positive).positive

    xy_positive : 0 < (product d p.x p.y).den
    xy_positive = (canonical_product d p.x p.y is.x.positive is.y.positive).positive

    length_ratio : IsRatio d (squared_length d p) (norm d v) (mul d D D)
    length_ratio = ratio_sum_over_one no_square (product d p.x p.x) (product d p.y p.y) (mul d v.x v.x) (mul d v.y v.y) (mul d D D) xx_positive yy_positive square_not_zero xx yy

    length_canonical : IsCanonical (squared_length d p)
    length_canonical = canonical_sum (product d p.x p.x) (product d p.y p.y) xx_positive yy_positive

    -- the numerator of the squared length isn't 0
    pub squared_length_not_zero : (squared_length d p).num ≢ nil
    squared_length_not_zero = by (squared_length d p) length_canonical length_ratio
      where
        by : (x : Fraction) → IsCanonical x → IsRatio d x (norm d v) (mul d D D) → x.num ≢ nil
        by x c r e =
            product_not_zero no_square (whole x.den) (norm d v) (whole_not_zero x.den c.positive) length_not_zero
            (sym r ∙ ap (mul d (mul d D D)) e ∙ identity (quadratic_ring d) (D ∷ []) (λ D. (D ⊗ D) ⊗ numeral 0 ≐ numeral 0) refl)

    abbrev inverse : Fraction
    inverse = reciprocal d (squared_length d p)

    inverse_ratio : IsRatio d inverse (mul d D D) (norm d v)
    inverse_ratio = ratio_reciprocal no_square (squared_length d p) (norm d v) (mul d D D) length_canonical.positive length_not_zero length_ratio

    inverse_canonical : IsCanonical inverse
    inverse_canonical = canonical_reciprocal no_square (squared_length d p) squared_length_not_zero

    abbrev less : Fraction
    less = difference (product d p.x p.x) (product d p.y p.y)

    less_ratio : IsRatio d less (doubled d v).x (mul d D D)
    less_ratio =
        ratio_sum_over_one no_square (product d p.x p.x) (negated (product d p.y p.y)) (mul d v.x v.x) (neg (mul d v.y v.y)) (mul d D D) xx_positive yy_positive square_not_zero xx
        (ratio_negated d (product d p.y p.y) (mul d v.y v.y) (mul d D D) yy)

    less_canonical : IsCanonical less
    less_canonical = canonical_sum (product d p.x p.x) (negated (product d p.y p.y)) xx_positive yy_positive

    abbrev twice : Fraction
    twice = sum (product d p.x p.y) (product d p.x p.y)

    twice_ratio : IsRatio d twice (doubled d v).y (mul d D D)
    twice_ratio = ratio_sum_over_one no_square (product d p.x p.y) (product d p.x p.y) (mul d v.x v.y) (mul d v.x v.y) (mul d D D) xy_positive xy_positive square_not_zero xy xy

    twice_canonical : IsCanonical twice
    twice_canonical = canonical_sum (product d p.x p.y) (product d p.x p.y) xy_positive xy_positive

    -- n over D² times D² over the squared length
    over_length : (x : Fraction) (n : Quadratic) → IsCanonical x → IsRatio d x n (mul d D D) → IsRatio d (product d x inverse) n (norm d v)
    over_length x n c r =
        by (product d x inverse) (ratio_product no_square x inverse n (mul d D D) (mul d D D) (norm d v) c.positive inverse_canonical.positive r inverse_ratio)
      where
        by : (y : Fraction) → IsRatio d y (mul d n (mul d D D)) (mul d (mul d D D) (norm d v)) → IsRatio d y n (norm d v)
        by y h =
            ratio_cancel no_square y (mul d D D) n (norm d v) square_not_zero
            (h ∙ ap (mul d (whole y.den)) ((quadratic_ring d).mul_comm n (mul d D D)))

    -- the entries of a reflection
    mirror_u : IsRatio d (mirror d p).u (doubled d v).x (norm d v)
    unfolding mirror
    mirror_u = over_length less (doubled d v).x less_canonical less_ratio

    mirror_w : IsRatio d (mirror d p).w (doubled d v).y (norm d v)
    unfolding mirror
    mirror_w = over_length twice (doubled d v).y twice_canonical twice_ratio

    mirror_u_canonical : IsCanonical (mirror d p).u
    unfolding mirror
    mirror_u_canonical = canonical_product d less inverse less_canonical.positive inverse_canonical.positive

    mirror_w_canonical : IsCanonical (mirror d p).w
    unfolding mirror
    mirror_w_canonical = canonical_product d twice inverse twice_canonical.positive inverse_canonical.positive

  -- ---- products

  -- a row of a matrix times a reflection
  module _ (x y : Fraction) (r : Mirror) (n m k qx qy l : Quadratic) (cx : IsCanonical x) (cy : IsCanonical y) (cu : IsCanonical r.u) (cw : IsCanonical r.w) (some : mul d k l ≢ nil)
      (rx : IsRatio d x n k) (ry : IsRatio d y m k) (ru : IsRatio d r.u qx l) (rw : IsRatio d r.w qy l) where
    first_ratio : IsRatio d (row_first d x y r) (add (mul d n qx) (mul d m qy)) (mul d k l)
    first_ratio =
        ratio_sum_over_one no_square (product d x r.u) (product d y r.w) (mul d n qx) (mul d m qy) (mul d k l) (canonical_product d x r.u cx.positive cu.positive).positive
        (canonical_product d y r.w cy.positive cw.positive).positive some (ratio_product no_square x r.u n k qx l cx.positive cu.positive rx ru) (ratio_product no_square y r.w m k qy l cy.positive cw.positive ry rw)

    first_canonical : IsCanonical (row_first d x y r)
    first_canonical = canonical_sum (product d x r.u) (product d y r.w) (canonical_product d x r.u cx.positive cu.positive).positive (canonical_product d y r.w cy.positive cw.positive).positive

    second_ratio : IsRatio d (row_second d x y r) (add (mul d n qy) (neg (mul d m qx))) (mul d k l)
    second_ratio =
        ratio_sum_over_one no_square (product d x r.w) (negated (product d y r.u)) (mul d n qy) (neg (mul d m qx)) (mul d k l) (canonical_product d x r.w cx.positive cw.positive).positive
        (canonical_product d y r.u cy.positive cu.positive).positive some (ratio_product no_square x r.w n k qy l cx.positive cw.positive rx rw)
        (ratio_negated d (product d y r.u) (mul d m qx) (mul d k l) (ratio_product no_square y r.u m k qx l cy.positive cu.positive ry ru))

    second_canonical : IsCanonical (row_second d x y r)
    second_canonical = canonical_sum (product d x r.w) (negated (product d y r.u)) (canonical_product d x r.w cx.positive cw.positive).positive (canonical_product d y r.u cy.positive cu.positive).positive

  lower_first : (t : Bool) (f q : PlaneVector) → add (mul d (second_x t f) q.x) (mul d (second_y t f) q.y) ≡ second_x (not t) (record { x = dot d f q; y = cross d f q })
  lower_first true f q = identity (quadratic_ring d) (f.x ∷ f.y ∷ q.x ∷ q.y ∷ []) (λ a b x y. (b ⊗ x) ⊕ (negative a ⊗ y) ≐ negative ((a ⊗ y) ⊖ (b ⊗ x))) refl
  lower_first false f q = identity (quadratic_ring d) (f.x ∷ f.y ∷ q.x ∷ q.y ∷ []) (λ a b x y. (negative b ⊗ x) ⊕ (a ⊗ y) ≐ (a ⊗ y) ⊖ (b ⊗ x)) refl

  lower_second : (t : Bool) (f q : PlaneVector) → add (mul d (second_x t f) q.y) (neg (mul d (second_y t f) q.x)) ≡ second_y (not t) (record { x = dot d f q; y = cross d f q })
  lower_second true f q = identity (quadratic_ring d) (f.x ∷ f.y ∷ q.x ∷ q.y ∷ []) (λ a b x y. (b ⊗ y) ⊕ negative (negative a ⊗ x) ≐ (a ⊗ x) ⊕ (b ⊗ y)) refl
  lower_second false f q = identity (quadratic_ring d) (f.x ∷ f.y ∷ q.x ∷ q.y ∷ []) (λ a b x y. (negative b ⊗ y) ⊕ negative (a ⊗ x) ≐ negative ((a ⊗ x) ⊕ (b ⊗ y))) refl

  length_reflected : (f v : PlaneVector) (k : Quadratic) → norm d f ≡ mul d k k → norm d (reflected d f v) ≡ mul d (mul d k (norm d v)) (mul d k (norm d v))
  length_reflected f v k e =
      derived (quadratic_ring d) (f.x ∷ f.y ∷ v.x ∷ v.y ∷ k ∷ [])
      (λ a b x y k. let u = (x ⊗ x) ⊕ negative (y ⊗ y) in let w = (x ⊗ y) ⊕ (x ⊗ y) in let l = (x ⊗ x) ⊕ (y ⊗ y) in let g = (a ⊗ u) ⊕ (b ⊗ w) in let h = (a ⊗ w) ⊖ (b ⊗ u) in
      (g ⊗ g) ⊕ (h ⊗ h) ≐ (k ⊗ l) ⊗ (k ⊗ l) from (l ⊗ l, (a ⊗ a) ⊕ (b ⊗ b) ≐ k ⊗ k) ∷ []) refl (e, tt)

  -- the identity
  unit_canonical : (x : Fraction) → x.den ≡ 1 → IsCanonical x
  unit_canonical x e = record {
    positive = subst (λ n. 0 < n) (sym e) (let l : 0 < 1 = omega arith in l);
    reduced = λ k p q n.
        let one_there : k ∣ 1 = subst (λ m. k ∣ m) e n in
        let low = divisor_positive k 1 one_there (let l : 0 < 1 = omega arith in l) in
        let high = divisor_at_most k 1 one_there (let l : 0 < 1 = omega arith in l) in
        omega arith;
  }

  pub frame_identity : HasFrame d unit (record { x = one; y = nil }) one false
  frame_identity = record {
    positive = whole-positive d 1 (omega arith);
    length = identity (quadratic_ring d) (one ∷ []) (λ x. (x ⊗ x) ⊕ (numeral 0 ⊗ numeral 0) ≐ x ⊗ x) refl;
    a = refl;
    b = refl;
    c = refl;
    e = refl;
    reduced_a = unit_canonical one_fraction refl;
    reduced_b = unit_canonical zero_fraction refl;
    reduced_c = unit_canonical zero_fraction refl;
    reduced_e = unit_canonical one_fraction refl;
  }

  not_zero : {k : Quadratic} → IsPositive d k → k ≢ nil
  not_zero up = signs.positive-ne-zero (quadratic_order no_square) up

  -- a product times a reflection
  pub frame_times : (m : Matrix) (f : PlaneVector) (k : Quadratic) (t : Bool) (den : ℕ) (p : Point) (v : PlaneVector) → HasFrame d m f k t → IsSide den p v
      → HasFrame d (times d m (mirror d p)) (reflected d f v) (mul d k (norm d v)) (not t)
  unfolding times
  frame_times m f k t den p v h is =
      let r = mirror d p in
      let q = doubled d v in
      let l = norm d v in
      let ru = mirror_u den p v is in
      let rw = mirror_w den p v is in
      let cu = mirror_u_canonical den p v is in
      let cw = mirror_w_canonical den p v is in
      let up = (quadratic_order no_square).mul_positive h.positive (length_positive den p v is) in
      let some = not_zero up in
      record {
        positive = up;
        length = length_reflected f v k h.length;
        a = first_ratio m.a m.b r f.x f.y k q.x q.y l h.reduced_a h.reduced_b cu cw some h.a h.b ru rw;
        b = second_ratio m.a m.b r f.x f.y k q.x q.y l h.reduced_a h.reduced_b cu cw some h.a h.b ru rw;
        c =
            subst (λ z. IsRatio d (row_first d m.c m.e r) z (mul d k l)) (lower_first t f q)
            (first_ratio m.c m.e r (second_x t f) (second_y t f) k q.x q.y l h.reduced_c h.reduced_e cu cw some h.c h.e ru rw);
        e =
            subst (λ z. IsRatio d (row_second d m.c m.e r) z (mul d k l)) (lower_second t f q)
            (second_ratio m.c m.e r (second_x t f) (second_y t f) k q.x q.y l h.reduced_c h.reduced_e cu cw some h.c h.e ru rw);
        reduced_a = first_canonical m.a m.b r f.x f.y k q.x q.y l h.reduced_a h.reduced_b cu cw some h.a h.b ru rw;
        reduced_b = second_canonical m.a m.b r f.x f.y k q.x q.y l h.reduced_a h.reduced_b cu cw some h.a h.b ru rw;
        reduced_c = first_canonical m.c m.e r (second_x t f) (second_y t f) k q.x q.y l h.reduced_c h.reduced_e cu cw some h.c h.e ru rw;
        reduced_e = second_canonical m.c m.e r (second_x t f) (second_y t f) k q.x q.y l h.reduced_c h.reduced_e cu cw some h.c h.e ru rw;
      }

  -- ---- frames of one matrix

  zero_of_double : (x : Quadratic) → x ≡ neg x → x ≡ nil
  zero_of_double x e =
      cancel no_square (add one one) x nil two_not_zero
      (derived (quadratic_ring d) (x ∷ one ∷ []) (λ x i. (i ⊕ i) ⊗ x ≐ (i ⊕ i) ⊗ numeral 0 from (i, x ≐ negative x) ∷ []) refl (e, tt))
    where
      two_not_zero : add one one ≢ nil
      two_not_zero = not_zero ((quadratic_order no_square).add_positive (whole-positive d 1 (omega arith)) (whole-positive d 1 (omega arith)))

  no_length : (f : PlaneVector) (k : Quadratic) → k ≢ nil → norm d f ≡ mul d k k → f.x ≡ nil → f.y ≡ nil → ⊥
  no_length f k some e p q =
      product_not_zero no_square k k some some
      (sym e ∙ (λ i. add (mul d (p i) (p i)) (mul d (q i) (q i))) ∙ identity (quadratic_ring d) (nil ∷ []) (λ z. (numeral 0 ⊗ numeral 0) ⊕ (numeral 0 ⊗ numeral 0) ≐ numeral 0) refl)

  opposite_product : (x y k l : Quadratic) → l ≢ nil → mul d x l ≡ mul d y k → mul d (neg x) l ≡ mul d y k → x ≡ nil
  opposite_product x y k l some e g =
      cancel no_square l x nil some
      (zero_of_double (mul d l x) (derived (quadratic_ring d) (x ∷ y ∷ k ∷ l ∷ []) (λ x y k l. l ⊗ x ≐ negative (l ⊗ x) from (numeral 1, x ⊗ l ≐ y ⊗ k) ∷ (negative (numeral 1), negative x ⊗ l ≐ y ⊗ k) ∷ []) refl (e, (g, tt)))
      ∙ identity (quadratic_ring d) (l ∷ []) (λ l. numeral 0 ≐ l ⊗ numeral 0) refl)

  one_turned : (m : Matrix) (f g : PlaneVector) (k l : Quadratic) → HasFrame d m f k false → HasFrame d m g l true → ⊥
  one_turned m f g k l h i =
      let ax = ratio_cross no_square m.a f.x k g.x l h.reduced_a.positive h.a i.a in
      let by = ratio_cross no_square m.b f.y k g.y l h.reduced_b.positive h.b i.b in
      let cy = ratio_cross no_square m.c (neg f.y) k g.y l h.reduced_c.positive h.c i.c in
      let ex = ratio_cross no_square m.e f.x k (neg g.x) l h.reduced_e.positive h.e i.e in
      let ex_back : mul d (neg f.x) l ≡ mul d g.x k =
      derived (quadratic_ring d) (f.x ∷ g.x ∷ k ∷ l ∷ []) (λ a b k l. negative a ⊗ l ≐ b ⊗ k from (negative (numeral 1), a ⊗ l ≐ negative b ⊗ k) ∷ []) refl (ex, tt) in
      no_length f k (not_zero h.positive) h.length (opposite_product f.x g.x k l (not_zero i.positive) ax ex_back) (opposite_product f.y g.y k l (not_zero i.positive) by cy)

  -- two frames of one matrix turn the orientation alike
  frame_turns : (m : Matrix) (f g : PlaneVector) (k l : Quadratic) (s t : Bool) → HasFrame d m f k s → HasFrame d m g l t → s ≡ t
  frame_turns m f g k l true true h i = refl
  frame_turns m f g k l false false h i = refl
  frame_turns m f g k l false true h i = absurd (one_turned m f g k l h i)
  frame_turns m f g k l true false h i = absurd (one_turned m g f l k i h)

  -- matrices are equal where their frames point the same way
  frame_equal : (m n : Matrix) (f g : PlaneVector) (k l : Quadratic) (t : Bool) → HasFrame d m f k t → HasFrame d n g l t → mul d f.x l ≡ mul d g.x k → mul d f.y l ≡ mul d g.y k → m ≡ n
  frame_equal m n f g k l t h i ex ey =
      let some = not_zero h.positive in
      let other = not_zero i.positive in
      let a = ratio_equal no_square m.a n.a f.x k g.x l h.reduced_a i.reduced_a some other h.a i.a ex in
      let b = ratio_equal no_square m.b n.b f.y k g.y l h.reduced_b i.reduced_b some other h.b i.b ey in
      let c = ratio_equal no_square m.c n.c (second_x t f) k (second_x t g) l h.reduced_c i.reduced_c some other h.c i.c (second_x_alike t ey) in
      let e = ratio_equal no_square m.e n.e (second_y t f) k (second_y t g) l h.reduced_e i.reduced_e some other h.e i.e (second_y_alike t ex) in
      λ j. record { a = a j; b = b j; c = c j; e = e j }
    where
      negated_alike : (x y k l : Quadratic) → mul d x l ≡ mul d y k → mul d (neg x) l ≡ mul d (neg y) k
      negated_alike x y k l e = derived (quadratic_ring d) (x ∷ y ∷ k ∷ l ∷ []) (λ x y k l. negative x ⊗ l ≐ negative y ⊗ k from (negative (numeral 1), x ⊗ l ≐ y ⊗ k) ∷ []) refl (e, tt)

      second_x_alike : (t : Bool) → mul d f.y l ≡ mul d g.y k → mul d (second_x t f) l ≡ mul d (second_x t g) k
      second_x_alike true e = e
      second_x_alike false e = negated_alike f.y g.y k l e

      second_y_alike : (t : Bool) → mul d f.x l ≡ mul d g.x k → mul d (second_y t f) l ≡ mul d (second_y t g) k
      second_y_alike true e = negated_alike f.x g.x k l e
      second_y_alike false e = e

  -- ---- the orientation

  determinant : (t : Bool) (f : PlaneVector) → add (mul d f.x (second_y t f)) (neg (mul d f.y (second_x t f))) ≡ (if t then neg (norm d f) else norm d f)
  determinant true f = identity (quadratic_ring d) (f.x ∷ f.y ∷ []) (λ a b. (a ⊗ negative a) ⊕ negative (b ⊗ b) ≐ negative ((a ⊗ a) ⊕ (b ⊗ b))) refl
  determinant false f = identity (quadratic_ring d) (f.x ∷ f.y ∷ []) (λ a b. (a ⊗ a) ⊕ negative (b ⊗ negative b) ≐ (a ⊗ a) ⊕ (b ⊗ b)) refl

  -- the numerator of a fraction has the sign of what it is over a positive number
  positive_numerator : (x : Fraction) (n k : Quadratic) → 0 < x.den → IsPositive d k → IsRatio d x n k → IsPositive d n → IsPositive d x.num
  positive_numerator x n k up kp r np =
      signs.positive_of_mul_left (quadratic_order no_square) kp (subst (IsPositive d) (sym r) ((quadratic_order no_square).mul_positive (whole-positive d x.den up) np))

  -- the orientation is turned as the frame says
  pub frame_turned : (m : Matrix) (f : PlaneVector) (k : Quadratic) (t : Bool) → HasFrame d m f k t → is_turned d m ≡ t
  frame_turned m f k t h =
      by t (difference (product d m.a m.e) (product d m.b m.c)) determinant_positive (subst (λ z. IsRatio d (difference (product d m.a m.e) (product d m.b m.c)) z (mul d k k)) (determinant t f) ratio)
    where
      ae_positive : 0 < (product d m.a m.e).den
      ae_positive = (canonical_product d m.a m.e h.reduced_a.positive h.reduced_e.positive).positive

      bc_positive : 0 < (product d m.b m.c).den
      bc_positive = (canonical_product d m.b m.c h.reduced_b.positive h.reduced_c.positive).positive

      determinant_positive : 0 < (difference (product d m.a m.e) (product d m.b m.c)).den
      determinant_positive = (canonical_sum (product d m.a m.e) (negated (product d m.b m.c)) ae_positive bc_positive).positive

      square : IsPositive d (mul d k k)
      square = (quadratic_order no_square).mul_positive h.positive h.positive

      ratio : IsRatio d (difference (product d m.a m.e) (product d m.b m.c)) (add (mul d f.x (second_y t f)) (neg (mul d f.y (second_x t f)))) (mul d k k)
      ratio =
          ratio_sum_over_one no_square (product d m.a m.e) (negated (product d m.b m.c)) (mul d f.x (second_y t f)) (neg (mul d f.y (second_x t f))) (mul d k k) ae_positive bc_positive (not_zero square)
          (ratio_product no_square m.a m.e f.x k (second_y t f) k h.reduced_a.positive h.reduced_e.positive h.a h.e)
          (ratio_negated d (product d m.b m.c) (mul d f.y (second_x t f)) (mul d k k) (ratio_product no_square m.b m.c f.y k (second_x t f) k h.reduced_b.positive h.reduced_c.positive h.b h.c))

      by : (t : Bool) (x : Fraction) → 0 < x.den → IsRatio d x (if t then neg (norm d f) else norm d f) (mul d k k) → is_lt (sign d x.num) ≡ t
      by false x up r = ap is_lt (sign-positive d x.num (positive_numerator x (norm d f) (mul d k k) up square r (subst (IsPositive d) (sym h.length) square)))
      by true x up r =
          ap is_lt (sign-negative d x.num (positive_numerator (negated x) (norm d f) (mul d k k) up square
          (subst (λ z. IsRatio d (negated x) z (mul d k k)) (ring.neg_neg (quadratic_ring d) (norm d f)) (ratio_negated d x (neg (norm d f)) (mul d k k) r))
          (subst (IsPositive d) (sym h.length) square)))

  -- ---- a product times a reflection, once and twice

  module _ (m : Matrix) (f : PlaneVector) (k : Quadratic) (t : Bool) (h : HasFrame d m f k t) (den : ℕ) (p : Point) (v : PlaneVector) (is : IsSide den p v) where
    abbrev after : Matrix
    after = times d m (mirror d p)

    after_frame : HasFrame d after (reflected d f v) (mul d k (norm d v)) (not t)
    after_frame = frame_times m f k t den p v h is

    -- the orientation is turned
    pub times_turns : is_turned d after ≡ not (is_turned d m)
    times_turns = frame_turned after (reflected d f v) (mul d k (norm d v)) (not t) after_frame ∙ ap not (sym (frame_turned m f k t h))

    -- so it is another product
    pub times_differs : after ≢ m
    times_differs e = not_fixed t (frame_turns m (reflected d f v) f (mul d k (norm d v)) k (not t) t (subst (λ n. HasFrame d n (reflected d f v) (mul d k (norm d v)) (not t)) e after_frame) h)
      where
        not_fixed : (b : Bool) → not b ≡ b → ⊥
        not_fixed true e = absurd cc
        not_fixed false e = absurd cc

    twice_x : (f v : PlaneVector) (k : Quadratic) → mul d (reflected d (reflected d f v) v).x k ≡ mul d f.x (mul d (mul d k (norm d v)) (norm d v))
    twice_x f v k =
        identity (quadratic_ring d) (f.x ∷ f.y ∷ v.x ∷ v.y ∷ k ∷ [])
        (λ a b x y k. let u = (x ⊗ x) ⊕ negative (y ⊗ y) in let w = (x ⊗ y) ⊕ (x ⊗ y) in let l = (x ⊗ x) ⊕ (y ⊗ y) in let g = (a ⊗ u) ⊕ (b ⊗ w) in let h = (a ⊗ w) ⊖ (b ⊗ u) in
        ((g ⊗ u) ⊕ (h ⊗ w)) ⊗ k ≐ a ⊗ ((k ⊗ l) ⊗ l)) refl

    twice_y : (f v : PlaneVector) (k : Quadratic) → mul d (reflected d (reflected d f v) v).y k ≡ mul d f.y (mul d (mul d k (norm d v)) (norm d v))
    twice_y f v k =
        identity (quadratic_ring d) (f.x ∷ f.y ∷ v.x ∷ v.y ∷ k ∷ [])
        (λ a b x y k. let u = (x ⊗ x) ⊕ negative (y ⊗ y) in let w = (x ⊗ y) ⊕ (x ⊗ y) in let l = (x ⊗ x) ⊕ (y ⊗ y) in let g = (a ⊗ u) ⊕ (b ⊗ w) in let h = (a ⊗ w) ⊖ (b ⊗ u) in
        ((g ⊗ w) ⊖ (h ⊗ u)) ⊗ k ≐ b ⊗ ((k ⊗ l) ⊗ l)) refl

    -- the same reflection once more leads back
    pub times_back : times d after (mirror d p) ≡ m
    times_back =
        frame_equal (times d after (mirror d p)) m (reflected d (reflected d f v) v) f (mul d (mul d k (norm d v)) (norm d v)) k t
        (subst (HasFrame d (times d after (mirror d p)) (reflected d (reflected d f v) v) (mul d (mul d k (norm d v)) (norm d v))) (twice_not t)
        (frame_times after (reflected d f v) (mul d k (norm d v)) (not t) den p v after_frame is)) h (twice_x f v k) (twice_y f v k)
      where
        twice_not : (b : Bool) → not (not b) ≡ b
        twice_not true = refl
        twice_not false = refl

  -- ---- images

  -- what a vector with fractions over a denominator is taken to
  module _ (m : Matrix) (f : PlaneVector) (k : Quadratic) (t : Bool) (h : HasFrame d m f k t) (den : ℕ) (p : Point) (v : PlaneVector) (is : IsSide den p v) where
    over_not_zero : mul d k (whole den) ≢ nil
    over_not_zero = product_not_zero no_square k (whole den) (not_zero h.positive) (whole_not_zero den is.den_positive)

    pub image_x : IsRatio d (image d m p).x (dot d f v) (mul d k (whole den))
    unfolding image
    image_x =
        ratio_sum_over_one no_square (product d m.a p.x) (product d m.b p.y) (mul d f.x v.x) (mul d f.y v.y) (mul d k (whole den)) (canonical_product d m.a p.x h.reduced_a.positive is.x.positive).positive
        (canonical_product d m.b p.y h.reduced_b.positive is.y.positive).positive over_not_zero (ratio_product no_square m.a p.x f.x k v.x (whole den) h.reduced_a.positive is.x.positive h.a (ratio_x den p v is))
        (ratio_product no_square m.b p.y f.y k v.y (whole den) h.reduced_b.positive is.y.positive h.b (ratio_y den p v is))

    image_y_plain : IsRatio d (image d m p).y (add (mul d (second_x t f) v.x) (mul d (second_y t f) v.y)) (mul d k (whole den))
    unfolding image
    image_y_plain =
        ratio_sum_over_one no_square (product d m.c p.x) (product d m.e p.y) (mul d (second_x t f) v.x) (mul d (second_y t f) v.y) (mul d k (whole den))
        (canonical_product d m.c p.x h.reduced_c.positive is.x.positive).positive (canonical_product d m.e p.y h.reduced_e.positive is.y.positive).positive over_not_zero
        (ratio_product no_square m.c p.x (second_x t f) k v.x (whole den) h.reduced_c.positive is.x.positive h.c (ratio_x den p v is))
        (ratio_product no_square m.e p.y (second_y t f) k v.y (whole den) h.reduced_e.positive is.y.positive h.e (ratio_y den p v is))

    pub image_y : IsRatio d (image d m p).y (if t then neg (cross d f v) else cross d f v) (mul d k (whole den))
    image_y = subst (λ z. IsRatio d (image d m p).y z (mul d k (whole den))) (lower_first t f v ∙ as_sign t) image_y_plain
      where
        as_sign : (t : Bool) → second_x (not t) (record { x = dot d f v; y = cross d f v }) ≡ (if t then neg (cross d f v) else cross d f v)
        as_sign true = refl
        as_sign false = refl

    pub image_canonical : IsCanonical (image d m p).x × IsCanonical (image d m p).y
    unfolding image
    image_canonical = (
      canonical_sum (product d m.a p.x) (product d m.b p.y) (canonical_product d m.a p.x h.reduced_a.positive is.x.positive).positive (canonical_product d m.b p.y h.reduced_b.positive is.y.positive).positive,
      canonical_sum (product d m.c p.x) (product d m.e p.y) (canonical_product d m.c p.x h.reduced_c.positive is.x.positive).positive (canonical_product d m.e p.y h.reduced_e.positive is.y.positive).positive,
    )

  kept_dot : (f v : PlaneVector) → dot d (reflected d f v) v ≡ mul d (norm d v) (dot d f v)
  kept_dot f v =
      identity (quadratic_ring d) (f.x ∷ f.y ∷ v.x ∷ v.y ∷ [])
      (λ a b x y. let u = (x ⊗ x) ⊕ negative (y ⊗ y) in let w = (x ⊗ y) ⊕ (x ⊗ y) in
      (((a ⊗ u) ⊕ (b ⊗ w)) ⊗ x) ⊕ (((a ⊗ w) ⊖ (b ⊗ u)) ⊗ y) ≐ ((x ⊗ x) ⊕ (y ⊗ y)) ⊗ ((a ⊗ x) ⊕ (b ⊗ y))) refl

  turned_cross : (f v : PlaneVector) → cross d (reflected d f v) v ≡ neg (mul d (norm d v) (cross d f v))
  turned_cross f v =
      identity (quadratic_ring d) (f.x ∷ f.y ∷ v.x ∷ v.y ∷ [])
      (λ a b x y. let u = (x ⊗ x) ⊕ negative (y ⊗ y) in let w = (x ⊗ y) ⊕ (x ⊗ y) in
      (((a ⊗ u) ⊕ (b ⊗ w)) ⊗ y) ⊖ (((a ⊗ w) ⊖ (b ⊗ u)) ⊗ x) ≐ negative (((x ⊗ x) ⊕ (y ⊗ y)) ⊗ ((a ⊗ y) ⊖ (b ⊗ x)))) refl

  -- a side has the same image under a product and under that times its reflection
  pub image_kept : (m : Matrix) (f : PlaneVector) (k : Quadratic) (t : Bool) → HasFrame d m f k t → (den : ℕ) (p : Point) (v : PlaneVector) → IsSide den p v
      → image d (times d m (mirror d p)) p ≡ image d m p
  image_kept m f k t h den p v is =
      let n = times d m (mirror d p) in
      let g = reflected d f v in
      let l = mul d k (norm d v) in
      let i = frame_times m f k t den p v h is in
      let D = whole den in
      let some = over_not_zero m f k t h den p v is in
      let other = over_not_zero n g l (not t) i den p v is in
      let x = ratio_equal no_square (image d n p).x (image d m p).x (dot d g v) (mul d l D) (dot d f v) (mul d k D) (image_canonical n g l (not t) i den p v is).0 (image_canonical m f k t h den p v is).0 other some
      (image_x n g l (not t) i den p v is) (image_x m f k t h den p v is) (scaled_dot (kept_dot f v)) in
      let y = ratio_equal no_square (image d n p).y (image d m p).y (if not t then neg (cross d g v) else cross d g v) (mul d l D) (if t then neg (cross d f v) else cross d f v) (mul d k D)
      (image_canonical n g l (not t) i den p v is).1 (image_canonical m f k t h den p v is).1 other some
      (image_y n g l (not t) i den p v is) (image_y m f k t h den p v is) (scaled_cross t (turned_cross f v)) in
      point_equal (image d n p) (image d m p) x y
    where
      point_equal : (p q : Point) → p.x ≡ q.x → p.y ≡ q.y → p ≡ q
      point_equal p q e f = λ i. record { x = e i; y = f i }

      scaled_dot : dot d (reflected d f v) v ≡ mul d (norm d v) (dot d f v) → mul d (dot d (reflected d f v) v) (mul d k (whole den)) ≡ mul d (dot d f v) (mul d (mul d k (norm d v)) (whole den))
      scaled_dot e =
          derived (quadratic_ring d) (dot d (reflected d f v) v ∷ dot d f v ∷ norm d v ∷ k ∷ whole den ∷ []) (λ g f l k D. g ⊗ (k ⊗ D) ≐ f ⊗ ((k ⊗ l) ⊗ D) from (k ⊗ D, g ≐ l ⊗ f) ∷ []) refl (e, tt)

      scaled_cross : (t : Bool) → cross d (reflected d f v) v ≡ neg (mul d (norm d v) (cross d f v))
          → mul d (if not t then neg (cross d (reflected d f v) v) else cross d (reflected d f v) v) (mul d k (whole den)) ≡ mul d (if t then neg (cross d f v) else cross d f v) (mul d (mul d k (norm d v)) (whole den))
      scaled_cross true e =
          derived (quadratic_ring d) (cross d (reflected d f v) v ∷ cross d f v ∷ norm d v ∷ k ∷ whole den ∷ []) (λ g f l k D. g ⊗ (k ⊗ D) ≐ negative f ⊗ ((k ⊗ l) ⊗ D) from (k ⊗ D, g ≐ negative (l ⊗ f)) ∷ []) refl (e, tt)
      scaled_cross false e =
          derived (quadratic_ring d) (cross d (reflected d f v) v ∷ cross d f v ∷ norm d v ∷ k ∷ whole den ∷ []) (λ g f l k D. negative g ⊗ (k ⊗ D) ≐ f ⊗ ((k ⊗ l) ⊗ D) from (negative (k ⊗ D), g ≐ negative (l ⊗ f)) ∷ []) refl (e, tt)
