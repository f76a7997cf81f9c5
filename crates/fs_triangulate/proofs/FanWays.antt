-- The ways of a fan by numbers alone: which ones they are, and the place of each among the sides of a fan's triangles.
use Rattle.std.proofs.Common.{◌≡◌, ◌≢◌, ℕ, ◌+◌, ◌-◌, ◌*◌, ◌<◌, ◌≤◌, Some, refl, sym, ap, ◌∙◌, inl, inr, arith}
use Rattle.std.proofs.lemmas.Bool.{cases_eq}
use Rattle.std.proofs.lemmas.Bool.Decides.{nat_tests}
use Rattle.std.specs.List.{slice_get}
use Rattle.fs_gluing.specs.declared.triangulations.Way.{Way}
use Rattle.fs_gluing.specs.FirstCut.{ways_of}
use Rattle.fs_gluing.proofs.SurfaceCalls.NextCorner.{after}
use Rattle.fs_triangulate.specs.Fans.{IsInFan, from_first, between, to_first, half_edge_along, fan_triangle}

-- ways with the same corners are equal
way_eq : (v w : Way) → v.polygon ≡ w.polygon → v.from ≡ w.from → v.to ≡ w.to → v ≡ w
way_eq v w p f t = λ i. record { polygon = p i; from = f i; to = t i }

-- a way of the fan begins at a corner of the polygon
pub from_inside : (n : ℕ) (w : Way) → IsInFan n w → w.from < n
from_inside n w (from_first f t l) = omega arith
from_inside n w (between f t l) = omega arith
from_inside n w (to_first t f l) = omega arith

-- a way of a fan is one of each larger fan
pub in_larger_fan : (n m : ℕ) (w : Way) → n ≤ m → IsInFan n w → IsInFan m w
in_larger_fan n m w k (from_first f t l) = from_first f t (omega arith)
in_larger_fan n m w k (between f t l) = between f t (omega arith)
in_larger_fan n m w k (to_first t f l) = to_first t f (omega arith)

-- between other corners than 0 it leads to the next one
pub to_next : (n : ℕ) (w : Way) → IsInFan n w → w.from ≢ 0 → w.to ≢ 0 → w.to ≡ w.from + 1
to_next n w (from_first f t l) no_from no_to = absurd (no_from f)
to_next n w (between f t l) no_from no_to = t
to_next n w (to_first t f l) no_from no_to = absurd (no_to t)

-- ---- sides and diagonals

-- the way along a side of the polygon is one of the fan
pub side_in_fan : (n : ℕ) (w : Way) → 3 ≤ n → w.from < n → w.to ≡ after n w.from → IsInFan n w
side_in_fan n w three l e = elim (cases_eq w.from 0) [
  | inl first ↦ from_first first (let one = after_more n w.from (omega arith) in omega arith) (let one = after_more n w.from (omega arith) in omega arith)
  | inr other ↦ elim (cases_eq (w.from + 1) n) [
    | inl last ↦ to_first (e ∙ after_last n w.from last) (omega arith) (omega arith)
    | inr inner ↦ between (omega arith) (e ∙ after_more n w.from (omega arith)) (omega arith)
  ]
]
  where
    after_more : (n k : ℕ) → k + 1 < n → after n k ≡ k + 1
    after_more n k l = grind (arith, nat_tests)

    after_last : (n k : ℕ) → k + 1 ≡ n → after n k ≡ 0
    after_last n k e = grind (arith, nat_tests)

-- the way back
abbrev pub way_back : Way → Way
way_back w = record { polygon = w.polygon; from = w.to; to = w.from }

-- the way back along a diagonal is one of the fan
pub back_in_fan : (n : ℕ) (w : Way) → after n w.from ≢ w.to → IsInFan n w → IsInFan n (way_back w)
back_in_fan n w diagonal (from_first f t l) = to_first f (not_second n w.from w.to f t l diagonal) (omega arith)
  where
    not_second : (n from to : ℕ) → from ≡ 0 → 1 ≤ to → to + 2 ≤ n → after n from ≢ to → 2 ≤ to
    not_second n from to f t l d = grind (arith, nat_tests)
back_in_fan n w diagonal (between f t l) = absurd (diagonal (is_next n w.from w.to t l))
  where
    is_next : (n from to : ℕ) → to ≡ from + 1 → from + 2 ≤ n → after n from ≡ to
    is_next n from to t l = grind (arith, nat_tests)
back_in_fan n w diagonal (to_first t f l) = from_first t (omega arith) (not_last n w.from w.to t l diagonal)
  where
    not_last : (n from to : ℕ) → to ≡ 0 → from + 1 ≤ n → after n from ≢ to → from + 2 ≤ n
    not_last n from to t l d = grind (arith, nat_tests)

-- ---- the place of a way

-- the way is a side of a face of the fan, and the half-edge along it has the number of this side
pub record HasPlace (n : ℕ) (w : Way) : Type 0 where
  pub face : ℕ
  pub side : ℕ
  pub inside : face + 2 < n
  pub third : side < 3
  pub number : (base : ℕ) → half_edge_along base w ≡ 3 * (base + face) + side
  pub is : slice_get (ways_of (fan_triangle w.polygon face)) side ≡ Some w

pub place_of : (n : ℕ) (w : Way) → IsInFan n w → HasPlace n w
place_of n w (from_first f t l) = record {
  face = w.to - 1;
  side = 0;
  inside = omega arith;
  third = omega arith;
  number = λ base. number_is base w f t;
  is = ap Some (way_eq (record { polygon = w.polygon; from = 0; to = w.to - 1 + 1 }) w refl (sym f) (omega arith));
}
  where
    number_is : (base : ℕ) (w : Way) → w.from ≡ 0 → 1 ≤ w.to → half_edge_along base w ≡ 3 * (base + (w.to - 1)) + 0
    number_is base w f t = grind (arith, nat_tests)
place_of n w (between f t l) = record {
  face = w.from - 1;
  side = 1;
  inside = omega arith;
  third = omega arith;
  number = λ base. number_is base w f t;
  is = ap Some (way_eq (record { polygon = w.polygon; from = w.from - 1 + 1; to = w.from - 1 + 2 }) w refl (omega arith) (omega arith));
}
  where
    number_is : (base : ℕ) (w : Way) → 1 ≤ w.from → w.to ≡ w.from + 1 → half_edge_along base w ≡ 3 * (base + (w.from - 1)) + 1
    number_is base w f t = grind (arith, nat_tests)
place_of n w (to_first t f l) = record {
  face = w.from - 2;
  side = 2;
  inside = omega arith;
  third = omega arith;
  number = λ base. number_is base w t f;
  is = ap Some (way_eq (record { polygon = w.polygon; from = w.from - 2 + 2; to = 0 }) w refl (omega arith) (sym t));
}
  where
    number_is : (base : ℕ) (w : Way) → w.to ≡ 0 → 2 ≤ w.from → half_edge_along base w ≡ 3 * (base + (w.from - 2)) + 2
    number_is base w t f = grind (arith, nat_tests)
