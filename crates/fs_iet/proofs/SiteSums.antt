-- The sums of widths and the return vectors, side after side, up to the first site.
use Rattle.std.proofs.Common.{◌≡◌, ℕ, ◌+◌, if◌then◌else◌, Bool, true, false, Ok, Err, List, drop, sym, ap, ◌∙◌, refl}
use Rattle.std.specs.Ordering.{is_lt}
use Rattle.std.specs.declared.cmp.Ordering.{Ordering}
use Rattle.std.specs.declared.cmp.Ordering.TheVariants.{Less, Equal, Greater}
use Rattle.fs_lists.proofs.Items.{IsItem, drop_item}
use Rattle.fs_quadratic.specs.Ring as ring
use Rattle.fs_quadratic.specs.Ring.{Quadratic, sign}
use Rattle.fs_quadratic.specs.declared.steps.Place.{Place}
use Rattle.fs_quadratic.specs.Radicand.{IsNoSquare}
use Rattle.fs_quadratic.proofs.Signs.{sign-negative, negative_of_sign}
use Rattle.fs_plane.specs.declared.corners.Corner.{Corner}
use Rattle.fs_plane.specs.declared.sites.Site.TheVariants as sites
use Rattle.fs_plane.specs.Vector.{PlaneVector}
use Rattle.fs_gluing.specs.CrossingMap.{across, IsOutgoing}
use Rattle.fs_gluing.specs.Polygons.{HasSide}
use Rattle.fs_gluing.specs.Surface.{GluedPolygons}
use Rattle.fs_iet.specs.ExchangeSites.{sum_after, checked_return, checked_returns, returned}

module _ (s : GluedPolygons) (v : PlaneVector) where
  -- the sides before i are in the sum
  pub record SumsSidesUpTo (sides : List Corner) (i : ℕ) (sum : Quadratic) : Type 0 where
    pub is : sum_after s v ring.zero sides ≡ sum_after s v sum (drop i sides)

  -- ---- return vectors

  -- the return vectors of the sides before i don't overflow
  pub record FitReturnsUpTo (sides : List Corner) (i : ℕ) : Type 0 where
    pub is : checked_returns s v sides ≡ checked_returns s v (drop i sides)

  -- the test of a side
  pub test_outgoing : (f : Corner) → IsOutgoing s v f → is_lt (sign s.d (across s v f)) ≡ true
  test_outgoing f h = ap is_lt (sign-negative s.d (across s v f) h.leaves)

  test_other : IsNoSquare s.d → (f : Corner) → HasSide s.polygons f → ¬ IsOutgoing s v f → is_lt (sign s.d (across s v f)) ≡ false
  test_other no_square f has n = by_sign (sign s.d (across s v f)) refl
    where
      by_sign : (r : Ordering) → sign s.d (across s v f) ≡ r → is_lt r ≡ false
      by_sign Less e = absurd (n (record { side = has; leaves = negative_of_sign no_square (across s v f) e }))
      by_sign Equal e = refl
      by_sign Greater e = refl

  -- the sides from i on, by the test of the first
  from_side : (sides : List Corner) (i : ℕ) (f : Corner) (test : Bool) → IsItem sides i f → is_lt (sign s.d (across s v f)) ≡ test → FitReturnsUpTo sides i
      → checked_returns s v sides ≡ (if test then returned s v f (checked_return s f) (checked_returns s v (drop (i + 1) sides)) else checked_returns s v (drop (i + 1) sides))
  from_side sides i f test item is h =
      h.is ∙ ap (checked_returns s v) (drop_item sides i f item)
      ∙ ap (λ t. if t then returned s v f (checked_return s f) (checked_returns s v (drop (i + 1) sides)) else checked_returns s v (drop (i + 1) sides)) is

  -- with an outgoing side more
  pub returns_more : (sides : List Corner) (i : ℕ) (f : Corner) (back : PlaneVector) → IsItem sides i f → IsOutgoing s v f → Ok back ≡ checked_return s f → FitReturnsUpTo sides i → FitReturnsUpTo sides (i + 1)
  returns_more sides i f back item out here h = record {
    is = from_side sides i f true item (test_outgoing f out) h ∙ ap (λ r. returned s v f r (checked_returns s v (drop (i + 1) sides))) (sym here);
  }

  -- with another side more
  pub returns_other : IsNoSquare s.d → (sides : List Corner) (i : ℕ) (f : Corner) → HasSide s.polygons f → IsItem sides i f → ¬ IsOutgoing s v f → FitReturnsUpTo sides i → FitReturnsUpTo sides (i + 1)
  returns_other no_square sides i f has item n h = record { is = from_side sides i f false item (test_other no_square f has n) h }

  -- an outgoing side has a site, and it is the first
  pub returns_stop : (sides : List Corner) (i : ℕ) (f : Corner) (stop : Place) → IsItem sides i f → IsOutgoing s v f → Err stop ≡ checked_return s f → FitReturnsUpTo sides i
      → checked_returns s v sides ≡ Err (sites.Shift f.polygon f.side stop.0)
  returns_stop sides i f stop item out here h =
      from_side sides i f true item (test_outgoing f out) h ∙ ap (λ r. returned s v f r (checked_returns s v (drop (i + 1) sides))) (sym here)
