-- The tests of the corners of a polygon, corner by corner, and the count of rises.
use Rattle.std.proofs.Common.{◌≡◌, ◌≢◌, ◌⊎◌, inl, inr, ◌↔◌, ℕ, zero, suc, ◌+◌, ◌-◌, ◌≤◌, ◌<◌, Bool, true, false, IsTrue, List, [], ◌∷◌, ◌++◌, Result, Ok, Err, length, drop, sym, ap, ◌∙◌, refl, subst, arith, unwrap_or}
use Rattle.std.specs.List.{AllByRecursion, count_by, slice_get}
use Rattle.std.specs.declared.cmp.Ordering.{Ordering}
use Rattle.std.specs.Ordering.{is_gt}
use Rattle.std.specs.declared.cmp.Ordering.TheVariants.{Less, Equal, Greater}
use Rattle.fs_lists.proofs.Items.{IsItem, drop_item}
use Rattle.fs_lists.proofs.Results.{err_equal, ok_not_err}
use Rattle.fs_quadratic.specs.Ring.{sign}
use Rattle.fs_plane.specs.declared.sites.Site.{Site}
use Rattle.fs_plane.specs.declared.corners.Corner.{Corner}
use Rattle.fs_quadratic.specs.declared.steps.Place.{Place}
use Rattle.fs_plane.specs.declared.sites.Site.TheVariants as sites
use Rattle.fs_quadratic.specs.Checked.{◌>>=◌, place, IsFirstOfThree, first, second, third}
use Rattle.fs_plane.specs.Formulas.{cross_after, dot_after, is_above_zero, by_bend, is_convex_after}
use Rattle.fs_plane.specs.Vector.{vector_zero, IsAllowedCorner, PlaneVector}
use Rattle.fs_plane.proofs.FormulaLaws.{cross_stops, dot_stops}
use Rattle.fs_gluing.specs.declared.faults.BuildStop.{BuildStop}
use Rattle.fs_gluing.specs.declared.faults.Fault.TheVariants as faults
use Rattle.fs_gluing.specs.declared.faults.BuildStop.TheVariants as stops
use Rattle.fs_gluing.specs.Convex.{CornerSides, corners_of, corners_from, last_side, is_rise}
use Rattle.fs_gluing.specs.FirstFault.{PolygonTest, corner_fits, corner_convex, PassesIn, corner_tests}
use Rattle.fs_gluing.specs.TestsInOrder.{PassesBefore, IsFirstStop}
use Rattle.fs_gluing.proofs.Base.TestsInOrder.{passes_before_more, passes_before_same, first_stop_of_rest, first_stop_of_head, first_stop_of_prefix}
use Rattle.fs_gluing.proofs.Base.Equality.{false_not_true}
use Rattle.fs_gluing.proofs.Polygon.Boundary.{polygon_stop}

last_side_at : (side : PlaneVector) (sides : List PlaneVector) → unwrap_or (slice_get (side ∷ sides) (length sides)) vector_zero ≡ last_side (side ∷ sides)
last_side_at side [] = refl
last_side_at side (next ∷ sides) = last_side_at next sides

-- the last side is the item at the last index
pub last_side_is : (sides : List PlaneVector) → unwrap_or (slice_get sides (length sides - 1)) vector_zero ≡ last_side sides
last_side_is [] = refl
last_side_is (side ∷ sides) =
    let e : length (side ∷ sides) - 1 ≡ length sides = omega arith in
    ap (λ n. unwrap_or (slice_get (side ∷ sides) n) vector_zero) e ∙ last_side_at side sides

-- ---- the places of the test of a corner

-- a chain that stops: its first step stops, or what comes after its value
bind_stops : {A B : Type 0} (first_step : Result A Place) (next : A → Result B Place) (stop : Place) → first_step >>= next ≡ Err stop → (first_step ≡ Err stop) ⊎ ((x : A) × (next x ≡ Err stop))
bind_stops (Ok x) next stop e = inr (x, e)
bind_stops (Err other) next stop e = inl (ap (λ y. Err y) (err_equal other stop e))

-- the place is one of n after those before
abbrev IsPlaceOf : ℕ → ℕ → Place → Type 0
IsPlaceOf before n stop = (before < stop.0) × (stop.0 ≤ before + n)

of_three : (P Q S : Type 0) (before : ℕ) (stop : Place) → IsFirstOfThree P Q S before stop → IsPlaceOf before 3 stop
of_three P Q S before stop (first fails is) = let e : stop.0 ≡ before + 1 = ap (λ (x : Place). x.0) is in (omega arith, omega arith)
of_three P Q S before stop (second passes fails is) = let e : stop.0 ≡ before + 2 = ap (λ (x : Place). x.0) is in (omega arith, omega arith)
of_three P Q S before stop (third passes passes' fails is) = let e : stop.0 ≡ before + 3 = ap (λ (x : Place). x.0) is in (omega arith, omega arith)

bend_stops : (straight : Bool) (o : Ordering) (along : Result Bool Place) (stop : Place) → by_bend straight o along ≡ Err stop → along ≡ Err stop
bend_stops straight Greater along stop e = absurd (ok_not_err true stop e)
bend_stops straight Less along stop e = absurd (ok_not_err false stop e)
bend_stops true Equal along stop e = e
bend_stops false Equal along stop e = absurd (ok_not_err false stop e)

-- the test of a corner has the places 1 to 6
convex_place : (straight : Bool) (d : ℕ) (a b : PlaneVector) (stop : Place) → is_convex_after 0 straight d a b ≡ Err stop → IsPlaceOf 0 6 stop
unfolding is_convex_after
convex_place straight d a b stop e =
    elim (bind_stops (cross_after 0 d a b) (λ x. by_bend straight (sign d x) (is_above_zero d (dot_after 3 d a b))) stop e) [
      | inl f ↦ let p = of_three _ _ _ 0 stop ((cross_stops 0 d a b stop).0 f) in let low = p.0 in let high = p.1 in (omega arith, omega arith)
      | inr f ↦ elim (bind_stops (dot_after 3 d a b) (λ x. Ok (is_gt (sign d x))) stop (bend_stops straight (sign d f.0) _ stop f.1)) [
        | inl g ↦ let p = of_three _ _ _ 3 stop ((dot_stops 3 d a b stop).0 g) in let low = p.0 in let high = p.1 in (omega arith, omega arith)
        | inr g ↦ absurd (ok_not_err (is_gt (sign d g.0)) stop g.1)
      ]
    ]

-- ---- one corner

same_place : {A : Type 0} (p q : ℕ) → ◌≡◌ {A = Result A Place} (Err (place p)) (Err (place q)) → p ≡ q
same_place p q h = ap (λ (x : Place). x.0) (err_equal (place p) (place q) h)

module _ (straight : Bool) (d : ℕ) (sides : List PlaneVector) (j : ℕ) (corner : CornerSides) where
  -- the computation of the test of the two sides
  abbrev tested : Result Bool Place
  tested = is_convex_after 0 straight d corner.before corner.after

  -- the tests that it doesn't overflow
  abbrev fits : List PolygonTest
  fits =
      corner_fits j corner 1 ∷ corner_fits j corner 2 ∷ corner_fits j corner 3 ∷ corner_fits j corner 4 ∷ corner_fits j corner 5 ∷ corner_fits j corner 6 ∷ []

  -- where the test has a value, it doesn't overflow
  corner_known : (held : Bool) → tested ≡ Ok held → AllByRecursion (PassesIn straight d sides) fits
  corner_known held e = (not_err 1, (not_err 2, (not_err 3, (not_err 4, (not_err 5, (not_err 6, tt))))))
    where
      not_err : (p : ℕ) → tested ≢ Err (place p)
      not_err p f = ok_not_err held (place p) (sym e ∙ f)

  -- a corner that isn't allowed gives `NotConvex`
  pub corner_not_convex : (i : ℕ) → tested ≡ Ok false → (IsTrue false ↔ IsAllowedCorner straight d corner.before corner.after)
      → IsFirstStop (PassesIn straight d sides) (corner_tests j (corner ∷ [])) (polygon_stop i sides) (stops.Fault (faults.NotConvex (record { polygon = i; side = j })))
  corner_not_convex i e means =
      first_stop_of_rest _ _ (corner_convex j corner ∷ []) _ _
      (record { before = fits; whole = refl; passed = corner_known false e })
      (first_stop_of_head (PassesIn straight d sides) (corner_convex j corner) [] (polygon_stop i sides) _ refl (λ convex. false_not_true (means.1 convex)))

  -- where it overflows at one place, it overflows at no other
  elsewhere : (p q : ℕ) → tested ≡ Err (place p) → q ≢ p → tested ≢ Err (place q)
  elsewhere p q e other f = other (same_place q p (sym f ∙ e))

  -- the overflow at place p of the corner is the stop of its first failed test
  abbrev StopsAt : ℕ → ℕ → Type 0
  StopsAt i p = IsFirstStop (PassesIn straight d sides) (corner_tests j (corner ∷ [])) (polygon_stop i sides) (stops.Overflow (sites.Corner i j p))

  fails_at : (i p : ℕ) (prefix rest : List PolygonTest) → corner_tests j (corner ∷ []) ≡ prefix ++ corner_fits j corner p ∷ rest → AllByRecursion (PassesIn straight d sides) prefix → tested ≡ Err (place p) → StopsAt i p
  fails_at i p prefix rest whole passed e =
      first_stop_of_rest _ _ (corner_fits j corner p ∷ rest) _ _ (record { before = prefix; whole = whole; passed = passed })
      (first_stop_of_head (PassesIn straight d sides) (corner_fits j corner p) rest (polygon_stop i sides) _ refl (λ passes. passes e))

  stops_at : (i p : ℕ) → 0 < p → p ≤ 6 → tested ≡ Err (place p) → StopsAt i p
  stops_at i zero low high e = absurd (omega arith)
  stops_at i (suc zero) low high e = fails_at i 1 [] _ refl tt e
  stops_at i (suc (suc zero)) low high e = fails_at i 2 (corner_fits j corner 1 ∷ []) _ refl (elsewhere 2 1 e (omega arith), tt) e
  stops_at i (suc (suc (suc zero))) low high e =
      fails_at i 3 (corner_fits j corner 1 ∷ corner_fits j corner 2 ∷ []) _ refl (elsewhere 3 1 e (omega arith), (elsewhere 3 2 e (omega arith), tt)) e
  stops_at i (suc (suc (suc (suc zero)))) low high e =
      fails_at i 4 (corner_fits j corner 1 ∷ corner_fits j corner 2 ∷ corner_fits j corner 3 ∷ []) _ refl
      (elsewhere 4 1 e (omega arith), (elsewhere 4 2 e (omega arith), (elsewhere 4 3 e (omega arith), tt))) e
  stops_at i (suc (suc (suc (suc (suc zero))))) low high e =
      fails_at i 5 (corner_fits j corner 1 ∷ corner_fits j corner 2 ∷ corner_fits j corner 3 ∷ corner_fits j corner 4 ∷ []) _ refl
      (elsewhere 5 1 e (omega arith), (elsewhere 5 2 e (omega arith), (elsewhere 5 3 e (omega arith), (elsewhere 5 4 e (omega arith), tt)))) e
  stops_at i (suc (suc (suc (suc (suc (suc zero)))))) low high e =
      fails_at i 6 (corner_fits j corner 1 ∷ corner_fits j corner 2 ∷ corner_fits j corner 3 ∷ corner_fits j corner 4 ∷ corner_fits j corner 5 ∷ []) _ refl
      (elsewhere 6 1 e (omega arith), (elsewhere 6 2 e (omega arith), (elsewhere 6 3 e (omega arith), (elsewhere 6 4 e (omega arith), (elsewhere 6 5 e (omega arith), tt))))) e
  stops_at i (suc (suc (suc (suc (suc (suc (suc p))))))) low high e = absurd (omega arith)

  -- an overflow at place p is the stop of the first failed test
  pub corner_overflows : (i p : ℕ) (site : Site) → site ≡ sites.Corner i j p → tested ≡ Err (place p)
      → IsFirstStop (PassesIn straight d sides) (corner_tests j (corner ∷ [])) (polygon_stop i sides) (stops.Overflow site)
  corner_overflows i p site is e =
      let bounds = convex_place straight d corner.before corner.after (place p) e in
      let a : StopsAt i p = stops_at i p bounds.0 bounds.1 e in
      record { test = a.test; first = a.first; is = ap (λ s. stops.Overflow s) is ∙ a.is }

-- ---- all corners

-- the corners before j pass, and this side ends at corner j
pub record PassesCornersUpTo (straight : Bool) (d : ℕ) (sides : List PlaneVector) (j : ℕ) (before : PlaneVector) : Type 0 where
  pub passed : PassesBefore (PassesIn straight d sides) (corner_tests 0 (corners_of sides)) (corner_tests j (corners_from before (drop j sides)))

next_tests : (sides : List PlaneVector) (j : ℕ) (before side : PlaneVector) → IsItem sides j side
    → corner_tests j (corners_from before (drop j sides)) ≡ corner_tests j ((record { before = before; after = side }) ∷ []) ++ corner_tests (j + 1) (corners_from side (drop (j + 1) sides))
next_tests sides j before side item = ap (λ ss. corner_tests j (corners_from before ss)) (drop_item sides j side item)

-- one more corner passes
pub corners_more : (straight : Bool) (d : ℕ) (sides : List PlaneVector) (i j : ℕ) (before side : PlaneVector) (c : Corner) → c ≡ record { polygon = i; side = j } → IsItem sides j side → PassesCornersUpTo straight d sides j before
    → AllByRecursion (PassesIn straight d sides) (corner_tests c.side ((record { before = before; after = side }) ∷ [])) → PassesCornersUpTo straight d sides (j + 1) side
corners_more straight d sides i j before side c is item t a = record {
  passed = passes_before_more _ _ (corner_tests j ((record { before = before; after = side }) ∷ [])) _ (passes_before_same _ _ _ _ (next_tests sides j before side item) t.passed)
      (subst (λ (k : Corner). AllByRecursion (PassesIn straight d sides) (corner_tests k.side ((record { before = before; after = side }) ∷ []))) is a);
}

-- the next corner fails, and its stop is the first of all corners
pub corner_fails : (straight : Bool) (d : ℕ) (sides : List PlaneVector) (i j : ℕ) (before side : PlaneVector) (e : BuildStop) (c : Corner) → c ≡ record { polygon = i; side = j } → IsItem sides j side → PassesCornersUpTo straight d sides j before
    → IsFirstStop (PassesIn straight d sides) (corner_tests c.side ((record { before = before; after = side }) ∷ [])) (polygon_stop c.polygon sides) e
    → IsFirstStop (PassesIn straight d sides) (corner_tests 0 (corners_of sides)) (polygon_stop i sides) e
corner_fails straight d sides i j before side e c is item t a =
    first_stop_of_rest _ _ _ _ _ (passes_before_same _ _ _ _ (next_tests sides j before side item) t.passed)
    (first_stop_of_prefix _ _ _ _ _ (subst (λ (k : Corner). IsFirstStop (PassesIn straight d sides) (corner_tests k.side ((record { before = before; after = side }) ∷ [])) (polygon_stop k.polygon sides) e) is a))

-- ---- the count of rises

-- the rises so far plus those at the corners from j on are all rises
pub record CountsRisesUpTo (d : ℕ) (sides : List PlaneVector) (j : ℕ) (before : PlaneVector) (rises : ℕ) : Type 0 where
  pub few : rises ≤ j
  pub counted : rises + count_by (is_rise d) (corners_from before (drop j sides)) ≡ count_by (is_rise d) (corners_of sides)
