-- Where the sum of the widths and all return vectors don't overflow, the width and the return vector of each side don't either.
use Rattle.std.proofs.Common.{◌≡◌, if◌then◌else◌, Bool, true, false, Result, Ok, Err, IsOk, List, [], ◌∷◌, sym, ◌∙◌, refl, subst}
use Rattle.std.specs.List.{AllByRecursion}
use Rattle.std.specs.Ordering.{is_lt, is_gt}
use Rattle.fs_lists.proofs.Members.{All-member}
use Rattle.fs_quadratic.specs.Checked.{◌>>=◌, checked_sum}
use Rattle.fs_quadratic.specs.Ring as ring
use Rattle.fs_quadratic.specs.Ring.{Quadratic, sign}
use Rattle.fs_quadratic.specs.declared.steps.Place.{Place}
use Rattle.fs_plane.specs.declared.corners.Corner.{Corner}
use Rattle.fs_plane.specs.declared.sites.Site.{Site}
use Rattle.fs_plane.specs.Formulas.{cross_after}
use Rattle.fs_plane.specs.Vector.{PlaneVector}
use Rattle.fs_gluing.specs.CrossingMap.{across, IsOutgoing}
use Rattle.fs_gluing.specs.Polygons.{all_sides}
use Rattle.fs_gluing.specs.Surface.{GluedPolygons}
use Rattle.fs_gluing.specs.SurfaceSides.{vector_of}
use Rattle.fs_gluing.proofs.Sides.AllSides.{in_all_sides}
use Rattle.fs_iet.specs.ExchangeSites.{add_side, sum_after, measured, checked_total, checked_return, checked_returns, returned}
use Rattle.fs_iet.specs.Rows.{HaveWidths, HaveReturns}
use Rattle.fs_iet.proofs.SiteSums.{test_outgoing}

-- a computation that gives a value gives one in its first step
ok_of_bind : {A B : Type 0} (r : Result A Place) (next : A → Result B Place) → IsOk (r >>= next) → IsOk r
ok_of_bind (Ok x) next h = refl
ok_of_bind (Err stop) next h = cc

module _ (s : GluedPolygons) (v : PlaneVector) where
  -- ---- widths

  -- the width of a side within the width
  abbrev HasWidth : Corner → Type 0
  HasWidth e = IsOk (cross_after 0 s.d (vector_of s.polygons e) v)

  width_fits : (sum : Quadratic) (e : Corner) → IsOk (add_side s v sum e) → HasWidth e
  unfolding add_side
  width_fits sum e h = ok_of_bind (cross_after 0 s.d (vector_of s.polygons e) v) (λ width. if is_gt (sign s.d width) then checked_sum 4 sum width else Ok sum) h

  first_width : (sum : Quadratic) (e : Corner) (sides : List Corner) (r : Result Quadratic Place) → add_side s v sum e ≡ r → IsOk (measured s v e r (λ next. sum_after s v next sides))
      → ((next : Quadratic) → IsOk (sum_after s v next sides) → AllByRecursion HasWidth sides) → AllByRecursion HasWidth (e ∷ sides)
  first_width sum e sides (Ok next) is h rest = (width_fits sum e (subst IsOk (sym is) refl), rest next h)
  first_width sum e sides (Err stop) is h rest = cc

  summed_widths : (sum : Quadratic) (sides : List Corner) → IsOk (sum_after s v sum sides) → AllByRecursion HasWidth sides
  summed_widths sum [] h = tt
  summed_widths sum (e ∷ sides) h = first_width sum e sides (add_side s v sum e) refl h (λ next. summed_widths next sides)

  -- the widths of all sides, where their sum doesn't overflow
  pub have_widths : IsOk (checked_total s v) → HaveWidths s v
  have_widths h = λ e has. All-member HasWidth (all_sides s.polygons) e (summed_widths ring.zero (all_sides s.polygons) h) (in_all_sides s.polygons e has)

  -- ---- return vectors

  abbrev HasReturn : Corner → Type 0
  HasReturn f = IsOutgoing s v f → IsOk (checked_return s f)

  ok_returned : (f : Corner) (r : Result PlaneVector Place) (rest : Result Bool Site) → IsOk (returned s v f r rest) → IsOk r × IsOk rest
  ok_returned f (Ok back) rest h = (refl, h)
  ok_returned f (Err stop) rest h = cc

  first_return : (f : Corner) (rest : Result Bool Site) (test : Bool) → is_lt (sign s.d (across s v f)) ≡ test → IsOk (if test then returned s v f (checked_return s f) rest else rest) → HasReturn f × IsOk rest
  first_return f rest true e h = let both = ok_returned f (checked_return s f) rest h in ((λ out. both.0), both.1)
  first_return f rest false e h = ((λ out. absurd (let t = test_outgoing s v f out in let u : true ≡ false = sym t ∙ e in cc)), h)

  all_returns : (sides : List Corner) → IsOk (checked_returns s v sides) → AllByRecursion HasReturn sides
  all_returns [] h = tt
  all_returns (f ∷ sides) h = let first = first_return f (checked_returns s v sides) (is_lt (sign s.d (across s v f))) refl h in (first.0, all_returns sides first.1)

  -- the return vectors of all outgoing sides, where none overflows
  pub have_returns : IsOk (checked_returns s v (all_sides s.polygons)) → HaveReturns s v
  have_returns h = λ f out. All-member HasReturn (all_sides s.polygons) f (all_returns (all_sides s.polygons) h) (in_all_sides s.polygons f out.side) out
