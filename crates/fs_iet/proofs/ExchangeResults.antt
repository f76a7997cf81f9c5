-- What `find_exchange` returns, from what its calls return: the exchange, or the first site.
use Rattle.std.proofs.Common.{◌≡◌, true, Result, Ok, Err, IsOk, List, [], ◌∷◌, inl, inr, refl, sym, ap, ◌∙◌, subst}
use Rattle.std.specs.List.{AllByRecursion}
use Rattle.fs_lists.specs.Members.{IsIn}
use Rattle.fs_quadratic.specs.Ring as ring
use Rattle.fs_quadratic.specs.Ring.{Quadratic}
use Rattle.fs_plane.specs.declared.corners.Corner.{Corner}
use Rattle.fs_plane.specs.declared.sites.Site.{Site}
use Rattle.fs_plane.specs.Vector.{PlaneVector}
use Rattle.fs_gluing.specs.Exchanges.{Component, IsExchange}
use Rattle.fs_gluing.specs.Polygons.{HasSide, all_sides}
use Rattle.fs_gluing.specs.Surface.{GluedPolygons}
use Rattle.fs_gluing.proofs.Sides.AllSides.{all_sides_in}
use Rattle.fs_iet.specs.ExchangeSites.{sum_after, checked_total, checked_returns, GivesExchange, letter_overflows, shift_overflows, exchanged}

-- what holds of each member holds of each item
All-members : {X : Type 0} (P : X → Type 0) (xs : List X) → ((x : X) → IsIn x xs → P x) → AllByRecursion P xs
All-members P [] h = tt
All-members P (x ∷ xs) h = (h x (inl refl), All-members P xs (λ y i. h y (inr i)))

module _ (s : GluedPolygons) (v : PlaneVector) (sides : List Corner) (all : sides ≡ all_sides s.polygons) where
  -- the listed sides are sides
  pub sides_there : AllByRecursion (HasSide s.polygons) sides
  sides_there = subst (AllByRecursion (HasSide s.polygons)) (sym all) (All-members (HasSide s.polygons) (all_sides s.polygons) (all_sides_in s.polygons))

  -- the sum of the widths of the listed sides is that of all sides
  pub total_of_sides : (r : Result Quadratic Site) → r ≡ sum_after s v ring.zero sides → checked_total s v ≡ r
  total_of_sides r e = sym (e ∙ ap (sum_after s v ring.zero) all)

  -- it has a site
  pub gives_letter : (site : Site) → Err site ≡ sum_after s v ring.zero sides → GivesExchange s v (Err site)
  gives_letter site e = letter_overflows site (total_of_sides (Err site) e)

  module _ (total : Quadratic) (sum : Ok total ≡ sum_after s v ring.zero sides) where
    -- then all widths fit
    pub total_fits : IsOk (checked_total s v)
    total_fits = subst IsOk (sym (total_of_sides (Ok total) sum)) refl

    -- the sum has none, but a return vector has
    pub gives_shift : (site : Site) → checked_returns s v sides ≡ Err site → GivesExchange s v (Err site)
    gives_shift site e = shift_overflows site total_fits (ap (checked_returns s v) (sym all) ∙ e)

    -- no return vector has
    pub returns_fit : checked_returns s v sides ≡ Ok true → IsOk (checked_returns s v (all_sides s.polygons))
    returns_fit e = subst IsOk (sym (ap (checked_returns s v) (sym all) ∙ e)) refl

    -- nothing overflows
    pub gives_exchange : (c : Component) → checked_returns s v sides ≡ Ok true → IsExchange s v c → GivesExchange s v (Ok c)
    gives_exchange c e exchange = exchanged c total_fits (returns_fit e) exchange
