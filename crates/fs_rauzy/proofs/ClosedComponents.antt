-- A component with one letter is a cylinder: its base is a band of closed leaves with a corner on either side. A library for crates to come.
use Rattle.std.proofs.Common.{◌≡◌, ◌≢◌, ℕ, [], ◌∷◌, subst}
use Rattle.fs_plane.specs.Vector.{PlaneVector, vector_zero}
use Rattle.fs_gluing.specs.Exchanges.{Letter, Component, IsLawful}
use Rattle.fs_gluing.specs.Surface.{GluedPolygons, IsTranslationSurface}
use Rattle.fs_iet.proofs.SideMeasures.{surface_order}
use Rattle.fs_rauzy.specs.Cylinders.{IsCylinder}
use Rattle.fs_rauzy.specs.Towers.{HasTowers, IsTouched, MeetsOutMark}
use Rattle.fs_rauzy.proofs.CylinderDirections.{return_along}
use Rattle.fs_rauzy.proofs.CylinderReturns.{band_of_component, one_on_top, letter_there}
use Rattle.fs_rauzy.proofs.CylinderSides.{corner_on_left, corner_on_right}

module _ (s : GluedPolygons) (surface : IsTranslationSurface s) (v : PlaneVector) (some : v ≢ vector_zero) where
  -- a lawful component with one letter, with its tower, is a cylinder, where the flow from or to both of its ends meets vertices
  pub cylinder_of_component : (c : Component) (letter : Letter) → IsLawful s.d c → c.top ≡ letter ∷ [] → HasTowers s v c → IsTouched s v c → (m : ℕ) × IsCylinder s v c.base c.total m letter.back
  cylinder_of_component c letter lawful one towers touched =
      let L = surface_order s surface in
      let found = band_of_component s surface v c letter lawful one towers in
      let band = found.1 in (
        found.0,
        record {
          some = band.some;
          wide = band.wide;
          from_zero = band.from_zero;
          to_total = band.to_total;
          closes = band.closes;
          not_before = band.not_before;
          along = return_along s surface v some band;
          left = corner_on_left s surface v some band (subst (MeetsOutMark s v) (one_on_top L lawful one).0 (touched.top letter (letter_there L lawful one)));
          right = corner_on_right s surface v some band touched.right;
        },
      )
