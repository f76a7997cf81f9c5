-- Components and first returns: where the flow is back on the base of a component for the first time.
use Rattle.std.specs.Prelude.{◌≡◌, ◌≢◌, ℕ, List, length}
use Rattle.std.specs.List.{AllByRecursion}
use Rattle.fs_ring.specs.OrderedRing.{IsAtMost}
use Rattle.fs_quadratic.specs.Ring.{Quadratic, quadratic, IsPositive, zero, add}
use Rattle.fs_plane.specs.Vector.{PlaneVector, vector_zero}
use Rattle.fs_gluing.specs.CrossingMap.{block_start}
use Rattle.fs_gluing.specs.Exchanges.{Letter, Component, Takes}
use Rattle.fs_gluing.specs.Surface.{GluedPolygons, IsTranslationSurface}
use Rattle.fs_iet.specs.FirstReturns.{IsFirstReturn}

module _ (s : GluedPolygons) (v : PlaneVector) where
  -- the base is among the positions, and from each of its positions the flow is back on it for the first time where the component takes it, with the return vector of the letter
  pub record GivesReturns (c : Component) : Type 0 where
    pub from_zero : IsAtMost (quadratic s.d) (IsPositive s.d) zero c.base
    pub to_total : IsAtMost (quadratic s.d) (IsPositive s.d) (add c.base c.total) (block_start s v (length s.polygons))
    pub returns : (letter : Letter) (y z : Quadratic) → Takes s.d c letter y z → (m : ℕ) × IsFirstReturn s v c.base (add c.base c.total) m y z letter.back

  -- each component does so
  abbrev pub AllGiveReturns : List Component → Type 0
  AllGiveReturns components = AllByRecursion GivesReturns components

-- for every surface and direction: where the components before give first returns, so do those after
abbrev pub KeepsReturns : ℕ → List Component → List Component → Type 0
KeepsReturns d before after =
    (s : GluedPolygons) (v : PlaneVector) → IsTranslationSurface s → v ≢ vector_zero → s.d ≡ d → AllGiveReturns s v before → AllGiveReturns s v after
