-- The corners round a vertex, one after another, and the first whose sector holds a vector.
use Rattle.std.specs.Prelude.{◌≡◌, ℕ, ◌<◌}
use Rattle.fs_ring.specs.Operations.{Operations}
use Rattle.fs_ring.specs.Vector.{Vector}
use Rattle.fs_cycles.specs.Cycles.{iterate}
use Rattle.fs_paths.specs.SideGluing.{SideGluing, InSectorOf}

module _ {X A : Type 0} (G : SideGluing X A) where
  -- the next corner counterclockwise round the vertex of the corner c: its sector begins where that of c ends
  abbrev pub next_corner : X → X
  next_corner c = G.twin (G.prev c)

  -- the n-th corner after c
  abbrev pub nth_corner : X → ℕ → X
  nth_corner c n = iterate next_corner n c

module _ {A : Type 0} (R : Operations A) (IsPositive : A → Type 0) {X : Type 0} (G : SideGluing X A) where
  -- e is the first corner whose sector holds v, from the corner c on, counterclockwise round its vertex
  pub record IsFirstCorner (c : X) (v : Vector A) (e : X) : Type 0 where
    pub corners : ℕ
    pub is : e ≡ nth_corner G c corners
    pub holds : InSectorOf R IsPositive G e v
    pub first : (n : ℕ) → n < corners → ¬ InSectorOf R IsPositive G (nth_corner G c n) v
