-- The first corner round a vertex whose sector holds a vector, found corner by corner. A library for crates to come.
use Rattle.std.proofs.Common.{◌≡◌, ℕ, Bool, zero, suc, ◌<◌, refl, sym, subst, arith}
use Rattle.fs_ring.specs.Operations.{Operations}
use Rattle.fs_ring.specs.OrderedRing.{IsOrderedRing}
use Rattle.fs_ring.specs.Vector.{Vector}
use Rattle.fs_ring.specs.Direction.{InHalfPlane, at_start}
use Rattle.fs_ring.proofs.Directions as directions
use Rattle.fs_ring.proofs.HalfPlanes as half_planes
use Rattle.fs_ring.proofs.Turns as turns
use Rattle.fs_paths.specs.SideGluing.{SideGluing, IsSide, AreGluedPolygons, InSectorOf}
use Rattle.fs_paths.specs.NextCorners.{next_corner, nth_corner, IsFirstCorner}
use Rattle.fs_cuts.proofs.CornerSectors as corner_sectors

module _ {A : Type 0} (R : Operations A) (IsPositive : A → Type 0) {X : Type 0} (G : SideGluing X A) where
  -- e is the first corner that holds v, and n corners after c
  abbrev pub IsFirstAfter : ℕ → X → Vector A → X → Type 0
  IsFirstAfter zero c v e = (e ≡ c) × InSectorOf R IsPositive G c v
  IsFirstAfter (suc n) c v e = ¬ InSectorOf R IsPositive G c v × IsFirstAfter n (next_corner G c) v e

  after_number : (n : ℕ) (c e : X) (v : Vector A) → e ≡ nth_corner G c n → InSectorOf R IsPositive G e v
      → ((k : ℕ) → k < n → ¬ InSectorOf R IsPositive G (nth_corner G c k) v) → IsFirstAfter n c v e
  after_number zero c e v same s none = (same, subst (λ w. InSectorOf R IsPositive G w v) same s)
  after_number (suc n) c e v same s none =
      (none 0 (omega arith), after_number n (next_corner G c) e v same s (λ k l. none (suc k) (omega (arith, l))))

  -- the first corner comes after so many that don't hold the vector
  pub first_after_corners : {c e : X} {v : Vector A} (f : IsFirstCorner R IsPositive G c v e) → IsFirstAfter f.corners c v e
  first_after_corners {c} {e} {v} f = after_number f.corners c e v f.is f.holds f.first

module _ {A : Type 0} {R : Operations A} {IsPositive : A → Type 0} {X : Type 0} {G : SideGluing X A} where
  -- a corner that holds the vector is the first
  pub first_here : {c : X} {v : Vector A} → InSectorOf R IsPositive G c v → IsFirstCorner R IsPositive G c v c
  first_here s = record { corners = 0; is = refl; holds = s; first = λ n l. absurd (omega (arith, l)) }

  -- from a corner that doesn't hold it on, the first is the one from the next corner on
  pub first_later : {c e : X} {v : Vector A} → ¬ InSectorOf R IsPositive G c v → IsFirstCorner R IsPositive G (next_corner G c) v e → IsFirstCorner R IsPositive G c v e
  first_later {c} {e} {v} out f = record { corners = suc f.corners; is = f.is; holds = f.holds; first = none }
    where
      none : (n : ℕ) → n < suc f.corners → ¬ InSectorOf R IsPositive G (nth_corner G c n) v
      none zero l = out
      none (suc n) l = f.first n (omega (arith, l))

module _ {A : Type 0} {R : Operations A} {IsPositive : A → Type 0} (L : IsOrderedRing R IsPositive)
    {is_ahead : Vector A → Vector A → Bool} {X : Type 0} {G : SideGluing X A} (g : AreGluedPolygons R IsPositive is_ahead G) {x : X} (side : IsSide G x) where
  -- the vector of a side is in the sector of the corner where the side begins
  pub side_in_sector : InSectorOf R IsPositive G x (G.vector x)
  side_in_sector = at_start (directions.along_self L (G.vector x) (half_planes.half_plane-ne-zero L (corner_sectors.turns_at L g x side)))

  -- what turns out of the sector of a corner is ahead of the side that begins at the next corner
  pub ahead_of_next : {u v : Vector A} → InSectorOf R IsPositive G x u → InHalfPlane R IsPositive u v → ¬ InSectorOf R IsPositive G x v
      → InHalfPlane R IsPositive (G.vector (next_corner G x)) v
  ahead_of_next {u} {v} s t out =
      subst (λ w. InHalfPlane R IsPositive w v) (sym (g.twin_opposite (G.prev x) (g.prev_side x side)))
      (turns.beyond_sector L (corner_sectors.turns_at L g x side) s t out)
