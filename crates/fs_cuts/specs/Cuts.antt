-- A polygon that is cut along a diagonal into two, and which corners of the halves are at a corner of the polygon. The contract of `flat` doesn't rest on this file.
use Rattle.std.specs.Prelude.{◌≡◌, ◌≢◌, ◌⊎◌, ℕ}
use Rattle.fs_ring.specs.Operations.{Operations}
use Rattle.fs_ring.specs.Vector.{Vector, zero_vector}
use Rattle.fs_paths.specs.SideGluing.{SideGluing, IsSide, nth_side, InSectorOf}
use Rattle.fs_paths.specs.Development.{IsPutAt}

module _ {A : Type 0} (R : Operations A) {X Y : Type 0} (G : SideGluing X A) (H : SideGluing Y A) where
  -- H is G with one polygon cut in two: d and e are the two sides of the cut, p is the side before d, and q the side before e; each other side x has the name kept x
  pub record IsCut (kept : X → Y) (p q : X) (d e : Y) : Type 0 where
    pub p_side : IsSide G p
    pub q_side : IsSide G q
    pub d_side : IsSide H d
    pub e_side : IsSide H e
    pub kept_side : (x : X) → IsSide G x → IsSide H (kept x)
    pub kept_not_d : (x : X) → IsSide G x → kept x ≢ d
    pub kept_not_e : (x : X) → IsSide G x → kept x ≢ e
    pub one_to_one : (x y : X) → IsSide G x → IsSide G y → kept x ≡ kept y → x ≡ y
    pub sides : (y : Y) → IsSide H y → (y ≡ d) ⊎ ((y ≡ e) ⊎ ((x : X) × IsSide G x × (y ≡ kept x)))
    pub vector : (x : X) → IsSide G x → H.vector (kept x) ≡ G.vector x
    pub twin : (x : X) → IsSide G x → H.twin (kept x) ≡ kept (G.twin x)
    pub twin_d : H.twin d ≡ e
    pub twin_e : H.twin e ≡ d
    pub next_p : H.next (kept p) ≡ d
    pub next_d : H.next d ≡ kept (G.next q)
    pub next_q : H.next (kept q) ≡ e
    pub next_e : H.next e ≡ kept (G.next p)
    pub next_kept : (x : X) → IsSide G x → x ≢ p → x ≢ q → H.next (kept x) ≡ kept (G.next x)
    -- the sides after p up to q lead where d leads
    pub span : IsPutAt R G (G.next p) (zero_vector R) (G.next q) (H.vector d)
    -- d and e are sides of two polygons
    pub apart : (k : ℕ) → nth_side H d k ≢ e

module _ {A : Type 0} (R : Operations A) (IsPositive : A → Type 0) {X Y : Type 0} (G : SideGluing X A) (H : SideGluing Y A)
    (kept : X → Y) (p q : X) (d e : Y) where
  -- the corner y after the cut is c or a part of it: it has the name of c, or it begins with the side of the cut that begins at c
  pub data IsCornerAt (c : X) (y : Y) : Type 0 where
    at_kept : y ≡ kept c → IsCornerAt c y
    at_e : c ≡ G.next q → y ≡ e → IsCornerAt c y
    at_d : c ≡ G.next p → y ≡ d → IsCornerAt c y

  -- v is in the sector of the corner c, and after the cut in that of y, which is c or a part of it
  pub record IsGerm (c : X) (v : Vector A) (y : Y) : Type 0 where
    pub start_side : IsSide G c
    pub start : InSectorOf R IsPositive G c v
    pub end_side : IsSide H y
    pub end : InSectorOf R IsPositive H y v
    pub corner : IsCornerAt c y
