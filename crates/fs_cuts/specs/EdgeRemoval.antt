-- Glued polygons without one edge: the two polygons at it become one. The contract of `flat` doesn't rest on this file.
use Rattle.std.specs.Prelude.{◌≡◌, ◌≢◌, ◌⊎◌, ◌↔◌, ℕ, Bool, true, false, cond}
use Rattle.fs_paths.specs.SideGluing.{SideGluing, IsSide, nth_side}

module _ {A X : Type 0} (G K : SideGluing X A) where
  -- K is G without the side d and its twin e, which are sides of two polygons: after the side before d comes the one after e, and the other way round
  pub record IsWithoutEdge (d e : X) : Type 0 where
    pub d_side : IsSide G d
    pub twin_d : G.twin d ≡ e
    pub apart : (k : ℕ) → nth_side G d k ≢ e
    pub side_before : (x : X) → IsSide K x → IsSide G x
    pub not_d : (x : X) → IsSide K x → x ≢ d
    pub not_e : (x : X) → IsSide K x → x ≢ e
    pub sides : (x : X) → IsSide G x → (x ≡ d) ⊎ ((x ≡ e) ⊎ IsSide K x)
    pub vector : (x : X) → IsSide K x → K.vector x ≡ G.vector x
    pub twin : (x : X) → IsSide K x → K.twin x ≡ G.twin x
    pub next_before_d : K.next (G.prev d) ≡ G.next e
    pub next_before_e : K.next (G.prev e) ≡ G.next d
    pub next_kept : (x : X) → IsSide K x → x ≢ G.prev d → x ≢ G.prev e → K.next x ≡ G.next x
    pub prev_next : (x : X) → IsSide K x → K.prev (K.next x) ≡ x

-- the test tells which names are the same
abbrev pub TellsNames : {X : Type 0} → (X → X → Bool) → Type 0
TellsNames {X} same = (x y : X) → (same x y ≡ true) ↔ (x ≡ y)

module _ {A X : Type 0} (same : X → X → Bool) (G : SideGluing X A) (d : X) where
  -- G without the side d and its twin, where the test tells which names are the same
  abbrev pub without_edge : SideGluing X A
  without_edge = record {
    has = λ x. cond (same x d) false (cond (same x (G.twin d)) false (G.has x));
    next = λ x. cond (same x (G.prev d)) (G.next (G.twin d)) (cond (same x (G.prev (G.twin d))) (G.next d) (G.next x));
    prev = λ x. cond (same x (G.next (G.twin d))) (G.prev d) (cond (same x (G.next d)) (G.prev (G.twin d)) (G.prev x));
    twin = G.twin;
    vector = G.vector;
  }
