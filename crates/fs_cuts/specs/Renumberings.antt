-- Glued polygons whose sides get other names. The contract of `flat` doesn't rest on this file.
use Rattle.std.specs.Prelude.{◌≡◌}
use Rattle.fs_paths.specs.SideGluing.{SideGluing, IsSide}

module _ {A X Y : Type 0} (G : SideGluing X A) (H : SideGluing Y A) where
  -- H is G with other names: the side x of G has the name new x in H, and the side y of H the name old y in G
  pub record IsRenumbering (new : X → Y) (old : Y → X) : Type 0 where
    pub new_side : (x : X) → IsSide G x → IsSide H (new x)
    pub old_side : (y : Y) → IsSide H y → IsSide G (old y)
    pub old_new : (x : X) → IsSide G x → old (new x) ≡ x
    pub new_old : (y : Y) → IsSide H y → new (old y) ≡ y
    pub vector : (x : X) → IsSide G x → H.vector (new x) ≡ G.vector x
    pub next : (x : X) → IsSide G x → H.next (new x) ≡ new (G.next x)
    pub twin : (x : X) → IsSide G x → H.twin (new x) ≡ new (G.twin x)
