-- A path after a cut is one before it: without the sides of the cut, its word is the word of a path. A library for crates to come.
use Rattle.std.proofs.Common.{◌≡◌, Bool, List, [], ◌∷◌, refl, sym, ap, ◌∙◌, subst}
use Rattle.fs_ring.specs.Operations.{Operations}
use Rattle.fs_ring.specs.OrderedRing.{IsOrderedRing}
use Rattle.fs_ring.specs.Vector.{Vector, add_vector}
use Rattle.fs_convex.specs.Turning.{DecidesHalfPlanes}
use Rattle.fs_paths.specs.SideGluing.{SideGluing, IsSide, AreGluedPolygons}
use Rattle.fs_paths.specs.StraightPaths.{Crosses, Path}
use Rattle.fs_cuts.specs.Cuts.{IsCut}
use Rattle.fs_cuts.specs.Halves.{LiesIn, by_kept, by_d, by_e, IsWordAcross, empty, crosses_kept, crosses_d, crosses_e}
use Rattle.fs_cuts.proofs.Cuts as cuts
use Rattle.fs_cuts.proofs.Halves as halves

module _ {A : Type 0} {R : Operations A} {IsPositive : A → Type 0} (L : IsOrderedRing R IsPositive)
    {is_ahead : Vector A → Vector A → Bool} (test : DecidesHalfPlanes R IsPositive is_ahead)
    {X Y : Type 0} {G : SideGluing X A} {H : SideGluing Y A} (g : AreGluedPolygons R IsPositive is_ahead G) (h : AreGluedPolygons R IsPositive is_ahead H)
    {kept : X → Y} {p q : X} {d e : Y} (cut : IsCut R G H kept p q d e) (v : Vector A) where
  other_cut : IsCut R G H kept q p e d
  other_cut = cuts.mirrored L test g h cut

  abbrev Lies : X → Vector A → Y → Vector A → Type 0
  Lies b B y P = LiesIn R G H kept p q d e b B y P

  abbrev WordAcross : List X → List Y → Type 0
  WordAcross word other = IsWordAcross R G H kept p q d e word other

  abbrev PathBefore : X → Vector A → List X → X → Vector A → Type 0
  PathBefore b B word f F = Path R IsPositive G v b B word f F

  abbrev PathAfter : Y → Vector A → List Y → Y → Vector A → Type 0
  PathAfter y P word z Z = Path R IsPositive H v y P word z Z

  -- a path before the cut that crosses those sides of the word that aren't of the cut, and comes to a polygon in which the half of z lies
  abbrev WithoutCut : X → Vector A → List Y → Y → Vector A → Type 0
  WithoutCut b B other z Z = (word : List X) × WordAcross word other × (f : X) × (F : Vector A) × IsSide G f × PathBefore b B word f F × Lies f F z Z

  -- where a half lies in a polygon, a path from the half is one from the polygon
  pub path_before : (other : List Y) (b : X) (y z : Y) (B P Z : Vector A) → IsSide G b → Lies b B y P → PathAfter y P other z Z → WithoutCut b B other z Z
  path_before [] b y z B P Z s l k = ([], empty, b, B, s, (refl, refl), halves.lies_of (sym k.0) (sym k.1) l)
  path_before (c ∷ other) b y z B P Z s l k = go (λ a w C D. path_before other a w z C D Z) (halves.lies_put L test g h cut l k.1) k.2 k.3
    where
      go : ((a : X) (w : Y) (S T : Vector A) → IsSide G a → Lies a S w T → PathAfter w T other z Z → WithoutCut a S other z Z)
          → Lies b B c k.0 → Crosses R IsPositive v k.0 (add_vector R k.0 (H.vector c)) → PathAfter (H.twin c) (add_vector R k.0 (H.vector c)) other z Z
          → WithoutCut b B (c ∷ other) z Z
      go again (by_kept x t f j) crosses path =
          let same : H.vector c ≡ G.vector x = ap H.vector f ∙ cut.vector x t in
          let F = add_vector R k.0 (G.vector x) in
          let lies : Lies (G.twin x) F (H.twin c) F = subst (λ w. Lies (G.twin x) F (H.twin w) F) (sym f) (halves.lies_across_side L test g h cut x t F) in
          let rest = again (G.twin x) (H.twin c) F F (g.twin_side x t) lies (subst (λ w. PathAfter (H.twin c) (add_vector R k.0 w) other z Z) same path) in (
            x ∷ rest.0,
            subst (λ w. WordAcross (x ∷ rest.0) (w ∷ other)) (sym f) (crosses_kept x rest.0 other t rest.1),
            rest.2,
            rest.3,
            rest.4,
            (k.0, j, subst (λ w. Crosses R IsPositive v k.0 (add_vector R k.0 w)) same crosses, rest.5),
            rest.6,
          )
      go again (by_d f i j) crosses path =
          let lies : Lies b B (H.twin c) (add_vector R k.0 (H.vector c)) =
          halves.lies_of (sym (ap H.twin f ∙ cut.twin_d)) (ap (λ w. add_vector R k.0 (H.vector w)) (sym f)) (halves.lies_across_d L test g h cut (by_d refl i j)) in
          let rest = again b (H.twin c) B (add_vector R k.0 (H.vector c)) s lies path in
          (rest.0, subst (λ w. WordAcross rest.0 (w ∷ other)) (sym f) (crosses_d rest.0 other rest.1), rest.2, rest.3, rest.4, rest.5, rest.6)
      go again (by_e f i j) crosses path =
          let lies : Lies b B (H.twin c) (add_vector R k.0 (H.vector c)) =
          halves.lies_of (sym (ap H.twin f ∙ cut.twin_e)) (ap (λ w. add_vector R k.0 (H.vector w)) (sym f))
          (halves.lies_mirrored (halves.lies_across_d L test g h other_cut (by_d refl i j))) in
          let rest = again b (H.twin c) B (add_vector R k.0 (H.vector c)) s lies path in
          (rest.0, subst (λ w. WordAcross rest.0 (w ∷ other)) (sym f) (crosses_e rest.0 other rest.1), rest.2, rest.3, rest.4, rest.5, rest.6)
