-- A path before a cut is one after it: its word is the old one, with sides of the cut between. A library for crates to come.
use Rattle.std.proofs.Common.{Bool, List, [], ◌∷◌, refl, sym, subst}
use Rattle.fs_ring.specs.Operations.{Operations}
use Rattle.fs_ring.specs.OrderedRing.{IsOrderedRing}
use Rattle.fs_ring.specs.Vector.{Vector, add_vector}
use Rattle.fs_convex.specs.Turning.{DecidesHalfPlanes}
use Rattle.fs_paths.specs.SideGluing.{SideGluing, IsSide, AreGluedPolygons}
use Rattle.fs_paths.specs.Development.{IsPutAt}
use Rattle.fs_paths.specs.StraightPaths.{Crosses, Path}
use Rattle.fs_paths.specs.Passages.{ComesInto}
use Rattle.fs_paths.proofs.Developments as developments
use Rattle.fs_paths.proofs.Passages as passages
use Rattle.fs_cuts.specs.Cuts.{IsCut}
use Rattle.fs_cuts.specs.Halves.{LiesIn, IsWordAcross, empty, crosses_kept, crosses_d, crosses_e, ComesToSide, at_once, after_d, after_e}
use Rattle.fs_cuts.proofs.Halves as halves
use Rattle.fs_cuts.proofs.Crossings as crossings

module _ {A : Type 0} {R : Operations A} {IsPositive : A → Type 0} (L : IsOrderedRing R IsPositive)
    {is_ahead : Vector A → Vector A → Bool} (test : DecidesHalfPlanes R IsPositive is_ahead)
    {X Y : Type 0} {G : SideGluing X A} {H : SideGluing Y A} (g : AreGluedPolygons R IsPositive is_ahead G) (h : AreGluedPolygons R IsPositive is_ahead H)
    {kept : X → Y} {p q : X} {d e : Y} (cut : IsCut R G H kept p q d e) (v : Vector A) where
  abbrev Lies : X → Vector A → Y → Vector A → Type 0
  Lies b B y P = LiesIn R G H kept p q d e b B y P

  abbrev WordAcross : List X → List Y → Type 0
  WordAcross word other = IsWordAcross R G H kept p q d e word other

  abbrev Comes : X → Vector A → Type 0
  Comes b B = ComesInto R IsPositive G v b B

  abbrev ComesAfter : Y → Vector A → Type 0
  ComesAfter y P = ComesInto R IsPositive H v y P

  abbrev PathAfter : Y → Vector A → List Y → Y → Vector A → Type 0
  PathAfter y P word z Z = Path R IsPositive H v y P word z Z

  -- a path after the cut from the half of y, whose word is this one with sides of the cut between, and which comes into a half that lies in the polygon of f
  abbrev pub WithCut : Y → Vector A → List X → X → Vector A → Type 0
  WithCut y P word f F = (other : List Y) × WordAcross word other × (z : Y) × (Z : Vector A) × IsSide H z × ComesAfter z Z × PathAfter y P other z Z × Lies f F z Z

  -- the path from a polygon is one from a half that lies in it
  pub path_after : (word : List X) (b f : X) (y : Y) (B P F : Vector A) → IsSide G b → IsSide H y → Comes b B → ComesAfter y P → Lies b B y P
      → Path R IsPositive G v b B word f F → WithCut y P word f F
  path_after [] b f y B P F s t c i l k = ([], empty, y, P, t, i, (refl, refl), subst (λ w. Lies w F y P) (sym k.0) (subst (λ w. Lies b w y P) (sym k.1) l))
  path_after (x ∷ word) b f y B P F s t c i l k =
      let there = developments.put_is_side L test g s k.1 in
      let C = add_vector R k.0 (G.vector x) in
      go (λ r. path_after word (G.twin x) f (H.twin (kept x)) C C F (g.twin_side x there) (h.twin_side (kept x) (cut.kept_side x there))
      (passages.comes_into_next L test g s c k.1 k.2) r (halves.lies_across_side L test g h cut x there C) k.3)
      (crossings.comes_to_side L test g h cut s t c i l k.1 k.2)
    where
      there : IsSide G x
      there = developments.put_is_side L test g s k.1

      crosses_x : Crosses R IsPositive v k.0 (add_vector R k.0 (H.vector (kept x)))
      crosses_x = subst (λ w. Crosses R IsPositive v k.0 (add_vector R k.0 w)) (sym (cut.vector x there)) k.2

      -- from any half that the path comes into, it goes on across x
      next_comes : {w : Y} {S : Vector A} → IsSide H w → ComesAfter w S → IsPutAt R H w S (kept x) k.0 → ComesAfter (H.twin (kept x)) (add_vector R k.0 (G.vector x))
      next_comes {w} {S} m n o =
          subst (λ u. ComesAfter (H.twin (kept x)) (add_vector R k.0 u)) (cut.vector x there) (passages.comes_into_next L test h m n o crosses_x)

      over_x : {w : Y} {S : Vector A} (other : List Y) (z : Y) (Z : Vector A) → IsPutAt R H w S (kept x) k.0 → PathAfter (H.twin (kept x)) (add_vector R k.0 (G.vector x)) other z Z
          → PathAfter w S (kept x ∷ other) z Z
      over_x {w} {S} other z Z o m = (k.0, o, crosses_x, subst (λ u. PathAfter (H.twin (kept x)) (add_vector R k.0 u) other z Z) (sym (cut.vector x there)) m)

      go : (ComesAfter (H.twin (kept x)) (add_vector R k.0 (G.vector x)) → WithCut (H.twin (kept x)) (add_vector R k.0 (G.vector x)) word f F)
          → ComesToSide R IsPositive G H kept d e v y P x k.0 → WithCut y P (x ∷ word) f F
      go again (at_once o) =
          let r = again (next_comes t i o) in
          (kept x ∷ r.0, crosses_kept x word r.0 there r.1, r.2, r.3, r.4, r.5, over_x r.0 r.2 r.3 o r.6, r.7)
      go again (after_d D m over o) =
          let here : IsPutAt R H (H.twin d) (add_vector R D (H.vector d)) (kept x) k.0 = subst (λ w. IsPutAt R H w (add_vector R D (H.vector d)) (kept x) k.0) (sym cut.twin_d) o in
          let r = again (next_comes (h.twin_side d cut.d_side) (passages.comes_into_next L test h t i m over) here) in
          (d ∷ kept x ∷ r.0, crosses_d (x ∷ word) (kept x ∷ r.0) (crosses_kept x word r.0 there r.1), r.2, r.3, r.4, r.5, (D, m, over, over_x r.0 r.2 r.3 here r.6), r.7)
      go again (after_e D m over o) =
          let here : IsPutAt R H (H.twin e) (add_vector R D (H.vector e)) (kept x) k.0 = subst (λ w. IsPutAt R H w (add_vector R D (H.vector e)) (kept x) k.0) (sym cut.twin_e) o in
          let r = again (next_comes (h.twin_side e cut.e_side) (passages.comes_into_next L test h t i m over) here) in
          (e ∷ kept x ∷ r.0, crosses_e (x ∷ word) (kept x ∷ r.0) (crosses_kept x word r.0 there r.1), r.2, r.3, r.4, r.5, (D, m, over, over_x r.0 r.2 r.3 here r.6), r.7)
