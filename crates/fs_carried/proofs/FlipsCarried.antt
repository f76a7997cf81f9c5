-- A flip carries the other half-edges to their moved names, and the new edge from the corners where it begins. A library for crates to come.
use Rattle.std.proofs.Common.{◌≡◌, ◌≢◌, Bool, refl, sym, ap, ◌∙◌, subst, subst₂, inl, inr}
use Rattle.fs_ring.specs.Operations.{Operations}
use Rattle.fs_ring.specs.OrderedRing.{IsOrderedRing}
use Rattle.fs_ring.specs.Vector.{Vector}
use Rattle.fs_ring.specs.Direction.{InHalfPlane, inside}
use Rattle.fs_convex.specs.Turning.{DecidesHalfPlanes}
use Rattle.fs_paths.specs.SideGluing.{SideGluing, IsSide, AreGluedPolygons, InSectorOf}
use Rattle.fs_paths.specs.NextCorners.{IsFirstCorner}
use Rattle.fs_cuts.specs.EdgeRemoval.{TellsNames, IsWithoutEdge, without_edge}
use Rattle.fs_cuts.specs.Cuts.{IsCut, IsCornerAt, at_kept, at_e, at_d}
use Rattle.fs_cuts.specs.CutAndPaste.{CutAndPaste, step, no_step, cut, paste, IsCarried}
use Rattle.fs_cuts.specs.Equality.{AreCutAndPasteEqual}
use Rattle.fs_cuts.proofs.Cuts as cuts
use Rattle.fs_cuts.proofs.CutSectors as cut_sectors
use Rattle.fs_cuts.proofs.EdgeRemoval as removal
use Rattle.fs_cuts.proofs.ListsOfSteps.{append, carried-append}
use Rattle.fs_cuts.proofs.RemovalGluing as removal_gluing
use Rattle.fs_cuts.proofs.Steps.{IsDirectionAt}
use Rattle.fs_cuts.proofs.WithoutEdge as without
use Rattle.fs_triangles.specs.Triangles.{AreTriangles}
use Rattle.fs_triangles.specs.Flips.{moved, IsFlip, IsConvexHinge}
use Rattle.fs_triangles.proofs.TriangleSides as triangle_sides
use Rattle.fs_triangles.proofs.HingeNames as hinge_names
use Rattle.fs_triangles.proofs.FlippedTriangles as flipped_triangles
use Rattle.fs_triangles.proofs.FlipSteps.{cut_by_flipped_edge}
use Rattle.fs_carried.specs.Carried.{IsCarriedTo, AreEqualWithHomes}
use Rattle.fs_carried.proofs.FirstCorners.{side_in_sector}
use Rattle.fs_carried.proofs.FirstCornersCarried.{home_by_turning}

module _ {A : Type 0} {R : Operations A} {IsPositive : A → Type 0} (L : IsOrderedRing R IsPositive)
    {is_ahead : Vector A → Vector A → Bool} (test : DecidesHalfPlanes R IsPositive is_ahead)
    {X : Type 0} {G K : SideGluing X A} (t : AreTriangles R IsPositive G) (g : AreGluedPolygons R IsPositive is_ahead G) {d e : X} (r : IsWithoutEdge G K d e) where
  -- without an edge the sides of its triangles still follow each other
  next_without_edge : K.next (G.next d) ≡ G.prev d
  next_without_edge =
      removal.next_same L test g r (G.next d) (removal.after_d_side L test g r) (subst (IsSide K) (t.prev d r.d_side) (removal.before_d_side L test g r))
      ∙ sym (t.prev d r.d_side)

  -- and are before each other
  prev_without_edge : G.prev (G.prev d) ≡ K.prev (G.prev d)
  prev_without_edge =
      ap G.prev (t.prev d r.d_side)
      ∙ triangle_sides.prev_next L t (G.next d) (t.next_side d r.d_side)
      ∙ sym (ap K.prev (sym next_without_edge) ∙ r.prev_next (G.next d) (removal.after_d_side L test g r))

module _ {A : Type 0} {R : Operations A} {IsPositive : A → Type 0} (L : IsOrderedRing R IsPositive)
    {is_ahead : Vector A → Vector A → Bool} (test : DecidesHalfPlanes R IsPositive is_ahead)
    {X : Type 0} {same : X → X → Bool} (tells : TellsNames same)
    {G : SideGluing X A} (t : AreTriangles R IsPositive G) (g : AreGluedPolygons R IsPositive is_ahead G) (h : X) (h_side : IsSide G h)
    (convex : IsConvexHinge R IsPositive G h)
    {H : SideGluing X A} (f : IsFlip R same G H h) (after : AreGluedPolygons R IsPositive is_ahead H) where
  abbrev e : X
  e = G.twin h

  abbrev m : X → X
  m = moved same G h

  -- the triangles without the edge: the hinge becomes one polygon
  abbrev K : SideGluing X A
  K = without_edge same G h

  r : IsWithoutEdge G K h e
  r = without.is_without_edge tells g h h_side (triangle_sides.twin_apart L t h h_side)

  other : IsWithoutEdge G K e h
  other = removal.mirrored L test g r

  at_start : InHalfPlane R IsPositive (G.vector (G.prev h)) (G.vector (G.next e))
  at_start = inside convex.at_start

  at_end : InHalfPlane R IsPositive (G.vector (G.prev e)) (G.vector (G.next h))
  at_end = inside convex.at_end

  -- which is glued to the other triangles
  pub between : AreGluedPolygons R IsPositive is_ahead (without_edge same G h)
  between = removal_gluing.glued_without_edge L test g r at_start at_end

  -- the edge cuts it into the hinge's triangles
  pub cut_before : IsCut R (without_edge same G h) G (λ x. x) (G.prev h) (G.prev (G.twin h)) h (G.twin h)
  cut_before = removal_gluing.cut_by_edge L test g r at_start at_end

  -- and its other diagonal into those after the flip
  pub cut_after : IsCut R (without_edge same G h) H (moved same G h) (G.next (G.twin h)) (G.next h) h (G.twin h)
  cut_after = cut_by_flipped_edge L test tells t g h h_side convex f

  -- a flip as a list of steps: the edge is taken out, and the other diagonal put in
  abbrev pub flip_steps : CutAndPaste R IsPositive is_ahead G H
  flip_steps = step G K H between (paste (λ x. x) (G.prev h) (G.prev e) h e cut_before) (step K H H after (cut m (G.next e) (G.next h) h e cut_after) (no_step H H refl))

  -- ---- the other half-edges

  -- each other half-edge is carried to its moved name
  pub kept_carried : (x : X) → IsSide G x → x ≢ h → x ≢ G.twin h → IsCarried R IsPositive is_ahead flip_steps x (G.vector x) (moved same G h x)
  kept_carried x s not_h not_e = (
    x,
    record { start_side = left; start = side_in_sector L between left; end_side = s; end = side_in_sector L g s; corner = at_kept refl },
    (m x, record { start_side = left; start = side_in_sector L between left; end_side = there; end = holds; corner = at_kept refl }, refl),
  )
    where
      left : IsSide K x
      left = elim (r.sides x s) [
        | inl i ↦ absurd (not_h i)
        | inr (inl i) ↦ absurd (not_e i)
        | inr (inr i) ↦ i
      ]

      there : IsSide H (m x)
      there = flipped_triangles.side_after L tells t h h_side f (hinge_names.moved_side L tells t h h_side x s)

      holds : InSectorOf R IsPositive H (m x) (G.vector x)
      holds = subst (InSectorOf R IsPositive H (m x)) (f.vector x s not_h not_e) (side_in_sector L after there)

  -- ---- the new edge

  module _ {c y : X} (left : IsSide K c) (there : IsSide H y) (corner : IsCornerAt R IsPositive K H m (G.next e) (G.next h) h e c y)
      (before : G.prev c ≡ K.prev c) (holds : InSectorOf R IsPositive K c (H.vector y)) where
    -- where the new edge begins, its direction is one before the flip too
    direction_of_new : IsDirectionAt R IsPositive G c (H.vector y)
    direction_of_new = record { corner = r.side_before c left; sector = subst (λ T. T) (sym (cut_sectors.sector_same L test between g cut_before c left before)) holds }

    -- and is carried to the new edge
    new_carried : IsCarried R IsPositive is_ahead flip_steps c (H.vector y) y
    new_carried = (
      c,
      record { start_side = left; start = holds; end_side = direction_of_new.corner; end = direction_of_new.sector; corner = at_kept refl },
      (y, record { start_side = left; start = holds; end_side = there; end = side_in_sector L after there; corner = corner }, refl),
    )

  edge_left : IsSide K (G.prev e)
  edge_left = removal.before_d_side L test g other

  edge_there : IsSide H h
  edge_there = flipped_triangles.side_after L tells t h h_side f h_side

  edge_corner : IsCornerAt R IsPositive K H m (G.next e) (G.next h) h e (G.prev e) h
  edge_corner = at_d (sym (next_without_edge L test t g other)) refl

  edge_before : G.prev (G.prev e) ≡ K.prev (G.prev e)
  edge_before = prev_without_edge L test t g other

  edge_holds : InSectorOf R IsPositive K (G.prev e) (H.vector h)
  edge_holds =
      subst (λ x. InSectorOf R IsPositive K x (H.vector h)) (next_without_edge L test t g other)
      (cut_sectors.sector_of_e L test between after (cuts.mirrored L test between after cut_after) (side_in_sector L after edge_there))

  twin_left : IsSide K (G.prev h)
  twin_left = removal.before_d_side L test g r

  twin_there : IsSide H e
  twin_there = flipped_triangles.side_after L tells t h h_side f (t.twin_side h h_side)

  twin_corner : IsCornerAt R IsPositive K H m (G.next e) (G.next h) h e (G.prev h) e
  twin_corner = at_e (sym (next_without_edge L test t g r)) refl

  twin_before : G.prev (G.prev h) ≡ K.prev (G.prev h)
  twin_before = prev_without_edge L test t g r

  twin_holds : InSectorOf R IsPositive K (G.prev h) (H.vector e)
  twin_holds =
      subst (λ x. InSectorOf R IsPositive K x (H.vector e)) (next_without_edge L test t g r)
      (cut_sectors.sector_of_e L test between after cut_after (side_in_sector L after twin_there))

  -- the new edge begins at the corner at the start of the half-edge before the twin: there its vector is a direction
  pub new_edge_direction : IsDirectionAt R IsPositive G (G.prev (G.twin h)) (H.vector h)
  new_edge_direction = direction_of_new edge_left edge_there edge_corner edge_before edge_holds

  -- and is carried to the new edge
  pub new_edge_carried : IsCarried R IsPositive is_ahead flip_steps (G.prev (G.twin h)) (H.vector h) h
  new_edge_carried = new_carried edge_left edge_there edge_corner edge_before edge_holds

  -- its twin begins at the corner at the start of the half-edge before the edge: there its vector is a direction
  pub new_twin_direction : IsDirectionAt R IsPositive G (G.prev h) (H.vector (G.twin h))
  new_twin_direction = direction_of_new twin_left twin_there twin_corner twin_before twin_holds

  -- and is carried to the new edge's twin
  pub new_twin_carried : IsCarried R IsPositive is_ahead flip_steps (G.prev h) (H.vector (G.twin h)) (G.twin h)
  new_twin_carried = new_carried twin_left twin_there twin_corner twin_before twin_holds

  -- ---- homes

  module _ {Y : Type 0} {S : SideGluing Y A} (s : AreGluedPolygons R IsPositive is_ahead S) {home : X → Y}
      (holds : (x : X) → IsSide G x → IsDirectionAt R IsPositive S (home x) (G.vector x)) (before : AreEqualWithHomes R IsPositive is_ahead S G home) where
    -- what is equal to the triangles before the flip is equal to those after it: the flip is the last of the steps
    abbrev equal_after : AreCutAndPasteEqual R IsPositive is_ahead S H
    equal_after = record {
      named = before.equal.named;
      new = before.equal.new;
      old = before.equal.old;
      renumbering = before.equal.renumbering;
      glued = before.equal.glued;
      steps = append before.equal.steps flip_steps;
    }

    abbrev CarriedAfter : Y → Vector A → X → Type 0
    CarriedAfter c v y = IsCarriedTo R IsPositive is_ahead equal_after c v y

    carried_on : (c : Y) (v : Vector A) (x y : X) → IsCarriedTo R IsPositive is_ahead before.equal c v x → IsCarried R IsPositive is_ahead flip_steps x v y → CarriedAfter c v y
    carried_on c v x y i j = carried-append before.equal.steps flip_steps (before.equal.new c) v x y i j

    -- the new edge is carried from the first corner that holds its vector, from the home of the half-edge where it begins on
    first_carried_on : (x y : X) (b : Y) → IsDirectionAt R IsPositive G x (H.vector y) → IsCarried R IsPositive is_ahead flip_steps x (H.vector y) y
        → IsFirstCorner R IsPositive S (home x) (H.vector y) b → CarriedAfter b (H.vector y) y
    first_carried_on x y b a j first =
        carried_on b (H.vector y) x y (home_by_turning L test s before.equal (home x) b x (H.vector y) (holds x a.corner) (before.carried x a.corner) a first) j

    -- homes that carry their half-edges do so after the flip, where the new edge gets the first corners that hold its vectors, and each other half-edge keeps its home
    pub equal_with_homes_after : (home_after : X → Y) → ((x : X) → IsSide G x → x ≢ h → x ≢ G.twin h → home_after (moved same G h x) ≡ home x)
        → IsFirstCorner R IsPositive S (home (G.prev (G.twin h))) (H.vector h) (home_after h)
        → IsFirstCorner R IsPositive S (home (G.prev h)) (H.vector (G.twin h)) (home_after (G.twin h))
        → AreEqualWithHomes R IsPositive is_ahead S H home_after
    equal_with_homes_after home_after kept first first_twin = record {
      equal = equal_after;
      carried = λ y there. elim (hinge_names.edge_or_moved L tells t h h_side y (flipped_triangles.side_of L tells t h h_side f there)) [
        | inl i ↦ subst CarriedFromHome (sym i) (first_carried_on (G.prev e) h (home_after h) new_edge_direction new_edge_carried first)
        | inr (inl i) ↦ subst CarriedFromHome (sym i) (first_carried_on (G.prev h) e (home_after e) new_twin_direction new_twin_carried first_twin)
        | inr (inr i) ↦ subst CarriedFromHome (sym i.is) (of_kept i.name i.side i.not_edge i.not_twin)
      ];
    }
      where
        CarriedFromHome : X → Type 0
        CarriedFromHome y = CarriedAfter (home_after y) (H.vector y) y

        of_kept : (x : X) → IsSide G x → x ≢ h → x ≢ e → CarriedFromHome (m x)
        of_kept x i not_h not_e =
            subst₂ (λ c v. CarriedAfter c v (m x)) (sym (kept x i not_h not_e)) (sym (f.vector x i not_h not_e))
            (carried_on (home x) (G.vector x) x (m x) (before.carried x i) (kept_carried x i not_h not_e))
