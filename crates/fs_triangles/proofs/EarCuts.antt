-- Triangles that are the ears of a polygon are joined to it again, the last one first: without their diagonals they are glued polygons, and a list of cuts leads back, which carries each half-edge of the ears from a corner of the polygon.
use Rattle.std.proofs.Common.{◌≡◌, ◌≢◌, ◌⊎◌, ℕ, zero, suc, Bool, List, [], ◌∷◌, ◌++◌, refl, sym, ap, ◌∙◌, subst, inl, inr}
use Rattle.std.specs.List.{AllByRecursion}
use Rattle.fs_lists.specs.Members.{IsIn, IsDistinct}
use Rattle.fs_ring.specs.Operations.{Operations}
use Rattle.fs_ring.specs.OrderedRing.{IsOrderedRing}
use Rattle.fs_ring.specs.Vector.{Vector, add_vector, neg_vector, cross}
use Rattle.fs_ring.specs.Direction as direction
use Rattle.fs_ring.specs.Direction.{InHalfPlane, inside}
use Rattle.fs_ring.proofs.Directions as directions
use Rattle.fs_ring.proofs.HalfPlanes as half_planes
use Rattle.fs_ring.proofs.Solver.{expressions as E}
use Rattle.fs_ring.proofs.PlaneSolver.{vector_identity, ◌≐ᵥ◌}
use Rattle.fs_convex.specs.Turning.{DecidesHalfPlanes}
use Rattle.fs_paths.specs.SideGluing.{SideGluing, IsSide, AreGluedPolygons, nth_side}
use Rattle.fs_cuts.specs.Cuts.{IsCut, IsCornerAt, at_kept, at_e, at_d}
use Rattle.fs_cuts.specs.EdgeRemoval.{IsWithoutEdge, TellsNames, without_edge}
use Rattle.fs_cuts.specs.CutAndPaste.{CutAndPaste, no_step, step, cut, IsCarried}
use Rattle.fs_cuts.proofs.CornerSectors as corner_sectors
use Rattle.fs_cuts.proofs.Germs as germs
use Rattle.fs_cuts.proofs.Steps.{IsDirectionAt}
use Rattle.fs_cuts.proofs.WithoutEdge.{is_without_edge}
use Rattle.fs_cuts.proofs.RemovalGluing as removal
use Rattle.fs_triangles.specs.Ears.{Ear, AreEars, last, ear, last_after}
use Rattle.fs_triangles.proofs.Rounds.{Round, Leads, round_turned, leads_last, leads_to_other, leads_by, last_in, in_turned, distinct_turned}

-- the half-edges of the triangles, in order
abbrev pub half_edges_of : {X : Type 0} → List (Ear X) → List X
half_edges_of [] = []
half_edges_of (t ∷ ears) = t.first ∷ t.second ∷ t.diagonal ∷ half_edges_of ears

-- x begins at the corner y, where an ear is joined to the polygon with the boundary e, f and rest: the ear's sides begin at their own corners, its diagonal, whose twin is e, at f, and what began at e at the ear's first corner
pub data BeginsWithEar {X : Type 0} (begins : X → X → Type 0) (a b d e f : X) (rest : List X) (x y : X) : Type 0 where
  as_first : x ≡ a → y ≡ a → BeginsWithEar begins a b d e f rest x y
  as_second : x ≡ b → y ≡ b → BeginsWithEar begins a b d e f rest x y
  as_diagonal : x ≡ d → y ≡ f → BeginsWithEar begins a b d e f rest x y
  at_twin : begins x e → y ≡ a → BeginsWithEar begins a b d e f rest x y
  at_other : begins x y → IsIn y (f ∷ rest) → BeginsWithEar begins a b d e f rest x y

-- the triangle is a polygon of K, and closes
pub record IsFaceOf {A X : Type 0} (R : Operations A) (K : SideGluing X A) (t : Ear X) : Type 0 where
  pub first_side : IsSide K t.first
  pub second_side : IsSide K t.second
  pub diagonal_side : IsSide K t.diagonal
  pub next_first : K.next t.first ≡ t.second
  pub next_second : K.next t.second ≡ t.diagonal
  pub next_diagonal : K.next t.diagonal ≡ t.first
  pub closed : K.vector t.diagonal ≡ neg_vector R (add_vector R (K.vector t.first) (K.vector t.second))

-- the half-edges of triangles that are polygons of K are sides of it
pub sides_of_faces : {A X : Type 0} (R : Operations A) (K : SideGluing X A) (ears : List (Ear X)) → AllByRecursion (IsFaceOf R K) ears → (x : X) → IsIn x (half_edges_of ears) → IsSide K x
sides_of_faces R K [] faces x m = absurd m
sides_of_faces R K (t ∷ ears) faces x (inl m) = subst (IsSide K) (sym m) faces.0.first_side
sides_of_faces R K (t ∷ ears) faces x (inr (inl m)) = subst (IsSide K) (sym m) faces.0.second_side
sides_of_faces R K (t ∷ ears) faces x (inr (inr (inl m))) = subst (IsSide K) (sym m) faces.0.diagonal_side
sides_of_faces R K (t ∷ ears) faces x (inr (inr (inr m))) = sides_of_faces R K ears faces.1 x m

-- a side is a direction at the corner at which it begins
pub own_direction : {A : Type 0} {R : Operations A} {IsPositive : A → Type 0} (L : IsOrderedRing R IsPositive) {is_ahead : Vector A → Vector A → Bool}
    {X : Type 0} {K : SideGluing X A} → AreGluedPolygons R IsPositive is_ahead K → (x : X) → IsSide K x → IsDirectionAt R IsPositive K x (K.vector x)
own_direction L {K = K} k x s = record {
  corner = s;
  sector = direction.at_start (directions.along_self L (K.vector x) (half_planes.half_plane-ne-zero L (corner_sectors.turns_at L k x s)));
}

module _ {A : Type 0} (R : Operations A) (IsPositive : A → Type 0) (is_ahead : Vector A → Vector A → Bool) {X : Type 0} where
  -- v is a direction at the corner y of K, and the steps carry it to the corner x of H
  pub record IsCarriedFrom {H K : SideGluing X A} (steps : CutAndPaste R IsPositive is_ahead K H) (y : X) (v : Vector A) (x : X) : Type 0 where
    pub direction : IsDirectionAt R IsPositive K y v
    pub carried : IsCarried R IsPositive is_ahead steps y v x

  -- K is H with the half-edges of some triangles taken for the polygon with this boundary, and a list of cuts leads from K to H, which carries each half-edge of these from the corner at which it begins, and all other directions from where they are
  pub record IsUncut (H K : SideGluing X A) (boundary names : List X) (begins : X → X → Type 0) : Type 0 where
    pub glued : AreGluedPolygons R IsPositive is_ahead K
    pub cuts : CutAndPaste R IsPositive is_ahead K H
    pub round : Round (λ x y. K.next x ≡ y) boundary
    pub boundary_side : (x : X) → IsIn x boundary → IsSide K x
    pub kept_side : (x : X) → IsSide H x → ¬ IsIn x names → IsSide K x
    pub side_before : (x : X) → IsSide K x → IsSide H x
    pub only_boundary : (x : X) → IsSide K x → IsIn x names → IsIn x boundary
    pub kept_next : (x : X) → IsSide H x → ¬ IsIn x names → K.next x ≡ H.next x
    pub twin : (x : X) → K.twin x ≡ H.twin x
    pub vector : (x : X) → K.vector x ≡ H.vector x
    pub carried : (x y : X) → begins x y → IsCarriedFrom cuts y (H.vector x) x
    pub carried_other : (x : X) (v : Vector A) → ¬ IsIn x names → IsDirectionAt R IsPositive H x v → IsCarriedFrom cuts x v x

in_ear : {X : Type 0} {a b d e f x : X} (rest names : List X) → ((y : X) → IsIn y (e ∷ f ∷ rest) → IsIn y names) → IsIn x (a ∷ b ∷ f ∷ rest) → IsIn x (a ∷ b ∷ d ∷ names)
in_ear rest names held (inl same) = inl same
in_ear rest names held (inr (inl same)) = inr (inl same)
in_ear {x = x} rest names held (inr (inr n)) = inr (inr (inr (held x (inr n))))

distinct_ear : {X : Type 0} {a b d e f : X} (rest names : List X) → ((y : X) → IsIn y (e ∷ f ∷ rest) → IsIn y names) → IsDistinct (a ∷ b ∷ d ∷ names) → IsDistinct (e ∷ f ∷ rest)
    → IsDistinct (a ∷ b ∷ f ∷ rest)
distinct_ear {X} {a} {b} {d} {e} {f} rest names held n tail = (first_apart, (second_apart, tail.1))
  where
    first_apart : (x : X) → IsIn x (b ∷ f ∷ rest) → a ≢ x
    first_apart x (inl same) = n.0 x (inl same)
    first_apart x (inr m) = n.0 x (inr (inr (held x (inr m))))

    second_apart : (x : X) → IsIn x (f ∷ rest) → b ≢ x
    second_apart x m = n.1.0 x (inr (held x (inr m)))

module _ {A : Type 0} (R : Operations A) (IsPositive : A → Type 0) {X : Type 0} (G : SideGluing X A) where
  -- the boundary of a polygon has half-edges of its ears alone
  pub boundary_in : (boundary : List X) (ears : List (Ear X)) → AreEars R IsPositive G boundary ears → (x : X) → IsIn x boundary → IsIn x (half_edges_of ears)
  boundary_in boundary ears (last a b c) x m = m
  boundary_in boundary ears (ear before after a b d f rest others turned p q r more) x m =
      in_ear rest (half_edges_of others) (λ y n. boundary_in (G.twin d ∷ f ∷ rest) others more y n) (subst (IsIn x) turned (in_turned x before after m))

  -- the half-edge x of the ears begins at the corner y of the polygon
  abbrev pub Begins : {boundary : List X} {ears : List (Ear X)} → AreEars R IsPositive G boundary ears → X → X → Type 0
  Begins (last a b c) x y = IsIn x (a ∷ b ∷ c ∷ []) × (y ≡ x)
  Begins (ear before after a b d f rest others turned p q r more) x y = BeginsWithEar (Begins more) a b d (G.twin d) f rest x y

  -- this corner is on the boundary
  pub begins_on : (boundary : List X) (ears : List (Ear X)) (cut : AreEars R IsPositive G boundary ears) (x y : X) → Begins cut x y → IsIn y boundary
  begins_on boundary ears (last a b c) x y n = subst (λ w. IsIn w (a ∷ b ∷ c ∷ [])) (sym n.1) n.0
  begins_on boundary ears (ear before after a b d f rest others turned p q r more) x y n = in_turned y after before (subst (IsIn y) (sym turned) (there n))
    where
      there : BeginsWithEar (Begins more) a b d (G.twin d) f rest x y → IsIn y (a ∷ b ∷ f ∷ rest)
      there (as_first m o) = inl o
      there (as_second m o) = inr (inl o)
      there (as_diagonal m o) = inr (inr (inl o))
      there (at_twin m o) = inl o
      there (at_other m o) = inr (inr o)

  -- no half-edge is twice on the boundary, where none is twice in the ears
  pub boundary_distinct : (boundary : List X) (ears : List (Ear X)) → AreEars R IsPositive G boundary ears → IsDistinct (half_edges_of ears) → IsDistinct boundary
  boundary_distinct boundary ears (last a b c) n = n
  boundary_distinct boundary ears (ear before after a b d f rest others turned p q r more) n =
      distinct_turned after before (subst IsDistinct (sym turned)
      (distinct_ear rest (half_edges_of others) (boundary_in (G.twin d ∷ f ∷ rest) others more) n (boundary_distinct (G.twin d ∷ f ∷ rest) others more n.1.1.1)))

-- ---- one ear is joined to the polygon

module _ {A : Type 0} {R : Operations A} {IsPositive : A → Type 0} (L : IsOrderedRing R IsPositive)
    {is_ahead : Vector A → Vector A → Bool} (test : DecidesHalfPlanes R IsPositive is_ahead)
    {X : Type 0} {same : X → X → Bool} (tells : TellsNames same)
    (H K : SideGluing X A) (h : AreGluedPolygons R IsPositive is_ahead H) (a b d e f : X) (rest names : List X) (begins : X → X → Type 0) (twin_d : H.twin d ≡ e)
    (uncut : IsUncut R IsPositive is_ahead H K (e ∷ f ∷ rest) names begins) (face : IsFaceOf R H (record { first = a; second = b; diagonal = d }))
    (held : (x : X) → IsIn x (e ∷ f ∷ rest) → IsIn x names) (apart : IsDistinct (a ∷ b ∷ d ∷ names)) (round_apart : IsDistinct (e ∷ f ∷ rest))
    (convex_second : InHalfPlane R IsPositive (H.vector b) (H.vector f)) (convex_first : InHalfPlane R IsPositive (H.vector (last_after f rest)) (H.vector a)) where
  abbrev k : AreGluedPolygons R IsPositive is_ahead K
  k = uncut.glued

  diagonal_apart : ¬ IsIn d names
  diagonal_apart m = apart.1.1.0 d m refl

  diagonal_side : IsSide K d
  diagonal_side = uncut.kept_side d face.diagonal_side diagonal_apart

  first_apart : ¬ IsIn a names
  first_apart m = apart.0 a (inr (inr m)) refl

  second_apart : ¬ IsIn b names
  second_apart m = apart.1.0 b (inr m) refl

  next_first : K.next a ≡ b
  next_first = uncut.kept_next a face.first_side first_apart ∙ face.next_first

  next_second : K.next b ≡ d
  next_second = uncut.kept_next b face.second_side second_apart ∙ face.next_second

  next_diagonal : K.next d ≡ a
  next_diagonal = uncut.kept_next d face.diagonal_side diagonal_apart ∙ face.next_diagonal

  second_side : IsSide K b
  second_side = uncut.kept_side b face.second_side second_apart

  first_side : IsSide K a
  first_side = uncut.kept_side a face.first_side first_apart

  twin_in : IsIn e names
  twin_in = held e (inl refl)

  twin_is : K.twin d ≡ e
  twin_is = uncut.twin d ∙ twin_d

  -- the diagonal and its twin are in two polygons
  iterates : (n : ℕ) (x : X) → (x ≡ d) ⊎ ((x ≡ a) ⊎ (x ≡ b)) → (nth_side K x n ≡ d) ⊎ ((nth_side K x n ≡ a) ⊎ (nth_side K x n ≡ b))
  iterates zero x c = c
  iterates (suc n) x (inl m) = iterates n (K.next x) (inr (inl (ap K.next m ∙ next_diagonal)))
  iterates (suc n) x (inr (inl m)) = iterates n (K.next x) (inr (inr (ap K.next m ∙ next_first)))
  iterates (suc n) x (inr (inr m)) = iterates n (K.next x) (inl (ap K.next m ∙ next_second))

  others_apart : (n : ℕ) → nth_side K d n ≢ K.twin d
  others_apart n m = elim (iterates n d (inl refl)) [
    | inl o ↦ diagonal_apart (subst (λ w. IsIn w names) (sym twin_is ∙ sym m ∙ o) twin_in)
    | inr (inl o) ↦ first_apart (subst (λ w. IsIn w names) (sym twin_is ∙ sym m ∙ o) twin_in)
    | inr (inr o) ↦ second_apart (subst (λ w. IsIn w names) (sym twin_is ∙ sym m ∙ o) twin_in)
  ]

  -- K without the diagonal
  abbrev pub joined : SideGluing X A
  joined = without_edge same K d

  taken : IsWithoutEdge K joined d (K.twin d)
  taken = is_without_edge tells k d diagonal_side others_apart

  before_diagonal : K.prev d ≡ b
  before_diagonal = ap K.prev (sym next_second) ∙ k.prev_next b second_side

  last_side : IsSide K (last_after f rest)
  last_side = uncut.boundary_side (last_after f rest) (inr (last_in f rest))

  next_last : K.next (last_after f rest) ≡ e
  next_last = leads_last (λ x y. K.next x ≡ y) f rest e uncut.round.1

  before_twin : K.prev (K.twin d) ≡ last_after f rest
  before_twin = ap K.prev (twin_is ∙ sym next_last) ∙ k.prev_next (last_after f rest) last_side

  next_twin : K.next (K.twin d) ≡ f
  next_twin = ap K.next twin_is ∙ uncut.round.0

  bends_second : InHalfPlane R IsPositive (K.vector (K.prev d)) (K.vector (K.next (K.twin d)))
  bends_second =
      subst (λ u. InHalfPlane R IsPositive u (K.vector (K.next (K.twin d)))) (sym (ap K.vector before_diagonal ∙ uncut.vector b))
      (subst (InHalfPlane R IsPositive (H.vector b)) (sym (ap K.vector next_twin ∙ uncut.vector f)) convex_second)

  bends_first : InHalfPlane R IsPositive (K.vector (K.prev (K.twin d))) (K.vector (K.next d))
  bends_first =
      subst (λ u. InHalfPlane R IsPositive u (K.vector (K.next d))) (sym (ap K.vector before_twin ∙ uncut.vector (last_after f rest)))
      (subst (InHalfPlane R IsPositive (H.vector (last_after f rest))) (sym (ap K.vector next_diagonal ∙ uncut.vector a)) convex_first)

  -- ---- what is left

  left : (x : X) → IsSide K x → x ≢ d → x ≢ e → IsSide joined x
  left x s n o = elim (taken.sides x s) [
    | inl m ↦ absurd (n m)
    | inr (inl m) ↦ absurd (o (m ∙ twin_is))
    | inr (inr t) ↦ t
  ]

  next_left : (x : X) → IsSide joined x → x ≢ b → x ≢ last_after f rest → joined.next x ≡ K.next x
  next_left x s n o = taken.next_kept x s (λ m. n (m ∙ before_diagonal)) (λ m. o (m ∙ before_twin))

  not_in : (x y : X) → IsIn y names → ¬ IsIn x names → x ≢ y
  not_in x y m n o = n (subst (λ w. IsIn w names) (sym o) m)

  rest_left : (x : X) → IsIn x (f ∷ rest) → IsSide joined x
  rest_left x m = left x (uncut.boundary_side x (inr m)) (λ o. not_in d x (held x (inr m)) diagonal_apart (sym o)) (λ o. round_apart.0 x m (sym o))

  first_left : IsSide joined a
  first_left = left a first_side (λ o. apart.0 d (inr (inl refl)) o) (not_in a e twin_in first_apart)

  second_left : IsSide joined b
  second_left = left b second_side (λ o. apart.1.0 d (inl refl) o) (not_in b e twin_in second_apart)

  boundary_left : (x : X) → IsIn x (a ∷ b ∷ f ∷ rest) → IsSide joined x
  boundary_left x (inl m) = subst (IsSide joined) (sym m) first_left
  boundary_left x (inr (inl m)) = subst (IsSide joined) (sym m) second_left
  boundary_left x (inr (inr m)) = rest_left x m

  last_held : IsIn (last_after f rest) names
  last_held = held (last_after f rest) (inr (last_in f rest))

  next_of_last : joined.next (last_after f rest) ≡ a
  next_of_last = ap joined.next (sym before_twin) ∙ taken.next_before_e ∙ next_diagonal

  round_rest : Leads (λ x y. joined.next x ≡ y) f rest a
  round_rest =
      leads_by (λ x y. K.next x ≡ y) (λ x y. joined.next x ≡ y) f rest e a
      (λ x y m n p. next_left x (rest_left x m) (λ o. not_in b x (held x (inr m)) second_apart (sym o))
      (λ o. round_apart.0 y (inr n) (sym next_last ∙ sym (ap K.next o) ∙ p)) ∙ p)
      next_of_last uncut.round.1

  round_joined : Round (λ x y. joined.next x ≡ y) (a ∷ b ∷ f ∷ rest)
  round_joined = (
    next_left a first_left (λ o. apart.0 b (inl refl) o) (not_in a (last_after f rest) last_held first_apart) ∙ next_first,
    (ap joined.next (sym before_diagonal) ∙ taken.next_before_d ∙ next_twin, round_rest),
  )

  only_left : (x : X) → IsSide joined x → IsIn x (a ∷ b ∷ d ∷ names) → IsIn x (a ∷ b ∷ f ∷ rest)
  only_left x s (inl m) = inl m
  only_left x s (inr (inl m)) = inr (inl m)
  only_left x s (inr (inr (inl m))) = absurd (taken.not_d x s m)
  only_left x s (inr (inr (inr m))) = elim (uncut.only_boundary x (taken.side_before x s) m) [
    | inl o ↦ absurd (taken.not_e x s (o ∙ sym twin_is))
    | inr n ↦ inr (inr n)
  ]

  -- ---- what the cuts carry

  glued_joined : AreGluedPolygons R IsPositive is_ahead joined
  glued_joined = removal.glued_without_edge L test k taken bends_second bends_first

  by_diagonal : IsCut R joined K (λ x. x) (K.prev d) (K.prev (K.twin d)) d (K.twin d)
  by_diagonal = removal.cut_by_edge L test k taken bends_second bends_first

  abbrev cuts_joined : CutAndPaste R IsPositive is_ahead joined H
  cuts_joined = step joined K H k (cut (λ x. x) (K.prev d) (K.prev (K.twin d)) d (K.twin d) by_diagonal) uncut.cuts

  abbrev IsPart : X → X → Type 0
  IsPart c m = IsCornerAt R IsPositive joined K (λ x. x) (K.prev d) (K.prev (K.twin d)) d (K.twin d) c m

  -- what is carried from the corner m, which is a part of c alone, is carried from c
  carried_before : (m c : X) → ((o : X) → IsSide joined o → IsPart o m → o ≡ c) → (v : Vector A) (x : X)
      → IsCarriedFrom R IsPositive is_ahead uncut.cuts m v x → IsCarriedFrom R IsPositive is_ahead cuts_joined c v x
  carried_before m c only v x from =
      let before = germs.germ_before L test glued_joined k by_diagonal m v from.direction.corner from.direction.sector in
      subst (λ o. IsCarriedFrom R IsPositive is_ahead cuts_joined o v x) (only before.0 before.1.start_side before.1.corner)
      (record { direction = record { corner = before.1.start_side; sector = before.1.start }; carried = (m, before.1, from.carried) })

  -- the corner of the diagonal is a part of the one after its twin
  part_diagonal : (o : X) → IsSide joined o → IsPart o d → o ≡ f
  part_diagonal o s (at_kept m) = absurd (taken.not_d o s (sym m))
  part_diagonal o s (at_e n m) = absurd (taken.apart 0 m)
  part_diagonal o s (at_d n m) = n ∙ taken.next_before_d ∙ next_twin

  -- that of its twin of the one after the diagonal
  part_twin : (o : X) → IsSide joined o → IsPart o e → o ≡ a
  part_twin o s (at_kept m) = absurd (taken.not_e o s (sym m ∙ sym twin_is))
  part_twin o s (at_e n m) = n ∙ taken.next_before_e ∙ next_diagonal
  part_twin o s (at_d n m) = absurd (taken.apart 0 (sym m ∙ sym twin_is))

  -- and any other of itself
  part_other : (m : X) → IsSide joined m → (o : X) → IsSide joined o → IsPart o m → o ≡ m
  part_other m t o s (at_kept n) = sym n
  part_other m t o s (at_e i n) = absurd (taken.not_e m t n)
  part_other m t o s (at_d i n) = absurd (taken.not_d m t n)

  kept_left : (x : X) → IsSide H x → ¬ IsIn x (a ∷ b ∷ d ∷ names) → IsSide joined x
  kept_left x s n = left x (uncut.kept_side x s (λ m. n (inr (inr (inr m))))) (λ o. n (inr (inr (inl o)))) (λ o. n (inr (inr (inr (subst (λ w. IsIn w names) (sym o) twin_in)))))

  -- a side of the ear is carried from its own corner
  own_carried : (x : X) → IsSide H x → ¬ IsIn x names → IsCarriedFrom R IsPositive is_ahead uncut.cuts x (H.vector x) x
  own_carried x s n = uncut.carried_other x (H.vector x) n (own_direction L h x s)

  carried_as : {x m y c : X} → x ≡ m → y ≡ c → IsCarriedFrom R IsPositive is_ahead cuts_joined c (H.vector m) m → IsCarriedFrom R IsPositive is_ahead cuts_joined y (H.vector x) x
  carried_as m n from = subst (λ T. T) (λ i. IsCarriedFrom R IsPositive is_ahead cuts_joined (sym n i) (H.vector (sym m i)) (sym m i)) from

  carried_joined : (x y : X) → BeginsWithEar begins a b d e f rest x y → IsCarriedFrom R IsPositive is_ahead cuts_joined y (H.vector x) x
  carried_joined x y (as_first m n) = carried_as m n (carried_before a a (part_other a first_left) (H.vector a) a (own_carried a face.first_side first_apart))
  carried_joined x y (as_second m n) = carried_as m n (carried_before b b (part_other b second_left) (H.vector b) b (own_carried b face.second_side second_apart))
  carried_joined x y (as_diagonal m n) = carried_as m n (carried_before d f part_diagonal (H.vector d) d (own_carried d face.diagonal_side diagonal_apart))
  carried_joined x y (at_twin m n) = carried_as refl n (carried_before e a part_twin (H.vector x) x (uncut.carried x e m))
  carried_joined x y (at_other m n) = carried_before y y (part_other y (rest_left y n)) (H.vector x) x (uncut.carried x y m)

  -- the ear is joined to the polygon
  pub ear_joined : IsUncut R IsPositive is_ahead H joined (a ∷ b ∷ f ∷ rest) (a ∷ b ∷ d ∷ names) (BeginsWithEar begins a b d e f rest)
  ear_joined = record {
    glued = glued_joined;
    cuts = cuts_joined;
    round = round_joined;
    boundary_side = boundary_left;
    kept_side = kept_left;
    side_before = λ x s. uncut.side_before x (taken.side_before x s);
    only_boundary = only_left;
    kept_next = λ x s n.
        next_left x (kept_left x s n) (λ o. n (inr (inl o))) (λ o. n (inr (inr (inr (subst (λ w. IsIn w names) (sym o) last_held)))))
        ∙ uncut.kept_next x s (λ m. n (inr (inr (inr m))));
    twin = uncut.twin;
    vector = uncut.vector;
    carried = carried_joined;
    carried_other = λ x v n i. carried_before x x (part_other x (kept_left x i.corner n)) v x (uncut.carried_other x v (λ m. n (inr (inr (inr m)))) i);
  }

-- ---- all ears of a polygon

-- the polygon of x turned round
turned_uncut : {A : Type 0} {R : Operations A} {IsPositive : A → Type 0} {is_ahead : Vector A → Vector A → Bool} {X : Type 0} {H K : SideGluing X A} (before after names : List X) {round : List X} {begins : X → X → Type 0}
    → after ++ before ≡ round → IsUncut R IsPositive is_ahead H K round names begins → IsUncut R IsPositive is_ahead H K (before ++ after) names begins
turned_uncut {H = H} {K = K} before after names e u = record {
  glued = u.glued;
  cuts = u.cuts;
  round = round_turned (λ x y. K.next x ≡ y) after before (subst (Round (λ x y. K.next x ≡ y)) (sym e) u.round);
  boundary_side = λ x m. u.boundary_side x (subst (IsIn x) e (in_turned x before after m));
  kept_side = u.kept_side;
  side_before = u.side_before;
  only_boundary = λ x s m. in_turned x after before (subst (IsIn x) (sym e) (u.only_boundary x s m));
  kept_next = u.kept_next;
  twin = u.twin;
  vector = u.vector;
  carried = u.carried;
  carried_other = u.carried_other;
}

module _ {A : Type 0} {R : Operations A} {IsPositive : A → Type 0} (L : IsOrderedRing R IsPositive)
    {is_ahead : Vector A → Vector A → Bool} (test : DecidesHalfPlanes R IsPositive is_ahead)
    {X : Type 0} {same : X → X → Bool} (tells : TellsNames same) (G H : SideGluing X A) (h : AreGluedPolygons R IsPositive is_ahead H)
    (twins : (x : X) → H.twin x ≡ G.twin x) (vectors : (x : X) → H.vector x ≡ G.vector x) where
  abbrev Bends : X → X → Type 0
  Bends x y = InHalfPlane R IsPositive (H.vector x) (H.vector y)

  abbrev Uncut : List X → List X → (X → X → Type 0) → Type 0
  Uncut boundary names begins = (K : SideGluing X A) × IsUncut R IsPositive is_ahead H K boundary names begins

  one_ear : (a b c : X) → IsFaceOf R H (record { first = a; second = b; diagonal = c }) → Uncut (a ∷ b ∷ c ∷ []) (a ∷ b ∷ c ∷ []) (λ x y. IsIn x (a ∷ b ∷ c ∷ []) × (y ≡ x))
  one_ear a b c face = (
    H,
    record {
      glued = h;
      cuts = no_step H H refl;
      round = (face.next_first, (face.next_second, face.next_diagonal));
      boundary_side = λ x m. side_of x m;
      kept_side = λ x s n. s;
      side_before = λ x s. s;
      only_boundary = λ x s m. m;
      kept_next = λ x s n. refl;
      twin = λ x. refl;
      vector = λ x. refl;
      carried = λ x y n.
          subst (λ w. IsCarriedFrom R IsPositive is_ahead (no_step H H refl) w (H.vector x) x) (sym n.1)
          (record { direction = own_direction L h x (side_of x n.0); carried = refl });
      carried_other = λ x v n i. record { direction = i; carried = refl };
    },
  )
    where
      side_of : (x : X) → IsIn x (a ∷ b ∷ c ∷ []) → IsSide H x
      side_of x (inl m) = subst (IsSide H) (sym m) face.first_side
      side_of x (inr (inl m)) = subst (IsSide H) (sym m) face.second_side
      side_of x (inr (inr (inl m))) = subst (IsSide H) (sym m) face.diagonal_side
      side_of x (inr (inr (inr m))) = absurd m

  -- the vector of the diagonal's twin
  twin_vector : (a b d : X) → IsFaceOf R H (record { first = a; second = b; diagonal = d }) → H.vector (G.twin d) ≡ add_vector R (G.vector a) (G.vector b)
  twin_vector a b d face =
      ap H.vector (sym (twins d))
      ∙ h.twin_opposite d face.diagonal_side
      ∙ ap (neg_vector R) face.closed
      ∙ vector_identity L.ring [] (H.vector a ∷ H.vector b ∷ []) (λ a b. neg_vector E (neg_vector E (add_vector E a b)) ≐ᵥ add_vector E a b) refl
      ∙ ap (λ v. add_vector R v (H.vector b)) (vectors a)
      ∙ ap (add_vector R (G.vector a)) (vectors b)

  -- the polygon without the ear doesn't bend right either
  rest_bends : (a b d f : X) (rest : List X) → IsFaceOf R H (record { first = a; second = b; diagonal = d })
      → IsPositive (cross R (G.vector (last_after f rest)) (add_vector R (G.vector a) (G.vector b))) → IsPositive (cross R (add_vector R (G.vector a) (G.vector b)) (G.vector f))
      → Leads Bends f rest a → Round Bends (G.twin d ∷ f ∷ rest)
  rest_bends a b d f rest face q r bends = (
    subst (λ v. InHalfPlane R IsPositive v (H.vector f)) (sym (twin_vector a b d face))
        (subst (InHalfPlane R IsPositive (add_vector R (G.vector a) (G.vector b))) (sym (vectors f)) (inside r)),
    leads_to_other Bends f rest a (G.twin d) bends
        (subst (InHalfPlane R IsPositive (H.vector (last_after f rest))) (sym (twin_vector a b d face))
        (subst (λ v. InHalfPlane R IsPositive v (add_vector R (G.vector a) (G.vector b))) (sym (vectors (last_after f rest))) (inside q))),
  )

  -- where the corners of a polygon don't bend right, its ears can be joined to it
  pub ears_joined : (boundary : List X) (ears : List (Ear X)) (cut : AreEars R IsPositive G boundary ears) → AllByRecursion (IsFaceOf R H) ears → IsDistinct (half_edges_of ears) → Round Bends boundary
      → Uncut boundary (half_edges_of ears) (Begins R IsPositive G cut)
  ears_joined boundary ears (last a b c) faces apart bends = one_ear a b c faces.0
  ears_joined boundary ears (ear before after a b d f rest others turned p q r more) faces apart bends =
      let round = subst (Round Bends) turned (round_turned Bends before after bends) in
      let joined = ears_joined (G.twin d ∷ f ∷ rest) others more faces.1 apart.1.1.1 (rest_bends a b d f rest faces.0 q r round.1.1) in (
        without_edge same joined.0 d,
        turned_uncut before after (a ∷ b ∷ d ∷ half_edges_of others) turned
            (ear_joined L test tells H joined.0 h a b d (G.twin d) f rest (half_edges_of others) (Begins R IsPositive G more) (twins d) joined.1 faces.0
            (boundary_in R IsPositive G (G.twin d ∷ f ∷ rest) others more) apart
            (boundary_distinct R IsPositive G (G.twin d ∷ f ∷ rest) others more apart.1.1.1) round.1.0 (leads_last Bends f rest a round.1.1)),
      )
