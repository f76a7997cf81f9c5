-- The ears of several polygons are joined to them, polygon by polygon; the list of cuts that leads back carries each half-edge from its home.
use Rattle.std.proofs.Common.{◌≡◌, ◌⊎◌, Bool, List, [], ◌∷◌, ◌++◌, refl, sym, ap, ◌∙◌, subst, inl, inr}
use Rattle.std.specs.List.{AllByRecursion}
use Rattle.fs_lists.specs.Members.{IsIn, IsDistinct}
use Rattle.fs_lists.proofs.Members.{in_append_left, in_append_right, in_append_cases}
use Rattle.fs_ring.specs.Operations.{Operations}
use Rattle.fs_ring.specs.OrderedRing.{IsOrderedRing}
use Rattle.fs_ring.specs.Vector.{Vector, add_vector, neg_vector}
use Rattle.fs_ring.specs.Direction.{InHalfPlane}
use Rattle.fs_convex.specs.Turning.{DecidesHalfPlanes}
use Rattle.fs_paths.specs.SideGluing.{SideGluing, IsSide, AreGluedPolygons}
use Rattle.fs_cuts.specs.EdgeRemoval.{TellsNames}
use Rattle.fs_cuts.specs.CutAndPaste.{CutAndPaste, no_step}
use Rattle.fs_cuts.proofs.ListsOfSteps.{append, carried-append}
use Rattle.fs_cuts.proofs.Steps.{IsDirectionAt}
use Rattle.fs_triangles.specs.Ears.{Ear, AreEars}
use Rattle.fs_triangles.proofs.Rounds.{Round, Leads, apart_between, apart_first, apart_second}
use Rattle.fs_triangles.proofs.EarCuts.{half_edges_of, IsFaceOf, IsCarriedFrom, IsUncut, Begins, ears_joined, boundary_in, begins_on, sides_of_faces, own_direction}

-- a polygon by the half-edges of its boundary, and its ears
pub record CutPolygon (X : Type 0) : Type 0 where
  pub boundary : List X
  pub ears : List (Ear X)

-- the half-edges of the ears of all polygons
abbrev pub all_half_edges : {X : Type 0} → List (CutPolygon X) → List X
all_half_edges [] = []
all_half_edges (p ∷ polygons) = half_edges_of p.ears ++ all_half_edges polygons

-- x is on the boundary of one of the polygons
pub record IsOnBoundary {X : Type 0} (polygons : List (CutPolygon X)) (x : X) : Type 0 where
  pub polygon : CutPolygon X
  pub there : IsIn polygon polygons
  pub on : IsIn x polygon.boundary

leads_by_pointwise : {X : Type 0} (P Q : X → X → Type 0) → ((x y : X) → P x y → Q x y) → (x : X) (xs : List X) (z : X) → Leads P x xs z → Leads Q x xs z
leads_by_pointwise P Q f x [] z a = f x z a
leads_by_pointwise P Q f x (y ∷ ys) z a = (f x y a.0, leads_by_pointwise P Q f y ys z a.1)

-- a relation that implies another
pub round_weaker : {X : Type 0} (P Q : X → X → Type 0) → ((x y : X) → P x y → Q x y) → (xs : List X) → Round P xs → Round Q xs
round_weaker P Q f [] a = tt
round_weaker P Q f (x ∷ xs) a = leads_by_pointwise P Q f x xs x a

leads_in_list : {X : Type 0} (P Q : X → X → Type 0) (x : X) (xs : List X) (z : X) → ((u y : X) → IsIn u (x ∷ xs) → P u y → Q u y) → Leads P x xs z → Leads Q x xs z
leads_in_list P Q x [] z f a = f x z (inl refl) a
leads_in_list P Q x (y ∷ ys) z f a = (f x y (inl refl) a.0, leads_in_list P Q y ys z (λ u w m. f u w (inr m)) a.1)

-- that implies it for the items of the list
pub round_weaker_in : {X : Type 0} (P Q : X → X → Type 0) (xs : List X) → ((u y : X) → IsIn u xs → P u y → Q u y) → Round P xs → Round Q xs
round_weaker_in P Q [] f a = tt
round_weaker_in P Q (x ∷ xs) f a = leads_in_list P Q x xs x f a

module _ {A : Type 0} (R : Operations A) (IsPositive : A → Type 0) (is_ahead : Vector A → Vector A → Bool) {X : Type 0} where
  -- the polygon is cut into ears, which are polygons of H, each half-edge of them begins at its home, and none of the polygon's corners bends right
  pub record IsCutPolygon (G H : SideGluing X A) (home : X → X) (p : CutPolygon X) : Type 0 where
    pub ears : AreEars R IsPositive G p.boundary p.ears
    pub begins : (x : X) → IsIn x (half_edges_of p.ears) → Begins R IsPositive G ears x (home x)
    pub faces : AllByRecursion (IsFaceOf R H) p.ears
    pub bends : Round (λ x y. InHalfPlane R IsPositive (G.vector x) (G.vector y)) p.boundary

  -- K is H with the ears of the polygons joined to them, and a list of cuts leads from K to H, which carries each half-edge of the ears from its home, and all other directions from where they are
  pub record AreUncut (H K : SideGluing X A) (home : X → X) (polygons : List (CutPolygon X)) : Type 0 where
    pub glued : AreGluedPolygons R IsPositive is_ahead K
    pub cuts : CutAndPaste R IsPositive is_ahead K H
    pub rounds : (p : CutPolygon X) → IsIn p polygons → Round (λ x y. K.next x ≡ y) p.boundary
    pub boundary_side : (p : CutPolygon X) → IsIn p polygons → (x : X) → IsIn x p.boundary → IsSide K x
    pub kept_side : (x : X) → IsSide H x → ¬ IsIn x (all_half_edges polygons) → IsSide K x
    pub side_before : (x : X) → IsSide K x → IsSide H x
    pub only_boundary : (x : X) → IsSide K x → IsIn x (all_half_edges polygons) → IsOnBoundary polygons x
    pub kept_next : (x : X) → IsSide H x → ¬ IsIn x (all_half_edges polygons) → K.next x ≡ H.next x
    pub twin : (x : X) → K.twin x ≡ H.twin x
    pub vector : (x : X) → K.vector x ≡ H.vector x
    pub carried : (x : X) → IsIn x (all_half_edges polygons) → IsCarriedFrom R IsPositive is_ahead cuts (home x) (H.vector x) x
    pub carried_other : (x : X) (v : Vector A) → ¬ IsIn x (all_half_edges polygons) → IsDirectionAt R IsPositive H x v → IsCarriedFrom R IsPositive is_ahead cuts x v x

module _ {A : Type 0} {R : Operations A} {IsPositive : A → Type 0} (L : IsOrderedRing R IsPositive)
    {is_ahead : Vector A → Vector A → Bool} (test : DecidesHalfPlanes R IsPositive is_ahead)
    {X : Type 0} {same : X → X → Bool} (tells : TellsNames same) (G : SideGluing X A) (g : AreGluedPolygons R IsPositive is_ahead G) (home : X → X) where
  -- a face of G is one of K, where its half-edges were left as they were
  faces_kept : (K : SideGluing X A) (ears : List (Ear X)) → ((x : X) → IsIn x (half_edges_of ears) → IsSide G x → IsSide K x)
      → ((x : X) → IsIn x (half_edges_of ears) → IsSide G x → K.next x ≡ G.next x) → ((x : X) → K.vector x ≡ G.vector x) → AllByRecursion (IsFaceOf R G) ears → AllByRecursion (IsFaceOf R K) ears
  faces_kept K [] s n v faces = tt
  faces_kept K (t ∷ ears) s n v faces =
      let face = faces.0 in (
        record {
          first_side = s t.first (inl refl) face.first_side;
          second_side = s t.second (inr (inl refl)) face.second_side;
          diagonal_side = s t.diagonal (inr (inr (inl refl))) face.diagonal_side;
          next_first = n t.first (inl refl) face.first_side ∙ face.next_first;
          next_second = n t.second (inr (inl refl)) face.second_side ∙ face.next_second;
          next_diagonal = n t.diagonal (inr (inr (inl refl))) face.diagonal_side ∙ face.next_diagonal;
          closed = v t.diagonal ∙ face.closed ∙ ap (λ w. neg_vector R (add_vector R w (G.vector t.second))) (sym (v t.first)) ∙ ap (λ w. neg_vector R (add_vector R (K.vector t.first) w)) (sym (v t.second));
        },
        faces_kept K ears (λ x m. s x (inr (inr (inr m)))) (λ x m. n x (inr (inr (inr m)))) v faces.1,
      )

  abbrev Joined : List (CutPolygon X) → Type 0
  Joined polygons = (K : SideGluing X A) × AreUncut R IsPositive is_ahead G K home polygons

  none_joined : Joined []
  none_joined = (
    G,
    record {
      glued = g;
      cuts = no_step G G refl;
      rounds = λ p m. absurd m;
      boundary_side = λ p m. absurd m;
      kept_side = λ x s n. s;
      side_before = λ x s. s;
      only_boundary = λ x s m. absurd m;
      kept_next = λ x s n. refl;
      twin = λ x. refl;
      vector = λ x. refl;
      carried = λ x m. absurd m;
      carried_other = λ x v n i. record { direction = i; carried = refl };
    },
  )

  module _ (p : CutPolygon X) (polygons : List (CutPolygon X)) (K : SideGluing X A) (u : AreUncut R IsPositive is_ahead G K home polygons)
      (cut_in : (q : CutPolygon X) → IsIn q polygons → (x : X) → IsIn x q.boundary → IsIn x (all_half_edges polygons))
      (homes_in : (x : X) → IsIn x (all_half_edges polygons) → IsIn (home x) (all_half_edges polygons))
      (here : IsCutPolygon R IsPositive is_ahead G G home p) (apart : IsDistinct (half_edges_of p.ears ++ all_half_edges polygons)) where
    not_both : (x : X) → IsIn x (half_edges_of p.ears) → ¬ IsIn x (all_half_edges polygons)
    not_both = apart_between (half_edges_of p.ears) (all_half_edges polygons) apart

    faces_left : AllByRecursion (IsFaceOf R K) p.ears
    faces_left =
        faces_kept K p.ears (λ x m s. u.kept_side x s (not_both x m)) (λ x m s. u.kept_next x s (not_both x m)) u.vector here.faces

    bends_left : Round (λ x y. InHalfPlane R IsPositive (K.vector x) (K.vector y)) p.boundary
    bends_left =
        round_weaker (λ x y. InHalfPlane R IsPositive (G.vector x) (G.vector y)) (λ x y. InHalfPlane R IsPositive (K.vector x) (K.vector y))
        (λ x y b. subst (λ w. InHalfPlane R IsPositive w (K.vector y)) (sym (u.vector x)) (subst (InHalfPlane R IsPositive (G.vector x)) (sym (u.vector y)) b)) p.boundary here.bends

    first : (M : SideGluing X A) × IsUncut R IsPositive is_ahead K M p.boundary (half_edges_of p.ears) (Begins R IsPositive G here.ears)
    first = ears_joined L test tells G K u.glued u.twin u.vector p.boundary p.ears here.ears faces_left (apart_first (half_edges_of p.ears) (all_half_edges polygons) apart) bends_left

    abbrev M : SideGluing X A
    M = first.0

    abbrev cuts_more : CutAndPaste R IsPositive is_ahead M G
    cuts_more = append first.1.cuts u.cuts

    -- what is carried on is carried from where it came
    carried_on : (y m : X) (v : Vector A) (x : X) → IsCarriedFrom R IsPositive is_ahead first.1.cuts y v m → IsCarriedFrom R IsPositive is_ahead u.cuts m v x
        → IsCarriedFrom R IsPositive is_ahead cuts_more y v x
    carried_on y m v x i j = record { direction = i.direction; carried = carried-append first.1.cuts u.cuts y v m x i.carried j.carried }

    carried_more : (x : X) → IsIn x (half_edges_of p.ears) ⊎ IsIn x (all_half_edges polygons) → IsCarriedFrom R IsPositive is_ahead cuts_more (home x) (G.vector x) x
    carried_more x (inl i) =
        carried_on (home x) x (G.vector x) x
        (subst (λ v. IsCarriedFrom R IsPositive is_ahead first.1.cuts (home x) v x) (u.vector x) (first.1.carried x (home x) (here.begins x i)))
        (u.carried_other x (G.vector x) (not_both x i) (own_direction L g x (sides_of_faces R G p.ears here.faces x i)))
    carried_more x (inr i) =
        let from = u.carried x i in
        carried_on (home x) (home x) (G.vector x) x (first.1.carried_other (home x) (G.vector x) (λ o. not_both (home x) o (homes_in x i)) from.direction) from

    one_more : Joined (p ∷ polygons)
    one_more = (
      first.0,
      record {
        glued = first.1.glued;
        cuts = cuts_more;
        rounds = λ q m. elim m [ inl e ↦ subst (λ w. Round (λ x y. first.0.next x ≡ y) w.boundary) (sym e) first.1.round | inr n ↦ round_of q n ];
        boundary_side = λ q m x o. elim m [
          | inl e ↦ first.1.boundary_side x (subst (λ w. IsIn x w.boundary) e o)
          | inr n ↦ first.1.kept_side x (u.boundary_side q n x o) (λ i. not_both x i (cut_in q n x o))
        ];
        kept_side = λ x s n.
            first.1.kept_side x (u.kept_side x s (λ m. n (in_append_right x (half_edges_of p.ears) (all_half_edges polygons) m))) (λ m. n (in_append_left x (half_edges_of p.ears) (all_half_edges polygons) m));
        side_before = λ x s. u.side_before x (first.1.side_before x s);
        only_boundary = λ x s m. elim (in_append_cases x (half_edges_of p.ears) (all_half_edges polygons) m) [
          | inl i ↦ record { polygon = p; there = inl refl; on = first.1.only_boundary x s i }
          | inr i ↦ let o = u.only_boundary x (first.1.side_before x s) i in record { polygon = o.polygon; there = inr o.there; on = o.on }
        ];
        kept_next = λ x s n.
            first.1.kept_next x (u.kept_side x s (λ m. n (in_append_right x (half_edges_of p.ears) (all_half_edges polygons) m))) (λ m. n (in_append_left x (half_edges_of p.ears) (all_half_edges polygons) m))
            ∙ u.kept_next x s (λ m. n (in_append_right x (half_edges_of p.ears) (all_half_edges polygons) m));
        twin = λ x. first.1.twin x ∙ u.twin x;
        vector = λ x. first.1.vector x ∙ u.vector x;
        carried = λ x m. carried_more x (in_append_cases x (half_edges_of p.ears) (all_half_edges polygons) m);
        carried_other = λ x v n i.
            let from = u.carried_other x v (λ m. n (in_append_right x (half_edges_of p.ears) (all_half_edges polygons) m)) i in
            carried_on x x v x (first.1.carried_other x v (λ m. n (in_append_left x (half_edges_of p.ears) (all_half_edges polygons) m)) from.direction) from;
      },
    )
      where
        round_of : (q : CutPolygon X) → IsIn q polygons → Round (λ x y. first.0.next x ≡ y) q.boundary
        round_of q n =
            round_weaker_in (λ x y. K.next x ≡ y) (λ x y. first.0.next x ≡ y) q.boundary
            (λ x y m e. first.1.kept_next x (u.boundary_side q n x m) (λ i. not_both x i (cut_in q n x m)) ∙ e) (u.rounds q n)

  -- the boundaries have half-edges of the ears alone
  boundaries_in : (polygons : List (CutPolygon X)) → AllByRecursion (IsCutPolygon R IsPositive is_ahead G G home) polygons → (q : CutPolygon X) → IsIn q polygons → (x : X) → IsIn x q.boundary
      → IsIn x (all_half_edges polygons)
  boundaries_in [] a q m x o = absurd m
  boundaries_in (p ∷ polygons) a q (inl e) x o =
      in_append_left x (half_edges_of p.ears) (all_half_edges polygons) (boundary_in R IsPositive G p.boundary p.ears a.0.ears x (subst (λ w. IsIn x w.boundary) e o))
  boundaries_in (p ∷ polygons) a q (inr n) x o = in_append_right x (half_edges_of p.ears) (all_half_edges polygons) (boundaries_in polygons a.1 q n x o)

  -- the home of a half-edge is one of them
  homes_among : (polygons : List (CutPolygon X)) → AllByRecursion (IsCutPolygon R IsPositive is_ahead G G home) polygons → (x : X) → IsIn x (all_half_edges polygons) → IsIn (home x) (all_half_edges polygons)
  homes_among [] a x m = absurd m
  homes_among (p ∷ polygons) a x m = elim (in_append_cases x (half_edges_of p.ears) (all_half_edges polygons) m) [
    | inl i ↦
        in_append_left (home x) (half_edges_of p.ears) (all_half_edges polygons)
        (boundary_in R IsPositive G p.boundary p.ears a.0.ears (home x) (begins_on R IsPositive G p.boundary p.ears a.0.ears x (home x) (a.0.begins x i)))
    | inr i ↦ in_append_right (home x) (half_edges_of p.ears) (all_half_edges polygons) (homes_among polygons a.1 x i)
  ]

  -- the ears of all polygons can be joined to them
  pub polygons_joined : (polygons : List (CutPolygon X)) → AllByRecursion (IsCutPolygon R IsPositive is_ahead G G home) polygons → IsDistinct (all_half_edges polygons) → Joined polygons
  polygons_joined [] a apart = none_joined
  polygons_joined (p ∷ polygons) a apart =
      let others = polygons_joined polygons a.1 (apart_second (half_edges_of p.ears) (all_half_edges polygons) apart) in
      one_more p polygons others.0 others.1 (boundaries_in polygons a.1) (homes_among polygons a.1) a.0 apart
