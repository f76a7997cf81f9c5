-- The corners of a vertex are marked one after another, from a first one on.
use Rattle.std.proofs.Common.{◌≡◌, ◌⊎◌, inl, inr, ℕ, zero, suc, ◌<◌, ◌≤◌, Bool, true, false, not, ◌&&◌, List, length, sum_by, sym, ap, ◌∙◌, refl, subst, arith}
use Rattle.std.proofs.lemmas.Bool.{cases_Bool}
use Rattle.std.specs.Bool.{IsTrue}
use Rattle.std.specs.Option.{IfSome}
use Rattle.fs_lists.proofs.Counts.{tally, tally-less}
use Rattle.fs_plane.specs.declared.corners.Corner.{Corner}
use Rattle.fs_plane.specs.Vector.{is_raised, PlaneVector}
use Rattle.fs_gluing.specs.Limits.{most_sides}
use Rattle.fs_gluing.specs.declared.surfaces.Side.{Side}
use Rattle.fs_gluing.specs.Polygons.{at_side, HasSide, all_sides}
use Rattle.fs_gluing.specs.Surface.{GluedPolygons, IsTranslationSurface}
use Rattle.fs_gluing.specs.NextCorner.{IsNextCorner}
use Rattle.fs_gluing.specs.Vertices.{IsNthNextCorner, AreOneVertex, HoldsEast, IsCount, IsConeNumber}
use Rattle.fs_gluing.proofs.Base.Equality.{same_corner}
use Rattle.fs_stratum.specs.CornerMarks.{is_marked, Covers, MarksCorner, MarksVertex}
use Rattle.fs_gluing.proofs.Sides.AllSides.{in_all_sides, all_sides_distinct, length-all_sides}
use Rattle.fs_gluing.proofs.Sides.VertexOrbits.{next, next_is, has_next, has_one_vertex, one_vertex_self, one_vertex_next}
use Rattle.fs_stratum.proofs.RaisedRays.{is_ray_raised, ray_read, holds_from_rays, rays_from_holds}
use Rattle.fs_stratum.proofs.CornerCounts.{count_same, count_more, count_none, count_at_most}

-- ---- one more mark

module _ (c : Corner) (now more : List (List Bool)) (m : MarksCorner c now more) where
  more_cases : (e : Corner) → IsTrue (is_marked more e) → (e ≡ c) ⊎ IsTrue (is_marked now e)
  more_cases e h = elim (same_corner e c) [ inl same ↦ inl same | inr apart ↦ inr (sym (m.others e apart) ∙ h) ]

  more_keeps : (e : Corner) → IsTrue (is_marked now e) → IsTrue (is_marked more e)
  more_keeps e h = elim (same_corner e c) [ inl same ↦ ap (is_marked more) same ∙ m.here | inr apart ↦ m.others e apart ∙ h ]

-- the corners without a mark
abbrev pub unmarked : List (List Side) → List (List Bool) → ℕ
unmarked polygons marks = tally (λ e. not (is_marked marks e)) (all_sides polygons)

not_false : (b : Bool) → not b ≡ true → b ≡ false
not_false true e = cc
not_false false e = refl

-- with one more mark fewer corners are without one
pub unmarked_falls : (polygons : List (List Side)) (c : Corner) (now more : List (List Bool)) → HasSide polygons c → is_marked now c ≡ false → MarksCorner c now more → unmarked polygons more < unmarked polygons now
unmarked_falls polygons c now more h free m =
    tally-less (λ e. not (is_marked now e)) (λ e. not (is_marked more e)) (all_sides polygons) c (in_all_sides polygons c h)
    (λ e k. elim (cases_Bool (is_marked now e)) [
      | inl marked ↦ let kept = more_keeps c now more m e marked in let lost = not_false (is_marked more e) k in let both : true ≡ false = sym kept ∙ lost in cc
      | inr other ↦ ap not other
    ])
    (ap not free) (ap not m.here)

-- ---- round the vertex

-- the corners from `first` up to c, without c, are marked besides the old ones, and k of them hold (1,0)
pub record MarksVertexUpTo (s : GluedPolygons) (first : Corner) (old now : List (List Bool)) (c : Corner) (k : ℕ) : Type 0 where
  pub covers : Covers s.polygons now
  pub here : AreOneVertex s.polygons first c
  pub sound : (e : Corner) → IsTrue (is_marked now e) → IsTrue (is_marked old e) ⊎ AreOneVertex s.polygons first e
  pub kept : (e : Corner) → IsTrue (is_marked old e) → IsTrue (is_marked now e)
  pub closed : (e : Corner) → IsTrue (is_marked now e) → AreOneVertex s.polygons first e → IsTrue (is_marked now (next s.polygons e)) ⊎ (next s.polygons e ≡ c)
  pub start : IsTrue (is_marked now first) ⊎ (first ≡ c)
  pub count : IsCount (λ e. (IsTrue (is_marked now e) × AreOneVertex s.polygons first e) × HoldsEast s e) (all_sides s.polygons) k

-- a test isn't both true and false
pub not_both : {b : Bool} → b ≡ true → b ≡ false → ⊥
not_both e f = let both : true ≡ false = sym e ∙ f in cc

-- before the first mark
pub vertex_marks_none : (s : GluedPolygons) (first : Corner) (old : List (List Bool)) → ((e : Corner) → AreOneVertex s.polygons first e → is_marked old e ≡ false) → Covers s.polygons old
    → MarksVertexUpTo s first old old first 0
vertex_marks_none s first old fresh covers = record {
  covers = covers;
  here = one_vertex_self s.polygons first;
  sound = λ e h. inl h;
  kept = λ e h. h;
  closed = λ e h o. absurd (not_both h (fresh e o));
  start = inr refl;
  count = count_none _ (all_sides s.polygons) (λ e i p. not_both p.0.0 (fresh e p.0.1));
}

module _ {s : GluedPolygons} {first : Corner} {old : List (List Bool)} (surface : IsTranslationSurface s) (has : HasSide s.polygons first) where
  -- corner c exists
  pub has_corner : {now : List (List Bool)} {c : Corner} {k : ℕ} → MarksVertexUpTo s first old now c k → HasSide s.polygons c
  has_corner {now} {c} {k} r = has_one_vertex s.polygons surface.glued first c has r.here

  -- the count is at most 1,024
  pub count_few : {now : List (List Bool)} {c : Corner} {k : ℕ} → sum_by length s.polygons ≤ most_sides → MarksVertexUpTo s first old now c k → k ≤ most_sides
  count_few {now} {c} {k} few r =
      let l = count_at_most _ (all_sides s.polygons) k r.count in
      let e = length-all_sides s.polygons in
      omega arith

  -- corner c becomes marked, and its next corner follows
  pub vertex_marks_more : {now more : List (List Bool)} {c e : Corner} {k n : ℕ} → MarksVertexUpTo s first old now c k → is_marked now c ≡ false → MarksCorner c now more → IsNextCorner s.polygons c e
      → (HoldsEast s c × (n ≡ suc k)) ⊎ ((¬ HoldsEast s c) × (n ≡ k)) → MarksVertexUpTo s first old more e n
  vertex_marks_more {now} {more} {c} {e} {k} {n} r free m t counted =
      let is = next_is s.polygons c e t in record {
        covers = record { each = λ x h. m.covers.each x (r.covers.each x h) };
        here = subst (AreOneVertex s.polygons first) (sym is) (one_vertex_next s.polygons surface.glued first c (has_corner r) r.here);
        sound = λ x h. elim (more_cases c now more m x h) [ inl same ↦ inr (subst (AreOneVertex s.polygons first) (sym same) r.here) | inr l ↦ r.sound x l ];
        kept = λ x h. more_keeps c now more m x (r.kept x h);
        closed = λ x h o. elim (more_cases c now more m x h) [
          | inl same ↦ inr (ap (next s.polygons) same ∙ sym is)
          | inr l ↦ elim (r.closed x l o) [
            | inl a ↦ inl (more_keeps c now more m (next s.polygons x) a)
            | inr b ↦ inl (ap (is_marked more) b ∙ m.here)
          ]
        ];
        start = elim r.start [ inl a ↦ inl (more_keeps c now more m first a) | inr b ↦ inl (ap (is_marked more) b ∙ m.here) ];
        count = elim counted [
          | inl a ↦ subst (IsCount Q (all_sides s.polygons)) (sym a.1)
              (count_more P Q (all_sides s.polygons) c k (all_sides_distinct s.polygons) (in_all_sides s.polygons c (has_corner r))
              (λ p. not_both p.0.0 free) ((m.here, r.here), a.0)
              (λ x apart p. ((more_keeps c now more m x p.0.0, p.0.1), p.1))
              (λ x apart q. elim (more_cases c now more m x q.0.0) [ inl same ↦ absurd (apart (sym same)) | inr l ↦ ((l, q.0.1), q.1) ]) r.count)
          | inr b ↦ subst (IsCount Q (all_sides s.polygons)) (sym b.1)
              (count_same P Q (all_sides s.polygons) k
              (λ x i p. ((more_keeps c now more m x p.0.0, p.0.1), p.1))
              (λ x i q. elim (more_cases c now more m x q.0.0) [ inl same ↦ absurd (b.0 (subst (HoldsEast s) same q.1)) | inr l ↦ ((l, q.0.1), q.1) ]) r.count)
        ];
      }
    where
      P : Corner → Type 0
      P x = (IsTrue (is_marked now x) × AreOneVertex s.polygons first x) × HoldsEast s x

      Q : Corner → Type 0
      Q x = (IsTrue (is_marked more x) × AreOneVertex s.polygons first x) × HoldsEast s x

  module _ {now : List (List Bool)} {c : Corner} {k : ℕ} (r : MarksVertexUpTo s first old now c k) (met : is_marked now c ≡ true) where
    step : (e : Corner) → IsTrue (is_marked now e) → AreOneVertex s.polygons first e → IsTrue (is_marked now (next s.polygons e))
    step e h o = elim (r.closed e h o) [ inl a ↦ a | inr b ↦ ap (is_marked now) b ∙ met ]

    marked_along : (n : ℕ) (a e : Corner) → HasSide s.polygons a → AreOneVertex s.polygons first a → IsTrue (is_marked now a) → IsNthNextCorner s.polygons n a e → IsTrue (is_marked now e)
    marked_along zero a e h o marked t = ap (is_marked now) (sym t) ∙ marked
    marked_along (suc n) a e h o marked (mid, t, rest) =
        let is = next_is s.polygons a mid t in
        marked_along n (next s.polygons a) e (has_next s.polygons surface.glued a h) (one_vertex_next s.polygons surface.glued first a h o) (step a marked o) (subst (λ x. IsNthNextCorner s.polygons n x e) is rest)

    all_marked_round : (e : Corner) → AreOneVertex s.polygons first e → IsTrue (is_marked now e)
    all_marked_round e o = marked_along o.0 first e has (one_vertex_self s.polygons first) (elim r.start [ inl a ↦ a | inr b ↦ ap (is_marked now) b ∙ met ]) o.1

    -- where c is marked already, the corners of the vertex are marked
    pub vertex_marked : MarksVertex s.polygons first old now
    vertex_marked = record {
      covers = r.covers;
      marked = λ e. (r.sound e, (λ h. elim h [ inl a ↦ r.kept e a | inr o ↦ all_marked_round e o ]));
    }

    -- where c is marked already, k is the cone number
    pub vertex_counted : IsConeNumber s first k
    vertex_counted = count_same _ _ (all_sides s.polygons) k (λ e i p. (p.0.1, p.1)) (λ e i q. ((all_marked_round e q.0, q.0), q.1)) r.count

-- ---- the tests of the sides that are read at a corner and the next

first_false : (a b : Bool) → not a && b ≡ true → a ≡ true → ⊥
first_false true b h e = cc
first_false false b h e = cc

second_true : (a b : Bool) → not a && b ≡ true → b ≡ false → ⊥
second_true true b h e = cc
second_true false b h e = not_both h e

module _ (s : GluedPolygons) (surface : IsTranslationSurface s) (c e : Corner) (has : HasSide s.polygons c) (there : HasSide s.polygons e) (t : IsNextCorner s.polygons c e) (d : ℕ) (field : d ≡ s.d) where
  read : (x : Corner) (v : PlaneVector) (a : Bool) → HasSide s.polygons x → IfSome (at_side s.polygons x) (λ side. v ≡ side.vector) → a ≡ is_raised d v → a ≡ is_ray_raised s x
  read x v a h side is = is ∙ ap (λ n. is_raised n v) field ∙ ray_read s x v h side

  next_read : (w : PlaneVector) (b : Bool) → IfSome (at_side s.polygons e) (λ side. w ≡ side.vector) → b ≡ is_raised d w → b ≡ is_ray_raised s (next s.polygons c)
  next_read w b side is = read e w b there side is ∙ ap (is_ray_raised s) (next_is s.polygons c e t)

  -- the side at c isn't raised and the one at the next corner is: c holds (1,0)
  pub held_read : (v w : PlaneVector) (a b : Bool) → IfSome (at_side s.polygons c) (λ side. v ≡ side.vector) → a ≡ is_raised d v → a ≡ false
      → IfSome (at_side s.polygons e) (λ side. w ≡ side.vector) → b ≡ is_raised d w → b ≡ true → HoldsEast s c
  held_read v w a b side_c is_a low side_e is_b high =
      holds_from_rays s surface c has
      ((λ i. not (sym (read c v a has side_c is_a) i) && sym (next_read w b side_e is_b) i) ∙ (λ i. not (low i) && high i))

  -- the side at c is raised: c doesn't hold (1,0)
  pub raised_read : (v : PlaneVector) (a : Bool) → IfSome (at_side s.polygons c) (λ side. v ≡ side.vector) → a ≡ is_raised d v → a ≡ true → ¬ HoldsEast s c
  raised_read v a side is high held =
      let both = rays_from_holds s surface c has held in
      let up : is_ray_raised s c ≡ true = sym (read c v a has side is) ∙ high in
      first_false (is_ray_raised s c) (is_ray_raised s (next s.polygons c)) both up

  -- the side at the next corner isn't raised: c doesn't hold (1,0)
  pub lowered_read : (w : PlaneVector) (b : Bool) → IfSome (at_side s.polygons e) (λ side. w ≡ side.vector) → b ≡ is_raised d w → b ≡ false → ¬ HoldsEast s c
  lowered_read w b side is low held =
      let both = rays_from_holds s surface c has held in
      let down : is_ray_raised s (next s.polygons c) ≡ false = sym (next_read w b side is) ∙ low in
      second_true (is_ray_raised s c) (is_ray_raised s (next s.polygons c)) both down
