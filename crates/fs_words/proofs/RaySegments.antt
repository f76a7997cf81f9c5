-- The rays from the start of a half-edge of a triangulation are its segments: a ray along the half-edge crosses no side, and one to the tip of a word crosses the sides of the word. A library for crates to come.
use Rattle.std.proofs.Common.{◌≡◌, ◌⊎◌, ◌↔◌, ℕ, zero, suc, ◌≤◌, List, [], ◌∷◌, take, length, refl, sym, ap, ◌∙◌, subst, inl, inr, arith}
use Rattle.fs_cycles.proofs.Iterates.{iterate_after}
use Rattle.fs_ring.specs.Operations.{Operations}
use Rattle.fs_ring.specs.OrderedRing.{IsOrderedRing}
use Rattle.fs_ring.specs.Vector.{Vector, zero_vector, add_vector, sub_vector, neg_vector, cross, dot}
use Rattle.fs_ring.specs.Direction.{InSector, at_start, inside}
use Rattle.fs_ring.proofs.Signs as signs
use Rattle.fs_ring.proofs.Order as order
use Rattle.fs_ring.proofs.Plane as plane
use Rattle.fs_ring.proofs.Directions as directions
use Rattle.fs_ring.proofs.Solver.{expressions as E, ◌≐◌}
use Rattle.fs_ring.proofs.PlaneSolver.{vector_identity, ◌≐ᵥ◌}
use Rattle.fs_convex.specs.Polygon.{position}
use Rattle.fs_paths.specs.SideGluing.{SideGluing, IsSide, nth_side, sides_from, InSectorOf}
use Rattle.fs_paths.specs.Development.{IsPutAt}
use Rattle.fs_paths.specs.StraightPaths.{Crosses, Path, IsMetBefore}
use Rattle.fs_paths.specs.Segments.{IsSegment}
use Rattle.fs_paths.proofs.Developments as developments
use Rattle.fs_paths.proofs.Words as words
use Rattle.fs_triangles.specs.Triangles.{AreTriangles}
use Rattle.fs_triangles.proofs.TriangleSides as sides
use Rattle.fs_words.specs.Words.{Letter, right, left, Crossing, first_crossing, tip_of, crossing_after, crossing_from, tip}
use Rattle.fs_words.specs.LiveWords.{IsBetween, Passes, IsRay}
use Rattle.fs_words.proofs.Orientations.{beyond}
use Rattle.fs_words.proofs.Crossings.{PassesFrom, IsSpanned, first_spanned, first_open, spanned_after, last_spanned, of_crossings-last}
use Rattle.fs_words.proofs.CrossingOrder.{IsBeyond, each_beyond}
use Rattle.fs_words.proofs.Rays as rays

module _ {A : Type 0} {R : Operations A} {IsPositive : A → Type 0} (L : IsOrderedRing R IsPositive) {X : Type 0} {G : SideGluing X A} (T : AreTriangles R IsPositive G) where
  abbrev Put : X → Vector A → X → Vector A → Type 0
  Put b B x Q = IsPutAt R G b B x Q

  -- ---- the corners of a put triangle

  abbrev Corners : X → Vector A → X → Vector A → Type 0
  Corners b B x Q = ((x ≡ b) × (Q ≡ B)) ⊎ (((x ≡ G.next b) × (Q ≡ add_vector R B (G.vector b))) ⊎ ((x ≡ G.prev b) × (Q ≡ add_vector R (add_vector R B (G.vector b)) (G.vector (G.next b)))))

  round : (b : X) (B : Vector A) → IsSide G b → add_vector R (add_vector R (add_vector R B (G.vector b)) (G.vector (G.next b))) (G.vector (G.prev b)) ≡ B
  round b B s =
      vector_identity L.ring [] (B ∷ G.vector b ∷ G.vector (G.next b) ∷ G.vector (G.prev b) ∷ [])
      (λ p u v w. add_vector E (add_vector E (add_vector E p u) v) w ≐ᵥ add_vector E p (add_vector E (add_vector E u v) w)) refl
      ∙ ap (add_vector R B) (ap (λ y. add_vector R (add_vector R (G.vector b) (G.vector (G.next b))) (G.vector y)) (T.prev b s) ∙ T.closed b s)
      ∙ plane.add_vector_zero L.ring B

  corner_number : (b : X) (B : Vector A) → IsSide G b → (k : ℕ) → Corners b B (nth_side G b k) (position R B (sides_from G b) k)
  corner_number b B s zero = inl (refl, refl)
  corner_number b B s (suc k) = elim (corner_number b B s k) [
    | inl c ↦ inr (inl (iterate_after G.next k b ∙ ap G.next c.0, (λ i. add_vector R (c.1 i) (G.vector (c.0 i)))))
    | inr (inl c) ↦ inr (inr (iterate_after G.next k b ∙ ap G.next c.0 ∙ sym (T.prev b s), (λ i. add_vector R (c.1 i) (G.vector (c.0 i)))))
    | inr (inr c) ↦ inl (iterate_after G.next k b ∙ ap G.next c.0 ∙ sides.next_prev L T b s, (λ i. add_vector R (c.1 i) (G.vector (c.0 i))) ∙ round b B s)
  ]

  -- a side of the triangle of b, put with b at B, is one of the three
  corners : {b x : X} {B Q : Vector A} → IsSide G b → Put b B x Q → Corners b B x Q
  corners {b} {x} {B} {Q} s k = subst (λ y. Corners b B y Q) k.side (subst (λ w. Corners b B (nth_side G b k.number) w) k.corner (corner_number b B s k.number))

  -- ---- the triangle beyond a crossing

  right_end_from_left : (c : Crossing X A) → IsSpanned R G c → add_vector R c.left_end (G.vector (G.twin c.side)) ≡ c.right_end
  right_end_from_left c k =
      (λ i. add_vector R (k.spans i) (T.twin_opposite c.side k.side i))
      ∙ vector_identity L.ring [] (c.right_end ∷ G.vector c.side ∷ []) (λ p u. add_vector E (add_vector E p u) (neg_vector E u) ≐ᵥ p) refl

  abbrev CornersBeyond : Crossing X A → X → Vector A → Type 0
  CornersBeyond c x Q = ((x ≡ G.twin c.side) × (Q ≡ c.left_end)) ⊎ (((x ≡ G.next (G.twin c.side)) × (Q ≡ c.right_end)) ⊎ ((x ≡ G.prev (G.twin c.side)) × (Q ≡ tip_of R G c)))

  -- its sides begin at the left end, at the right end and at the tip
  corners_beyond : (c : Crossing X A) {x : X} {Q : Vector A} → IsSpanned R G c → Put (G.twin c.side) c.left_end x Q → CornersBeyond c x Q
  corners_beyond c k j =
      let e = right_end_from_left c k in
      elim (corners (T.twin_side c.side k.side) j) [
        | inl m ↦ inl m
        | inr (inl m) ↦ inr (inl (m.0, m.1 ∙ e))
        | inr (inr m) ↦ inr (inr (m.0, m.1 ∙ ap (λ p. add_vector R p (G.vector (G.next (G.twin c.side)))) e))
      ]

  put_next_beyond : (c : Crossing X A) → IsSpanned R G c → Put (G.twin c.side) c.left_end (G.next (G.twin c.side)) c.right_end
  put_next_beyond c k =
      subst (Put (G.twin c.side) c.left_end (G.next (G.twin c.side))) (right_end_from_left c k) (developments.put_next (developments.put_refl (G.twin c.side) c.left_end))

  put_prev_beyond : (c : Crossing X A) → IsSpanned R G c → Put (G.twin c.side) c.left_end (G.prev (G.twin c.side)) (tip_of R G c)
  put_prev_beyond c k =
      subst (λ y. Put (G.twin c.side) c.left_end y (tip_of R G c)) (sym (T.prev (G.twin c.side) (T.twin_side c.side k.side))) (developments.put_next (put_next_beyond c k))

  -- the next crossed half-edge is one of them
  put_after : (c : Crossing X A) (letter : Letter) → IsSpanned R G c → Put (G.twin c.side) c.left_end (crossing_after R G c letter).side (crossing_after R G c letter).right_end
  put_after c right k = put_next_beyond c k
  put_after c left k = put_prev_beyond c k

  -- ---- from a word to the path across its half-edges

  abbrev BeyondFrom : Crossing X A → List Letter → Vector A → Type 0
  BeyondFrom c letters v = (m : ℕ) → m ≤ length letters → IsBeyond R IsPositive (crossing_from R G c (take m letters)) v

  -- the half-edges that a word crosses from c on
  abbrev crossed_from : Crossing X A → List Letter → List X
  crossed_from c [] = c.side ∷ []
  crossed_from c (letter ∷ letters) = c.side ∷ crossed_from (crossing_after R G c letter) letters

  crosses : (c : Crossing X A) {v : Vector A} → IsSpanned R G c → IsBetween R IsPositive v c → IsBeyond R IsPositive c v → Crosses R IsPositive v c.right_end (add_vector R c.right_end (G.vector c.side))
  crosses c {v} k b far = subst (Crosses R IsPositive v c.right_end) k.spans (record {
    right = b.right;
    left = b.left;
    beyond = directions.positive_by_plane L [] (c.right_end ∷ c.left_end ∷ v ∷ []) (λ p q v. cross E (sub_vector E v p) (sub_vector E q p) ≐ beyond E (cross E) p q v) refl far;
  })

  path_of_word : {v : Vector A} (c : Crossing X A) (letters : List Letter) (b : X) (B : Vector A) → IsSpanned R G c → Put b B c.side c.right_end → PassesFrom R IsPositive G c letters v → BeyondFrom c letters v
      → Path R IsPositive G v b B (crossed_from c letters) (G.twin (crossing_from R G c letters).side) (crossing_from R G c letters).left_end
  path_of_word c [] b B k j p far = (c.right_end, j, crosses c k (p 0 (omega arith)) (far 0 (omega arith)), (refl, k.spans))
  path_of_word {v} c (letter ∷ letters) b B k j p far = (
    c.right_end,
    j,
    crosses c k (p 0 (omega arith)) (far 0 (omega arith)),
    path_of_word (crossing_after R G c letter) letters (G.twin c.side) (add_vector R c.right_end (G.vector c.side)) (spanned_after L T c k letter)
        (subst (λ w. Put (G.twin c.side) w (crossing_after R G c letter).side (crossing_after R G c letter).right_end) k.spans (put_after c letter k))
        (λ m l. p (suc m) (omega (arith, l))) (λ m l. far (suc m) (omega (arith, l))),
  )

  -- the first crossed half-edge is the second side of the triangle of h
  put_first : (h : X) → Put h (zero_vector R) (G.next h) (G.vector h)
  put_first h =
      subst (Put h (zero_vector R) (G.next h)) (vector_identity L.ring [] (G.vector h ∷ []) (λ u. add_vector E (zero_vector E) u ≐ᵥ u) refl)
      (developments.put_next (developments.put_refl h (zero_vector R)))

  not_left_and_on_line : {v Q : Vector A} → cross R v Q ≡ R.zero → ¬ IsPositive (cross R v Q)
  not_left_and_on_line z p = signs.positive-ne-zero L p z

  not_met_at_end : {v Q : Vector A} → Q ≡ v → ¬ IsPositive (R.add (dot R v v) (R.neg (dot R v Q)))
  not_met_at_end {v} {Q} e p = order.less_irrefl L (dot R v v) (subst (λ w. IsPositive (R.add (dot R v v) (R.neg (dot R v w)))) e p)

  -- no corner of the last triangle is on the path before the tip
  none_before_tip : (c : Crossing X A) {v : Vector A} → IsSpanned R G c → IsBetween R IsPositive v c → v ≡ tip_of R G c → (Q : Vector A) → ¬ IsMetBefore R IsPositive G v (G.twin c.side) c.left_end Q
  none_before_tip c {v} k b e Q m = elim (corners_beyond c k m.there) [
    | inl j ↦ not_left_and_on_line (ap (cross R v) (sym j.1) ∙ m.on_line) b.left
    | inr (inl j) ↦ not_left_and_on_line (directions.parallel_comm L v c.right_end (ap (cross R v) (sym j.1) ∙ m.on_line)) b.right
    | inr (inr j) ↦ not_met_at_end (j.1 ∙ sym e) m.before
  ]

  segment_of_word : (h : X) → IsSide G h → (letters : List Letter) {v : Vector A} → Passes R IsPositive G h letters v → v ≡ tip R G h letters
      → (word : List X) × (end : X) × IsSegment R IsPositive G h word v end
  segment_of_word h s letters {v} p e =
      let first = first_crossing R G h in
      let last = crossing_from R G first letters in
      let k = last_spanned L T h s letters in
      let b = p 0 (omega arith) in
      let far = each_beyond L T first letters (first_spanned L T h s) (first_open L T h s) p e in
      let path = path_of_word first letters h (zero_vector R) (first_spanned L T h s) (put_first h) p (λ m l. (far m l).1) in (
        crossed_from first letters,
        G.prev (G.twin last.side),
        record {
          last = G.twin last.side;
          put = last.left_end;
          reached = words.reaches_of_path R IsPositive G v h (crossed_from first letters) (G.twin last.side) last.left_end (record { left_of_start = b.right; right_of_end = b.left }) path;
          end = subst (Put (G.twin last.side) last.left_end (G.prev (G.twin last.side))) (sym e) (put_prev_beyond last k);
          none_before = none_before_tip last k (of_crossings-last R G (IsBetween R IsPositive v) h letters p) e;
        },
      )

  -- ---- the triangle of h

  abbrev FirstCorners : X → X → Vector A → Type 0
  FirstCorners h x Q = ((x ≡ h) × (Q ≡ zero_vector R)) ⊎ (((x ≡ G.next h) × (Q ≡ G.vector h)) ⊎ ((x ≡ G.prev h) × (Q ≡ neg_vector R (G.vector (G.prev h)))))

  -- its sides begin at (0, 0) and at the ends of the first crossing
  first_corners : (h : X) {x : X} {Q : Vector A} → IsSide G h → Put h (zero_vector R) x Q → FirstCorners h x Q
  first_corners h s j =
      let e = vector_identity L.ring [] (G.vector h ∷ []) (λ u. add_vector E (zero_vector E) u ≐ᵥ u) refl in
      elim (corners s j) [
        | inl m ↦ inl m
        | inr (inl m) ↦ inr (inl (m.0, m.1 ∙ e))
        | inr (inr m) ↦ inr (inr (m.0, m.1 ∙ ap (λ p. add_vector R p (G.vector (G.next h))) e ∙ sym (first_spanned L T h s).spans))
      ]

  segment_along_side : (h : X) → IsSide G h → (word : List X) × (end : X) × IsSegment R IsPositive G h word (G.vector h) end
  segment_along_side h s = (
    [],
    G.next h,
    record {
      last = h;
      put = zero_vector R;
      reached = (rays.ray_in_sector L T h s (inl refl), refl, refl);
      end = put_first h;
      none_before = λ Q m. elim (first_corners h s m.there) [
        | inl j ↦ signs.positive-ne-zero L m.ahead (ap (dot R (G.vector h)) j.1 ∙ plane.dot-zero_right L.ring (G.vector h))
        | inr (inl j) ↦ not_met_at_end j.1 m.before
        | inr (inr j) ↦ not_left_and_on_line (ap (cross R (G.vector h)) (sym j.1) ∙ m.on_line) (first_open L T h s)
      ];
    },
  )

  -- ---- from a path to its word

  passes_more : (c : Crossing X A) (letter : Letter) (letters : List Letter) {v : Vector A} → IsBetween R IsPositive v c → PassesFrom R IsPositive G (crossing_after R G c letter) letters v → PassesFrom R IsPositive G c (letter ∷ letters) v
  passes_more c letter letters b p zero l = b
  passes_more c letter letters b p (suc m) l = p m (omega (arith, l))

  passes_once : (c : Crossing X A) {v : Vector A} → IsBetween R IsPositive v c → PassesFrom R IsPositive G c [] v
  passes_once c b zero l = b
  passes_once c b (suc m) l = absurd (omega (arith, l))

  abbrev WordFrom : Crossing X A → Vector A → Type 0
  WordFrom c v = (letters : List Letter) × PassesFrom R IsPositive G c letters v × (v ≡ tip_of R G (crossing_from R G c letters))

  -- a side that the path crosses beyond a crossing is that of the next one by a letter
  crossed_after : (c : Crossing X A) {v : Vector A} {x : X} {Q : Vector A} → IsSpanned R G c → IsBetween R IsPositive v c → Put (G.twin c.side) c.left_end x Q
      → Crosses R IsPositive v Q (add_vector R Q (G.vector x))
      → (letter : Letter) × (x ≡ (crossing_after R G c letter).side) × (Q ≡ (crossing_after R G c letter).right_end) × IsBetween R IsPositive v (crossing_after R G c letter)
  crossed_after c {v} {x} {Q} k b j cr = elim (corners_beyond c k j) [
    | inl m ↦ absurd (signs.not_both_signs L b.left (directions.cross_negative L v c.left_end (subst (λ w. IsPositive (cross R w v)) m.1 cr.right)))
    | inr (inl m) ↦ (right, m.0, m.1, record { right = b.right; left = subst (λ w. IsPositive (cross R v w)) (λ i. add_vector R (m.1 i) (G.vector (m.0 i))) cr.left })
    | inr (inr m) ↦ (left, m.0, m.1, record { right = subst (λ w. IsPositive (cross R w v)) m.1 cr.right; left = b.left })
  ]

  word_of_path : {v : Vector A} {end : X} (c : Crossing X A) (word : List X) (f : X) (F : Vector A) → IsSpanned R G c → IsBetween R IsPositive v c
      → Path R IsPositive G v (G.twin c.side) c.left_end word f F → Put f F end v → WordFrom c v
  word_of_path {v} {end} c [] f F k b path j =
      elim (corners_beyond c k (subst (λ w. Put (G.twin c.side) w end v) path.1 (subst (λ y. Put y F end v) path.0 j))) [
        | inl m ↦ absurd (not_left_and_on_line (ap (cross R v) (sym m.1) ∙ plane.cross_self L.ring v) b.left)
        | inr (inl m) ↦ absurd (not_left_and_on_line (ap (λ w. cross R w v) (sym m.1) ∙ plane.cross_self L.ring v) b.right)
        | inr (inr m) ↦ ([], passes_once c b, m.1)
      ]
  word_of_path {v} {end} c (x ∷ word) f F k b path j =
      let next = crossed_after c k b path.1 path.2 in
      let spanned = spanned_after L T c k next.0 in
      let rest = words.path_from R IsPositive G v word f F (ap G.twin next.1) ((λ i. add_vector R (next.2 i) (G.vector (next.1 i))) ∙ sym spanned.spans) path.3 in
      let found = word_of_path (crossing_after R G c next.0) word f F spanned next.3 rest j in
      (next.0 ∷ found.0, passes_more c next.0 found.0 b found.1, found.2)

  end_outside : {a c : Vector A} → IsPositive (cross R a c) → ¬ InSector R IsPositive a c c
  end_outside p (at_start k) = signs.positive-ne-zero L p k.parallel
  end_outside p (inside q o) = signs.positive-ne-zero L o (plane.cross_self L.ring _)

  ray_of_segment : (h : X) → IsSide G h → (v : Vector A) (word : List X) {end : X} → IsSegment R IsPositive G h word v end → IsRay R IsPositive G h v
  ray_of_segment h s v [] {end} seg =
      elim (first_corners h s (subst (λ w. Put h w end v) seg.reached.2 (subst (λ y. Put y seg.put end v) seg.reached.1 seg.end))) [
        | inl m ↦ absurd (rays.in_sector-ne-zero L T seg.reached.0 m.1)
        | inr (inl m) ↦ inl m.1
        | inr (inr m) ↦ absurd (end_outside (first_open L T h s) (subst (InSectorOf R IsPositive G h) m.1 seg.reached.0))
      ]
  ray_of_segment h s v (x ∷ word) {end} seg =
      let path = seg.reached.1 in
      elim (first_corners h s path.1) [
        | inl m ↦ absurd (signs.positive-ne-zero L path.2.right (ap (λ w. cross R w v) m.1 ∙ plane.cross-zero_left L.ring v))
        | inr (inl m) ↦
            let k = first_spanned L T h s in
            let rest = words.path_from R IsPositive G v word seg.last seg.put (ap G.twin m.0) ((λ i. add_vector R (m.1 i) (G.vector (m.0 i))) ∙ sym k.spans) path.3 in
            let strict = seg.reached.0 in
            inr (word_of_path (first_crossing R G h) word seg.last seg.put k (record { right = strict.left_of_start; left = strict.right_of_end }) rest seg.end)
        | inr (inr m) ↦
            absurd (signs.positive-ne-zero L path.2.left
            (ap (cross R v) ((λ i. add_vector R (m.1 i) (G.vector (m.0 i))) ∙ vector_identity L.ring [] (G.vector (G.prev h) ∷ []) (λ u. add_vector E (neg_vector E u) u ≐ᵥ zero_vector E) refl)
            ∙ plane.cross-zero_right L.ring v))
      ]

  -- the vectors of the segments from the start of h are its rays
  pub segments_are_rays : (h : X) → IsSide G h → (v : Vector A) → ((word : List X) × (end : X) × IsSegment R IsPositive G h word v end) ↔ IsRay R IsPositive G h v
  segments_are_rays h s v = ((λ k. ray_of_segment h s v k.0 k.2), segment_of)
    where
      segment_of : IsRay R IsPositive G h v → (word : List X) × (end : X) × IsSegment R IsPositive G h word v end
      segment_of (inl e) = subst (λ w. (word : List X) × (end : X) × IsSegment R IsPositive G h word w end) (sym e) (segment_along_side h s)
      segment_of (inr k) = segment_of_word h s k.0 k.1 k.2
