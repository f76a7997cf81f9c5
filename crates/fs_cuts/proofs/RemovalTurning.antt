-- The boundaries of glued polygons without one edge: how many sides they have, and that their turning number is 1. A library for crates to come.
use Rattle.std.proofs.Common.{◌≡◌, ◌≢◌, ◌⊎◌, ℕ, Bool, zero, suc, ◌+◌, ◌-◌, ◌<◌, ◌≤◌, refl, sym, ap, ◌∙◌, subst, inl, inr, arith}
use Rattle.fs_cycles.specs.Cycles.{LeadsTo}
use Rattle.fs_cycles.proofs.Iterates.{iterate-add, iterate_after}
use Rattle.fs_ring.specs.Operations.{Operations}
use Rattle.fs_ring.specs.OrderedRing.{IsOrderedRing}
use Rattle.fs_ring.specs.Vector.{Vector, zero_vector, unit_vector, neg_vector}
use Rattle.fs_ring.specs.Direction.{InHalfPlane}
use Rattle.fs_ring.proofs.Signs as signs
use Rattle.fs_convex.specs.Turning.{DecidesHalfPlanes, HasConvexCorners, rises, IsCutInTwo}
use Rattle.fs_convex.proofs.Boundary.{rises-shift}
use Rattle.fs_convex.proofs.Chains as chains
use Rattle.fs_paths.specs.SideGluing.{SideGluing, IsSide, AreGluedPolygons, nth_side, sides_from}
use Rattle.fs_paths.proofs.Developments as developments
use Rattle.fs_paths.proofs.PutPolygons as put_polygons
use Rattle.fs_cuts.specs.EdgeRemoval.{IsWithoutEdge}
use Rattle.fs_cuts.proofs.EdgeRemoval as removal

-- ---- along the polygon of d

module _ {A : Type 0} {R : Operations A} {IsPositive : A → Type 0} (L : IsOrderedRing R IsPositive)
    {is_ahead : Vector A → Vector A → Bool} (test : DecidesHalfPlanes R IsPositive is_ahead)
    {X : Type 0} {G K : SideGluing X A} (g : AreGluedPolygons R IsPositive is_ahead G) {d e : X} (r : IsWithoutEdge G K d e) where
  -- a polygon has two sides or more
  pub at_least_two_sides : (x : X) → IsSide G x → (n : ℕ) × (g.sides x ≡ suc (suc n))
  at_least_two_sides x s = go (g.sides x) refl
    where
      go : (n : ℕ) → g.sides x ≡ n → (n : ℕ) × (g.sides x ≡ suc (suc n))
      go zero f = absurd (let some = developments.some_side L test g x s in omega arith)
      go (suc zero) f = absurd (removal.next_differs L test g x s (ap (λ (n : ℕ). nth_side G x n) (sym f) ∙ g.returns x s))
      go (suc (suc n)) f = (n, f)

  -- the polygon of d has so many sides besides d and the side after it
  pub more_sides : ℕ
  more_sides = (at_least_two_sides d r.d_side).0

  pub sides_of_d : g.sides d ≡ suc (suc more_sides)
  unfolding more_sides
  sides_of_d = (at_least_two_sides d r.d_side).1

  -- the sides after d, up to the one before d, are left
  pub left_after_d : (j : ℕ) → j ≤ more_sides → IsSide K (nth_side G (G.next d) j)
  left_after_d j l = elim (r.sides (nth_side G (G.next d) j) (developments.nth_side_is_side L test g (G.next d) (g.next_side d r.d_side) j)) [
    | inl f ↦ absurd (removal.not_again L test g d r.d_side (suc j) (omega arith) (let n = sides_of_d in omega arith) f)
    | inr (inl f) ↦ absurd (r.apart (suc j) f)
    | inr (inr k) ↦ k
  ]

  -- and follow each other as before
  pub same_after_d : (j : ℕ) → j ≤ more_sides → nth_side K (G.next d) j ≡ nth_side G (G.next d) j
  same_after_d zero l = refl
  same_after_d (suc j) l =
      let x = nth_side G (G.next d) j in
      let there : IsSide K (G.next x) = subst (IsSide K) (iterate_after G.next j (G.next d)) (left_after_d (suc j) l) in
      iterate_after K.next j (G.next d)
      ∙ ap K.next (same_after_d j (omega arith))
      ∙ removal.next_same L test g r x (left_after_d j (omega arith)) there
      ∙ sym (iterate_after G.next j (G.next d))

  -- the last of them is the side before d
  last_after_d : nth_side G (G.next d) more_sides ≡ G.prev d
  last_after_d =
      let last : g.sides d - 1 ≡ suc more_sides = let n = sides_of_d in omega arith in
      ap (λ (k : ℕ). nth_side G d k) (sym last) ∙ put_polygons.last_side L test g d r.d_side

  -- then comes the side after e
  pub across_d : nth_side K (G.next d) (suc more_sides) ≡ G.next e
  across_d = iterate_after K.next more_sides (G.next d) ∙ ap K.next (same_after_d more_sides (omega arith) ∙ last_after_d) ∙ r.next_before_d

  -- then came d
  pub end_after_d : nth_side G (G.next d) (suc more_sides) ≡ d
  end_after_d = ap (λ (k : ℕ). nth_side G d k) (sym sides_of_d) ∙ g.returns d r.d_side

  pub vector_left : (j : ℕ) → j ≤ more_sides → sides_from G (G.next d) j ≡ sides_from K (G.next d) j
  vector_left j l = sym (r.vector (nth_side G (G.next d) j) (left_after_d j l)) ∙ ap K.vector (sym (same_after_d j l))

  -- each side of the polygon of d that is left comes after d so
  pub reached_after_d : (x : X) → IsSide K x → LeadsTo G.next x d → (j : ℕ) × (nth_side K (G.next d) j ≡ x)
  reached_after_d x s l =
      let below = developments.put_below L test g r.d_side (developments.put_number d (zero_vector R) back.0) in
      go below.0 below.1 below.2
    where
      back : LeadsTo G.next d x
      back = removal.leads_back L test g (r.side_before x s) l

      go : (k : ℕ) → k < g.sides d → nth_side G d k ≡ nth_side G d back.0 → (j : ℕ) × (nth_side K (G.next d) j ≡ x)
      go zero m f = absurd (r.not_d x s (sym (f ∙ back.1)))
      go (suc j) m f = (j, same_after_d j (let n = sides_of_d in omega arith) ∙ f ∙ back.1)

  -- seen from the next side on, the polygon of d has turning number 1
  pub turning_after_d : rises R is_ahead (unit_vector R) (sides_from G (G.next d)) (suc (suc more_sides)) ≡ 1
  turning_after_d =
      ap (rises R is_ahead (unit_vector R) (sides_from G (G.next d))) (sym sides_of_d)
      ∙ ap (λ s. rises R is_ahead (unit_vector R) s (g.sides d)) (λ i. λ j. sides_from G d (one_more j i))
      ∙ rises-shift R is_ahead (unit_vector R) (sides_from G d) (g.sides d) 1 (developments.put_polygon L test g d (zero_vector R) r.d_side).repeats
      ∙ g.turning_number d r.d_side
    where
      one_more : (j : ℕ) → suc j ≡ 1 + j
      one_more j = omega arith

-- ---- along the polygon that the two become

module _ {A : Type 0} {R : Operations A} {IsPositive : A → Type 0} (L : IsOrderedRing R IsPositive)
    {is_ahead : Vector A → Vector A → Bool} (test : DecidesHalfPlanes R IsPositive is_ahead)
    {X : Type 0} {G K : SideGluing X A} (g : AreGluedPolygons R IsPositive is_ahead G) {d e : X} (r : IsWithoutEdge G K d e)
    (convex_d : InHalfPlane R IsPositive (G.vector (G.prev d)) (G.vector (G.next e)))
    (convex_e : InHalfPlane R IsPositive (G.vector (G.prev e)) (G.vector (G.next d))) where
  abbrev HalfPlane : Vector A → Vector A → Type 0
  HalfPlane w v = InHalfPlane R IsPositive w v

  abbrev other : IsWithoutEdge G K e d
  other = removal.mirrored L test g r

  -- no corner bends right, where those at the ends of the edge don't
  pub convex_left : (x : X) → IsSide K x → HalfPlane (K.vector x) (K.vector (K.next x))
  convex_left x s = go (removal.next_cases L test g r x s)
    where
      by_vectors : {y z : X} → IsSide K y → IsSide K z → HalfPlane (G.vector y) (G.vector z) → HalfPlane (K.vector y) (K.vector z)
      by_vectors {y} {z} j k h = subst (λ w. HalfPlane w (K.vector z)) (sym (r.vector y j)) (subst (HalfPlane (G.vector y)) (sym (r.vector z k)) h)

      across : {y z : X} → x ≡ y → K.next y ≡ z → IsSide K y → IsSide K z → HalfPlane (G.vector y) (G.vector z) → HalfPlane (K.vector x) (K.vector (K.next x))
      across {y} f j k l h = subst (λ w. HalfPlane (K.vector w) (K.vector (K.next w))) (sym f) (subst (λ w. HalfPlane (K.vector y) (K.vector w)) (sym j) (by_vectors k l h))

      go : (x ≡ G.prev d) ⊎ ((x ≡ G.prev e) ⊎ (IsSide K (G.next x) × (K.next x ≡ G.next x))) → HalfPlane (K.vector x) (K.vector (K.next x))
      go (inl f) = across f r.next_before_d (removal.before_d_side L test g r) (removal.after_d_side L test g other) convex_d
      go (inr (inl f)) = across f r.next_before_e (removal.before_d_side L test g other) (removal.after_d_side L test g r) convex_e
      go (inr (inr k)) = subst (λ w. HalfPlane (K.vector x) (K.vector w)) (sym k.1) (by_vectors s k.0 (g.convex x (r.side_before x s)))

  -- the next side of a side is a side
  pub next_left : (x : X) → IsSide K x → IsSide K (K.next x)
  next_left x s = elim (removal.next_cases L test g r x s) [
    | inl f ↦ subst (IsSide K) (sym (ap K.next f ∙ r.next_before_d)) (removal.after_d_side L test g other)
    | inr (inl f) ↦ subst (IsSide K) (sym (ap K.next f ∙ r.next_before_e)) (removal.after_d_side L test g r)
    | inr (inr k) ↦ subst (IsSide K) (sym k.1) k.0
  ]

  nth_left : (x : X) → IsSide K x → (k : ℕ) → IsSide K (nth_side K x k)
  nth_left x s zero = s
  nth_left x s (suc k) = nth_left (K.next x) (next_left x s) k

  convex_from : (x : X) → IsSide K x → HasConvexCorners R IsPositive (sides_from K x)
  convex_from x s k = subst (λ y. HalfPlane (K.vector (nth_side K x k)) (K.vector y)) (sym (iterate_after K.next k x)) (convex_left (nth_side K x k) (nth_left x s k))

  abbrev first_count : ℕ
  first_count = suc (more_sides L test g r)

  abbrev second_count : ℕ
  second_count = suc (more_sides L test g other)

  abbrev count : ℕ
  count = first_count + second_count

  abbrev start : X
  start = G.next d

  start_side : IsSide K start
  start_side = removal.after_d_side L test g r

  returns_to_start : nth_side K start count ≡ start
  returns_to_start = iterate-add K.next first_count second_count start ∙ ap (λ x. nth_side K x second_count) (across_d L test g r) ∙ across_d L test g other

  -- the polygon is cut in two by the edge
  cut_in_two : IsCutInTwo R (sides_from K start) (sides_from G start) (sides_from G (G.next e)) first_count second_count
  cut_in_two = record {
    closed = ap K.vector returns_to_start;
    first = λ j l. vector_left L test g r j (omega arith);
    first_closed = ap G.vector (iterate_after G.next first_count start ∙ ap G.next (end_after_d L test g r)) ∙ sym (r.vector start start_side);
    second = λ j l. vector_left L test g other j (omega arith)
        ∙ ap K.vector (ap (λ x. nth_side K x j) (sym (across_d L test g r)) ∙ sym (iterate-add K.next first_count j start));
    second_closed = ap G.vector (iterate_after G.next second_count (G.next e) ∙ ap G.next (end_after_d L test g other))
        ∙ sym (r.vector (G.next e) (removal.after_d_side L test g other))
        ∙ ap K.vector (sym (across_d L test g r));
    opposite_cuts = ap G.vector (end_after_d L test g other) ∙ removal.vector_e L test g r ∙ ap (λ x. neg_vector R (G.vector x)) (sym (end_after_d L test g r));
  }

  unit-ne-zero : unit_vector R ≢ zero_vector R
  unit-ne-zero f = signs.positive-ne-zero L L.one_positive (ap (λ v. v.x) f)

  turning_from_start : rises R is_ahead (unit_vector R) (sides_from K start) count ≡ 1
  turning_from_start =
      let sum = chains.rises_of_halves L test (convex_from start start_side) (developments.put_polygon L test g start (zero_vector R) (g.next_side d r.d_side)).convex
      (developments.put_polygon L test g (G.next e) (zero_vector R) (g.next_side e (removal.e_side L test g r))).convex unit-ne-zero first_count second_count (omega arith) (omega arith) cut_in_two in
      let one = turning_after_d L test g r in
      let also = turning_after_d L test g other in
      omega arith

  -- n sides lead from x back to x, and the turning number of the boundary that they make is 1
  pub record TurnsOnce (x : X) (n : ℕ) : Type 0 where
    pub returns : nth_side K x n ≡ x
    pub turning_number : rises R is_ahead (unit_vector R) (sides_from K x) n ≡ 1

  turns_from : (x : X) (i : ℕ) → nth_side K start i ≡ x → TurnsOnce x count
  turns_from x i f = record {
    returns = ap (λ y. nth_side K y count) (sym f) ∙ again i ∙ f;
    turning_number = ap (λ s. rises R is_ahead (unit_vector R) s count) (λ k. λ j. from_start j k)
        ∙ rises-shift R is_ahead (unit_vector R) (sides_from K start) count i (λ j. ap K.vector (repeats j))
        ∙ turning_from_start;
  }
    where
      repeats : (j : ℕ) → nth_side K start (count + j) ≡ nth_side K start j
      repeats j = iterate-add K.next count j start ∙ ap (λ y. nth_side K y j) returns_to_start

      again : (i : ℕ) → nth_side K (nth_side K start i) count ≡ nth_side K start i
      again i = sym (iterate-add K.next i count start) ∙ ap (λ (j : ℕ). nth_side K start j) (let z : i + count ≡ count + i = omega arith in z) ∙ repeats i

      from_start : (j : ℕ) → sides_from K x j ≡ sides_from K start (i + j)
      from_start j = ap K.vector (ap (λ y. nth_side K y j) (sym f) ∙ sym (iterate-add K.next i j start))

  -- a polygon that has neither side of the edge is as before
  turns_apart : (x : X) → IsSide K x → ¬ LeadsTo G.next x d → ¬ LeadsTo G.next x e → TurnsOnce x (g.sides x)
  turns_apart x s m n = record {
    returns = same (g.sides x) ∙ g.returns x there;
    turning_number = ap (λ t. rises R is_ahead (unit_vector R) t (g.sides x)) (λ i. λ j. vectors j i) ∙ g.turning_number x there;
  }
    where
      there : IsSide G x
      there = r.side_before x s

      left : (k : ℕ) → IsSide K (nth_side G x k)
      left k = elim (r.sides (nth_side G x k) (developments.nth_side_is_side L test g x there k)) [
        | inl f ↦ absurd (m (k, f))
        | inr (inl f) ↦ absurd (n (k, f))
        | inr (inr h) ↦ h
      ]

      same : (k : ℕ) → nth_side K x k ≡ nth_side G x k
      same zero = refl
      same (suc k) =
          iterate_after K.next k x
          ∙ ap K.next (same k)
          ∙ removal.next_same L test g r (nth_side G x k) (left k) (subst (IsSide K) (iterate_after G.next k x) (left (suc k)))
          ∙ sym (iterate_after G.next k x)

      vectors : (j : ℕ) → sides_from K x j ≡ sides_from G x j
      vectors j = ap K.vector (same j) ∙ r.vector (nth_side G x j) (left j)

  -- each boundary returns, and has turning number 1
  pub turns_once : (x : X) → IsSide K x → (n : ℕ) × TurnsOnce x n
  turns_once x s = elim (removal.leads_to_e L test g other x (r.side_before x s)) [
    | inl l ↦
        let j = reached_after_d L test g r x s l in
        (count, turns_from x j.0 j.1)
    | inr n ↦ elim (removal.leads_to_e L test g r x (r.side_before x s)) [
      | inl l ↦
          let j = reached_after_d L test g other x s l in
          (count, turns_from x (first_count + j.0) (iterate-add K.next first_count j.0 start ∙ ap (λ y. nth_side K y j.0) (across_d L test g r) ∙ j.1))
      | inr m ↦ (g.sides x, turns_apart x s n m)
    ]
  ]
