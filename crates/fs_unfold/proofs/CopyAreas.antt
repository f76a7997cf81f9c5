-- Twice the area of a copy of a polygon: as a sum over the sides, which the opposite vectors in the opposite order give with the opposite sign, and so does a frame that turns the orientation.
use Rattle.std.proofs.Common.{◌≡◌, ◌≢◌, ℕ, ◌+◌, Bool, true, false, if◌then◌else◌, List, [], ◌∷◌, ◌++◌, map, reverse, refl, sym, ap, ◌∙◌, subst}
use Rattle.fs_ring.specs.Vector as plane
use Rattle.fs_ring.proofs.PlaneSolver.{vector_eq, plane_identity}
use Rattle.fs_ring.proofs.Solver.{expressions as E, identity, derived, numeral, negative, ◌⊗◌, ◌⊕◌, ◌⊖◌, ◌≐◌, ◌from◌}
use Rattle.fs_quadratic.specs.Radicand.{IsNoSquare}
use Rattle.fs_quadratic.specs.Ring.{Quadratic, quadratic, add, neg, mul, total, zero as nil}
use Rattle.fs_quadratic.proofs.Laws.{quadratic_ring}
use Rattle.fs_plane.specs.Vector.{PlaneVector, vector_zero, vector_add, vector_neg, vector_total, vector_total_from, dot, cross, norm}
use Rattle.fs_gluing.specs.Area.{twice_triangle, triangles_from, triangles_of}
use Rattle.fs_gluing.specs.Convex.{IsClosed}
use Rattle.fs_gluing.specs.Positions.{positions_from}
use Rattle.fs_unfold.proofs.Ratios.{cancel}
use Rattle.fs_unfold.proofs.ReversedLists.{reverse_cons}
use Rattle.fs_unfold.proofs.Images.{framed, IsImage, AreImages, copied}

-- ---- sums over the sides

-- the cross products of the position at which each side begins, and the side
abbrev sweep : ℕ → PlaneVector → List PlaneVector → Quadratic
sweep d p [] = nil
sweep d p (v ∷ vs) = add (cross d p v) (sweep d (vector_add p v) vs)

module _ (d : ℕ) where
  -- ---- triangles

  first_triangle : (p v : PlaneVector) → plane.twice_area (quadratic d) vector_zero p (vector_add p v) ≡ cross d p v
  first_triangle p v =
      plane_identity (quadratic_ring d) [] (p ∷ v ∷ []) (λ p v. plane.twice_area E (plane.zero_vector E) p (plane.add_vector E p v) ≐ plane.cross E p v) refl

  last_flat : (p v : PlaneVector) → vector_add p v ≡ vector_zero → cross d p v ≡ nil
  last_flat p v e =
      plane_identity (quadratic_ring d) [] (p ∷ v ∷ []) (λ p v. plane.cross E p v ≐ plane.cross E p (plane.add_vector E p v)) refl
      ∙ ap (cross d p) e
      ∙ plane_identity (quadratic_ring d) [] (p ∷ []) (λ p. plane.cross E p (plane.zero_vector E) ≐ numeral 0) refl

  fan : (i j : ℕ) (p : PlaneVector) (vs : List PlaneVector) → vector_total_from p vs ≡ vector_zero → total (map (twice_triangle d) (triangles_from i j (positions_from p vs))) ≡ sweep d p vs
  fan i j p [] e = refl
  fan i j p (v ∷ []) e = sym (ap (λ x. add x nil) (last_flat p v e) ∙ (quadratic_ring d).add_zero nil)
  fan i j p (v ∷ (w ∷ vs)) e = λ t. add (first_triangle p v t) (fan i (j + 1) (vector_add p v) (w ∷ vs) e t)

  from_origin : (v : PlaneVector) (s : Quadratic) → s ≡ add (cross d vector_zero v) s
  from_origin v s = plane_identity (quadratic_ring d) (s ∷ []) (v ∷ []) (λ s v. s ≐ plane.cross E (plane.zero_vector E) v ⊕ s) refl

  -- the triangles of a closed polygon sum to that over its sides
  area_as_sweep : (i : ℕ) (vs : List PlaneVector) → IsClosed vs → total (map (twice_triangle d) (triangles_of i vs)) ≡ sweep d vector_zero vs
  area_as_sweep i [] closed = refl
  area_as_sweep i (v ∷ vs) closed = fan i 1 (vector_add vector_zero v) vs closed ∙ from_origin v (sweep d (vector_add vector_zero v) vs)

  -- ---- the opposite vectors in the opposite order

  sweep_push : (p : PlaneVector) (xs : List PlaneVector) (x : PlaneVector) → sweep d p (xs ++ x ∷ []) ≡ add (sweep d p xs) (cross d (vector_total_from p xs) x)
  sweep_push p [] x = (quadratic_ring d).add_comm (cross d p x) nil
  sweep_push p (v ∷ xs) x =
      ap (add (cross d p v)) (sweep_push (vector_add p v) xs x)
      ∙ sym ((quadratic_ring d).add_assoc (cross d p v) (sweep d (vector_add p v) xs) (cross d (vector_total_from (vector_add p v) xs) x))

  total_push : (p : PlaneVector) (xs : List PlaneVector) (x : PlaneVector) → vector_total_from p (xs ++ x ∷ []) ≡ vector_add (vector_total_from p xs) x
  total_push p [] x = refl
  total_push p (v ∷ xs) x = total_push (vector_add p v) xs x

  abbrev back : List PlaneVector → List PlaneVector
  back vs = reverse (map vector_neg vs)

  and_back : (p v : PlaneVector) → vector_add (vector_add p v) (vector_neg v) ≡ p
  and_back p v = vector_eq (by p.x v.x) (by p.y v.y)
    where
      by : (a b : Quadratic) → add (add a b) (neg b) ≡ a
      by a b = identity (quadratic_ring d) (a ∷ b ∷ []) (λ a b. (a ⊕ b) ⊕ negative b ≐ a) refl

  -- they lead back
  leads_back : (p : PlaneVector) (vs : List PlaneVector) → vector_total_from (vector_total_from p vs) (reverse (map vector_neg vs)) ≡ p
  leads_back p [] = refl
  leads_back p (v ∷ vs) =
      let end = vector_total_from (vector_add p v) vs in
      ap (vector_total_from end) (reverse_cons (vector_neg v) (map vector_neg vs))
      ∙ total_push end (back vs) (vector_neg v)
      ∙ ap (λ q. vector_add q (vector_neg v)) (leads_back (vector_add p v) vs)
      ∙ and_back p v

  last_back : (p v : PlaneVector) (s : Quadratic) → add (neg s) (cross d (vector_add p v) (vector_neg v)) ≡ neg (add (cross d p v) s)
  last_back p v s =
      plane_identity (quadratic_ring d) (s ∷ []) (p ∷ v ∷ []) (λ s p v. negative s ⊕ plane.cross E (plane.add_vector E p v) (plane.neg_vector E v) ≐ negative (plane.cross E p v ⊕ s)) refl

  -- and sum to the opposite
  sweep_back : (p : PlaneVector) (vs : List PlaneVector) → sweep d (vector_total_from p vs) (reverse (map vector_neg vs)) ≡ neg (sweep d p vs)
  sweep_back p [] = identity (quadratic_ring d) [] (numeral 0 ≐ negative (numeral 0)) refl
  sweep_back p (v ∷ vs) =
      let end = vector_total_from (vector_add p v) vs in
      ap (sweep d end) (reverse_cons (vector_neg v) (map vector_neg vs))
      ∙ sweep_push end (back vs) (vector_neg v)
      ∙ (λ i. add (sweep_back (vector_add p v) vs i) (cross d (leads_back (vector_add p v) vs i) (vector_neg v)))
      ∙ last_back p v (sweep d (vector_add p v) vs)

-- ---- images

-- the opposite number, where the orientation is turned
abbrev signed : Bool → Quadratic → Quadratic
signed turned x = if turned then neg x else x

module _ (d : ℕ) (f : PlaneVector) (α β : Quadratic) where
  abbrev Image : Bool → PlaneVector → PlaneVector → Type 0
  Image t v q = IsImage d f t α β v q

  abbrev Images : Bool → List PlaneVector → List PlaneVector → Type 0
  Images t vs qs = AreImages d f t α β vs qs

  zero_image : (t : Bool) → Image t vector_zero vector_zero
  zero_image false = (
    identity (quadratic_ring d) (f.x ∷ f.y ∷ α ∷ β ∷ []) (λ a b A B. A ⊗ numeral 0 ≐ B ⊗ ((a ⊗ numeral 0) ⊕ (b ⊗ numeral 0))) refl,
    identity (quadratic_ring d) (f.x ∷ f.y ∷ α ∷ β ∷ []) (λ a b A B. A ⊗ numeral 0 ≐ B ⊗ ((a ⊗ numeral 0) ⊖ (b ⊗ numeral 0))) refl,
  )
  zero_image true = (
    identity (quadratic_ring d) (f.x ∷ f.y ∷ α ∷ β ∷ []) (λ a b A B. A ⊗ numeral 0 ≐ B ⊗ ((a ⊗ numeral 0) ⊕ (b ⊗ numeral 0))) refl,
    identity (quadratic_ring d) (f.x ∷ f.y ∷ α ∷ β ∷ []) (λ a b A B. A ⊗ numeral 0 ≐ B ⊗ negative ((a ⊗ numeral 0) ⊖ (b ⊗ numeral 0))) refl,
  )

  add_image : (t : Bool) (p v r q : PlaneVector) → Image t p r → Image t v q → Image t (vector_add p v) (vector_add r q)
  add_image t p v r q i j = (by_x i.0 j.0, by_y t i.1 j.1)
    where
      by_x : mul d α r.x ≡ mul d β (dot d f p) → mul d α q.x ≡ mul d β (dot d f v) → mul d α (add r.x q.x) ≡ mul d β (dot d f (vector_add p v))
      by_x g h =
          derived (quadratic_ring d) (f.x ∷ f.y ∷ p.x ∷ p.y ∷ v.x ∷ v.y ∷ α ∷ β ∷ r.x ∷ q.x ∷ [])
          (λ a b x y u w A B r q. A ⊗ (r ⊕ q) ≐ B ⊗ ((a ⊗ (x ⊕ u)) ⊕ (b ⊗ (y ⊕ w))) from
          (numeral 1, A ⊗ r ≐ B ⊗ ((a ⊗ x) ⊕ (b ⊗ y))) ∷ (numeral 1, A ⊗ q ≐ B ⊗ ((a ⊗ u) ⊕ (b ⊗ w))) ∷ []) refl (g, (h, tt))

      by_y : (t : Bool) → mul d α r.y ≡ mul d β (framed d f t p).y → mul d α q.y ≡ mul d β (framed d f t v).y → mul d α (add r.y q.y) ≡ mul d β (framed d f t (vector_add p v)).y
      by_y false g h =
          derived (quadratic_ring d) (f.x ∷ f.y ∷ p.x ∷ p.y ∷ v.x ∷ v.y ∷ α ∷ β ∷ r.y ∷ q.y ∷ [])
          (λ a b x y u w A B r q. A ⊗ (r ⊕ q) ≐ B ⊗ ((a ⊗ (y ⊕ w)) ⊖ (b ⊗ (x ⊕ u))) from
          (numeral 1, A ⊗ r ≐ B ⊗ ((a ⊗ y) ⊖ (b ⊗ x))) ∷ (numeral 1, A ⊗ q ≐ B ⊗ ((a ⊗ w) ⊖ (b ⊗ u))) ∷ []) refl (g, (h, tt))
      by_y true g h =
          derived (quadratic_ring d) (f.x ∷ f.y ∷ p.x ∷ p.y ∷ v.x ∷ v.y ∷ α ∷ β ∷ r.y ∷ q.y ∷ [])
          (λ a b x y u w A B r q. A ⊗ (r ⊕ q) ≐ B ⊗ negative ((a ⊗ (y ⊕ w)) ⊖ (b ⊗ (x ⊕ u))) from
          (numeral 1, A ⊗ r ≐ B ⊗ negative ((a ⊗ y) ⊖ (b ⊗ x))) ∷ (numeral 1, A ⊗ q ≐ B ⊗ negative ((a ⊗ w) ⊖ (b ⊗ u))) ∷ []) refl (g, (h, tt))

  abbrev grown : Quadratic
  grown = mul d (mul d β β) (norm d f)

  -- cross products of images
  cross_image : (t : Bool) (p v r q : PlaneVector) → Image t p r → Image t v q → mul d (mul d α α) (cross d r q) ≡ mul d grown (signed t (cross d p v))
  cross_image false p v r q i j =
      derived (quadratic_ring d) (f.x ∷ f.y ∷ p.x ∷ p.y ∷ v.x ∷ v.y ∷ α ∷ β ∷ r.x ∷ r.y ∷ q.x ∷ q.y ∷ [])
      (λ a b x y u w A B r s q o. let D = (a ⊗ x) ⊕ (b ⊗ y) in let C = (a ⊗ y) ⊖ (b ⊗ x) in let F = (a ⊗ u) ⊕ (b ⊗ w) in let G = (a ⊗ w) ⊖ (b ⊗ u) in
      (A ⊗ A) ⊗ ((r ⊗ o) ⊖ (s ⊗ q)) ≐ ((B ⊗ B) ⊗ ((a ⊗ a) ⊕ (b ⊗ b))) ⊗ ((x ⊗ w) ⊖ (y ⊗ u)) from
      (A ⊗ o, A ⊗ r ≐ B ⊗ D) ∷ (negative (A ⊗ q), A ⊗ s ≐ B ⊗ C) ∷ (negative (B ⊗ C), A ⊗ q ≐ B ⊗ F) ∷ (B ⊗ D, A ⊗ o ≐ B ⊗ G) ∷ []) refl (i.0, (i.1, (j.0, (j.1, tt))))
  cross_image true p v r q i j =
      derived (quadratic_ring d) (f.x ∷ f.y ∷ p.x ∷ p.y ∷ v.x ∷ v.y ∷ α ∷ β ∷ r.x ∷ r.y ∷ q.x ∷ q.y ∷ [])
      (λ a b x y u w A B r s q o. let D = (a ⊗ x) ⊕ (b ⊗ y) in let C = (a ⊗ y) ⊖ (b ⊗ x) in let F = (a ⊗ u) ⊕ (b ⊗ w) in let G = (a ⊗ w) ⊖ (b ⊗ u) in
      (A ⊗ A) ⊗ ((r ⊗ o) ⊖ (s ⊗ q)) ≐ ((B ⊗ B) ⊗ ((a ⊗ a) ⊕ (b ⊗ b))) ⊗ negative ((x ⊗ w) ⊖ (y ⊗ u)) from
      (A ⊗ o, A ⊗ r ≐ B ⊗ D) ∷ (negative (A ⊗ q), A ⊗ s ≐ B ⊗ negative C) ∷ (B ⊗ C, A ⊗ q ≐ B ⊗ F) ∷ (B ⊗ D, A ⊗ o ≐ B ⊗ negative G) ∷ []) refl (i.0, (i.1, (j.0, (j.1, tt))))

  sums : (t : Bool) (a b x y : Quadratic) → mul d (mul d α α) a ≡ mul d grown (signed t x) → mul d (mul d α α) b ≡ mul d grown (signed t y) → mul d (mul d α α) (add a b) ≡ mul d grown (signed t (add x y))
  sums false a b x y g h =
      derived (quadratic_ring d) (mul d α α ∷ grown ∷ a ∷ b ∷ x ∷ y ∷ []) (λ A G a b x y. A ⊗ (a ⊕ b) ≐ G ⊗ (x ⊕ y) from (numeral 1, A ⊗ a ≐ G ⊗ x) ∷ (numeral 1, A ⊗ b ≐ G ⊗ y) ∷ []) refl (g, (h, tt))
  sums true a b x y g h =
      derived (quadratic_ring d) (mul d α α ∷ grown ∷ a ∷ b ∷ x ∷ y ∷ [])
      (λ A G a b x y. A ⊗ (a ⊕ b) ≐ G ⊗ negative (x ⊕ y) from (numeral 1, A ⊗ a ≐ G ⊗ negative x) ∷ (numeral 1, A ⊗ b ≐ G ⊗ negative y) ∷ []) refl (g, (h, tt))

  no_sum : (t : Bool) → mul d (mul d α α) nil ≡ mul d grown (signed t nil)
  no_sum false = identity (quadratic_ring d) (mul d α α ∷ grown ∷ []) (λ A G. A ⊗ numeral 0 ≐ G ⊗ numeral 0) refl
  no_sum true = identity (quadratic_ring d) (mul d α α ∷ grown ∷ []) (λ A G. A ⊗ numeral 0 ≐ G ⊗ negative (numeral 0)) refl

  -- their sums over the sides
  sweep_images : (t : Bool) (p r : PlaneVector) (vs qs : List PlaneVector) → Image t p r → Images t vs qs → mul d (mul d α α) (sweep d r qs) ≡ mul d grown (signed t (sweep d p vs))
  sweep_images t p r [] [] i are = no_sum t
  sweep_images t p r [] (q ∷ qs) i are = absurd are
  sweep_images t p r (v ∷ vs) [] i are = absurd are
  sweep_images t p r (v ∷ vs) (q ∷ qs) i are =
      sums t (cross d r q) (sweep d (vector_add r q) qs) (cross d p v) (sweep d (vector_add p v) vs) (cross_image t p v r q i are.0)
      (sweep_images t (vector_add p v) (vector_add r q) vs qs (add_image t p v r q i are.0) are.1)

  total_images : (t : Bool) (p r : PlaneVector) (vs qs : List PlaneVector) → Image t p r → Images t vs qs → Image t (vector_total_from p vs) (vector_total_from r qs)
  total_images t p r [] [] i are = i
  total_images t p r [] (q ∷ qs) i are = absurd are
  total_images t p r (v ∷ vs) [] i are = absurd are
  total_images t p r (v ∷ vs) (q ∷ qs) i are = total_images t (vector_add p v) (vector_add r q) vs qs (add_image t p v r q i are.0) are.1

-- images of the sides of a closed polygon close
images_close : {d : ℕ} (no_square : IsNoSquare d) (f : PlaneVector) (turned : Bool) (α β : Quadratic) → α ≢ nil → (vs qs : List PlaneVector)
    → AreImages d f turned α β vs qs → IsClosed vs → IsClosed qs
images_close {d} no_square f turned α β some vs qs are closed =
    let i = subst (λ p. IsImage d f turned α β p (vector_total qs)) closed (total_images d f α β turned vector_zero vector_zero vs qs (zero_image d f α β turned) are) in
    let z = zero_image d f α β turned in
    vector_eq (cancel no_square α (vector_total qs).x nil some (i.0 ∙ sym z.0)) (cancel no_square α (vector_total qs).y nil some (i.1 ∙ sym z.1))

-- twice the area of a copy, times the square of α, is that of the polygon, times the squares of β and of the length of f
pub image_area : {d : ℕ} (no_square : IsNoSquare d) (f : PlaneVector) (turned : Bool) (α β : Quadratic) → α ≢ nil → (i j : ℕ) (vs qs : List PlaneVector)
    → AreImages d f turned α β vs qs → IsClosed vs
    → mul d (mul d α α) (total (map (twice_triangle d) (triangles_of i (copied turned qs)))) ≡ mul d (mul d (mul d β β) (norm d f)) (total (map (twice_triangle d) (triangles_of j vs)))
image_area {d} no_square f turned α β some i j vs qs are closed =
    by turned (images_close no_square f turned α β some vs qs are closed) (sweep_images d f α β turned vector_zero vector_zero vs qs (zero_image d f α β turned) are)
    ∙ sym (ap (mul d (grown d f α β)) (area_as_sweep d j vs closed))
  where
    by : (t : Bool) → IsClosed qs → mul d (mul d α α) (sweep d vector_zero qs) ≡ mul d (grown d f α β) (signed t (sweep d vector_zero vs))
        → mul d (mul d α α) (total (map (twice_triangle d) (triangles_of i (copied t qs)))) ≡ mul d (grown d f α β) (sweep d vector_zero vs)
    by false c e = ap (mul d (mul d α α)) (area_as_sweep d i qs c) ∙ e
    by true c e =
        let back_closed : IsClosed (reverse (map vector_neg qs)) = ap (λ p. vector_total_from p (reverse (map vector_neg qs))) (sym c) ∙ leads_back d vector_zero qs in
        let turned_sum : sweep d vector_zero (reverse (map vector_neg qs)) ≡ neg (sweep d vector_zero qs) = ap (λ p. sweep d p (reverse (map vector_neg qs))) (sym c) ∙ sweep_back d vector_zero qs in
        ap (mul d (mul d α α)) (area_as_sweep d i (reverse (map vector_neg qs)) back_closed ∙ turned_sum)
        ∙ derived (quadratic_ring d) (mul d α α ∷ grown d f α β ∷ sweep d vector_zero qs ∷ sweep d vector_zero vs ∷ [])
        (λ A G x y. A ⊗ negative x ≐ G ⊗ y from (negative (numeral 1), A ⊗ x ≐ G ⊗ negative y) ∷ []) refl (e, tt)
