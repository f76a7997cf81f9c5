-- The lists of a triangulation after the writes of a flip: each half-edge has its vector and its twin at its moved name.
use Rattle.std.proofs.Common.{◌≡◌, ◌≢◌, ◌⊎◌, ℕ, ◌<◌, cond, List, [], ◌∷◌, length, get_or, eqb, ltb, refl, sym, ap, ◌∙◌, subst, inl, inr}
use Rattle.std.proofs.Math.ListN.{set}
use Rattle.std.specs.List.{AllByRecursion}
use Rattle.fs_ring.specs.OrderedRing.{IsOrderedRing}
use Rattle.fs_quadratic.specs.Ring.{Quadratic, quadratic, IsPositive}
use Rattle.fs_plane.specs.Vector.{PlaneVector, vector_zero, vector_add, vector_neg}
use Rattle.fs_paths.specs.SideGluing.{SideGluing, IsSide}
use Rattle.fs_triangles.specs.Triangles.{AreTriangles}
use Rattle.fs_triangles.specs.Flips.{moved}
use Rattle.fs_triangles.proofs.Names.{chosen, not_chosen}
use Rattle.fs_triangles.proofs.TriangleSides as triangle_sides
use Rattle.fs_triangles.proofs.HingeNames as hinge_names
use Rattle.fs_triangles.proofs.HingeNames.{IsOutsideHinge, edge, after_edge, before_edge, twin_edge, after_twin, before_twin, outside}
use Rattle.fs_gluing.specs.Triangulation.{Triangulation, face_sides, edge_vector, edge_twin, next_in_face, prev_in_face}
use Rattle.fs_mesh.specs.FlippedMeshes.{IsFlipOf}
use Rattle.fs_mesh.proofs.ListWrites.{IsWritten, IsOneOf, written, length-written, is_written}
use Rattle.fs_mesh.proofs.HalfEdgeNumbers.{eqb_tells_names, side_of_number, number_of_side}

module _ {d : ℕ} (L : IsOrderedRing (quadratic d) (IsPositive d)) (t : Triangulation) (triangles : AreTriangles (quadratic d) (IsPositive d) (face_sides t))
    (h : ℕ) (there : h < length t.vectors) where
  abbrev G : SideGluing ℕ Quadratic
  G = face_sides t

  h_side : IsSide G h
  h_side = side_of_number t h there

  abbrev e : ℕ
  e = edge_twin t h

  abbrev a : ℕ
  a = next_in_face h

  abbrev b : ℕ
  b = prev_in_face h

  abbrev c : ℕ
  c = next_in_face e

  abbrev g : ℕ
  g = prev_in_face e

  abbrev m : ℕ → ℕ
  m = moved eqb G h

  -- the half-edges that are written in the two faces
  abbrev hinge : List ℕ
  hinge = h ∷ e ∷ b ∷ c ∷ g ∷ a ∷ []

  e_side : IsSide G e
  e_side = hinge_names.e_side L eqb_tells_names triangles h h_side

  moves : (z : ℕ) → IsSide G z → m z < length t.vectors
  moves z s = number_of_side t (m z) (hinge_names.moved_side L eqb_tells_names triangles h h_side z s)

  one_to_one : (y z : ℕ) → m y ≡ m z → y ≡ z
  one_to_one y z = hinge_names.moved_one_to_one L eqb_tells_names triangles h h_side

  -- the six half-edges of the hinge are moved to half-edges
  hinge_moves : AllByRecursion (λ z. m z < length t.vectors) hinge
  hinge_moves =
      let before = triangle_sides.prev_side L triangles in
      let next = triangles.next_side in
      (moves h h_side, (moves e e_side, (moves b (before h h_side), (moves c (next e e_side), (moves g (before e e_side), (moves a (next h h_side), tt))))))

  -- ---- an item for each half-edge: vectors, homes

  module _ {B : Type 0} (none : B) (items : List B) (of_edge of_twin : B) where
    -- the item of half-edge y
    abbrev item : ℕ → B
    item y = get_or items y none

    -- the item that half-edge y has after the flip, at its moved name
    abbrev item_after : ℕ → B
    item_after y = cond (eqb y h) of_edge (cond (eqb y e) of_twin (item y))

    -- the items after the writes
    abbrev pub items_after : List B
    items_after = set (set (set (set (set (set items h of_edge) e of_twin) a (item b)) b (item c)) c (item g)) g (item a)

    item_of_edge : item_after h ≡ of_edge
    item_of_edge = chosen eqb_tells_names {x = h} {y = h} of_edge (cond (eqb h e) of_twin (item h)) refl

    item_of_twin : item_after e ≡ of_twin
    item_of_twin = not_chosen eqb_tells_names _ _ (λ f. hinge_names.edge_not_twin L eqb_tells_names triangles h h_side (sym f)) ∙ chosen eqb_tells_names {x = e} {y = e} of_twin (item e) refl

    item_of_other : (y : ℕ) → y ≢ h → y ≢ e → item_after y ≡ item y
    item_of_other y n o = not_chosen eqb_tells_names _ _ n ∙ not_chosen eqb_tells_names _ _ o

    items_written : items_after ≡ written none m item_after items hinge
    items_written = λ i.
        set (set (set (set (set (set items
        (moved_edge i) (sym item_of_edge i))
        (moved_twin i) (sym item_of_twin i))
        (moved_prev i) (of_prev i))
        (moved_next_of_twin i) (of_next_of_twin i))
        (moved_prev_of_twin i) (of_prev_of_twin i))
        (moved_next i) (of_next i)
      where
        moved_edge : h ≡ m h
        moved_edge = sym (hinge_names.moved_edge L eqb_tells_names triangles h h_side)

        moved_twin : e ≡ m e
        moved_twin = sym (hinge_names.moved_twin L eqb_tells_names triangles h h_side)

        moved_prev : a ≡ m b
        moved_prev = sym (hinge_names.moved_prev L eqb_tells_names triangles h h_side)

        moved_next_of_twin : b ≡ m c
        moved_next_of_twin = sym (hinge_names.moved_next_of_twin L eqb_tells_names triangles h h_side)

        moved_prev_of_twin : c ≡ m g
        moved_prev_of_twin = sym (hinge_names.moved_prev_of_twin L eqb_tells_names triangles h h_side)

        moved_next : g ≡ m a
        moved_next = sym (hinge_names.moved_next L eqb_tells_names triangles h h_side)

        of_prev : item b ≡ item_after b
        of_prev = sym (item_of_other b (triangle_sides.prev_not_self L triangles h h_side) (λ f. triangle_sides.twin_not_prev L triangles h h_side (sym f)))

        of_next_of_twin : item c ≡ item_after c
        of_next_of_twin = sym (item_of_other c (λ f. hinge_names.edge_not_next_of_twin L eqb_tells_names triangles h h_side (sym f)) (triangle_sides.next_not_self L triangles e e_side))

        of_prev_of_twin : item g ≡ item_after g
        of_prev_of_twin = sym (item_of_other g (λ f. hinge_names.edge_not_prev_of_twin L eqb_tells_names triangles h h_side (sym f)) (triangle_sides.prev_not_self L triangles e e_side))

        of_next : item a ≡ item_after a
        of_next = sym (item_of_other a (triangle_sides.next_not_self L triangles h h_side) (λ f. triangle_sides.twin_not_next L triangles h h_side (sym f)))

    -- the writes keep the length
    pub length-items_after : length items_after ≡ length items
    length-items_after = ap length items_written ∙ length-written none m item_after items hinge

    module _ (as_many : length items ≡ length t.vectors) where
      -- after the writes each half-edge has its item at its moved name
      item_moved : (y : ℕ) → IsSide G y → get_or items_after (m y) none ≡ item_after y
      item_moved y s =
          ap (λ xs. get_or xs (m y) none) items_written
          ∙ is_written none m item_after one_to_one items hinge y (subst (λ n. AllByRecursion (λ z. m z < n) hinge) (sym as_many) hinge_moves) (elim (hinge_names.spot L eqb_tells_names triangles h h_side y) [
            | edge f ↦ inl (inl f)
            | twin_edge f ↦ inl (inr (inl f))
            | before_edge f ↦ inl (inr (inr (inl f)))
            | after_twin f ↦ inl (inr (inr (inr (inl f))))
            | before_twin f ↦ inl (inr (inr (inr (inr (inl f)))))
            | after_edge f ↦ inl (inr (inr (inr (inr (inr (inl f))))))
            | outside o ↦ inr (ap item (hinge_names.moved_outside L eqb_tells_names triangles h h_side o) ∙ sym (item_of_other y o.not_edge o.not_twin))
          ])

      -- the edge has its new item, and so has its twin
      pub item_at_edge : get_or items_after h none ≡ of_edge
      item_at_edge = ap (λ x. get_or items_after x none) (sym (hinge_names.moved_edge L eqb_tells_names triangles h h_side)) ∙ item_moved h h_side ∙ item_of_edge

      pub item_at_twin : get_or items_after e none ≡ of_twin
      item_at_twin = ap (λ x. get_or items_after x none) (sym (hinge_names.moved_twin L eqb_tells_names triangles h h_side)) ∙ item_moved e e_side ∙ item_of_twin

      -- each other half-edge has its own at its moved name
      pub item_kept : (y : ℕ) → IsSide G y → y ≢ h → y ≢ e → get_or items_after (m y) none ≡ item y
      item_kept y s n o = item_moved y s ∙ item_of_other y n o

  -- ---- twins

  -- the twin that half-edge y has after the flip, at its moved name
  abbrev twin_after : ℕ → ℕ
  twin_after y = m (edge_twin t y)

  -- the half-edges whose twins are written: those of the hinge, and the twins of its sides
  abbrev neighbours : List ℕ
  neighbours = h ∷ e ∷ b ∷ c ∷ g ∷ a ∷ edge_twin t a ∷ edge_twin t b ∷ edge_twin t c ∷ edge_twin t g ∷ []

  -- the twins after the writes
  abbrev pub twins_after : List ℕ
  twins_after =
      let ta = m (edge_twin t a) in
      let tb = m (edge_twin t b) in
      let tc = m (edge_twin t c) in
      let tg = m (edge_twin t g) in
      set (set (set (set (set (set (set (set (set (set t.twins h e) e h) a tb) b tc) c tg) g ta) ta g) tb a) tc b) tg c

  before_side : (x : ℕ) → IsSide G x → IsSide G (prev_in_face x)
  before_side = triangle_sides.prev_side L triangles

  -- they are moved to half-edges
  neighbours_move : AllByRecursion (λ z. m z < length t.vectors) neighbours
  neighbours_move =
      let next = triangles.next_side in
      let twin = triangles.twin_side in (
        moves h h_side,
        (
          moves e e_side,
          (
            moves b (before_side h h_side),
            (
              moves c (next e e_side),
              (
                moves g (before_side e e_side),
                (
                  moves a (next h h_side),
                  (
                    moves (edge_twin t a) (twin a (next h h_side)),
                    (
                      moves (edge_twin t b) (twin b (before_side h h_side)),
                      (
                        moves (edge_twin t c) (twin c (next e e_side)),
                        (moves (edge_twin t g) (twin g (before_side e e_side)), tt),
                      ),
                    ),
                  ),
                ),
              ),
            ),
          ),
        ),
      )

  twins_written : twins_after ≡ written 0 m twin_after t.twins neighbours
  twins_written = λ i.
      set (set (set (set (set (set (set (set (set (set t.twins
      (moved_edge i) (moved_twin i))
      (moved_twin i) (of_twin i))
      (moved_prev i) (m (edge_twin t b)))
      (moved_next_of_twin i) (m (edge_twin t c)))
      (moved_prev_of_twin i) (m (edge_twin t g)))
      (moved_next i) (m (edge_twin t a)))
      (m (edge_twin t a)) (back_a i))
      (m (edge_twin t b)) (back_b i))
      (m (edge_twin t c)) (back_c i))
      (m (edge_twin t g)) (back_g i)
    where
      moved_edge : h ≡ m h
      moved_edge = sym (hinge_names.moved_edge L eqb_tells_names triangles h h_side)

      moved_twin : e ≡ m e
      moved_twin = sym (hinge_names.moved_twin L eqb_tells_names triangles h h_side)

      moved_prev : a ≡ m b
      moved_prev = sym (hinge_names.moved_prev L eqb_tells_names triangles h h_side)

      moved_next_of_twin : b ≡ m c
      moved_next_of_twin = sym (hinge_names.moved_next_of_twin L eqb_tells_names triangles h h_side)

      moved_prev_of_twin : c ≡ m g
      moved_prev_of_twin = sym (hinge_names.moved_prev_of_twin L eqb_tells_names triangles h h_side)

      moved_next : g ≡ m a
      moved_next = sym (hinge_names.moved_next L eqb_tells_names triangles h h_side)

      of_twin : h ≡ m (edge_twin t e)
      of_twin = moved_edge ∙ ap m (sym (hinge_names.twin_e L eqb_tells_names triangles h h_side))

      back_a : g ≡ m (edge_twin t (edge_twin t a))
      back_a = moved_next ∙ ap m (sym (triangles.twin_twin a (triangles.next_side h h_side)))

      back_b : a ≡ m (edge_twin t (edge_twin t b))
      back_b = moved_prev ∙ ap m (sym (triangles.twin_twin b (before_side h h_side)))

      back_c : b ≡ m (edge_twin t (edge_twin t c))
      back_c = moved_next_of_twin ∙ ap m (sym (triangles.twin_twin c (triangles.next_side e e_side)))

      back_g : c ≡ m (edge_twin t (edge_twin t g))
      back_g = moved_prev_of_twin ∙ ap m (sym (triangles.twin_twin g (before_side e e_side)))

  -- a half-edge outside the hinge is the twin of a side of the hinge, or its twin is outside as well
  twin_spot : (y : ℕ) → IsSide G y → IsOutsideHinge G h y → IsOneOf 0 m twin_after y neighbours ⊎ IsWritten 0 m twin_after t.twins y
  twin_spot y s o = elim (hinge_names.spot L eqb_tells_names triangles h h_side (edge_twin t y)) [
    | edge f ↦ absurd (o.not_twin (from f))
    | twin_edge f ↦ absurd (o.not_edge (from f ∙ hinge_names.twin_e L eqb_tells_names triangles h h_side))
    | after_edge f ↦ inl (inr (inr (inr (inr (inr (inr (inl (from f))))))))
    | before_edge f ↦ inl (inr (inr (inr (inr (inr (inr (inr (inl (from f)))))))))
    | after_twin f ↦ inl (inr (inr (inr (inr (inr (inr (inr (inr (inl (from f))))))))))
    | before_twin f ↦ inl (inr (inr (inr (inr (inr (inr (inr (inr (inr (inl (from f)))))))))))
    | outside k ↦
        inr (ap (edge_twin t) (hinge_names.moved_outside L eqb_tells_names triangles h h_side o) ∙ sym (hinge_names.moved_outside L eqb_tells_names triangles h h_side k))
  ]
    where
      from : {x : ℕ} → edge_twin t y ≡ x → y ≡ edge_twin t x
      from f = sym (triangles.twin_twin y s) ∙ ap (edge_twin t) f

  -- after the writes each half-edge has its twin at its moved name
  twin_moved : length t.twins ≡ length t.vectors → (y : ℕ) → IsSide G y → get_or twins_after (m y) 0 ≡ m (edge_twin t y)
  twin_moved as_many y s =
      ap (λ xs. get_or xs (m y) 0) twins_written
      ∙ is_written 0 m twin_after one_to_one t.twins neighbours y (subst (λ n. AllByRecursion (λ z. m z < n) neighbours) (sym as_many) neighbours_move)
      (elim (hinge_names.spot L eqb_tells_names triangles h h_side y) [
        | edge f ↦ inl (inl f)
        | twin_edge f ↦ inl (inr (inl f))
        | before_edge f ↦ inl (inr (inr (inl f)))
        | after_twin f ↦ inl (inr (inr (inr (inl f))))
        | before_twin f ↦ inl (inr (inr (inr (inr (inl f)))))
        | after_edge f ↦ inl (inr (inr (inr (inr (inr (inl f))))))
        | outside o ↦ twin_spot y s o
      ])

  -- ---- the flip

  -- the vectors after the writes, where the new edge leads along this vector
  abbrev pub vectors_after : PlaneVector → List PlaneVector
  vectors_after across = items_after vector_zero t.vectors across (vector_neg across)

  -- the lists after the writes are the triangulation with the edge flipped
  pub flip_of_writes : length t.twins ≡ length t.vectors → {after : Triangulation} → after.vectors ≡ vectors_after (vector_add (edge_vector t g) (edge_vector t a)) → after.twins ≡ twins_after
      → IsFlipOf d t h after
  flip_of_writes as_many {after} vectors twins = record {
    vectors = as_many_vectors;
    twins = ap length (twins ∙ twins_written) ∙ length-written 0 m twin_after t.twins neighbours;
    flip = record {
      has = λ x. ap (ltb x) as_many_vectors;
      next = λ x. refl;
      prev = λ x. refl;
      edge = vector_at h (item_at_edge vector_zero t.vectors across (vector_neg across) refl);
      edge_back = vector_at e (item_at_twin vector_zero t.vectors across (vector_neg across) refl);
      twin_edge = twin_at h h_side (sym (hinge_names.moved_edge L eqb_tells_names triangles h h_side)) ∙ hinge_names.moved_twin L eqb_tells_names triangles h h_side;
      twin_back = twin_at e e_side (sym (hinge_names.moved_twin L eqb_tells_names triangles h h_side)) ∙ ap m (hinge_names.twin_e L eqb_tells_names triangles h h_side) ∙ hinge_names.moved_edge L eqb_tells_names triangles h h_side;
      vector = λ x s n o. vector_at (m x) (item_kept vector_zero t.vectors across (vector_neg across) refl x s n o);
      twin = λ x s n o. twin_at x s refl;
    };
  }
    where
      across : PlaneVector
      across = vector_add (edge_vector t g) (edge_vector t a)

      as_many_vectors : length after.vectors ≡ length t.vectors
      as_many_vectors = ap length vectors ∙ length-items_after vector_zero t.vectors across (vector_neg across)

      vector_at : (x : ℕ) {v : PlaneVector} → get_or (vectors_after across) x vector_zero ≡ v → edge_vector after x ≡ v
      vector_at x is = ap (λ xs. get_or xs x vector_zero) vectors ∙ is

      twin_at : (y : ℕ) → IsSide G y → {x : ℕ} → x ≡ m y → edge_twin after x ≡ m (edge_twin t y)
      twin_at y s f = (λ i. get_or (twins i) (f i) 0) ∙ twin_moved as_many y s
