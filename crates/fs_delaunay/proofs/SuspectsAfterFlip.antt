-- After a flip each edge that isn't marked passes, where the flipped edge and those of the sides of its hinge are marked.
use Rattle.std.proofs.Common.{◌≡◌, ◌≢◌, ◌⊎◌, ℕ, ◌<◌, ◌≤◌, Bool, true, false, cond, ltb, eqb, List, [], ◌∷◌, length, refl, sym, ap, ◌∙◌, subst, inl, inr, arith, length-set, get_or-set_same, get_or-set_other}
use Rattle.std.proofs.Math.ListN.{set}
use Rattle.std.proofs.lemmas.Bool.{lt-ltb, ltb-true, cases_Bool}
use Rattle.std.proofs.lemmas.Bool.Decides.{eqb_tells}
use Rattle.fs_ring.specs.OrderedRing.{IsOrderedRing}
use Rattle.fs_quadratic.specs.Ring.{Quadratic, quadratic, IsPositive}
use Rattle.fs_quadratic.specs.Radicand.{IsRadicand}
use Rattle.fs_quadratic.proofs.Laws.{field_order}
use Rattle.fs_paths.specs.SideGluing.{SideGluing, IsSide}
use Rattle.fs_plane.specs.Formulas.{circle_after}
use Rattle.fs_triangles.specs.Triangles.{AreTriangles}
use Rattle.fs_triangles.specs.Flips.{moved}
use Rattle.fs_triangles.proofs.TriangleSides as triangle_sides
use Rattle.fs_triangles.proofs.HingeNames as hinge_names
use Rattle.fs_triangles.proofs.HingeNames.{IsOutsideHinge, edge, after_edge, before_edge, twin_edge, after_twin, before_twin, outside}
use Rattle.fs_gluing.specs.Triangulation.{Triangulation, IsTriangulation, IsEdge, face_sides, edge_vector, edge_twin, next_in_face, prev_in_face}
use Rattle.fs_mesh.specs.Meshes.{IsIllegal, edge_circle_after}
use Rattle.fs_mesh.specs.FlippedMeshes.{IsFlipOf}
use Rattle.fs_mesh.proofs.HalfEdgeNumbers.{eqb_tells_names, side_of_number}
use Rattle.fs_mesh.proofs.MeshAfterFlip.{triangulation_after}
use Rattle.fs_delaunay.specs.Suspects.{mark_of, edge_name, with_marks, hinge_edges, MarksSuspects}

-- ---- marks

-- x is in the list
abbrev IsOneOf : ℕ → List ℕ → Type 0
IsOneOf x [] = ⊥
IsOneOf x (y ∷ ys) = (x ≡ y) ⊎ IsOneOf x ys

contradiction : (b : Bool) → b ≡ true → b ≡ false → ⊥
contradiction b h k = absurd cc

-- a number without a mark after one more is marked isn't that one, and had none before
one_unmarked : (marks : List Bool) (h x : ℕ) → x < length marks → mark_of (set marks h true) x ≡ false → (x ≢ h) × (mark_of marks x ≡ false)
one_unmarked marks h x there unmarked = elim (eqb_tells x h) [
  | inl same ↦ absurd (contradiction (mark_of (set marks h true) h) (get_or-set_same marks h true false (subst (λ k. k < length marks) same.1 there)) (ap (mark_of (set marks h true)) (sym same.1) ∙ unmarked))
  | inr other ↦ (other.1, sym (get_or-set_other marks h x true false other.1) ∙ unmarked)
]

-- the same for a list of numbers
unmarked_before : (marks : List Bool) (hs : List ℕ) (x : ℕ) → x < length marks → mark_of (with_marks marks hs) x ≡ false → mark_of marks x ≡ false
unmarked_before marks [] x there unmarked = unmarked
unmarked_before marks (h ∷ hs) x there unmarked =
    (one_unmarked marks h x there (unmarked_before (set marks h true) hs x (subst (λ n. x < n) (sym (length-set marks h true)) there) unmarked)).1

unmarked_other : (marks : List Bool) (hs : List ℕ) (x : ℕ) → x < length marks → mark_of (with_marks marks hs) x ≡ false → IsOneOf x hs → ⊥
unmarked_other marks [] x there unmarked one = one
unmarked_other marks (h ∷ hs) x there unmarked (inl same) =
    (one_unmarked marks h x there (unmarked_before (set marks h true) hs x (subst (λ n. x < n) (sym (length-set marks h true)) there) unmarked)).0 same
unmarked_other marks (h ∷ hs) x there unmarked (inr one) =
    unmarked_other (set marks h true) hs x (subst (λ n. x < n) (sym (length-set marks h true)) there) unmarked one

pub length-with_marks : (marks : List Bool) (hs : List ℕ) → length (with_marks marks hs) ≡ length marks
length-with_marks marks [] = refl
length-with_marks marks (h ∷ hs) = length-with_marks (set marks h true) hs ∙ length-set marks h true

-- ---- names of edges

not_less : (x y : ℕ) → y ≤ x → ltb x y ≡ false
not_less x y h = elim (cases_Bool (ltb x y)) [
  | inl less ↦ let below : x < y = ltb-true x y less in absurd (omega arith)
  | inr other ↦ other
]

-- an edge is named by its lesser half-edge
name_of_lesser : (t : Triangulation) (y : ℕ) → y < edge_twin t y → edge_name t y ≡ y
name_of_lesser t y lesser = ap (λ b. cond b y (edge_twin t y)) (lt-ltb y (edge_twin t y) lesser)

name_of_greater : (t : Triangulation) (x y : ℕ) → edge_twin t x ≡ y → y < x → edge_name t x ≡ y
name_of_greater t x y twin lesser =
    let at_most : edge_twin t x ≤ x = subst (λ k. k ≤ x) (sym twin) (omega arith) in
    ap (λ b. cond b x (edge_twin t x)) (not_less x (edge_twin t x) at_most) ∙ twin

-- ---- the flip

module _ {d : ℕ} (radicand : IsRadicand d) {t : Triangulation} (is_triangulation : IsTriangulation d t) (e : ℕ) (e_edge : IsEdge t e) (illegal : IsIllegal d t e)
    {after : Triangulation} (flip : IsFlipOf d t e after) where
  abbrev L : IsOrderedRing (quadratic d) (IsPositive d)
  L = field_order radicand

  abbrev G : SideGluing ℕ Quadratic
  G = face_sides t

  abbrev triangles : AreTriangles (quadratic d) (IsPositive d) G
  triangles = is_triangulation.triangles

  e_side : IsSide G e
  e_side = side_of_number t e e_edge.there

  after_triangulation : IsTriangulation d after
  after_triangulation = triangulation_after radicand is_triangulation e e_edge.there illegal flip

  -- a half-edge outside the hinge keeps its vector
  same_vector : (x : ℕ) → IsSide G x → IsOutsideHinge G e x → edge_vector after x ≡ edge_vector t x
  same_vector x s o =
      ap (edge_vector after) (sym (hinge_names.moved_outside L eqb_tells_names triangles e e_side o))
      ∙ flip.flip.vector x s o.not_edge o.not_twin

  -- and its twin, where that is outside after the flip
  twin_outside : (y : ℕ) → IsSide G y → IsOutsideHinge G e y → IsOutsideHinge G e (edge_twin after y) → IsOutsideHinge G e (edge_twin t y) × (edge_twin after y ≡ edge_twin t y)
  twin_outside y s o k = elim (hinge_names.spot L eqb_tells_names triangles e e_side (edge_twin t y)) [
    | edge f ↦ absurd (o.not_twin (back f))
    | twin_edge f ↦ absurd (o.not_edge (back f ∙ triangles.twin_twin e e_side))
    | after_edge f ↦ absurd (k.not_prev_of_twin (to f (hinge_names.moved_next L eqb_tells_names triangles e e_side)))
    | before_edge f ↦ absurd (k.not_next (to f (hinge_names.moved_prev L eqb_tells_names triangles e e_side)))
    | after_twin f ↦ absurd (k.not_prev (to f (hinge_names.moved_next_of_twin L eqb_tells_names triangles e e_side)))
    | before_twin f ↦ absurd (k.not_next_of_twin (to f (hinge_names.moved_prev_of_twin L eqb_tells_names triangles e e_side)))
    | outside z ↦ (z, moved_twin ∙ hinge_names.moved_outside L eqb_tells_names triangles e e_side z)
  ]
    where
      back : {x : ℕ} → edge_twin t y ≡ x → y ≡ edge_twin t x
      back f = sym (triangles.twin_twin y s) ∙ ap (edge_twin t) f

      moved_twin : edge_twin after y ≡ moved eqb G e (edge_twin t y)
      moved_twin = ap (edge_twin after) (sym (hinge_names.moved_outside L eqb_tells_names triangles e e_side o)) ∙ flip.flip.twin y s o.not_edge o.not_twin

      to : {x z : ℕ} → edge_twin t y ≡ x → moved eqb G e x ≡ z → edge_twin after y ≡ z
      to f g = moved_twin ∙ ap (moved eqb G e) f ∙ g

  -- the formula of an edge outside the hinge stays the same
  same_circle : (y : ℕ) → IsSide G y → IsOutsideHinge G e y → IsOutsideHinge G e (edge_twin t y) → edge_twin after y ≡ edge_twin t y → edge_circle_after d after y ≡ edge_circle_after d t y
  same_circle y s o z twin =
      let twin_side = triangles.twin_side y s in
      let next = kept_next y s o in
      let prev = kept_prev y s o in
      let next_of_twin = ap (λ k. edge_vector after (next_in_face k)) twin ∙ kept_next (edge_twin t y) twin_side z in
      let prev_of_twin = ap (λ k. edge_vector after (prev_in_face k)) twin ∙ kept_prev (edge_twin t y) twin_side z in
      λ i. circle_after 0 d (next i) (prev i) (next_of_twin i) (prev_of_twin i)
    where
      kept_next : (x : ℕ) → IsSide G x → IsOutsideHinge G e x → edge_vector after (next_in_face x) ≡ edge_vector t (next_in_face x)
      kept_next x side out = same_vector (next_in_face x) (triangles.next_side x side) (hinge_names.outside_next L eqb_tells_names triangles e e_side x side out)

      kept_prev : (x : ℕ) → IsSide G x → IsOutsideHinge G e x → edge_vector after (prev_in_face x) ≡ edge_vector t (prev_in_face x)
      kept_prev x side out = same_vector (prev_in_face x) (triangle_sides.prev_side L triangles x side) (hinge_names.outside_prev L eqb_tells_names triangles e e_side x side out)

  -- ---- which edges are marked

  -- the flipped edge keeps its name
  twin_of_edge : edge_twin after e ≡ edge_twin t e
  twin_of_edge = flip.flip.twin_edge

  not_twin_edge : (y : ℕ) → IsEdge after y → y ≢ edge_twin t e
  not_twin_edge y y_edge f =
      let back : edge_twin after y ≡ e = ap (edge_twin after) f ∙ flip.flip.twin_back in
      let lesser : y < e = subst (λ k. y < k) back y_edge.lesser in
      let e_lesser : e < y = subst (λ k. e < k) (sym f) e_edge.lesser in
      absurd (omega arith)

  -- an edge after the flip whose half-edge x is in the hinge is marked by the name of x
  own_name : (y x : ℕ) → IsEdge after y → y ≡ x → y ≡ edge_name after x
  own_name y x y_edge f = sym (name_of_lesser after y y_edge.lesser) ∙ ap (edge_name after) f

  twin_name : (y x : ℕ) → IsEdge after y → edge_twin after y ≡ x → y ≡ edge_name after x
  twin_name y x y_edge f =
      let y_side : IsSide (face_sides after) y = side_of_number after y y_edge.there in
      let back : edge_twin after x ≡ y = ap (edge_twin after) (sym f) ∙ after_triangulation.triangles.twin_twin y y_side in
      sym (name_of_greater after x y back (subst (λ k. y < k) f y_edge.lesser))

  marked_slots : (y x : ℕ) → ((z : ℕ) → x ≡ z → y ≡ edge_name after z) → (x ≡ e → y ≡ e) → (x ≡ edge_twin t e → y ≡ e) → IsOneOf y (hinge_edges after e) ⊎ IsOutsideHinge G e x
  marked_slots y x named at_edge at_twin = elim (hinge_names.spot L eqb_tells_names triangles e e_side x) [
    | edge f ↦ inl (inl (at_edge f))
    | twin_edge f ↦ inl (inl (at_twin f))
    | after_edge f ↦ inl (inr (inl (named _ f)))
    | before_edge f ↦ inl (inr (inr (inl (named _ f))))
    | after_twin f ↦ inl (inr (inr (inr (inl (named _ (f ∙ ap next_in_face (sym twin_of_edge)))))))
    | before_twin f ↦ inl (inr (inr (inr (inr (inl (named _ (f ∙ ap prev_in_face (sym twin_of_edge))))))))
    | outside o ↦ inr o
  ]

  -- an edge after the flip is marked, or both its half-edges are outside the hinge
  marked_or_outside : (y : ℕ) → IsEdge after y → IsOneOf y (hinge_edges after e) ⊎ (IsOutsideHinge G e y × IsOutsideHinge G e (edge_twin after y))
  marked_or_outside y y_edge = elim (marked_slots y y (λ z f. own_name y z y_edge f) (λ f. f) (λ f. absurd (not_twin_edge y y_edge f))) [
    | inl marked ↦ inl marked
    | inr o ↦ elim (marked_slots y (edge_twin after y) (λ z f. twin_name y z y_edge f) at_edge at_twin) [
      | inl marked ↦ inl marked
      | inr k ↦ inr (o, k)
    ]
  ]
    where
      y_back : edge_twin after (edge_twin after y) ≡ y
      y_back = after_triangulation.triangles.twin_twin y (side_of_number after y y_edge.there)

      at_twin : edge_twin after y ≡ edge_twin t e → y ≡ e
      at_twin f = sym y_back ∙ ap (edge_twin after) f ∙ flip.flip.twin_back

      at_edge : edge_twin after y ≡ e → y ≡ e
      at_edge f = absurd (not_twin_edge y y_edge (sym y_back ∙ ap (edge_twin after) f ∙ twin_of_edge))

  -- after the flip each edge without a mark passes
  pub suspects_after_flip : (marks : List Bool) → MarksSuspects d t marks → MarksSuspects d after (with_marks marks (hinge_edges after e))
  suspects_after_flip marks suspects = record {
    as_many = length-with_marks marks (hinge_edges after e) ∙ suspects.as_many ∙ sym flip.vectors;
    passes = λ y y_edge unmarked.
        let below : y < length t.vectors = subst (λ n. y < n) flip.vectors y_edge.there in
        let there : y < length marks = subst (λ n. y < n) (sym suspects.as_many) below in
        let y_side = side_of_number t y below in
        elim (marked_or_outside y y_edge) [
          | inl one ↦ absurd (unmarked_other marks (hinge_edges after e) y there unmarked one)
          | inr o ↦
              let twin = twin_outside y y_side o.0 o.1 in
              let before = suspects.passes y (record { there = below; lesser = subst (λ k. y < k) twin.1 y_edge.lesser }) (unmarked_before marks (hinge_edges after e) y there unmarked) in
              record { value = before.value; given = same_circle y y_side o.0 twin.0 twin.1 ∙ before.given; legal = before.legal }
        ];
  }
