-- The six half-edges of a hinge, the two triangles at an edge: they differ, and where a flip moves their names. A library for crates to come.
use Rattle.std.proofs.Common.{◌≡◌, ◌≢◌, ◌⊎◌, Bool, refl, sym, ap, ◌∙◌, subst, inl, inr}
use Rattle.fs_ring.specs.Operations.{Operations}
use Rattle.fs_ring.specs.OrderedRing.{IsOrderedRing}
use Rattle.fs_paths.specs.SideGluing.{SideGluing, IsSide}
use Rattle.fs_cuts.specs.EdgeRemoval.{TellsNames}
use Rattle.fs_triangles.specs.Triangles.{AreTriangles}
use Rattle.fs_triangles.specs.Flips.{moved}
use Rattle.fs_triangles.proofs.Names.{same_or_not, chosen, not_chosen}
use Rattle.fs_triangles.proofs.TriangleSides as triangle_sides

module _ {A X : Type 0} (G : SideGluing X A) (h : X) where
  -- x is none of the half-edges of the hinge at h
  pub record IsOutsideHinge (x : X) : Type 0 where
    pub not_edge : x ≢ h
    pub not_next : x ≢ G.next h
    pub not_prev : x ≢ G.prev h
    pub not_twin : x ≢ G.twin h
    pub not_next_of_twin : x ≢ G.next (G.twin h)
    pub not_prev_of_twin : x ≢ G.prev (G.twin h)

  -- which half-edge of the hinge x is, or none
  pub data SpotInHinge (x : X) : Type 0 where
    edge : x ≡ h → SpotInHinge x
    after_edge : x ≡ G.next h → SpotInHinge x
    before_edge : x ≡ G.prev h → SpotInHinge x
    twin_edge : x ≡ G.twin h → SpotInHinge x
    after_twin : x ≡ G.next (G.twin h) → SpotInHinge x
    before_twin : x ≡ G.prev (G.twin h) → SpotInHinge x
    outside : IsOutsideHinge x → SpotInHinge x

module _ {A : Type 0} {R : Operations A} {IsPositive : A → Type 0} (L : IsOrderedRing R IsPositive) {X : Type 0} {same : X → X → Bool} (tells : TellsNames same)
    {G : SideGluing X A} (t : AreTriangles R IsPositive G) (h : X) (h_side : IsSide G h) where
  abbrev e : X
  e = G.twin h

  pub e_side : IsSide G (G.twin h)
  e_side = t.twin_side h h_side

  pub twin_e : G.twin (G.twin h) ≡ h
  twin_e = t.twin_twin h h_side

  -- ---- the six half-edges differ

  next_one_to_one : {x y : X} → IsSide G x → IsSide G y → G.next x ≡ G.next y → x ≡ y
  next_one_to_one {x} {y} j k f = sym (triangle_sides.prev_next L t x j) ∙ ap G.prev f ∙ triangle_sides.prev_next L t y k

  prev_one_to_one : {x y : X} → IsSide G x → IsSide G y → G.prev x ≡ G.prev y → x ≡ y
  prev_one_to_one {x} {y} j k f = sym (triangle_sides.next_prev L t x j) ∙ ap G.next f ∙ triangle_sides.next_prev L t y k

  pub edge_not_twin : h ≢ G.twin h
  edge_not_twin f = triangle_sides.twin_not_self L t h h_side (sym f)

  pub edge_not_next_of_twin : h ≢ G.next (G.twin h)
  edge_not_next_of_twin f = triangle_sides.twin_not_next L t e e_side (twin_e ∙ f)

  pub edge_not_prev_of_twin : h ≢ G.prev (G.twin h)
  edge_not_prev_of_twin f = triangle_sides.twin_not_prev L t e e_side (twin_e ∙ f)

  pub next_not_next_of_twin : G.next h ≢ G.next (G.twin h)
  next_not_next_of_twin f = edge_not_twin (next_one_to_one h_side e_side f)

  pub next_not_prev_of_twin : G.next h ≢ G.prev (G.twin h)
  next_not_prev_of_twin f =
      triangle_sides.twin_not_prev L t h h_side (sym (triangle_sides.next_prev L t e e_side) ∙ ap G.next (sym f) ∙ sym (t.prev h h_side))

  pub prev_not_next_of_twin : G.prev h ≢ G.next (G.twin h)
  prev_not_next_of_twin f =
      edge_not_prev_of_twin (sym (triangle_sides.next_prev L t h h_side) ∙ ap G.next f ∙ sym (t.prev e e_side))

  pub prev_not_prev_of_twin : G.prev h ≢ G.prev (G.twin h)
  prev_not_prev_of_twin f = edge_not_twin (prev_one_to_one h_side e_side f)

  -- it can be told which one a name is
  pub spot : (x : X) → SpotInHinge G h x
  spot x = elim (same_or_not tells x h) [
    | inl f ↦ edge f
    | inr n0 ↦ elim (same_or_not tells x (G.next h)) [
      | inl f ↦ after_edge f
      | inr n1 ↦ elim (same_or_not tells x (G.prev h)) [
        | inl f ↦ before_edge f
        | inr n2 ↦ elim (same_or_not tells x e) [
          | inl f ↦ twin_edge f
          | inr n3 ↦ elim (same_or_not tells x (G.next e)) [
            | inl f ↦ after_twin f
            | inr n4 ↦ elim (same_or_not tells x (G.prev e)) [
              | inl f ↦ before_twin f
              | inr n5 ↦ outside (record { not_edge = n0; not_next = n1; not_prev = n2; not_twin = n3; not_next_of_twin = n4; not_prev_of_twin = n5 })
            ]
          ]
        ]
      ]
    ]
  ]

  -- the triangles of the other half-edges are outside the hinge
  pub outside_next : (x : X) → IsSide G x → IsOutsideHinge G h x → IsOutsideHinge G h (G.next x)
  outside_next x s o = record {
    not_edge = λ f. o.not_prev (sym (triangle_sides.prev_next L t x s) ∙ ap G.prev f);
    not_next = λ f. o.not_edge (next_one_to_one s h_side f);
    not_prev = λ f. o.not_next (next_one_to_one s (t.next_side h h_side) (f ∙ t.prev h h_side));
    not_twin = λ f. o.not_prev_of_twin (sym (triangle_sides.prev_next L t x s) ∙ ap G.prev f);
    not_next_of_twin = λ f. o.not_twin (next_one_to_one s e_side f);
    not_prev_of_twin = λ f. o.not_next_of_twin (next_one_to_one s (t.next_side e e_side) (f ∙ t.prev e e_side));
  }

  pub outside_prev : (x : X) → IsSide G x → IsOutsideHinge G h x → IsOutsideHinge G h (G.prev x)
  outside_prev x s o =
      subst (IsOutsideHinge G h) (sym (t.prev x s)) (outside_next (G.next x) (t.next_side x s) (outside_next x s o))

  -- ---- where their names are moved

  abbrev m : X → X
  m = moved same G h

  pub moved_other : {x : X} → x ≢ G.prev h → x ≢ G.next (G.twin h) → x ≢ G.prev (G.twin h) → x ≢ G.next h → moved same G h x ≡ x
  moved_other n0 n1 n2 n3 = not_chosen tells _ _ n0 ∙ not_chosen tells _ _ n1 ∙ not_chosen tells _ _ n2 ∙ not_chosen tells _ _ n3

  pub moved_outside : {x : X} → IsOutsideHinge G h x → moved same G h x ≡ x
  moved_outside o = moved_other o.not_prev o.not_next_of_twin o.not_prev_of_twin o.not_next

  pub moved_edge : moved same G h h ≡ h
  moved_edge =
      moved_other (λ f. triangle_sides.prev_not_self L t h h_side (sym f)) edge_not_next_of_twin edge_not_prev_of_twin
      (λ f. triangle_sides.next_not_self L t h h_side (sym f))

  pub moved_twin : moved same G h (G.twin h) ≡ G.twin h
  moved_twin =
      moved_other (triangle_sides.twin_not_prev L t h h_side) (λ f. triangle_sides.next_not_self L t e e_side (sym f))
      (λ f. triangle_sides.prev_not_self L t e e_side (sym f)) (triangle_sides.twin_not_next L t h h_side)

  pub moved_prev : moved same G h (G.prev h) ≡ G.next h
  moved_prev = chosen tells _ _ refl

  pub moved_next_of_twin : moved same G h (G.next (G.twin h)) ≡ G.prev h
  moved_next_of_twin = not_chosen tells _ _ (λ f. prev_not_next_of_twin (sym f)) ∙ chosen tells _ _ refl

  pub moved_prev_of_twin : moved same G h (G.prev (G.twin h)) ≡ G.next (G.twin h)
  moved_prev_of_twin =
      not_chosen tells _ _ (λ f. prev_not_prev_of_twin (sym f))
      ∙ not_chosen tells _ _ (λ f. triangle_sides.next_not_prev L t e e_side (sym f))
      ∙ chosen tells _ _ refl

  pub moved_next : moved same G h (G.next h) ≡ G.prev (G.twin h)
  moved_next =
      not_chosen tells _ _ (triangle_sides.next_not_prev L t h h_side)
      ∙ not_chosen tells _ _ next_not_next_of_twin
      ∙ not_chosen tells _ _ next_not_prev_of_twin
      ∙ chosen tells _ _ refl

  -- moved four times, each name comes back
  pub moved_four : (x : X) → moved same G h (moved same G h (moved same G h (moved same G h x))) ≡ x
  moved_four x = elim (spot x) [
    | edge f ↦ ap (λ y. m (m (m (m y)))) f ∙ ap (λ y. m (m (m y))) moved_edge ∙ ap (λ y. m (m y)) moved_edge ∙ ap m moved_edge ∙ moved_edge ∙ sym f
    | twin_edge f ↦ ap (λ y. m (m (m (m y)))) f ∙ ap (λ y. m (m (m y))) moved_twin ∙ ap (λ y. m (m y)) moved_twin ∙ ap m moved_twin ∙ moved_twin ∙ sym f
    | after_edge f ↦ ap (λ y. m (m (m (m y)))) f ∙ ap (λ y. m (m (m y))) moved_next ∙ ap (λ y. m (m y)) moved_prev_of_twin ∙ ap m moved_next_of_twin ∙ moved_prev ∙ sym f
    | before_edge f ↦ ap (λ y. m (m (m (m y)))) f ∙ ap (λ y. m (m (m y))) moved_prev ∙ ap (λ y. m (m y)) moved_next ∙ ap m moved_prev_of_twin ∙ moved_next_of_twin ∙ sym f
    | after_twin f ↦ ap (λ y. m (m (m (m y)))) f ∙ ap (λ y. m (m (m y))) moved_next_of_twin ∙ ap (λ y. m (m y)) moved_prev ∙ ap m moved_next ∙ moved_prev_of_twin ∙ sym f
    | before_twin f ↦ ap (λ y. m (m (m (m y)))) f ∙ ap (λ y. m (m (m y))) moved_prev_of_twin ∙ ap (λ y. m (m y)) moved_next_of_twin ∙ ap m moved_prev ∙ moved_next ∙ sym f
    | outside o ↦ let same_name = moved_outside o in ap (λ y. m (m (m y))) same_name ∙ ap (λ y. m (m y)) same_name ∙ ap m same_name ∙ same_name
  ]

  -- no two names are moved to one
  pub moved_one_to_one : {x y : X} → moved same G h x ≡ moved same G h y → x ≡ y
  moved_one_to_one {x} {y} f = sym (moved_four x) ∙ ap (λ z. m (m (m z))) f ∙ moved_four y

  pub moved_not_edge : {x : X} → x ≢ h → moved same G h x ≢ h
  moved_not_edge n f = n (moved_one_to_one (f ∙ sym moved_edge))

  pub moved_not_twin : {x : X} → x ≢ G.twin h → moved same G h x ≢ G.twin h
  moved_not_twin n f = n (moved_one_to_one (f ∙ sym moved_twin))

  -- half-edges are moved to half-edges
  pub moved_side : (x : X) → IsSide G x → IsSide G (moved same G h x)
  moved_side x s = elim (spot x) [
    | edge f ↦ subst (IsSide G) (sym (ap m f ∙ moved_edge)) h_side
    | twin_edge f ↦ subst (IsSide G) (sym (ap m f ∙ moved_twin)) e_side
    | after_edge f ↦ subst (IsSide G) (sym (ap m f ∙ moved_next)) (triangle_sides.prev_side L t e e_side)
    | before_edge f ↦ subst (IsSide G) (sym (ap m f ∙ moved_prev)) (t.next_side h h_side)
    | after_twin f ↦ subst (IsSide G) (sym (ap m f ∙ moved_next_of_twin)) (triangle_sides.prev_side L t h h_side)
    | before_twin f ↦ subst (IsSide G) (sym (ap m f ∙ moved_prev_of_twin)) (t.next_side e e_side)
    | outside o ↦ subst (IsSide G) (sym (moved_outside o)) s
  ]

  -- y is what another half-edge than the edge's is moved to
  pub record IsMovedTo (y : X) : Type 0 where
    pub name : X
    pub side : IsSide G name
    pub not_edge : name ≢ h
    pub not_twin : name ≢ G.twin h
    pub is : y ≡ moved same G h name

  -- each half-edge is one of the edge, or one is moved to it
  pub edge_or_moved : (y : X) → IsSide G y → (y ≡ h) ⊎ ((y ≡ G.twin h) ⊎ IsMovedTo y)
  edge_or_moved y s = elim (same_or_not tells y h) [
    | inl f ↦ inl f
    | inr n ↦ elim (same_or_not tells y e) [
      | inl f ↦ inr (inl f)
      | inr k ↦ inr (inr (record {
        name = m (m (m y));
        side = moved_side (m (m y)) (moved_side (m y) (moved_side y s));
        not_edge = moved_not_edge (moved_not_edge (moved_not_edge n));
        not_twin = moved_not_twin (moved_not_twin (moved_not_twin k));
        is = sym (moved_four y);
      }))
    ]
  ]
