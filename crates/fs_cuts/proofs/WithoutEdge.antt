-- Glued polygons from which an edge is taken are those without it. A library for crates to come.
use Rattle.std.proofs.Common.{◌≡◌, ◌≢◌, ◌⊎◌, ℕ, Bool, true, false, cond, IsTrue, refl, sym, ap, ◌∙◌, subst, inl, inr}
use Rattle.std.proofs.lemmas.Bool.{cases_Bool}
use Rattle.fs_ring.specs.Operations.{Operations}
use Rattle.fs_ring.specs.Vector.{Vector}
use Rattle.fs_paths.specs.SideGluing.{SideGluing, IsSide, AreGluedPolygons, nth_side}
use Rattle.fs_cuts.specs.EdgeRemoval.{IsWithoutEdge, TellsNames, without_edge}

first_of : {B : Type 0} {b : Bool} (x y : B) → b ≡ true → cond b x y ≡ x
first_of x y f = ap (λ b. cond b x y) f

second_of : {B : Type 0} {b : Bool} (x y : B) → b ≡ false → cond b x y ≡ y
second_of x y f = ap (λ b. cond b x y) f

not_false : IsTrue false → ⊥
not_false h = cc

module _ {A : Type 0} {R : Operations A} {IsPositive : A → Type 0} {is_ahead : Vector A → Vector A → Bool} {X : Type 0} {same : X → X → Bool} (tells : TellsNames same)
    {G : SideGluing X A} (g : AreGluedPolygons R IsPositive is_ahead G) (d : X) (d_side : IsSide G d) (apart : (k : ℕ) → nth_side G d k ≢ G.twin d) where
  abbrev K : SideGluing X A
  K = without_edge same G d

  abbrev e : X
  e = G.twin d

  e_side : IsSide G e
  e_side = g.twin_side d d_side

  differ : {x y : X} → x ≢ y → same x y ≡ false
  differ {x} {y} n = elim (cases_Bool (same x y)) [
    | inl f ↦ absurd (n ((tells x y).0 f))
    | inr f ↦ f
  ]

  same_or_not : (x y : X) → (x ≡ y) ⊎ (x ≢ y)
  same_or_not x y = elim (cases_Bool (same x y)) [
    | inl f ↦ inl ((tells x y).0 f)
    | inr f ↦ inr (λ m. let t = (tells x y).1 m in cc)
  ]

  same_name : (x : X) → same x x ≡ true
  same_name x = (tells x x).1 refl

  prev_one_to_one : {x y : X} → IsSide G x → IsSide G y → G.prev x ≡ G.prev y → x ≡ y
  prev_one_to_one {x} {y} j k f = sym (g.next_prev x j) ∙ ap G.next f ∙ g.next_prev y k

  next_one_to_one : {x y : X} → IsSide G x → IsSide G y → G.next x ≡ G.next y → x ≡ y
  next_one_to_one {x} {y} j k f = sym (g.prev_next x j) ∙ ap G.prev f ∙ g.prev_next y k

  -- the sides are those that aren't of the edge
  left_side : (x : X) → IsSide K x → (x ≢ d) × (x ≢ e) × IsSide G x
  left_side x s = elim (same_or_not x d) [
    | inl f ↦ absurd (not_false (subst IsTrue (first_of false (cond (same x e) false (G.has x)) ((tells x d).1 f)) s))
    | inr n ↦
        let rest : IsTrue (cond (same x e) false (G.has x)) = subst IsTrue (second_of false (cond (same x e) false (G.has x)) (differ n)) s in
        elim (same_or_not x e) [
          | inl f ↦ absurd (not_false (subst IsTrue (first_of false (G.has x) ((tells x e).1 f)) rest))
          | inr m ↦ (n, m, subst IsTrue (second_of false (G.has x) (differ m)) rest)
        ]
  ]

  side_left : (x : X) → x ≢ d → x ≢ e → IsSide G x → IsSide K x
  side_left x n m s =
      subst IsTrue (sym (second_of false (cond (same x e) false (G.has x)) (differ n) ∙ second_of false (G.has x) (differ m))) s

  next_of_other : (x : X) → x ≢ G.prev d → x ≢ G.prev e → K.next x ≡ G.next x
  next_of_other x n m =
      second_of (G.next e) (cond (same x (G.prev e)) (G.next d) (G.next x)) (differ n) ∙ second_of (G.next d) (G.next x) (differ m)

  next_of_before_e : K.next (G.prev e) ≡ G.next d
  next_of_before_e =
      second_of (G.next e) (cond (same (G.prev e) (G.prev e)) (G.next d) (G.next (G.prev e))) (differ (λ f. apart 0 (sym (prev_one_to_one e_side d_side f))))
      ∙ first_of (G.next d) (G.next (G.prev e)) (same_name (G.prev e))

  next_of_before_d : K.next (G.prev d) ≡ G.next e
  next_of_before_d = first_of (G.next e) (cond (same (G.prev d) (G.prev e)) (G.next d) (G.next (G.prev d))) (same_name (G.prev d))

  back_again : (x : X) → IsSide K x → K.prev (K.next x) ≡ x
  back_again x s = elim (same_or_not x (G.prev d)) [
    | inl f ↦
        ap (λ w. K.prev (K.next w)) f
        ∙ ap K.prev next_of_before_d
        ∙ first_of (G.prev d) (cond (same (G.next e) (G.next d)) (G.prev e) (G.prev (G.next e))) (same_name (G.next e))
        ∙ sym f
    | inr n ↦ elim (same_or_not x (G.prev e)) [
      | inl f ↦
          ap (λ w. K.prev (K.next w)) f
          ∙ ap K.prev next_of_before_e
          ∙ second_of (G.prev d) (cond (same (G.next d) (G.next d)) (G.prev e) (G.prev (G.next d))) (differ (λ m. apart 0 (next_one_to_one d_side e_side m)))
          ∙ first_of (G.prev e) (G.prev (G.next d)) (same_name (G.next d))
          ∙ sym f
      | inr m ↦
          let left = left_side x s in
          ap K.prev (next_of_other x n m)
          ∙ second_of (G.prev d) (cond (same (G.next x) (G.next d)) (G.prev e) (G.prev (G.next x))) (differ (λ f. left.1 (next_one_to_one left.2 e_side f)))
          ∙ second_of (G.prev e) (G.prev (G.next x)) (differ (λ f. left.0 (next_one_to_one left.2 d_side f)))
          ∙ g.prev_next x left.2
    ]
  ]

  -- glued polygons from which the edge is taken are those without it
  pub is_without_edge : IsWithoutEdge G (without_edge same G d) d (G.twin d)
  is_without_edge = record {
    d_side = d_side;
    twin_d = refl;
    apart = apart;
    side_before = λ x s. (left_side x s).2;
    not_d = λ x s. (left_side x s).0;
    not_e = λ x s. (left_side x s).1;
    sides = λ x s. elim (same_or_not x d) [
      | inl f ↦ inl f
      | inr n ↦ elim (same_or_not x e) [ inl f ↦ inr (inl f) | inr m ↦ inr (inr (side_left x n m s)) ]
    ];
    vector = λ x s. refl;
    twin = λ x s. refl;
    next_before_d = next_of_before_d;
    next_before_e = next_of_before_e;
    next_kept = λ x s n m. next_of_other x n m;
    prev_next = back_again;
  }
