-- The step to the next corner round a vertex is a permutation that returns to each corner.
use Rattle.std.proofs.Common.{◌≡◌, ℕ, zero, suc, ◌+◌, Option, Some, None, List, sym, ap, ◌∙◌, refl, subst, arith}
use Rattle.std.specs.Option.{IsSome}
use Rattle.fs_cycles.specs.Cycles.{Permutes, iterate, LeadsTo}
use Rattle.fs_cycles.proofs.Iterates.{returns, leads_symm, leads_in}
use Rattle.fs_plane.specs.declared.corners.Corner.{Corner}
use Rattle.fs_gluing.specs.declared.surfaces.Side.{Side}
use Rattle.fs_gluing.specs.Polygons.{at_side, HasSide, all_sides}
use Rattle.fs_gluing.specs.NextCorner.{IsNextCorner, side_before}
use Rattle.fs_gluing.specs.SurfaceSides.{partner_or}
use Rattle.fs_gluing.specs.Vertices.{IsNthNextCorner, AreOneVertex}
use Rattle.fs_gluing.proofs.Base.Equality.{same_corner}
use Rattle.fs_gluing.proofs.SurfaceCalls.NextCorner.{IsGluing, has_before, has_next_corner, next_corner_one_to_one}
use Rattle.fs_gluing.proofs.Sides.AllSides.{in_all_sides, all_sides_in}

-- the next corner round the vertex
abbrev pub next : List (List Side) → Corner → Corner
next polygons c = partner_or c (at_side polygons (side_before polygons c))

-- the next corner is the value of `next`
pub next_is : (polygons : List (List Side)) (c e : Corner) → IsNextCorner polygons c e → e ≡ next polygons c
next_is polygons c e t = sym t.is ∙ sym (ap (partner_or c) t.there)

is_next_by : (polygons : List (List Side)) (c : Corner) (o : Option Side) → at_side polygons (side_before polygons c) ≡ o → IsSome o → IsNextCorner polygons c (partner_or c o)
is_next_by polygons c None e h = cc
is_next_by polygons c (Some side) e h = record { side = side; there = e; is = refl }

-- the value of `next` is the next corner
pub is_next_corner : (polygons : List (List Side)) (c : Corner) → HasSide polygons c → IsNextCorner polygons c (next polygons c)
is_next_corner polygons c h = is_next_by polygons c (at_side polygons (side_before polygons c)) refl (has_before polygons c h)

-- the n-th corner after c
abbrev pub ahead : List (List Side) → ℕ → Corner → Corner
ahead polygons n c = iterate (next polygons) n c

ahead_is : (polygons : List (List Side)) (n : ℕ) (c e : Corner) → IsNthNextCorner polygons n c e → e ≡ ahead polygons n c
ahead_is polygons zero c e h = sym h
ahead_is polygons (suc n) c e (mid, t, h) = ahead_is polygons n mid e h ∙ ap (ahead polygons n) (next_is polygons c mid t)

-- corners of one vertex are of one cycle of `next`
pub leads_of : (polygons : List (List Side)) (c e : Corner) → AreOneVertex polygons c e → LeadsTo (next polygons) c e
leads_of polygons c e (n, t) = (n, sym (ahead_is polygons n c e t))

nth_next-append : (polygons : List (List Side)) (n m : ℕ) (c e f : Corner) → IsNthNextCorner polygons n c e → IsNthNextCorner polygons m e f → IsNthNextCorner polygons (n + m) c f
nth_next-append polygons zero m c e f h k = let same : m ≡ 0 + m = omega arith in subst (λ n. IsNthNextCorner polygons n c f) same (subst (λ x. IsNthNextCorner polygons m x f) (sym h) k)
nth_next-append polygons (suc n) m c e f (mid, t, h) k =
    let same : suc (n + m) ≡ suc n + m = omega arith in
    subst (λ n. IsNthNextCorner polygons n c f) same (mid, t, nth_next-append polygons n m mid e f h k)

-- a corner is of its own vertex
pub one_vertex_self : (polygons : List (List Side)) (c : Corner) → AreOneVertex polygons c c
one_vertex_self polygons c = (0, refl)

-- being of one vertex is transitive
pub one_vertex_trans : (polygons : List (List Side)) (c e f : Corner) → AreOneVertex polygons c e → AreOneVertex polygons e f → AreOneVertex polygons c f
one_vertex_trans polygons c e f h k = (h.0 + k.0, nth_next-append polygons h.0 k.0 c e f h.1 k.1)

module _ (polygons : List (List Side)) (glued : IsGluing polygons) where
  -- the next corner exists
  pub has_next : (c : Corner) → HasSide polygons c → HasSide polygons (next polygons c)
  has_next c h = has_next_corner polygons c (next polygons c) glued (is_next_corner polygons c h)

  -- the n-th corner after c exists
  pub has_ahead : (n : ℕ) (c : Corner) → HasSide polygons c → HasSide polygons (ahead polygons n c)
  has_ahead zero c h = h
  has_ahead (suc n) c h = has_ahead n (next polygons c) (has_next c h)

  -- it is n steps after c
  pub is_nth_next_ahead : (n : ℕ) (c : Corner) → HasSide polygons c → IsNthNextCorner polygons n c (ahead polygons n c)
  is_nth_next_ahead zero c h = refl
  is_nth_next_ahead (suc n) c h = (next polygons c, is_next_corner polygons c h, is_nth_next_ahead n (next polygons c) (has_next c h))

  -- the next corner is of the same vertex
  pub one_vertex_next : (c e : Corner) → HasSide polygons e → AreOneVertex polygons c e → AreOneVertex polygons c (next polygons e)
  one_vertex_next c e h k = one_vertex_trans polygons c e (next polygons e) k (1, (next polygons e, is_next_corner polygons e h, refl))

  -- the step to the next corner is one to one
  next_one_to_one : (c e : Corner) → HasSide polygons c → HasSide polygons e → next polygons c ≡ next polygons e → c ≡ e
  next_one_to_one c e h k same =
      next_corner_one_to_one polygons e c (next polygons e) glued k h (is_next_corner polygons e k) (subst (IsNextCorner polygons c) same (is_next_corner polygons c h))

  permutes : Permutes (next polygons) (all_sides polygons)
  permutes = record {
    inside = λ c i. in_all_sides polygons (next polygons c) (has_next c (all_sides_in polygons c i));
    one_to_one = λ c e i j. next_one_to_one c e (all_sides_in polygons c i) (all_sides_in polygons e j);
  }

  -- the corners of a vertex exist
  pub has_one_vertex : (c e : Corner) → HasSide polygons c → AreOneVertex polygons c e → HasSide polygons e
  has_one_vertex c e h k = all_sides_in polygons e (leads_in same_corner permutes c e (in_all_sides polygons c h) (leads_of polygons c e k))

  -- corners of one cycle of `next` are of one vertex
  pub one_vertex_of : (c e : Corner) → HasSide polygons c → LeadsTo (next polygons) c e → AreOneVertex polygons c e
  one_vertex_of c e h (n, is) = (n, subst (IsNthNextCorner polygons n c) is (is_nth_next_ahead n c h))

  -- after some number of steps, at least one, the corner is c again
  pub comes_back : (c : Corner) → HasSide polygons c → (n : ℕ) × (ahead polygons (suc n) c ≡ c)
  comes_back c h = let r = returns same_corner permutes c (in_all_sides polygons c h) in (r.0, r.2)

  -- being of one vertex is symmetric
  pub one_vertex_comm : (c e : Corner) → HasSide polygons c → AreOneVertex polygons c e → AreOneVertex polygons e c
  one_vertex_comm c e h k = one_vertex_of e c (has_one_vertex c e h k) (leads_symm same_corner permutes c e (in_all_sides polygons c h) (leads_of polygons c e k))
