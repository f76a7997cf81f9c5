-- The next corner round a vertex: it exists, the step to it is a permutation, and it is of the same vertex.
use Rattle.std.proofs.Common.{◌≡◌, ℕ, suc, ◌+◌, ◌-◌, ◌<◌, List, Option, Some, None, length, if◌then◌else◌, ◌==◌, sym, ap, ◌∙◌, refl, subst, arith}
use Rattle.std.proofs.lemmas.Bool.Decides.{nat_tests}
use Rattle.std.proofs.lemmas.Option.{slice_get_within}
use Rattle.std.specs.Option.{IsSome, IfSome, option_and_then}
use Rattle.std.specs.List.{slice_get}
use Rattle.fs_lists.proofs.Items.{value_of, some_of_inside}
use Rattle.fs_plane.specs.declared.corners.Corner.{Corner}
use Rattle.fs_plane.specs.Vector.{vector_neg}
use Rattle.fs_gluing.specs.declared.surfaces.Side.{Side}
use Rattle.fs_gluing.specs.Polygons.{at_side, HasSide}
use Rattle.fs_gluing.specs.Surface.{IsGlued}
use Rattle.fs_gluing.specs.NextCorner.{length_or_0, side_count, side_before, corner_after, IsNextCorner, AreOnePoint}

-- ---- the number before k and the one after it, modulo n

-- the number before k
abbrev pub before : ℕ → ℕ → ℕ
before n k = if k == 0 then n - 1 else k - 1

-- the number after k
abbrev pub after : ℕ → ℕ → ℕ
after n k = if k + 1 == n then 0 else k + 1

-- the number before 0
pub before_zero : (n k : ℕ) → k ≡ 0 → before n k ≡ n - 1
before_zero n k e = grind (arith, nat_tests)

-- the number before k + 1
pub before_suc : (n k : ℕ) → before n (suc k) ≡ k
before_suc n k = grind (arith, nat_tests)

before-less : (n k : ℕ) → k < n → before n k < n
before-less n k l = grind (arith, nat_tests)

after-less : (n k : ℕ) → k < n → after n k < n
after-less n k l = grind (arith, nat_tests)

after-before : (n k : ℕ) → k < n → after n (before n k) ≡ k
after-before n k l = grind (arith, nat_tests)

before-after : (n k : ℕ) → k < n → before n (after n k) ≡ k
before-after n k l = grind (arith, nat_tests)

-- the polygon of a corner that exists
pub record IsInPolygon {X : Type 0} (polygons : List (List X)) (c : Corner) : Type 0 where
  pub polygon : List X
  pub is : slice_get polygons c.polygon ≡ Some polygon
  pub inside : c.side < length polygon

in_polygon_by : {X : Type 0} (polygons : List (List X)) (c : Corner) (x : X) (o : Option (List X)) → slice_get polygons c.polygon ≡ o → option_and_then (λ polygon. slice_get polygon c.side) o ≡ Some x → IsInPolygon polygons c
in_polygon_by polygons c x None is e = cc
in_polygon_by polygons c x (Some polygon) is e = record { polygon = polygon; is = is; inside = slice_get_within polygon c.side x e }

-- the polygon of a side that is read
pub in_polygon_at : {X : Type 0} (polygons : List (List X)) (c : Corner) (x : X) → at_side polygons c ≡ Some x → IsInPolygon polygons c
in_polygon_at polygons c x e = in_polygon_by polygons c x (slice_get polygons c.polygon) refl e

in_polygon_some : {X : Type 0} (polygons : List (List X)) (c : Corner) (o : Option X) → at_side polygons c ≡ o → IsSome o → IsInPolygon polygons c
in_polygon_some polygons c None e h = cc
in_polygon_some polygons c (Some x) e h = in_polygon_at polygons c x e

-- the polygon of a side that exists
pub in_polygon : {X : Type 0} (polygons : List (List X)) (c : Corner) → HasSide polygons c → IsInPolygon polygons c
in_polygon polygons c h = in_polygon_some polygons c (at_side polygons c) refl h

-- each side of the polygon of a corner that exists exists
has_other : {X : Type 0} (polygons : List (List X)) (c e : Corner) (s : IsInPolygon polygons c) → e.polygon ≡ c.polygon → e.side < length s.polygon → HasSide polygons e
has_other polygons c e s same l =
    subst (λ o. IsSome (option_and_then (λ polygon. slice_get polygon e.side) o)) (sym (ap (slice_get polygons) same ∙ s.is)) (some_of_inside s.polygon e.side l)

-- the number of sides of a polygon is its length
pub count_is : {X : Type 0} (polygons : List (List X)) (c : Corner) (s : IsInPolygon polygons c) → side_count polygons c.polygon ≡ length s.polygon
count_is polygons c s = ap length_or_0 s.is

-- the side before a corner exists
pub has_before : {X : Type 0} (polygons : List (List X)) (c : Corner) → HasSide polygons c → HasSide polygons (side_before polygons c)
has_before polygons c h =
    let s = in_polygon polygons c h in
    has_other polygons c (side_before polygons c) s refl
    (subst (λ n. before n c.side < length s.polygon) (sym (count_is polygons c s)) (before-less (length s.polygon) c.side s.inside))

-- the corner where a side ends exists
pub has_after : {X : Type 0} (polygons : List (List X)) (c : Corner) → HasSide polygons c → HasSide polygons (corner_after polygons c)
has_after polygons c h =
    let s = in_polygon polygons c h in
    has_other polygons c (corner_after polygons c) s refl
    (subst (λ n. after n c.side < length s.polygon) (sym (count_is polygons c s)) (after-less (length s.polygon) c.side s.inside))

-- the corner where the side before a corner ends is the corner
pub after-before_corner : {X : Type 0} (polygons : List (List X)) (c : Corner) → HasSide polygons c → corner_after polygons (side_before polygons c) ≡ c
after-before_corner polygons c h =
    let s = in_polygon polygons c h in
    let l : c.side < side_count polygons c.polygon = subst (λ n. c.side < n) (sym (count_is polygons c s)) s.inside in
    ap (λ k. let e : Corner = record { polygon = c.polygon; side = k } in e) (after-before (side_count polygons c.polygon) c.side l)

-- the side before the corner where a side ends is the side
pub before-after_corner : {X : Type 0} (polygons : List (List X)) (c : Corner) → HasSide polygons c → side_before polygons (corner_after polygons c) ≡ c
before-after_corner polygons c h =
    let s = in_polygon polygons c h in
    let l : c.side < side_count polygons c.polygon = subst (λ n. c.side < n) (sym (count_is polygons c s)) s.inside in
    ap (λ k. let e : Corner = record { polygon = c.polygon; side = k } in e) (before-after (side_count polygons c.polygon) c.side l)

-- every side is glued
abbrev pub IsGluing : List (List Side) → Type 0
IsGluing polygons = (c : Corner) (side : Side) → at_side polygons c ≡ Some side → IsGlued polygons c side

has_some : {X : Type 0} (polygons : List (List X)) (c : Corner) (x : X) → at_side polygons c ≡ Some x → HasSide polygons c
has_some polygons c x e = subst IsSome (sym e) refl

-- the partner of the side before a corner is the next corner
pub is_next_corner : (polygons : List (List Side)) (c b e : Corner) → HasSide polygons c → b ≡ side_before polygons c → IfSome (at_side polygons b) (λ side. e ≡ side.partner) → IsNextCorner polygons c e
is_next_corner polygons c b e has is h =
    let s = value_of (at_side polygons (side_before polygons c)) (has_before polygons c has) in
    record {
      side = s.value;
      there = s.is;
      is = sym (subst (λ o. IfSome o (λ side. e ≡ side.partner)) (ap (at_side polygons) is ∙ s.is) h);
    }

-- the next corner exists
pub has_next_corner : (polygons : List (List Side)) (c e : Corner) → IsGluing polygons → IsNextCorner polygons c e → HasSide polygons e
has_next_corner polygons c e glued t = subst (HasSide polygons) t.is (has_some polygons t.side.partner _ (glued (side_before polygons c) t.side t.there).back)

-- sides with one partner are one side
partner_back : (polygons : List (List Side)) (a b : Corner) (x y : Side) → IsGluing polygons → at_side polygons a ≡ Some x → at_side polygons b ≡ Some y → x.partner ≡ y.partner → a ≡ b
partner_back polygons a b x y glued at_a at_b same =
    let back_a = (glued a x at_a).back in
    let back_b = (glued b y at_b).back in
    let p : Side = record { vector = vector_neg x.vector; partner = a } in
    let q : Side = record { vector = vector_neg y.vector; partner = b } in
    let both : Some p ≡ Some q = sym back_a ∙ ap (at_side polygons) same ∙ back_b in
    let one : p ≡ q = cc in
    ap (λ (side : Side). side.partner) one

-- corners with one next corner are equal
pub next_corner_one_to_one : (polygons : List (List Side)) (c e f : Corner) → IsGluing polygons → HasSide polygons c → HasSide polygons e → IsNextCorner polygons c f → IsNextCorner polygons e f → e ≡ c
next_corner_one_to_one polygons c e f glued has_c has_e t u =
    sym (after-before_corner polygons e has_e)
    ∙ ap (corner_after polygons) (partner_back polygons (side_before polygons e) (side_before polygons c) u.side t.side glued u.there t.there (u.is ∙ sym t.is))
    ∙ after-before_corner polygons c has_c

-- e is the next corner of the corner where its partner ends
pub next_corner_onto : (polygons : List (List Side)) → IsGluing polygons → (e : Corner) → HasSide polygons e → (b : Corner) × HasSide polygons b × IsNextCorner polygons b e
next_corner_onto polygons glued e has =
    let s = value_of (at_side polygons e) has in
    let back = (glued e s.value s.is).back in
    let has_partner = has_some polygons s.value.partner _ back in (
      corner_after polygons s.value.partner,
      has_after polygons s.value.partner has_partner,
      record {
        side = record { vector = vector_neg s.value.vector; partner = e };
        there = ap (at_side polygons) (before-after_corner polygons s.value.partner has_partner) ∙ back;
        is = refl;
      },
    )

-- gluing identifies a corner and the next corner
pub next_corner_one_point : (polygons : List (List Side)) (c e : Corner) → HasSide polygons c → IsNextCorner polygons c e → AreOnePoint polygons c e
next_corner_one_point polygons c e has t = record {
  corner = side_before polygons c;
  side = t.side;
  there = t.there;
  ends = after-before_corner polygons c has;
  begins = t.is;
}
