-- The partners of sides, line by line.
use Rattle.std.proofs.Common.{◌≡◌, ◌≢◌, ◌⊎◌, inl, inr, ℕ, Bool, true, false, cond, Option, Some, None, List, [], ◌∷◌, ◌++◌, sym, ap, ◌∙◌, refl, subst, arith}
use Rattle.std.proofs.lemmas.Cmp.{on_total, then_total, tied_itself}
use Rattle.std.proofs.lemmas.Map.Lookups.{CmpEqualImpliesEq, exact_pairs, exact_unsigned}
use Rattle.std.proofs.lemmas.List.Elements.{Contains-append_right, All-from_recursion, All-contains}
use Rattle.std.specs.declared.cmp.Ordering.{Ordering}
use Rattle.std.specs.declared.cmp.Ordering.TheVariants.{Less, Equal, Greater}
use Rattle.std.specs.Cmp.{IsTotalOrder, nat_cmp_total}
use Rattle.std.specs.Ordering.{is_eq}
use Rattle.std.specs.BTreeMap.{is_at}
use Rattle.std.specs.Option.{IsSome}
use Rattle.std.specs.List.{AllByRecursion, Contains}
use Rattle.fs_lists.proofs.All.{All-append, All-weaker}
use Rattle.fs_plane.specs.declared.corners.Corner.{Corner}
use Rattle.fs_plane.specs.Vector.{vector_neg, PlaneVector}
use Rattle.fs_gluing.specs.declared.shapes.Glue.{Glue}
use Rattle.fs_gluing.specs.Shape.{glued_sides}
use Rattle.fs_gluing.specs.FirstFault.{AreOpposite, PassesLine, glued_once}
use Rattle.fs_gluing.specs.Gluing.{corner_cmp, IsPairOf, ArePartners}
use Rattle.fs_gluing.proofs.Base.Equality.{vector_neg-vector_neg, same_corner}

-- corners that compare as equal are equal
exact_corners : CmpEqualImpliesEq corner_cmp
exact_corners a b h = ap (λ (p : ℕ × ℕ). record { polygon = p.0; side = p.1 }) (exact_pairs _ _ exact_unsigned exact_unsigned (a.polygon, a.side) (b.polygon, b.side) h)

corners_total : IsTotalOrder corner_cmp
corners_total = then_total (on_total (λ c. c.polygon) nat_cmp_total) (on_total (λ c. c.side) nat_cmp_total)

equal_from_is_eq : (o : Ordering) → is_eq o ≡ true → o ≡ Equal
equal_from_is_eq Less e = cc
equal_from_is_eq Equal e = refl
equal_from_is_eq Greater e = cc

-- q gives k the partner v, and is p elsewhere
pub record Puts (p q : Corner → Option Corner) (k v : Corner) : Type 0 where
  pub at : (c : Corner) → q c ≡ cond (is_at (corner_cmp k) c) (Some v) (p c)

put_cases_by : (k v c : Corner) (o : Option Corner) (b : Bool) → is_at (corner_cmp k) c ≡ b → ((k ≡ c) × (cond b (Some v) o ≡ Some v)) ⊎ (cond b (Some v) o ≡ o)
put_cases_by k v c o true e = inl (exact_corners k c (equal_from_is_eq _ e), refl)
put_cases_by k v c o false e = inr refl

put_at_itself : (p : Corner → Option Corner) (k v c : Corner) → c ≡ k → cond (is_at (corner_cmp k) c) (Some v) (p c) ≡ Some v
put_at_itself p k v c same = ap (λ e. cond (is_at (corner_cmp k) e) (Some v) (p e)) same ∙ ap (λ b. cond b (Some v) (p k)) (ap is_eq (tied_itself corners_total k))

-- q gives k the partner v, and to each other corner what p gives it
pub puts_by : (p q : Corner → Option Corner) (k v : Corner) → q k ≡ Some v → ((c : Corner) → c ≢ k → q c ≡ p c) → Puts p q k v
puts_by p q k v here others = record {
  at = λ c. elim (put_cases_by k v c (p c) (is_at (corner_cmp k) c) refl) [
    | inl h ↦ ap q (sym h.0) ∙ here ∙ sym h.1
    | inr h ↦ elim (same_corner c k) [ inl same ↦ ap q same ∙ here ∙ sym (put_at_itself p k v c same) | inr apart ↦ others c apart ∙ sym h ]
  ];
}

put_here : (p q : Corner → Option Corner) (k v : Corner) → Puts p q k v → q k ≡ Some v
put_here p q k v s = s.at k ∙ ap (λ b. cond b (Some v) (p k)) (ap is_eq (tied_itself corners_total k))

put_cases : (p q : Corner → Option Corner) (k v : Corner) → Puts p q k v → (c : Corner) → ((k ≡ c) × (q c ≡ Some v)) ⊎ (q c ≡ p c)
put_cases p q k v s c = elim (put_cases_by k v c (p c) (is_at (corner_cmp k) c) refl) [ inl h ↦ inl (h.0, s.at c ∙ h.1) | inr h ↦ inr (s.at c ∙ h) ]

put_apart : (p q : Corner → Option Corner) (k v : Corner) → Puts p q k v → (c : Corner) → k ≢ c → q c ≡ p c
put_apart p q k v s c apart = elim (put_cases p q k v s c) [ inl h ↦ absurd (apart h.0) | inr h ↦ h ]

-- a side with a partner keeps it where another side gets one
put_keeps : (p q : Corner → Option Corner) (k v : Corner) → Puts p q k v → p k ≡ None → (c e : Corner) → p c ≡ Some e → q c ≡ Some e
put_keeps p q k v s free c e is =
    put_apart p q k v s c (λ same. let lost : None ≡ Some e = sym free ∙ ap p same ∙ is in cc) ∙ is

put_some : (p q : Corner → Option Corner) (k v : Corner) → Puts p q k v → (c e : Corner) → q c ≡ Some e → ((k ≡ c) × (v ≡ e)) ⊎ (p c ≡ Some e)
put_some p q k v s c e is = elim (put_cases p q k v s c) [ inl h ↦ inl (h.0, let both : Some v ≡ Some e = sym h.1 ∙ is in cc) | inr h ↦ inr (sym h ∙ is) ]

pair_of_prefix : (xs ys : List Glue) (c e : Corner) → IsPairOf xs c e → IsPairOf (xs ++ ys) c e
pair_of_prefix [] ys c e h = absurd h
pair_of_prefix (g ∷ xs) ys c e h = elim h [ inl a ↦ inl a | inr r ↦ inr (elim r [ inl b ↦ inl b | inr t ↦ inr (pair_of_prefix xs ys c e t) ]) ]

pair_of_suffix : (xs ys : List Glue) (c e : Corner) → IsPairOf ys c e → IsPairOf (xs ++ ys) c e
pair_of_suffix [] ys c e h = h
pair_of_suffix (g ∷ xs) ys c e h = inr (inr (pair_of_suffix xs ys c e h))

partners_push : (done : List Glue) (g : Glue) (p q r : Corner → Option Corner) → ArePartners done p → p g.one ≡ None → p g.two ≡ None → g.one ≢ g.two
    → Puts p q g.one g.two → Puts q r g.two g.one → ArePartners (done ++ g ∷ []) r
partners_push done g p q r a free_one free_two apart s t =
    let still_free : q g.two ≡ None = put_apart p q g.one g.two s g.two apart ∙ free_two in
    let keeps : (c e : Corner) → p c ≡ Some e → r c ≡ Some e = λ c e is. put_keeps q r g.two g.one t still_free c e (put_keeps p q g.one g.two s free_one c e is) in
    record {
      of_lines = All-append _ done (g ∷ [])
          (All-weaker done (λ h b. (keeps _ _ b.0, keeps _ _ b.1)) a.of_lines)
          ((put_keeps q r g.two g.one t still_free _ _ (put_here p q g.one g.two s), put_here q r g.two g.one t), tt);
      only = λ c e is. elim (put_some q r g.two g.one t c e is) [
        | inl h ↦ pair_of_suffix done (g ∷ []) c e (inr (inl h))
        | inr h ↦ elim (put_some p q g.one g.two s c e h) [
          | inl k ↦ pair_of_suffix done (g ∷ []) c e (inl k)
          | inr k ↦ pair_of_prefix done (g ∷ []) c e (a.only c e k)
        ]
      ];
    }

back_of_pair : (glues : List Glue) (p : Corner → Option Corner) (c e : Corner) → AllByRecursion (λ g. (p g.one ≡ Some g.two) × (p g.two ≡ Some g.one)) glues → IsPairOf glues c e → p e ≡ Some c
back_of_pair [] p c e a h = absurd h
back_of_pair (g ∷ glues) p c e a h = elim h [
  | inl k ↦ ap p (sym k.1) ∙ a.0.1 ∙ ap Some k.0
  | inr r ↦ elim r [ inl k ↦ ap p (sym k.1) ∙ a.0.0 ∙ ap Some k.0 | inr t ↦ back_of_pair glues p c e a.1 t ]
]

-- the partner of the partner is the side itself
pub partner_back : (glues : List Glue) (p : Corner → Option Corner) (c e : Corner) → ArePartners glues p → p c ≡ Some e → p e ≡ Some c
partner_back glues p c e a is = back_of_pair glues p c e a.of_lines (a.only c e is)

-- a side is glued to another side
pub pair_other : (glues : List Glue) (c e : Corner) → AllByRecursion (λ g. g.one ≢ g.two) glues → IsPairOf glues c e → e ≢ c
pair_other [] c e d h = absurd h
pair_other (g ∷ glues) c e d h = elim h [
  | inl k ↦ λ same. d.0 (k.0 ∙ sym same ∙ sym k.1)
  | inr r ↦ elim r [ inl k ↦ λ same. d.0 (k.1 ∙ same ∙ sym k.0) | inr t ↦ pair_other glues c e d.1 t ]
]

opposite_back : (a b : Option PlaneVector) → AreOpposite a b → AreOpposite b a
opposite_back None b h = absurd h
opposite_back (Some v) None h = absurd h
opposite_back (Some v) (Some w) h = sym (ap vector_neg h ∙ vector_neg-vector_neg v)

opposite_at : (vector : Corner → Option PlaneVector) (a b c e : Corner) → a ≡ c → b ≡ e → AreOpposite (vector a) (vector b) → AreOpposite (vector c) (vector e)
opposite_at vector a b c e at_c at_e h = subst (λ x. AreOpposite (vector x) (vector e)) at_c (subst (λ x. AreOpposite (vector a) (vector x)) at_e h)

-- sides that are glued to each other have opposite vectors
pub pair_opposite : (vector : Corner → Option PlaneVector) (glues : List Glue) (c e : Corner) → AllByRecursion (λ g. AreOpposite (vector g.one) (vector g.two)) glues → IsPairOf glues c e → AreOpposite (vector c) (vector e)
pair_opposite vector [] c e a h = absurd h
pair_opposite vector (g ∷ glues) c e a h = elim h [
  | inl k ↦ opposite_at vector g.one g.two c e k.0 k.1 a.0
  | inr r ↦ elim r [ inl k ↦ opposite_at vector g.two g.one c e k.0 k.1 (opposite_back _ _ a.0) | inr t ↦ pair_opposite vector glues c e a.1 t ]
]

contains_head : (c x : Corner) (xs : List Corner) → x ≡ c → Contains (x ∷ xs) c
contains_head c x xs e = (0, omega arith, e)

pair_listed : (glues : List Glue) (c e : Corner) → IsPairOf glues c e → Contains (glued_sides glues) c
pair_listed [] c e h = absurd h
pair_listed (g ∷ glues) c e h = elim h [
  | inl k ↦ contains_head c g.one (g.two ∷ glued_sides glues) k.0
  | inr r ↦ elim r [
    | inl k ↦ Contains-append_right (g.one ∷ []) (g.two ∷ glued_sides glues) c (contains_head c g.two (glued_sides glues) k.0)
    | inr t ↦ Contains-append_right (g.one ∷ g.two ∷ []) (glued_sides glues) c (pair_listed glues c e t)
  ]
]

-- a side on no line has no partner
unlisted_by : (glues : List Glue) (p : Corner → Option Corner) (c : Corner) (o : Option Corner) → p c ≡ o → ArePartners glues p → ¬ Contains (glued_sides glues) c → p c ≡ None
unlisted_by glues p c None is a un = is
unlisted_by glues p c (Some e) is a un = absurd (un (pair_listed glues c e (a.only c e is)))

-- the partners after one more line
pub partners_more : (polygons : List (List PlaneVector)) (earlier : List Glue) (g : Glue) (p q r : Corner → Option Corner) → ArePartners earlier p → PassesLine polygons (glued_once earlier g)
    → Puts p q g.one g.two → Puts q r g.two g.one → ArePartners (earlier ++ g ∷ []) r
partners_more polygons earlier g p q r a single s t =
    partners_push earlier g p q r a (unlisted_by earlier p g.one (p g.one) refl a single.1) (unlisted_by earlier p g.two (p g.two) refl a single.2) single.0 s t

all_have_partners : (glues : List Glue) (p : Corner → Option Corner) → AllByRecursion (λ g. (p g.one ≡ Some g.two) × (p g.two ≡ Some g.one)) glues → AllByRecursion (λ c. IsSome (p c)) (glued_sides glues)
all_have_partners [] p a = tt
all_have_partners (g ∷ glues) p a = (subst IsSome (sym a.0.0) refl, (subst IsSome (sym a.0.1) refl, all_have_partners glues p a.1))

-- the sides with a partner are those on the lines
pub listed_has_partner : (glues : List Glue) (p : Corner → Option Corner) (c : Corner) → ArePartners glues p → Contains (glued_sides glues) c → IsSome (p c)
listed_has_partner glues p c a h = All-contains (λ c. IsSome (p c)) (glued_sides glues) c (All-from_recursion _ (glued_sides glues) (all_have_partners glues p a.of_lines)) h

listed_by : (glues : List Glue) (p : Corner → Option Corner) (c : Corner) (o : Option Corner) → p c ≡ o → ArePartners glues p → IsSome o → Contains (glued_sides glues) c
listed_by glues p c None is a h = cc
listed_by glues p c (Some e) is a h = pair_listed glues c e (a.only c e is)

-- a side with a partner is on a line
pub listed_from_partner : (glues : List Glue) (p : Corner → Option Corner) (c : Corner) → ArePartners glues p → IsSome (p c) → Contains (glued_sides glues) c
listed_from_partner glues p c a h = listed_by glues p c (p c) refl a h
