-- The glue lines of a staircase pass their tests, and glue each side to its partner.
use Rattle.std.proofs.Common.{◌≡◌, ◌≢◌, ◌⊎◌, ℕ, Bool, true, false, cond, List, [], ◌∷◌, ◌++◌, map, filter, Contains, refl, sym, ap, ◌∙◌, subst, inl, inr, arith}
use Rattle.std.specs.List.{AllByRecursion}
use Rattle.std.specs.Ordering.{is_lt}
use Rattle.std.specs.declared.cmp.Ordering.{Ordering}
use Rattle.std.specs.declared.cmp.Ordering.TheVariants.{Less, Equal, Greater}
use Rattle.std.proofs.lemmas.List.Elements.{Contains-append_right}
use Rattle.fs_lists.specs.Members.{IsIn, IsDistinct}
use Rattle.fs_lists.proofs.Members.{in_of_contains, in_append_cases}
use Rattle.fs_plane.specs.declared.corners.Corner.{Corner}
use Rattle.fs_plane.specs.Vector.{PlaneVector}
use Rattle.fs_gluing.specs.declared.shapes.Glue.{Glue}
use Rattle.fs_gluing.specs.FirstFault.{PassesLine, AreOpposite, line_tests, Joins}
use Rattle.fs_gluing.specs.Gluing.{corner_cmp, IsPairOf}
use Rattle.fs_gluing.specs.Polygons.{HasSide, at_side}
use Rattle.fs_gluing.specs.Shape.{glued_sides}
use Rattle.fs_gluing.proofs.Sides.CornerOrder.{corner_cases, not_less_both_ways}
use Rattle.fs_workload.specs.Staircase.{partner, is_lesser, glue_line, lines_of}
use Rattle.fs_workload.proofs.SidePartners.{IsSide, partner_inside, partner_back, partner_other}

less_of_test : (o : Ordering) → is_lt o ≡ true → o ≡ Less
less_of_test Less e = refl
less_of_test Equal e = cc
less_of_test Greater e = cc

-- the lines of one side more, by whether it comes before its partner
abbrev lines_with : ℕ → Corner → Bool → List Corner → List Glue
lines_with k c lesser sides = map (glue_line k) (cond lesser (c ∷ filter (is_lesser k) sides) (filter (is_lesser k) sides))

-- ---- sides on lines

on_line : (c : Corner) (glues : List Glue) → IsIn c (glued_sides glues) → (g : Glue) × IsIn g glues × ((c ≡ g.one) ⊎ (c ≡ g.two))
on_line c [] h = absurd h
on_line c (g ∷ glues) (inl e) = (g, inl refl, inl e)
on_line c (g ∷ glues) (inr (inl e)) = (g, inl refl, inr e)
on_line c (g ∷ glues) (inr (inr h)) = let r = on_line c glues h in (r.0, inr r.1, r.2)

pair_back : (glues : List Glue) (c e : Corner) → IsPairOf glues c e → IsPairOf glues e c
pair_back [] c e h = absurd h
pair_back (g ∷ glues) c e (inl h) = inr (inl (h.1, h.0))
pair_back (g ∷ glues) c e (inr (inl h)) = inl (h.1, h.0)
pair_back (g ∷ glues) c e (inr (inr h)) = inr (inr (pair_back glues c e h))

pair_on_line : (glues : List Glue) (c e : Corner) → IsPairOf glues c e → Contains (glued_sides glues) c
pair_on_line [] c e h = absurd h
pair_on_line (g ∷ glues) c e (inl h) = (0, omega arith, h.0)
pair_on_line (g ∷ glues) c e (inr (inl h)) = (1, omega arith, h.0)
pair_on_line (g ∷ glues) c e (inr (inr h)) = Contains-append_right (g.one ∷ g.two ∷ []) (glued_sides glues) c (pair_on_line glues c e h)

module _ (k : ℕ) where
  -- the line of a side that comes before its partner
  pair_of_lesser : (sides : List Corner) (c : Corner) → IsIn c sides → is_lesser k c ≡ true → IsPairOf (lines_of k sides) c (partner k c)
  pair_of_lesser [] c h t = absurd h
  pair_of_lesser (x ∷ sides) c (inl e) t =
      let is : is_lesser k x ≡ true = ap (is_lesser k) (sym e) ∙ t in
      subst (λ b. IsPairOf (lines_with k x b sides) c (partner k c)) (sym is) (inl (sym e, ap (partner k) (sym e)))
  pair_of_lesser (x ∷ sides) c (inr h) t = by (is_lesser k x) (pair_of_lesser sides c h t)
    where
      by : (b : Bool) → IsPairOf (lines_of k sides) c (partner k c) → IsPairOf (lines_with k x b sides) c (partner k c)
      by true p = inr (inr p)
      by false p = p

  module _ (sides : List Corner) (all : (c : Corner) → IsSide k c → IsIn c sides) where
    -- each side is glued to its partner
    pair_of_side : (c : Corner) → IsSide k c → IsPairOf (lines_of k sides) c (partner k c)
    pair_of_side c is = elim (corner_cases c (partner k c)) [
      | inl same ↦ absurd (partner_other k c is same)
      | inr r ↦ elim r [
        | inl l ↦ pair_of_lesser sides c (all c is) (ap is_lt l)
        | inr l ↦
            let back = partner_back k c is in
            let t : is_lesser k (partner k c) ≡ true = ap (λ e. is_lt (corner_cmp (partner k c) e)) back ∙ ap is_lt l in
            pair_back (lines_of k sides) (partner k c) c
            (subst (IsPairOf (lines_of k sides) (partner k c)) back (pair_of_lesser sides (partner k c) (all (partner k c) (partner_inside k c is)) t))
      ]
    ]

    -- each side is on a line
    pub side_on_line : (c : Corner) → IsSide k c → Contains (glued_sides (lines_of k sides)) c
    side_on_line c is = pair_on_line (lines_of k sides) c (partner k c) (pair_of_side c is)

    -- each side joins its rectangle to that of its partner
    pub side_joins : (c : Corner) → IsSide k c → Joins (lines_of k sides) c.polygon (partner k c).polygon
    side_joins c is = record { one = c; two = partner k c; pair = pair_of_side c is; from = refl; to = refl }

  -- ---- lines that come after others

  -- the line of a side that comes before its partner and isn't among these sides
  record IsLineBefore (sides : List Corner) (g : Glue) : Type 0 where
    pub side : IsSide k g.one
    pub two : g.two ≡ partner k g.one
    pub lesser : corner_cmp g.one (partner k g.one) ≡ Less
    pub passed : ¬ IsIn g.one sides

  AreLinesBefore : List Corner → List Glue → Type 0
  AreLinesBefore sides before = (g : Glue) → IsIn g before → IsLineBefore sides g

  line_before_more : (c : Corner) (sides : List Corner) (g : Glue) → IsLineBefore (c ∷ sides) g → IsLineBefore sides g
  line_before_more c sides g l = record { side = l.side; two = l.two; lesser = l.lesser; passed = λ h. l.passed (inr h) }

  module _ (c : Corner) (is : IsSide k c) (less : corner_cmp c (partner k c) ≡ Less) (sides : List Corner) (g : Glue) (l : IsLineBefore (c ∷ sides) g) where
    -- where the partner of a side before is this side, they come before each other
    partner_apart : partner k g.one ≢ c
    partner_apart e =
        let back : g.one ≡ partner k c = sym (partner_back k g.one l.side) ∙ ap (partner k) e in
        not_less_both_ways c (partner k c) less (subst (λ x. corner_cmp x c ≡ Less) back (subst (λ x. corner_cmp g.one x ≡ Less) e l.lesser))

    one_apart : ¬ ((c ≡ g.one) ⊎ (c ≡ g.two))
    one_apart (inl e) = l.passed (inl (sym e))
    one_apart (inr e) = partner_apart (sym (e ∙ l.two))

    two_apart : ¬ ((partner k c ≡ g.one) ⊎ (partner k c ≡ g.two))
    two_apart (inl e) = partner_apart (ap (partner k) (sym e) ∙ partner_back k c is)
    two_apart (inr e) = l.passed (inl (sym (partner_back k g.one l.side) ∙ ap (partner k) (sym (e ∙ l.two)) ∙ partner_back k c is))

  module _ (polygons : List (List PlaneVector)) (exist : (c : Corner) → IsSide k c → HasSide polygons c) (opposite : (c : Corner) → IsSide k c → AreOpposite (at_side polygons c) (at_side polygons (partner k c))) where
    Pass : List Glue → List Glue → Type 0
    Pass before lines = AllByRecursion (PassesLine polygons) (line_tests before lines)

    side_passes : (c : Corner) (sides : List Corner) → IsSide k c → ¬ IsIn c sides → (before : List Glue) → AreLinesBefore (c ∷ sides) before
        → ((before : List Glue) → AreLinesBefore sides before → Pass before (lines_of k sides)) → Pass before (lines_of k (c ∷ sides))
    unfolding AreLinesBefore Pass
    side_passes c sides is new before earlier rest = by (is_lesser k c) refl
      where
        by : (b : Bool) → is_lesser k c ≡ b → AllByRecursion (PassesLine polygons) (line_tests before (lines_with k c b sides))
        by false e = rest before (λ g h. line_before_more c sides g (earlier g h))
        by true e =
            let less = less_of_test (corner_cmp c (partner k c)) e in (
              (exist c is, exist (partner k c) (partner_inside k c is)),
              (
                (
                  partner_other k c is,
                  (λ h. let r = on_line c before (in_of_contains c (glued_sides before) h) in one_apart c is less sides r.0 (earlier r.0 r.1) r.2),
                  (λ h. let r = on_line (partner k c) before (in_of_contains (partner k c) (glued_sides before) h) in two_apart c is less sides r.0 (earlier r.0 r.1) r.2),
                ),
                (
                  opposite c is,
                  rest (before ++ glue_line k c ∷ [])
                      (λ g h. elim (in_append_cases g before (glue_line k c ∷ []) h) [
                        | inl m ↦ line_before_more c sides g (earlier g m)
                        | inr m ↦ elim m [
                          | inl same ↦ subst (IsLineBefore sides) (sym same) (record { side = is; two = refl; lesser = less; passed = new })
                          | inr none ↦ absurd none
                        ]
                      ]),
                ),
              ),
            )

    sides_pass : (sides : List Corner) → IsDistinct sides → AllByRecursion (IsSide k) sides → (before : List Glue) → AreLinesBefore sides before → Pass before (lines_of k sides)
    unfolding Pass
    sides_pass [] distinct are before earlier = tt
    sides_pass (c ∷ sides) distinct are before earlier =
        side_passes c sides are.0 (λ h. distinct.0 c h refl) before earlier (sides_pass sides distinct.1 are.1)

    -- the lines of all sides pass their tests
    pub side_lines_pass : (sides : List Corner) → IsDistinct sides → AllByRecursion (IsSide k) sides → AllByRecursion (PassesLine polygons) (line_tests [] (lines_of k sides))
    unfolding AreLinesBefore Pass
    side_lines_pass sides distinct are = sides_pass sides distinct are [] (λ g h. absurd h)
