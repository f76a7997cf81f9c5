-- Lines that glue each side of a pair of earlier and later copies pass their tests, and glue all sides.
use Rattle.std.proofs.Common.{◌≡◌, ◌≢◌, ◌⊎◌, suc, ◌<◌, List, [], ◌∷◌, ◌++◌, length, Contains, refl, sym, ap, subst, inl, inr, arith}
use Rattle.std.proofs.lemmas.Bool.{cases_lt}
use Rattle.std.specs.List.{AllByRecursion}
use Rattle.fs_lists.specs.Members.{IsIn, IsDistinct}
use Rattle.fs_lists.proofs.Members.{in_of_contains, in_append_cases}
use Rattle.fs_plane.specs.declared.corners.Corner.{Corner}
use Rattle.fs_plane.specs.Vector.{PlaneVector}
use Rattle.fs_gluing.specs.declared.shapes.Glue.{Glue}
use Rattle.fs_gluing.specs.FirstFault.{PassesLine, AreOpposite, line_tests, Joins}
use Rattle.fs_gluing.specs.Gluing.{IsPairOf}
use Rattle.fs_gluing.specs.Polygons.{HasSide, at_side}
use Rattle.fs_gluing.specs.Shape.{glued_sides}
use Rattle.fs_unfold.specs.Copies.{AreLines, no_side, earlier, later}

-- ---- members

module _ {X : Type 0} where
  -- what is in a list is in it by std's word
  contains_of_in : (x : X) (xs : List X) → IsIn x xs → Contains xs x
  contains_of_in x [] h = absurd h
  contains_of_in x (y ∷ xs) (inl e) = (0, (let l : 0 < suc (length xs) = omega arith in l), sym e)
  contains_of_in x (y ∷ xs) (inr h) = let c = contains_of_in x xs h in (suc c.0, (let l = c.1 in omega (arith, l)), c.2)

-- a side on a line
on_line : (c : Corner) (glues : List Glue) → IsIn c (glued_sides glues) → (g : Glue) × IsIn g glues × ((c ≡ g.one) ⊎ (c ≡ g.two))
on_line c [] h = absurd h
on_line c (g ∷ glues) (inl e) = (g, inl refl, inl e)
on_line c (g ∷ glues) (inr (inl e)) = (g, inl refl, inr e)
on_line c (g ∷ glues) (inr (inr h)) = let r = on_line c glues h in (r.0, inr r.1, r.2)

one_on : (g : Glue) (glues : List Glue) → IsIn g glues → IsIn g.one (glued_sides glues)
one_on g [] h = absurd h
one_on g (k ∷ glues) (inl e) = inl (ap (λ (x : Glue). x.one) e)
one_on g (k ∷ glues) (inr h) = inr (inr (one_on g glues h))

two_on : (g : Glue) (glues : List Glue) → IsIn g glues → IsIn g.two (glued_sides glues)
two_on g [] h = absurd h
two_on g (k ∷ glues) (inl e) = inr (inl (ap (λ (x : Glue). x.two) e))
two_on g (k ∷ glues) (inr h) = inr (inr (two_on g glues h))

-- a line glues its sides
pair_of_line : (g : Glue) (glues : List Glue) → IsIn g glues → IsPairOf glues g.one g.two
pair_of_line g [] h = absurd h
pair_of_line g (k ∷ glues) (inl e) = inl (ap (λ (x : Glue). x.one) (sym e), ap (λ (x : Glue). x.two) (sym e))
pair_of_line g (k ∷ glues) (inr h) = inr (inr (pair_of_line g glues h))

pair_of_line_back : (g : Glue) (glues : List Glue) → IsIn g glues → IsPairOf glues g.two g.one
pair_of_line_back g [] h = absurd h
pair_of_line_back g (k ∷ glues) (inl e) = inr (inl (ap (λ (x : Glue). x.two) (sym e), ap (λ (x : Glue). x.one) (sym e)))
pair_of_line_back g (k ∷ glues) (inr h) = inr (inr (pair_of_line_back g glues h))

module _ (P : Corner → Corner → Type 0) (symmetric : (c e : Corner) → P c e → P e c) (unique : (c e f : Corner) → P c e → P c f → e ≡ f) where
  -- a line of a pair, from the earlier copy on
  record IsLine (g : Glue) : Type 0 where
    pub pair : P g.one g.two
    pub before : g.one.polygon < g.two.polygon

  -- the line of a side whose partner is in a later copy
  line_of : (sides : List Corner) (lines : List Glue) → AreLines P sides lines → (c e : Corner) → IsIn c sides → P c e → c.polygon < e.polygon → IsIn (record { line = 0; one = c; two = e }) lines
  line_of _ _ no_side c e h p l = absurd h
  line_of _ _ (earlier b f sides lines q m a) c e (inl same) p l = inl (λ i. record { line = 0; one = same i; two = unique c e f p (subst (λ x. P x f) (sym same) q) i })
  line_of _ _ (earlier b f sides lines q m a) c e (inr h) p l = inr (line_of sides lines a c e h p l)
  line_of _ _ (later b f sides lines q m a) c e (inl same) p l =
      let equal = ap (λ (x : Corner). x.polygon) (unique c e f p (subst (λ x. P x f) (sym same) q)) in
      let at = ap (λ (x : Corner). x.polygon) same in
      absurd (omega (arith, l, m, equal, at))
  line_of _ _ (later b f sides lines q m a) c e (inr h) p l = line_of sides lines a c e h p l

  -- ---- each side is on one line

  -- a line of another side is apart from the lines before
  apart_from : (g k : Glue) → IsLine g → IsLine k → g.one ≢ k.one → (g.one ≢ k.two) × (g.two ≢ k.one) × (g.two ≢ k.two)
  apart_from g k a b other = (
    (λ e.
        let back = unique g.one g.two k.one a.pair (subst (λ x. P x k.one) (sym e) (symmetric k.one k.two b.pair)) in
        let p = ap (λ (x : Corner). x.polygon) e in
        let q = ap (λ (x : Corner). x.polygon) back in
        let l = a.before in
        let m = b.before in
        omega (arith, p, q, l, m)),
    (λ e.
        let back = unique g.two g.one k.two (symmetric g.one g.two a.pair) (subst (λ x. P x k.two) (sym e) b.pair) in
        let p = ap (λ (x : Corner). x.polygon) e in
        let q = ap (λ (x : Corner). x.polygon) back in
        let l = a.before in
        let m = b.before in
        omega (arith, p, q, l, m)),
    (λ e. other (unique g.two g.one k.one (symmetric g.one g.two a.pair) (subst (λ x. P x k.one) (sym e) (symmetric k.one k.two b.pair)))),
  )

  -- lines that were made of sides before these
  AreEarlier : List Glue → List Corner → Type 0
  AreEarlier lines sides = (g : Glue) → IsIn g lines → IsLine g × ¬ IsIn g.one sides

  not_on : (before : List Glue) (c e : Corner) (sides : List Corner) → IsLine (record { line = 0; one = c; two = e }) → AreEarlier before (c ∷ sides) → (¬ IsIn c (glued_sides before)) × (¬ IsIn e (glued_sides before))
  unfolding AreEarlier
  not_on before c e sides a others = (
    (λ h. let r = on_line c before h in
        let k = others r.0 r.1 in
        let apart = apart_from (record { line = 0; one = c; two = e }) r.0 a k.0 (λ same. k.1 (inl (sym same))) in
        elim r.2 [ inl same ↦ k.1 (inl (sym same)) | inr same ↦ apart.0 same ]),
    (λ h. let r = on_line e before h in
        let k = others r.0 r.1 in
        let apart = apart_from (record { line = 0; one = c; two = e }) r.0 a k.0 (λ same. k.1 (inl (sym same))) in
        elim r.2 [ inl same ↦ apart.1 same | inr same ↦ apart.2 same ]),
  )

  module _ (polygons : List (List PlaneVector)) (exist : (c e : Corner) → P c e → HasSide polygons c × HasSide polygons e × AreOpposite (at_side polygons c) (at_side polygons e)) where
    tests_pass : (before : List Glue) (sides : List Corner) (lines : List Glue) → IsDistinct sides → AreEarlier before sides → AreLines P sides lines → AllByRecursion (PassesLine polygons) (line_tests before lines)
    unfolding AreEarlier
    tests_pass before _ _ distinct others no_side = tt
    tests_pass before _ _ distinct others (earlier c e sides lines p l a) =
        let is : IsLine (record { line = 0; one = c; two = e }) = record { pair = p; before = l } in
        let there = exist c e p in
        let off = not_on before c e sides is others in (
          (there.0, there.1),
          (
            ((λ same. let q = ap (λ (x : Corner). x.polygon) same in omega (arith, l, q)), (λ h. off.0 (in_of_contains c (glued_sides before) h)), (λ h. off.1 (in_of_contains e (glued_sides before) h))),
            (
              there.2,
              tests_pass (before ++ record { line = 0; one = c; two = e } ∷ []) sides lines distinct.1
                  (λ g h. elim (in_append_cases g before (record { line = 0; one = c; two = e } ∷ []) h) [
                    | inl m ↦ let r = others g m in (r.0, (λ k. r.1 (inr k)))
                    | inr m ↦ at_last c e sides is distinct g m
                  ])
                  a,
            ),
          ),
        )
      where
        at_last : (c e : Corner) (sides : List Corner) → IsLine (record { line = 0; one = c; two = e }) → IsDistinct (c ∷ sides) → (g : Glue) → IsIn g (record { line = 0; one = c; two = e } ∷ []) → IsLine g × ¬ IsIn g.one sides
        at_last c e sides is distinct g (inl same) = (subst IsLine (sym same) is, (λ k. distinct.0 g.one k (sym (ap (λ (x : Glue). x.one) same))))
        at_last c e sides is distinct g (inr h) = absurd h
    tests_pass before _ _ distinct others (later c e sides lines p l a) = tests_pass before sides lines distinct.1 (λ g h. let r = others g h in (r.0, (λ k. r.1 (inr k)))) a

    -- the lines of all sides pass their tests
    pub lines_pass : (sides : List Corner) (lines : List Glue) → IsDistinct sides → AreLines P sides lines → AllByRecursion (PassesLine polygons) (line_tests [] lines)
    unfolding AreEarlier
    lines_pass sides lines distinct are = tests_pass [] sides lines distinct (λ g h. absurd h) are

  -- each side with a partner among them is on a line
  pub sides_glued : (sides : List Corner) (lines : List Glue) → AreLines P sides lines → (c e : Corner) → IsIn c sides → IsIn e sides → P c e → c.polygon ≢ e.polygon → Contains (glued_sides lines) c
  sides_glued sides lines are c e c_in e_in p other = contains_of_in c (glued_sides lines) (elim (cases_lt c.polygon e.polygon) [
    | inl l ↦ one_on (record { line = 0; one = c; two = e }) lines (line_of sides lines are c e c_in p l)
    | inr m ↦ elim (cases_lt e.polygon c.polygon) [
      | inl l ↦ two_on (record { line = 0; one = e; two = c }) lines (line_of sides lines are e c e_in (symmetric c e p) l)
      | inr n ↦ absurd (other (let same : c.polygon ≡ e.polygon = omega arith in same))
    ]
  ])

  -- and joins the two copies
  pub sides_join : (sides : List Corner) (lines : List Glue) → AreLines P sides lines → (c e : Corner) → IsIn c sides → IsIn e sides → P c e → c.polygon ≢ e.polygon → Joins lines c.polygon e.polygon
  sides_join sides lines are c e c_in e_in p other = elim (cases_lt c.polygon e.polygon) [
    | inl l ↦ record { one = c; two = e; pair = pair_of_line (record { line = 0; one = c; two = e }) lines (line_of sides lines are c e c_in p l); from = refl; to = refl }
    | inr m ↦ elim (cases_lt e.polygon c.polygon) [
      | inl l ↦ record { one = c; two = e; pair = pair_of_line_back (record { line = 0; one = e; two = c }) lines (line_of sides lines are e c e_in (symmetric c e p) l); from = refl; to = refl }
      | inr n ↦ absurd (other (let same : c.polygon ≡ e.polygon = omega arith in same))
    ]
  ]
