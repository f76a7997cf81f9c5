-- The current components of two states, where they are compared.
use Rattle.std.proofs.Common.{◌≡◌, ◌⊎◌, inl, inr, eqb, cond, ◌≢◌, ℕ, ◌+◌, Bool, true, false, ◌<◌, length, get_or, arith, List, [], ◌∷◌, drop, Result, Ok, IsTrue, ◌↔◌, IfOk, sym, ap, ◌∙◌, subst}
use Rattle.std.proofs.lemmas.Bool.Decides.{Decides-eqb}
use Rattle.std.proofs.lemmas.Slice.Eq.{slice_eq-Decides}
use Rattle.std.specs.Cmp.Lexicographic.{pointwise}
use Rattle.std.proofs.lemmas.List.{length-map, get_or-map, drop_more}
use Rattle.std.specs.List.{AllByRecursion}
use Rattle.fs_quadratic.specs.declared.steps.Place.{Place}
use Rattle.fs_gluing.specs.Exchanges.{Letter, Component, names_of}
use Rattle.fs_rauzy.specs.declared.rows.Extent.{Extent}
use Rattle.fs_rauzy.specs.Comparisons.{HaveEqualRows, IsComparison, other_rows, equal_rows, checked_proportion}
use Rattle.fs_rauzy.specs.Loops.{AreAlike}
use Rattle.fs_rauzy.specs.StatesInPlace.{letters_at, component_at, opened, IsInPlace}
use Rattle.fs_rauzy.specs.Steps.{AtCurrent, AtBoth}
use Rattle.fs_rauzy.proofs.AlikeComponents.{alike_of_comparison}
use Rattle.fs_rauzy.proofs.OpenedRows.{now_named, now_within}

-- what a test refutes
pub refuted : {P : Type 0} (b : Bool) → b ≡ false → (IsTrue b ↔ P) → ¬ P
refuted b e h p = differ (sym (h.1 p) ∙ e)
  where
    differ : true ≡ false → ⊥
    differ e = cc

-- rows are equal, or not
decide_names : (xs ys : List ℕ) → (xs ≡ ys) ⊎ (¬ (xs ≡ ys))
decide_names xs ys = by_test (pointwise eqb xs ys) (λ i. pointwise eqb xs ys)
  where
    differ : true ≡ false → ⊥
    differ e = cc

    by_test : (b : Bool) → b ≡ pointwise eqb xs ys → (xs ≡ ys) ⊎ (¬ (xs ≡ ys))
    by_test true e = inl ((slice_eq-Decides Decides-eqb xs ys (pointwise eqb xs ys) (λ i. pointwise eqb xs ys)).0 (sym e))
    by_test false e = inr (λ same. differ (sym ((slice_eq-Decides Decides-eqb xs ys (pointwise eqb xs ys) (λ i. pointwise eqb xs ys)).1 same) ∙ sym e))

-- the component of the last extent is the current one
pub record IsCurrent (letters : List Letter) (top bottom : List ℕ) (e : Extent) (components : List Component) : Type 0 where
  pub extents : List Extent
  pub rest : List Extent
  pub now : extents ≡ e ∷ rest
  pub in_place : IsInPlace letters top bottom extents
  pub is : opened letters top bottom extents ≡ components

at_current : {letters : List Letter} {top bottom : List ℕ} {e : Extent} {components : List Component} → IsCurrent letters top bottom e components → (P : Component → Type 0)
    → P (component_at letters top bottom e) → AtCurrent P components
at_current {letters} {top} {bottom} current P h = subst (AtCurrent P) (ap (λ (x : List Extent). opened letters top bottom x) (sym current.now) ∙ current.is) h

named_now : {letters : List Letter} {top bottom : List ℕ} {e : Extent} {components : List Component} → IsCurrent letters top bottom e components
    → names_of (letters_at letters (drop e.first top)) ≡ drop e.first top
named_now {letters} {top} {bottom} current = now_named (subst (λ x. IsInPlace letters top bottom x) current.now current.in_place)

-- the names of its top row are those of letters
pub within_now : {letters : List Letter} {top bottom : List ℕ} {e : Extent} {components : List Component} → IsCurrent letters top bottom e components
    → AllByRecursion (λ name. name < length letters) (drop e.first top)
within_now {letters} {top} {bottom} current = now_within (subst (λ x. IsInPlace letters top bottom x) current.now current.in_place)

-- so it is for equal lists
pub same_within : {letters others : List Letter} {names row : List ℕ} → others ≡ letters → names ≡ row → AllByRecursion (λ name. name < length letters) row
    → AllByRecursion (λ name. name < length others) names
same_within {letters} {others} {names} {row} e f h =
    subst (λ names. AllByRecursion (λ name. name < length others) names) (sym f) (subst (λ (letters : List Letter). AllByRecursion (λ name. name < length letters) row) (sym e) h)

module _ {old_letters letters : List Letter} {old_top old_bottom top bottom : List ℕ} {old e : Extent} {old_components components : List Component}
    (before : IsCurrent old_letters old_top old_bottom old old_components) (after : IsCurrent letters top bottom e components) where
  at_both : (P : Component → Component → Type 0) → P (component_at old_letters old_top old_bottom old) (component_at letters top bottom e) → AtBoth P old_components components
  at_both P h = at_current before (λ b. AtCurrent (P b) components) (at_current after (P (component_at old_letters old_top old_bottom old)) h)

  equal_tops : HaveEqualRows (component_at old_letters old_top old_bottom old) (component_at letters top bottom e) → drop e.first top ≡ drop old.first old_top
  equal_tops rows = sym (named_now after) ∙ rows.top ∙ named_now before

  module _ (d : ℕ) where
    no_comparison : ¬ HaveEqualRows (component_at old_letters old_top old_bottom old) (component_at letters top bottom e)
        → AtBoth (λ before after. IsComparison d before after (Ok false)) old_components components
    no_comparison differ = at_both (λ before after. IsComparison d before after (Ok false)) (other_rows differ)

    -- components with other rows aren't compared further
    pub other_tops : drop e.first top ≢ drop old.first old_top → AtBoth (λ before after. IsComparison d before after (Ok false)) old_components components
    other_tops differ = no_comparison (λ rows. differ (equal_tops rows))

    pub other_bottoms : drop e.first bottom ≢ drop old.first old_bottom → AtBoth (λ before after. IsComparison d before after (Ok false)) old_components components
    other_bottoms differ = no_comparison (λ rows. differ rows.bottom)

    -- where the rows are equal, the lengths are compared
    pub equal_compared : (result : Result Bool Place) → drop e.first top ≡ drop old.first old_top → drop e.first bottom ≡ drop old.first old_bottom
        → result ≡ checked_proportion d old.total e.total 0 (letters_at old_letters (drop e.first top)) (letters_at letters (drop e.first top))
        → AtBoth (λ before after. IsComparison d before after result) old_components components
    equal_compared result same below is =
        at_both (λ before after. IsComparison d before after result)
        (subst (λ r. IsComparison d (component_at old_letters old_top old_bottom old) (component_at letters top bottom e) r)
        (sym (is ∙ ap (λ names. checked_proportion d old.total e.total 0 (letters_at old_letters names) (letters_at letters (drop e.first top))) same))
        (equal_rows (record { top = named_now after ∙ same ∙ sym (named_now before); bottom = below })))

-- the current component is compared with a saved one
module _ (saved : Component) {letters : List Letter} {top bottom : List ℕ} {e : Extent} {components : List Component} (after : IsCurrent letters top bottom e components) (d : ℕ) where
  -- components with other rows aren't compared further
  pub saved_top_differs : ¬ (names_of saved.top ≡ drop e.first top) → AtCurrent (λ c. IsComparison d saved c (Ok false)) components
  saved_top_differs differ = at_current after (λ c. IsComparison d saved c (Ok false)) (other_rows (λ rows. differ (sym rows.top ∙ named_now after)))

  -- what the tests of the rows tell
  pub rows_differ_below : ¬ (drop e.first bottom ≡ saved.bottom) → AtCurrent (λ c. IsTrue false ↔ HaveEqualRows saved c) components
  rows_differ_below differ = at_current after (λ c. IsTrue false ↔ HaveEqualRows saved c) (λ t. absurd (none t), λ rows. absurd (differ rows.bottom))
    where
      none : false ≡ true → ⊥
      none e = cc

  pub rows_as_above : (b : Bool) → drop e.first bottom ≡ saved.bottom → (IsTrue b ↔ (names_of saved.top ≡ drop e.first top)) → AtCurrent (λ c. IsTrue b ↔ HaveEqualRows saved c) components
  rows_as_above b below h =
      at_current after (λ c. IsTrue b ↔ HaveEqualRows saved c)
      (λ t. record { top = named_now after ∙ sym (h.0 t); bottom = below }, λ rows. h.1 (sym rows.top ∙ named_now after))

  rows_now : (b : Bool) → AtCurrent (λ c. IsTrue b ↔ HaveEqualRows saved c) components → IsTrue b ↔ HaveEqualRows saved (component_at letters top bottom e)
  rows_now b h =
      subst (AtCurrent (λ c. IsTrue b ↔ HaveEqualRows saved c))
      (sym (ap (λ (x : List Extent). opened letters top bottom x) (sym after.now) ∙ after.is)) h

  -- the lengths count where the rows are equal
  pub saved_compared : (b : Bool) (result : Result Bool Place) → AtCurrent (λ c. IsTrue b ↔ HaveEqualRows saved c) components
      → result ≡ checked_proportion d saved.total e.total 0 saved.top (letters_at letters (drop e.first top)) → AtCurrent (λ c. IsComparison d saved c (cond b result (Ok false))) components
  saved_compared b result rows is = at_current after (λ c. IsComparison d saved c (cond b result (Ok false))) (by_rows b (rows_now b rows))
    where
      by_rows : (b : Bool) → IsTrue b ↔ HaveEqualRows saved (component_at letters top bottom e) → IsComparison d saved (component_at letters top bottom e) (cond b result (Ok false))
      by_rows true h = subst (λ r. IsComparison d saved (component_at letters top bottom e) r) (sym is) (equal_rows (h.0 (λ i. true)))
      by_rows false h = other_rows (λ rows. none (h.1 rows))
        where
          none : false ≡ true → ⊥
          none e = cc

  -- where they are in proportion the rows decide
  pub saved_in_proportion : (b : Bool) (result : Result Bool Place) → AtCurrent (λ c. IsTrue b ↔ HaveEqualRows saved c) components
      → result ≡ checked_proportion d saved.total e.total 0 saved.top (letters_at letters (drop e.first top)) → result ≡ Ok true → AtCurrent (λ c. IsComparison d saved c (Ok b)) components
  saved_in_proportion b result rows is same = subst (λ r. AtCurrent (λ c. IsComparison d saved c r) components) (ap (λ (r : Result Bool Place). cond b r (Ok false)) same ∙ chosen b) (saved_compared b result rows is)
    where
      both : Bool → Result Bool Place
      both b = cond b (Ok true) (Ok false)

      chosen : (b : Bool) → both b ≡ Ok b
      chosen true = λ i. Ok true
      chosen false = λ i. Ok false

  -- nor does one need to know of the rows where the lengths aren't in proportion
  pub saved_not_in_proportion : (result : Result Bool Place) → result ≡ checked_proportion d saved.total e.total 0 saved.top (letters_at letters (drop e.first top)) → result ≡ Ok false
      → AtCurrent (λ c. IsComparison d saved c (Ok false)) components
  saved_not_in_proportion result is other =
      at_current after (λ c. IsComparison d saved c (Ok false)) (elim (decide_names (names_of saved.top) (drop e.first top)) [
        | inl same ↦ elim (decide_names (drop e.first bottom) saved.bottom) [
          | inl below ↦ subst (λ r. IsComparison d saved (component_at letters top bottom e) r) (sym is ∙ other) (equal_rows (record { top = named_now after ∙ sym same; bottom = below }))
          | inr differ ↦ other_rows (λ rows. differ rows.bottom)
        ]
        | inr differ ↦ other_rows (λ rows. differ (sym rows.top ∙ named_now after))
      ])

-- letters with these names are as many
pub as_many_named : (letters : List Letter) (names : List ℕ) → names_of letters ≡ names → length letters ≡ length names
as_many_named letters names same = sym (length-map letters (λ (l : Letter). l.name)) ∙ ap length same

-- one letter more has its name
pub named_more : (letters : List Letter) (names : List ℕ) (letter : Letter) (m n : ℕ) → m + 1 ≡ n → m < length letters → m < length names → letter ≡ get_or letters m letter → letter.name ≡ get_or names m 0
    → drop n (names_of letters) ≡ drop n names → drop m (names_of letters) ≡ drop m names
named_more letters names letter m n e l k is name rest =
    let long = length-map letters (λ (x : Letter). x.name) in
    let head : get_or (names_of letters) m 0 ≡ get_or names m 0 = get_or-map (λ (x : Letter). x.name) letters m letter 0 l ∙ ap (λ (x : Letter). x.name) (sym is) ∙ name in
    let tail : drop (m + 1) (names_of letters) ≡ drop (m + 1) names = subst (λ j. drop j (names_of letters) ≡ drop j names) (sym e) rest in
    drop_more (names_of letters) m 0 (omega arith) ∙ (λ i. head i ∷ tail i) ∙ sym (drop_more names m 0 k)

-- the result of a comparison tells whether the components are alike
pub alike_at_both : (d : ℕ) (result : Result Bool Place) (old_components components : List Component) → AtBoth (λ before after. IsComparison d before after result) old_components components
    → IfOk result (λ same. AtBoth (λ before after. IsTrue same ↔ AreAlike d before after) old_components components)
alike_at_both d result [] components h = absurd h
alike_at_both d result (b ∷ old_rest) [] h = absurd h
alike_at_both d result (b ∷ old_rest) (c ∷ rest) h = alike_of_comparison d b c result h
