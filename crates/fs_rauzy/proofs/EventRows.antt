-- What an event makes of a lawful component is lawful. A library for crates to come.
use Rattle.std.proofs.Common.{◌≡◌, ℕ, ◌<◌, if◌then◌else◌, Bool, true, false, Option, is_some, List, [], ◌∷◌, ◌++◌, length, map, take, drop, IsPermutation, refl, sym, ap, ◌∙◌, subst, inl, inr, arith, take-append-drop, length-take, length-drop}
use Rattle.std.specs.List.{AllByRecursion}
use Rattle.std.proofs.lemmas.List.{length-map, map-append}
use Rattle.std.proofs.lemmas.List.Sorted.{IsPermutation-refl, IsPermutation-sym, IsPermutation-trans, length_permutation}
use Rattle.fs_lists.specs.Members.{IsIn, IsDistinct}
use Rattle.fs_lists.proofs.All.{All-prefix, All-suffix}
use Rattle.fs_lists.proofs.Members.{All-member, in_append_left, in_append_right, in_append_cases}
use Rattle.fs_ring.specs.OrderedRing.{IsOrderedRing}
use Rattle.fs_ring.proofs.Solver.{◌⊕◌, ◌⊖◌, ◌≐◌, ◌from◌, derived, identity, numeral}
use Rattle.fs_quadratic.specs.Ring.{quadratic, IsPositive, add, sub, total}
use Rattle.fs_quadratic.proofs.Laws.{quadratic_ring}
use Rattle.fs_quadratic.proofs.Totals.{total-append}
use Rattle.fs_gluing.specs.Exchanges.{Letter, Component, IsLawful, names_of}
use Rattle.fs_iet.proofs.Rearrangements.{in_permutation, permutation_of_members, total_of_members, distinct_permutation}
use Rattle.fs_iet.proofs.LetterRows.{letter_long, name_in_top, name_in_bottom, bottom_distinct}
use Rattle.fs_rauzy.specs.declared.events.Found.{Found}
use Rattle.fs_rauzy.specs.Events.{with_letter, won_over, lost_below, lost_above, merged_of, without_start, without_end, prefix_sum, HasSplit, AreLast, IsWonByTop, IsWonByBottom, IsMerged, IsSplit}
use Rattle.fs_rauzy.proofs.RowEnds.{All_of_members, distinct_left, distinct_right, distinct_across, moved_permutation, moved_names, put_permutation}
use Rattle.fs_rauzy.proofs.LetterChanges.{lengths_of, with_letter-names, with_letter-length, with_letter_other, with_letter_all, with_letter_total, AreRelabelled, relabelled-names, relabelled-lengths, ends_relabelled}
use Rattle.fs_rauzy.proofs.LastLetters.{letters_distinct}

-- the sum of the lengths of two rows
pub lengths-append : (xs ys : List Letter) → total (lengths_of (xs ++ ys)) ≡ add (total (lengths_of xs)) (total (lengths_of ys))
lengths-append xs ys = ap total (map-append (λ (l : Letter). l.length) xs ys) ∙ total-append (lengths_of xs) (lengths_of ys)

-- the last letter of the top row is one of its letters
pub last_in : {c : Component} {x y : Letter} → AreLast c x y → IsIn x c.top
last_in {c} {x} {y} last = subst (IsIn x) (sym last.top) (in_append_right x last.before_top (x ∷ []) (inl refl))

some_of_member : {X : Type 0} (x : X) (xs : List X) → IsIn x xs → 0 < length xs
some_of_member x [] h = absurd h
some_of_member x (y ∷ ys) h = omega arith

module _ {d : ℕ} where
  -- a component with the same letters and the same names below
  pub lawful_as : {a b : Component} → IsLawful d a → a.top ≡ b.top → a.total ≡ b.total → IsPermutation a.bottom b.bottom → IsLawful d b
  lawful_as {a} {b} h top sum below = record {
    some_letter = subst (λ (ls : List Letter). 0 < length ls) top h.some_letter;
    names = subst (λ (ls : List Letter). IsDistinct (names_of ls)) top h.names;
    rows = IsPermutation-trans (names_of b.top) a.bottom b.bottom (subst (λ (ls : List Letter). IsPermutation (names_of ls) a.bottom) top h.rows) below;
    lengths = subst (AllByRecursion (λ letter. IsPositive d letter.length)) top h.lengths;
    sum = ap (λ (ls : List Letter). total (lengths_of ls)) (sym top) ∙ h.sum ∙ sum;
  }

  module _ {c : Component} (lawful : IsLawful d c) where
    -- one letter in place of another of its name
    pub lawful_with : (new old : Letter) → IsIn old c.top → old.name ≡ new.name → IsPositive d new.length
        → IsLawful d (record { base = c.base; total = sub (add c.total new.length) old.length; top = with_letter new c.top; bottom = c.bottom })
    lawful_with new old h e p =
        let names = sym (with_letter-names new c.top) in
        record {
          some_letter = subst (λ (n : ℕ). 0 < n) (sym (with_letter-length new c.top)) lawful.some_letter;
          names = subst (λ (ns : List ℕ). IsDistinct ns) names lawful.names;
          rows = subst (λ (ns : List ℕ). IsPermutation ns c.bottom) names lawful.rows;
          lengths = with_letter_all (λ letter. IsPositive d letter.length) new c.top p lawful.lengths;
          sum =
              derived (quadratic_ring 0) (total (lengths_of (with_letter new c.top)) ∷ old.length ∷ c.total ∷ new.length ∷ []) (λ s o t n. s ≐ (t ⊕ n) ⊖ o from (numeral 1, s ⊕ o ≐ t ⊕ n) ∷ []) refl
              (with_letter_total new old c.top lawful.names h e ∙ ap (λ t. add t new.length) lawful.sum, tt);
        }

    -- other tags
    pub lawful_relabelled : (f : Letter → Letter) → AreRelabelled f → IsLawful d (record { base = c.base; total = c.total; top = map f c.top; bottom = c.bottom })
    lawful_relabelled f h =
        let names = sym (relabelled-names h c.top) in
        record {
          some_letter = subst (λ (n : ℕ). 0 < n) (sym (length-map c.top f)) lawful.some_letter;
          names = subst (λ (ns : List ℕ). IsDistinct ns) names lawful.names;
          rows = subst (λ (ns : List ℕ). IsPermutation ns c.bottom) names lawful.rows;
          lengths = relabelled_positive c.top lawful.lengths;
          sum = ap total (relabelled-lengths h c.top) ∙ lawful.sum;
        }
      where
        relabelled_positive : (ls : List Letter) → AllByRecursion (λ letter. IsPositive d letter.length) ls → AllByRecursion (λ letter. IsPositive d letter.length) (map f ls)
        relabelled_positive [] a = tt
        relabelled_positive (l ∷ ls) a = (subst (IsPositive d) (sym (h.lengths l)) a.0, relabelled_positive ls a.1)

    -- the letters in another order
    pub lawful_reordered : (row : List Letter) → IsPermutation c.top row → IsPermutation (names_of c.top) (names_of row)
        → IsLawful d (record { base = c.base; total = c.total; top = row; bottom = c.bottom })
    lawful_reordered row p q =
        let back = IsPermutation-sym c.top row p in
        let names = distinct_permutation (names_of c.top) (names_of row) q lawful.names in
        record {
          some_letter = subst (λ (n : ℕ). 0 < n) (sym (length_permutation c.top row p)) lawful.some_letter;
          names = names;
          rows = IsPermutation-trans (names_of row) (names_of c.top) c.bottom (IsPermutation-sym (names_of c.top) (names_of row) q) lawful.rows;
          lengths = All_of_members (λ (l : Letter). IsPositive d l.length) row (λ l h. All-member (λ (l : Letter). IsPositive d l.length) c.top l lawful.lengths (in_permutation l row c.top back h));
          sum =
              total_of_members (λ (l : Letter). l.length) row c.top (letters_distinct row names) (letters_distinct c.top lawful.names)
              (λ l h. in_permutation l row c.top back h) (λ l h. in_permutation l c.top row p h)
              ∙ lawful.sum;
        }

module _ {d : ℕ} (L : IsOrderedRing (quadratic d) (IsPositive d)) {c : Component} (lawful : IsLawful d c) where
  -- ---- won comparisons

  pub won_above_lawful : {a : Component} → IsWonByTop d c a → IsLawful d a
  won_above_lawful {a} w =
      let first = lawful_with lawful (won_over w.x w.y) w.x (last_in w.last) refl w.longer in
      let there = with_letter_other (won_over w.x w.y) w.y c.top w.last.there (λ e. w.last.differ (sym e)) in
      let second = lawful_with first (lost_below w.x w.y) w.y there refl (letter_long L lawful w.y w.last.there) in
      lawful_as second (sym w.top)
      (identity (quadratic_ring 0) (c.total ∷ w.x.length ∷ w.y.length ∷ []) (λ t x y. (((t ⊕ (x ⊖ y)) ⊖ x) ⊕ y) ⊖ y ≐ t ⊖ y) refl ∙ sym w.sum)
      (moved_permutation w.bottom)

  pub won_below_lawful : {a : Component} → IsWonByBottom d c a → IsLawful d a
  won_below_lawful {a} w =
      let p = moved_permutation w.moved in
      let row = lawful_reordered lawful w.row p (moved_permutation (moved_names w.moved)) in
      let x_there = in_permutation w.x c.top w.row p (last_in w.last) in
      let y_there = in_permutation w.y c.top w.row p w.last.there in
      let first = lawful_with row (won_over w.y w.x) w.y y_there refl w.longer in
      let there = with_letter_other (won_over w.y w.x) w.x w.row x_there w.last.differ in
      let second = lawful_with first (lost_above w.y w.x) w.x there refl (letter_long L lawful w.x (last_in w.last)) in
      lawful_as second (sym w.top)
      (identity (quadratic_ring 0) (c.total ∷ w.x.length ∷ w.y.length ∷ []) (λ t x y. (((t ⊕ (y ⊖ x)) ⊖ y) ⊕ x) ⊖ x ≐ t ⊖ x) refl ∙ sym w.sum)
      (subst (IsPermutation c.bottom) (sym w.bottom) (IsPermutation-refl c.bottom))

  -- ---- merges

  module _ {a : Component} {f : Option Found} (m : IsMerged c a f) where
    -- the names of the top row are those before its last letter, and that letter's
    pub merged_names : names_of c.top ≡ names_of m.last.before_top ++ m.x.name ∷ []
    merged_names = ap names_of m.last.top ∙ map-append (λ (l : Letter). l.name) m.last.before_top (m.x ∷ [])

    merged_distinct : IsDistinct (names_of m.last.before_top ++ m.x.name ∷ [])
    merged_distinct = subst (λ (ns : List ℕ). IsDistinct ns) merged_names lawful.names

    merged_bottom : IsDistinct (m.x.name ∷ a.bottom)
    merged_bottom = distinct_permutation c.bottom (m.x.name ∷ a.bottom) (put_permutation m.bottom) (bottom_distinct L lawful)

    merged_to : (name : ℕ) → IsIn name (names_of m.last.before_top) → IsIn name a.bottom
    merged_to name h =
        let above = subst (IsIn name) (sym merged_names) (in_append_left name (names_of m.last.before_top) (m.x.name ∷ []) h) in
        elim (in_permutation name c.bottom (m.x.name ∷ a.bottom) (put_permutation m.bottom) (name_in_bottom L lawful name above)) [
          | inl e ↦ absurd (distinct_across (names_of m.last.before_top) (m.x.name ∷ []) name merged_distinct h (inl e))
          | inr k ↦ k
        ]

    merged_from : (name : ℕ) → IsIn name a.bottom → IsIn name (names_of m.last.before_top)
    merged_from name h =
        let below = in_permutation name (m.x.name ∷ a.bottom) c.bottom (IsPermutation-sym c.bottom (m.x.name ∷ a.bottom) (put_permutation m.bottom)) (inr h) in
        elim (in_append_cases name (names_of m.last.before_top) (m.x.name ∷ []) (subst (IsIn name) merged_names (name_in_top L lawful name below))) [
          | inl k ↦ k
          | inr k ↦ elim k [ inl e ↦ absurd (merged_bottom.0 name h (sym e)) | inr n ↦ absurd n ]
        ]

    -- the letter that stays is before the last one
    merged_there : IsIn m.y m.last.before_top
    merged_there =
        elim (in_append_cases m.y m.last.before_top (m.x ∷ []) (subst (IsIn m.y) m.last.top m.last.there)) [
          | inl k ↦ k
          | inr k ↦ elim k [ inl e ↦ absurd (m.last.differ (ap (λ (l : Letter). l.name) (sym e))) | inr n ↦ absurd n ]
        ]

    -- the component without the last letter of the top row
    merged_rest : IsLawful d (record { base = c.base; total = sub c.total m.x.length; top = m.last.before_top; bottom = a.bottom })
    merged_rest = record {
      some_letter = some_of_member m.y m.last.before_top merged_there;
      names = distinct_left (names_of m.last.before_top) (m.x.name ∷ []) merged_distinct;
      rows =
          permutation_of_members (names_of m.last.before_top) a.bottom (distinct_left (names_of m.last.before_top) (m.x.name ∷ []) merged_distinct) merged_bottom.1 merged_to merged_from;
      lengths = All-prefix (λ (l : Letter). IsPositive d l.length) m.last.before_top (m.x ∷ []) (subst (AllByRecursion (λ letter. IsPositive d letter.length)) m.last.top lawful.lengths);
      sum =
          derived (quadratic_ring 0) (total (lengths_of m.last.before_top) ∷ m.x.length ∷ c.total ∷ []) (λ s x t. s ≐ t ⊖ x from (numeral 1, s ⊕ (x ⊕ numeral 0) ≐ t) ∷ []) refl
          (sym (lengths-append m.last.before_top (m.x ∷ [])) ∙ ap (λ (ls : List Letter). total (lengths_of ls)) (sym m.last.top) ∙ lawful.sum, tt);
    }

    pub merged_lawful : IsLawful d a
    merged_lawful =
        let first = lawful_with merged_rest (merged_of m.x m.y) m.y merged_there refl (letter_long L lawful m.y m.last.there) in
        lawful_as first (sym m.top)
        (identity (quadratic_ring 0) (c.total ∷ m.x.length ∷ m.y.length ∷ []) (λ t x y. ((t ⊖ x) ⊕ y) ⊖ y ≐ t ⊖ x) refl ∙ sym m.sum)
        (IsPermutation-refl a.bottom)

  -- ---- splits

  module _ {k : ℕ} (h : HasSplit c k) where
    whole_top : take k c.top ++ drop k c.top ≡ c.top
    whole_top = take-append-drop k c.top

    -- the names of both parts
    pub split_names : names_of c.top ≡ names_of (take k c.top) ++ names_of (drop k c.top)
    split_names = ap names_of (sym whole_top) ∙ map-append (λ (l : Letter). l.name) (take k c.top) (drop k c.top)

    split_distinct : IsDistinct (names_of (take k c.top) ++ names_of (drop k c.top))
    split_distinct = subst (λ (ns : List ℕ). IsDistinct ns) split_names lawful.names

    split_bottom : IsDistinct (take k c.bottom ++ drop k c.bottom)
    split_bottom = subst (λ (ns : List ℕ). IsDistinct ns) (sym (take-append-drop k c.bottom)) (bottom_distinct L lawful)

    split_positive : AllByRecursion (λ letter. IsPositive d letter.length) (take k c.top ++ drop k c.top)
    split_positive = subst (AllByRecursion (λ letter. IsPositive d letter.length)) (sym whole_top) lawful.lengths

    pub left_lawful : IsLawful d (record { base = c.base; total = prefix_sum c k; top = take k c.top; bottom = take k c.bottom })
    left_lawful = record {
      some_letter = let some = h.some in let others = h.others in omega (arith, length-take k c.top);
      names = distinct_left (names_of (take k c.top)) (names_of (drop k c.top)) split_distinct;
      rows =
          permutation_of_members (names_of (take k c.top)) (take k c.bottom) (distinct_left (names_of (take k c.top)) (names_of (drop k c.top)) split_distinct)
          (distinct_left (take k c.bottom) (drop k c.bottom) split_bottom) (λ name. (h.equal name).0) (λ name. (h.equal name).1);
      lengths = All-prefix (λ (l : Letter). IsPositive d l.length) (take k c.top) (drop k c.top) split_positive;
      sum = refl;
    }

    right_to : (name : ℕ) → IsIn name (names_of (drop k c.top)) → IsIn name (drop k c.bottom)
    right_to name m =
        let above = subst (IsIn name) (sym split_names) (in_append_right name (names_of (take k c.top)) (names_of (drop k c.top)) m) in
        elim (in_append_cases name (take k c.bottom) (drop k c.bottom) (subst (IsIn name) (sym (take-append-drop k c.bottom)) (name_in_bottom L lawful name above))) [
          | inl n ↦ absurd (distinct_across (names_of (take k c.top)) (names_of (drop k c.top)) name split_distinct ((h.equal name).1 n) m)
          | inr n ↦ n
        ]

    right_from : (name : ℕ) → IsIn name (drop k c.bottom) → IsIn name (names_of (drop k c.top))
    right_from name m =
        let below = subst (IsIn name) (take-append-drop k c.bottom) (in_append_right name (take k c.bottom) (drop k c.bottom) m) in
        elim (in_append_cases name (names_of (take k c.top)) (names_of (drop k c.top)) (subst (IsIn name) split_names (name_in_top L lawful name below))) [
          | inl n ↦ absurd (distinct_across (take k c.bottom) (drop k c.bottom) name split_bottom ((h.equal name).0 n) m)
          | inr n ↦ n
        ]

    pub right_lawful : IsLawful d (record { base = add c.base (prefix_sum c k); total = sub c.total (prefix_sum c k); top = drop k c.top; bottom = drop k c.bottom })
    right_lawful = record {
      some_letter = let others = h.others in omega (arith, length-drop k c.top);
      names = distinct_right (names_of (take k c.top)) (names_of (drop k c.top)) split_distinct;
      rows =
          permutation_of_members (names_of (drop k c.top)) (drop k c.bottom) (distinct_right (names_of (take k c.top)) (names_of (drop k c.top)) split_distinct)
          (distinct_right (take k c.bottom) (drop k c.bottom) split_bottom) right_to right_from;
      lengths = All-suffix (λ (l : Letter). IsPositive d l.length) (take k c.top) (drop k c.top) split_positive;
      sum =
          derived (quadratic_ring 0) (total (lengths_of (drop k c.top)) ∷ prefix_sum c k ∷ c.total ∷ []) (λ s p t. s ≐ t ⊖ p from (numeral 1, p ⊕ s ≐ t) ∷ []) refl
          (sym (lengths-append (take k c.top) (drop k c.top)) ∙ ap (λ (ls : List Letter). total (lengths_of ls)) whole_top ∙ lawful.sum, tt);
    }

  module _ {k : ℕ} {left right : Component} {found : Option Found} (s : IsSplit c k left right found) where
    pub split_left_lawful : IsLawful d left
    split_left_lawful = subst (IsLawful d) (sym s.left_part) (left_lawful s.split)

    pub split_right_lawful : IsLawful d right
    split_right_lawful = subst (IsLawful d) (sym s.right_part) (go (is_some found))
      where
        go : (b : Bool) → IsLawful d (record {
          base = add c.base (prefix_sum c k);
          total = sub c.total (prefix_sum c k);
          top = (if b then map (λ letter. without_end s.ending.name (without_start s.starting.name letter)) (drop k c.top) else drop k c.top);
          bottom = drop k c.bottom;
        })
        go true = lawful_relabelled (right_lawful s.split) (λ letter. without_end s.ending.name (without_start s.starting.name letter)) (ends_relabelled s.starting.name s.ending.name)
        go false = right_lawful s.split
