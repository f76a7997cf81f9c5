-- Where a component can be split: a won comparison makes no such place, and a component without one has last letters that differ. A library for crates to come.
use Rattle.std.proofs.Common.{◌≡◌, ◌≢◌, ◌↔◌, ℕ, ◌<◌, List, [], ◌∷◌, ◌++◌, length, take, refl, sym, ap, ◌∙◌, subst, inl, inr, arith}
use Rattle.std.proofs.lemmas.List.{length-map, length_push, map-append, take-map}
use Rattle.std.proofs.Math.Seq.{take-append_seam}
use Rattle.std.proofs.lemmas.List.Sorted.{length_permutation}
use Rattle.fs_lists.specs.Members.{IsIn, IsDistinct}
use Rattle.fs_lists.proofs.Members.{in_append_left, in_append_right, in_append_cases, in_map_cases}
use Rattle.fs_ring.specs.OrderedRing.{IsOrderedRing}
use Rattle.fs_quadratic.specs.Ring.{quadratic, IsPositive}
use Rattle.fs_gluing.specs.Exchanges.{Letter, Component, IsLawful, names_of}
use Rattle.fs_iet.proofs.LetterRows.{name_in_top, name_in_bottom, bottom_distinct}
use Rattle.fs_rauzy.specs.Events.{HasSplit, AreLast, IsMovedBehind, IsWonByTop, IsWonByBottom, with_letter, won_over, lost_below, lost_above}
use Rattle.fs_rauzy.specs.Rule.{HasNoSplit}
use Rattle.fs_rauzy.specs.SplitsInPlace.{HaveSamePrefix}
use Rattle.fs_rauzy.specs.Steps.{CanCompare}
use Rattle.fs_rauzy.proofs.RowEnds.{ends_with, distinct_across, last_not_in_take, moved_take, moved_permutation, moved_names}
use Rattle.fs_rauzy.proofs.LetterChanges.{with_letter-names}

-- ---- rows of names

-- two rows of names can be split after k names
pub record CanSplitRows (top bottom : List ℕ) (k : ℕ) : Type 0 where
  pub some : 0 < k
  pub others : k < length top
  pub equal : HaveSamePrefix top bottom k

-- the component and its rows can be split after as many
pub rows_of_split : {c : Component} {k : ℕ} → HasSplit c k → CanSplitRows (names_of c.top) c.bottom k
rows_of_split {c} {k} h = record {
  some = h.some;
  others = subst (λ (n : ℕ). k < n) (sym (length-map c.top (λ (l : Letter). l.name))) h.others;
  equal = λ name. subst (λ (names : List ℕ). IsIn name names ↔ IsIn name (take k c.bottom)) (sym (take-map (λ (l : Letter). l.name) k c.top)) (h.equal name);
}

pub split_of_rows : {c : Component} {k : ℕ} → CanSplitRows (names_of c.top) c.bottom k → HasSplit c k
split_of_rows {c} {k} h = record {
  some = h.some;
  others = subst (λ (n : ℕ). k < n) (length-map c.top (λ (l : Letter). l.name)) h.others;
  equal = λ name. subst (λ (names : List ℕ). IsIn name names ↔ IsIn name (take k c.bottom)) (take-map (λ (l : Letter). l.name) k c.top) (h.equal name);
}

other_way : {top bottom : List ℕ} {k : ℕ} → length top ≡ length bottom → CanSplitRows top bottom k → CanSplitRows bottom top k
other_way {top} {bottom} {k} e h = record { some = h.some; others = subst (λ (n : ℕ). k < n) e h.others; equal = λ name. ((h.equal name).1, (h.equal name).0) }

-- where the winner is last in one row, and the loser moves behind it in the other, the rows could be split there before
moved_split : {w l : ℕ} {top before after : List ℕ} {k : ℕ} (front : List ℕ) → top ≡ front ++ w ∷ [] → IsDistinct top → IsMovedBehind w l before after → CanSplitRows top after k → CanSplitRows top before k
moved_split {w} {l} {top} {before} {after} {k} front e p m h =
    let not_top : ¬ IsIn w (take k top)
    = λ there.
    last_not_in_take front w k (subst (λ (zs : List ℕ). IsDistinct zs) e p) (subst (λ (zs : List ℕ). k < length zs) e h.others)
    (subst (λ (zs : List ℕ). IsIn w (take k zs)) e there) in
    let same = moved_take k m (λ there. not_top ((h.equal w).1 there)) in
    record { some = h.some; others = h.others; equal = λ name. subst (λ (zs : List ℕ). IsIn name (take k top) ↔ IsIn name zs) same (h.equal name) }

front_to_front : (fore back : List ℕ) (x y : ℕ) → x ≡ y → IsDistinct (fore ++ x ∷ []) → ((name : ℕ) → IsIn name (fore ++ x ∷ []) → IsIn name (back ++ y ∷ [])) → (name : ℕ) → IsIn name fore → IsIn name back
front_to_front fore back x y same p to name h =
    elim (in_append_cases name back (y ∷ []) (to name (in_append_left name fore (x ∷ []) h))) [
      | inl k ↦ k
      | inr k ↦ elim k [ inl e ↦ absurd (distinct_across fore (x ∷ []) name p h (inl (e ∙ sym same))) | inr n ↦ absurd n ]
    ]

-- two rows with the same names, each once, and one last name can be split before it
one_last_split : (fore back : List ℕ) (x y : ℕ) → x ≡ y → IsDistinct (fore ++ x ∷ []) → IsDistinct (back ++ y ∷ []) → length (back ++ y ∷ []) ≡ length (fore ++ x ∷ [])
    → ((name : ℕ) → IsIn name (fore ++ x ∷ []) → IsIn name (back ++ y ∷ [])) → ((name : ℕ) → IsIn name (back ++ y ∷ []) → IsIn name (fore ++ x ∷ []))
    → 0 < length fore → CanSplitRows (fore ++ x ∷ []) (back ++ y ∷ []) (length fore)
one_last_split fore back x y same p q long to from some =
    let as_many : length fore ≡ length back = omega (arith, length_push fore x, length_push back y) in
    let top : take (length fore) (fore ++ x ∷ []) ≡ fore = take-append_seam fore (x ∷ []) in
    let bottom : take (length fore) (back ++ y ∷ []) ≡ back = ap (λ (n : ℕ). take n (back ++ y ∷ [])) as_many ∙ take-append_seam back (y ∷ []) in
    record {
      some = some;
      others = omega (arith, length_push fore x);
      equal = λ name. (
        (λ h. subst (IsIn name) (sym bottom) (front_to_front fore back x y same p to name (subst (IsIn name) top h))),
        (λ h. subst (IsIn name) (sym top) (front_to_front back fore y x (sym same) q from name (subst (IsIn name) bottom h))),
      );
    }

module _ {d : ℕ} (L : IsOrderedRing (quadratic d) (IsPositive d)) {c : Component} (lawful : IsLawful d c) where
  as_long : length c.bottom ≡ length (names_of c.top)
  as_long = length_permutation (names_of c.top) c.bottom lawful.rows

  -- ---- won comparisons

  -- the names of the top row before its last letter
  front_names : {x y : Letter} (last : AreLast c x y) → names_of c.top ≡ names_of last.before_top ++ x.name ∷ []
  front_names {x} {y} last = ap names_of last.top ∙ map-append (λ (l : Letter). l.name) last.before_top (x ∷ [])

  pub won_above_no_split : {a : Component} → HasNoSplit c → IsWonByTop d c a → HasNoSplit a
  won_above_no_split {a} none won k h =
      let names : names_of a.top ≡ names_of c.top
      = ap names_of won.top ∙ with_letter-names (lost_below won.x won.y) (with_letter (won_over won.x won.y) c.top) ∙ with_letter-names (won_over won.x won.y) c.top in
      none k (split_of_rows (moved_split (names_of won.last.before_top) (front_names won.last) lawful.names won.bottom
      (subst (λ (row : List ℕ). CanSplitRows row a.bottom k) names (rows_of_split h))))

  pub won_below_no_split : {a : Component} → HasNoSplit c → IsWonByBottom d c a → HasNoSplit a
  won_below_no_split {a} none won k h =
      let names : names_of a.top ≡ names_of won.row
      = ap names_of won.top ∙ with_letter-names (lost_above won.y won.x) (with_letter (won_over won.y won.x) won.row) ∙ with_letter-names (won_over won.y won.x) won.row in
      let moved = moved_names won.moved in
      let rows : CanSplitRows (names_of won.row) c.bottom k
      = subst (λ (row : List ℕ). CanSplitRows row c.bottom k) names (subst (λ (row : List ℕ). CanSplitRows (names_of a.top) row k) won.bottom (rows_of_split h)) in
      let long : length (names_of won.row) ≡ length c.bottom = length_permutation (names_of c.top) (names_of won.row) (moved_permutation moved) ∙ sym as_long in
      none k (split_of_rows (other_way as_long
      (moved_split won.last.before_bottom won.last.bottom (bottom_distinct L lawful) moved (other_way long rows))))

  -- ---- last letters

  last_names_differ : (fore : List Letter) (x : Letter) (back : List ℕ) (y : ℕ) → c.top ≡ fore ++ x ∷ [] → c.bottom ≡ back ++ y ∷ [] → HasNoSplit c → 1 < length c.top → x.name ≢ y
  last_names_differ fore x back y e f none more same =
      let top : names_of c.top ≡ names_of fore ++ x.name ∷ [] = ap names_of e ∙ map-append (λ (l : Letter). l.name) fore (x ∷ []) in
      let some : 0 < length (names_of fore) = omega (arith, ap length e, length_push fore x, length-map fore (λ (l : Letter). l.name)) in
      let split : CanSplitRows (names_of fore ++ x.name ∷ []) (back ++ y ∷ []) (length (names_of fore))
      = one_last_split (names_of fore) back x.name y same (subst (λ (zs : List ℕ). IsDistinct zs) top lawful.names) (subst (λ (zs : List ℕ). IsDistinct zs) f (bottom_distinct L lawful))
      (sym (ap length f) ∙ as_long ∙ ap length top)
      (λ name h. subst (IsIn name) f (name_in_bottom L lawful name (subst (IsIn name) (sym top) h)))
      (λ name h. subst (IsIn name) top (name_in_top L lawful name (subst (IsIn name) (sym f) h))) some in
      none (length (names_of fore))
      (split_of_rows (subst (λ (zs : List ℕ). CanSplitRows zs c.bottom (length (names_of fore))) (sym top) (subst (λ (zs : List ℕ). CanSplitRows (names_of fore ++ x.name ∷ []) zs (length (names_of fore))) (sym f) split)))

  -- a component of more than one letter that can't be split has last letters that differ
  pub can_compare : HasNoSplit c → 1 < length c.top → CanCompare c
  can_compare none more =
      let top = ends_with c.top lawful.some_letter in
      let bottom = ends_with c.bottom (omega (arith, as_long, length-map c.top (λ (l : Letter). l.name))) in
      let there = name_in_top L lawful bottom.last (subst (IsIn bottom.last) (sym bottom.is) (in_append_right bottom.last bottom.front (bottom.last ∷ []) (inl refl))) in
      let from = in_map_cases (λ (l : Letter). l.name) bottom.last c.top there in (
        top.last,
        from.0,
        record {
          before_top = top.front;
          top = top.is;
          before_bottom = bottom.front;
          bottom = bottom.is ∙ ap (λ (n : ℕ). bottom.front ++ n ∷ []) from.2;
          there = from.1;
          differ = λ e. last_names_differ top.front top.last bottom.front bottom.last top.is bottom.is none more (e ∙ sym from.2);
        },
      )
