-- Each event makes a state of a state: components are lawful, their names differ, there are no more letters, and the bases descend. A library for crates to come.
use Rattle.std.proofs.Common.{◌≡◌, ℕ, ◌≤◌, Bool, true, false, is_some, if◌then◌else◌, Option, List, [], ◌∷◌, ◌++◌, length, map, take, drop, refl, sym, ap, ◌∙◌, subst, inl, inr, arith, append_assoc, length-append}
use Rattle.std.proofs.lemmas.List.Sorted.{IsPermutation-sym, length_permutation}
use Rattle.fs_lists.specs.Members.{IsIn, IsDistinct}
use Rattle.fs_lists.proofs.Members.{in_append_left, in_append_right, in_append_cases, apart_append}
use Rattle.fs_ring.specs.OrderedRing.{IsOrderedRing, IsAtMost}
use Rattle.fs_ring.proofs.Order as order
use Rattle.fs_quadratic.specs.Ring.{quadratic, IsPositive, add}
use Rattle.fs_gluing.specs.Exchanges.{Component, IsLawful, names_of}
use Rattle.fs_iet.proofs.Rearrangements.{in_permutation}
use Rattle.fs_rauzy.specs.declared.events.Found.{Found}
use Rattle.fs_rauzy.specs.States.{StateValue, IsState, AreDescending, open_names}
use Rattle.fs_rauzy.specs.Events.{with_letter, won_over, lost_below, lost_above, merged_of, without_start, without_end, IsWonByTop, IsWonByBottom, IsMerged, IsSplit, Outcome, Makes, splits, closes, wins_above, wins_below, merges}
use Rattle.fs_rauzy.proofs.RowEnds.{distinct_right, distinct_across, moved_permutation, moved_names}
use Rattle.fs_rauzy.proofs.LetterChanges.{with_letter-names, relabelled-names, ends_relabelled}
use Rattle.fs_rauzy.proofs.EventRows.{won_above_lawful, won_below_lawful, merged_lawful, merged_names, split_names, split_left_lawful, split_right_lawful}

-- different names, all among those before, and no more of them
pub record KeepsNames (before after : List ℕ) : Type 0 where
  pub distinct : IsDistinct after
  pub within : (name : ℕ) → IsIn name after → IsIn name before
  pub no_more : length after ≤ length before

-- beside the names of other components they stay different
pub kept_apart : {before after : List ℕ} (others : List ℕ) → KeepsNames before after → IsDistinct (before ++ others) → IsDistinct (after ++ others)
kept_apart {before} {after} others k p =
    apart_append (λ x y. x ≡ y) after others k.distinct (distinct_right before others p)
    (λ x y hx hy e. distinct_across before others x p (k.within x hx) (subst (λ n. IsIn n others) (sym e) hy))

-- ---- the names after each event

same_names : {before after : List ℕ} → IsDistinct after → after ≡ before → KeepsNames before after
same_names {before} {after} p e = record { distinct = p; within = λ name h. subst (IsIn name) e h; no_more = omega (arith, ap length e) }

module _ {d : ℕ} (L : IsOrderedRing (quadratic d) (IsPositive d)) {c : Component} (lawful : IsLawful d c) where
  pub won_above_names : {a : Component} → IsWonByTop d c a → KeepsNames (names_of c.top) (names_of a.top)
  won_above_names {a} w =
      same_names (won_above_lawful L lawful w).names
      (ap names_of w.top ∙ with_letter-names (lost_below w.x w.y) (with_letter (won_over w.x w.y) c.top) ∙ with_letter-names (won_over w.x w.y) c.top)

  pub won_below_names : {a : Component} → IsWonByBottom d c a → KeepsNames (names_of c.top) (names_of a.top)
  won_below_names {a} w =
      let row : names_of a.top ≡ names_of w.row
      = ap names_of w.top ∙ with_letter-names (lost_above w.y w.x) (with_letter (won_over w.y w.x) w.row) ∙ with_letter-names (won_over w.y w.x) w.row in
      let p = moved_permutation (moved_names w.moved) in
      record {
        distinct = (won_below_lawful L lawful w).names;
        within = λ name h. in_permutation name (names_of w.row) (names_of c.top) (IsPermutation-sym (names_of c.top) (names_of w.row) p) (subst (IsIn name) row h);
        no_more = omega (arith, ap length row, length_permutation (names_of c.top) (names_of w.row) p);
      }

  pub merged_event_names : {a : Component} {f : Option Found} → IsMerged c a f → KeepsNames (names_of c.top) (names_of a.top)
  merged_event_names {a} m =
      let front : names_of a.top ≡ names_of m.last.before_top = ap names_of m.top ∙ with_letter-names (merged_of m.x m.y) m.last.before_top in
      let whole = merged_names L lawful m in
      record {
        distinct = (merged_lawful L lawful m).names;
        within = λ name h. subst (IsIn name) (sym whole) (in_append_left name (names_of m.last.before_top) (m.x.name ∷ []) (subst (IsIn name) front h));
        no_more = omega (arith, ap length front, ap length whole, length-append (names_of m.last.before_top) (m.x.name ∷ []));
      }

  module _ {k : ℕ} {left right : Component} {f : Option Found} (s : IsSplit c k left right f) where
    left_names : names_of left.top ≡ names_of (take k c.top)
    left_names = ap (λ (e : Component). names_of e.top) s.left_part

    right_names : names_of right.top ≡ names_of (drop k c.top)
    right_names = ap (λ (e : Component). names_of e.top) s.right_part ∙ go (is_some f)
      where
        go : (b : Bool) → names_of (if b then map (λ letter. without_end s.ending.name (without_start s.starting.name letter)) (drop k c.top) else drop k c.top) ≡ names_of (drop k c.top)
        go true = relabelled-names (ends_relabelled s.starting.name s.ending.name) (drop k c.top)
        go false = refl

    pub parts_names : names_of c.top ≡ names_of left.top ++ names_of right.top
    parts_names = split_names L lawful s.split ∙ (λ i. sym left_names i ++ sym right_names i)

    pub split_event_names : KeepsNames (names_of c.top) (names_of right.top ++ names_of left.top)
    split_event_names =
        let both = subst (λ (ns : List ℕ). IsDistinct ns) parts_names lawful.names in
        record {
          distinct =
              apart_append (λ x y. x ≡ y) (names_of right.top) (names_of left.top) (split_right_lawful L lawful s).names (split_left_lawful L lawful s).names
              (λ x y hx hy e. distinct_across (names_of left.top) (names_of right.top) y both hy (subst (λ n. IsIn n (names_of right.top)) e hx));
          within = λ name h.
              subst (IsIn name) (sym parts_names)
              (elim (in_append_cases name (names_of right.top) (names_of left.top) h) [
                | inl m ↦ in_append_right name (names_of left.top) (names_of right.top) m
                | inr m ↦ in_append_left name (names_of left.top) (names_of right.top) m
              ]);
          no_more = omega (arith, ap length parts_names, length-append (names_of left.top) (names_of right.top), length-append (names_of right.top) (names_of left.top));
        }

-- ---- the order of components

-- a component in place of the current one, with its base
same_base_descends : (d : ℕ) (c a : Component) (rest : List Component) → a.base ≡ c.base → AreDescending d (c ∷ rest) → AreDescending d (a ∷ rest)
same_base_descends d c a [] e h = tt
same_base_descends d c a (b ∷ rest) e h = (subst (IsAtMost (quadratic d) (IsPositive d) (add b.base b.total)) (sym e) h.0, h.1)

-- without the current one
rest_descends : (d : ℕ) (c : Component) (rest : List Component) → AreDescending d (c ∷ rest) → AreDescending d rest
rest_descends d c [] h = tt
rest_descends d c (b ∷ rest) h = h.1

-- ---- states

module _ {d : ℕ} (L : IsOrderedRing (quadratic d) (IsPositive d)) where
  abbrev state : List Component → StateValue
  state components = record { d = d; components = components }

  -- one component in place of the current one
  replaced_keeps_state : {c a : Component} {rest : List Component} → IsState (state (c ∷ rest)) → IsLawful d a → KeepsNames (names_of c.top) (names_of a.top) → a.base ≡ c.base → IsState (state (a ∷ rest))
  replaced_keeps_state {c} {a} {rest} s lawful names e = record {
    lawful = (lawful, s.lawful.1);
    apart = kept_apart (open_names rest) names s.apart;
    few = let few = s.few in omega (arith, names.no_more, length-append (names_of c.top) (open_names rest), length-append (names_of a.top) (open_names rest));
    in_order = same_base_descends d c a rest e s.in_order;
  }

  event_state : (cs : List Component) (o : Outcome) → IsState (state cs) → Makes d cs o → IsState (state o.components)
  event_state cs o s (splits c l r rest k f v) =
      let names = split_event_names L s.lawful.0 v in
      let few = s.few in
      let left : l.base ≡ c.base = ap (λ (e : Component). e.base) v.left_part in
      let end : add l.base l.total ≡ r.base = ap (λ (e : Component). add e.base e.total) v.left_part ∙ sym (ap (λ (e : Component). e.base) v.right_part) in
      record {
        lawful = (split_right_lawful L s.lawful.0 v, (split_left_lawful L s.lawful.0 v, s.lawful.1));
        apart = subst (λ (ns : List ℕ). IsDistinct ns) (append_assoc (names_of r.top) (names_of l.top) (open_names rest)) (kept_apart (open_names rest) names s.apart);
        few =
            omega (
              arith,
              names.no_more,
              length-append (names_of r.top) (names_of l.top),
              length-append (names_of c.top) (open_names rest),
              length-append (names_of r.top) (names_of l.top ++ open_names rest),
              length-append (names_of l.top) (open_names rest),
            );
        in_order = (order.at_most_of_eq L (add l.base l.total) r.base end, same_base_descends d c l rest left s.in_order);
      }
  event_state cs o s (closes c rest) = record {
    lawful = s.lawful.1;
    apart = distinct_right (names_of c.top) (open_names rest) s.apart;
    few = let few = s.few in omega (arith, length-append (names_of c.top) (open_names rest));
    in_order = rest_descends d c rest s.in_order;
  }
  event_state cs o s (wins_above c a rest w) = replaced_keeps_state s (won_above_lawful L s.lawful.0 w) (won_above_names L s.lawful.0 w) w.base
  event_state cs o s (wins_below c a rest w) = replaced_keeps_state s (won_below_lawful L s.lawful.0 w) (won_below_names L s.lawful.0 w) w.base
  event_state cs o s (merges c a rest f m) = replaced_keeps_state s (merged_lawful L s.lawful.0 m) (merged_event_names L s.lawful.0 m) m.base

  -- each event makes a state of a state
  pub event_keeps_state : {components : List Component} {outcome : Outcome} → IsState (record { d = d; components = components }) → Makes d components outcome → IsState (record { d = d; components = outcome.components })
  event_keeps_state {components} {outcome} s m = event_state components outcome s m
